use Rattle.std.proofs.Common.{◌≡◌, ◌+◌, ◌*◌, drop, length}
use Rattle.std.specs.List.{list_any}
use Rattle.sv_app.specs.Schema.{declaration_of}
use Rattle.sv_effect.specs.RunChanges.{effect_of}
use Rattle.sv_plain_threats.specs.Tries.{breaks_with}
use Rattle.sv_plain_threats.proofs.checks.+search.Given as goal

abbrev pub decreases-is_broken_from : goal.decreases-is_broken_from
decreases-is_broken_from l = length l.columns.now * 3

abbrev pub decreases-is_broken_by : goal.decreases-is_broken_by
decreases-is_broken_by l = length l.columns.now * 3 + 2

abbrev pub decreases-is_broken_with : goal.decreases-is_broken_with
decreases-is_broken_with l = length l.columns.now * 3 + 1

abbrev pub invariant-is_broken_by-loop-guess : goal.invariant-is_broken_by-loop-guess
invariant-is_broken_by-loop-guess l =
    list_any (breaks_with (declaration_of l.question.table.now) (effect_of l.question.change.now) l.question.check.now l.guesses l.columns l.row l.column) (drop l.guess-index l.guesses)
    ≡ list_any (breaks_with (declaration_of l.question.table.now) (effect_of l.question.change.now) l.question.check.now l.guesses l.columns l.row l.column) l.guesses

use Rattle.std.proofs.Common.{◌≡◌, ◌+◌}
use Rattle.std.specs.Prelude.{map}
use Rattle.sv_value.specs.Cuts.{counts}
use Rattle.sv_effect.specs.Cut.{held}
use Rattle.sv_effect.specs.TablesOfCut.{changes_at, all_to}
use Rattle.sv_plain.specs.Held.{medium_of, change_of}
use Rattle.sv_plain.proofs.changes.all_changes.Given as goal

abbrev pub invariant-loop-site : goal.invariant-loop-site
invariant-loop-site l =
    map change_of l.changes.items ≡ all_to (changes_at l.place (held (medium_of (map (λ ops. ops.items) l.published)) (counts l.cut))) (l.site + 1)

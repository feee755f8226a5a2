use Rattle.std.proofs.Common.{◌≡◌, ◌++◌, drop}
use Rattle.std.specs.Prelude.{map}
use Rattle.sv_effect.specs.Applied.{changes_from, changes_of}
use Rattle.sv_effect.specs.TablesOfCut.{at_place}
use Rattle.sv_plain.specs.Held.{change_of}
use Rattle.sv_plain.proofs.changes.put_changes_of.Given as goal

abbrev pub invariant-loop-number : goal.invariant-loop-number
invariant-loop-number l =
    map change_of l.changes.items ++ at_place l.place (changes_from l.op l.number (drop l.number l.effects)) ≡ map change_of l.initial.changes.items ++ at_place l.place (changes_of l.op)

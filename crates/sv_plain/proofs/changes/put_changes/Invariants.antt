use Rattle.std.proofs.Common.{◌≡◌, ◌++◌, drop}
use Rattle.std.specs.Prelude.{map}
use Rattle.sv_effect.specs.TablesOfCut.{at_place, changes_by}
use Rattle.sv_plain.specs.Held.{change_of}
use Rattle.sv_plain.proofs.changes.put_changes.Given as goal

abbrev pub invariant-loop-op : goal.invariant-loop-op
invariant-loop-op l =
    map change_of l.changes.items ++ at_place l.place (changes_by (drop l.op-index l.ops)) ≡ map change_of l.initial.changes.items ++ at_place l.place (changes_by l.ops)

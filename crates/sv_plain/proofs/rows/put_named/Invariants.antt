use Rattle.std.proofs.Common.{◌≡◌, ◌++◌, drop}
use Rattle.sv_effect.specs.TablesOfCut.{named_by}
use Rattle.sv_plain.proofs.rows.put_named.Given as goal

abbrev pub invariant-loop-op : goal.invariant-loop-op
invariant-loop-op l = l.places.items ++ named_by (drop l.op-index l.ops) ≡ l.initial.places.items ++ named_by l.ops

use Rattle.std.proofs.Common.{◌≡◌, ◌++◌, drop}
use Rattle.std.specs.Prelude.{map}
use Rattle.sv_effect.specs.TablesOfCut.{init_place}
use Rattle.sv_plain.proofs.rows.put_init.Given as goal

abbrev pub invariant-loop-row : goal.invariant-loop-row
invariant-loop-row l = l.places.items ++ map init_place (drop l.row-index l.init) ≡ l.initial.places.items ++ map init_place l.init

use Rattle.std.proofs.Common.{◌≡◌, map, take}
use Rattle.std.specs.List.{All, flat_map}
use Rattle.sv_app.specs.Satisfiable.{check_in}
use Rattle.sv_app.specs.Schema.{Invariant, invariant_of}
use Rattle.sv_gains.specs.Systems.{row_of, IsCheckRow}
use Rattle.sv_gains.proofs.systems.rows_of.Given as goal

abbrev pub invariant-loop-inv : goal.invariant-loop-inv
invariant-loop-inv l =
    (l.rows ≡ map row_of (flat_map (λ (v : Invariant). check_in v.rule) (map invariant_of (take l.inv-index l.table.invs.items)))) × All IsCheckRow l.rows

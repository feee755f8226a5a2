use Rattle.std.proofs.Common.{◌≡◌, All, map, take}
use Rattle.std.specs.List.{flat_map}
use Rattle.sv_app.specs.Satisfiable.{check_in}
use Rattle.sv_app.specs.Schema.{Invariant, invariant_of}
use Rattle.sv_gains.specs.Asked.{asked_in, AreSides}
use Rattle.sv_gains.proofs.asked.asked_of.Given as goal

abbrev pub invariant-loop-inv : goal.invariant-loop-inv
invariant-loop-inv l =
    (l.asked ≡ asked_in (flat_map (λ (v : Invariant). check_in v.rule) (map invariant_of (take l.inv-index l.table.invs.items)))) × All AreSides l.asked

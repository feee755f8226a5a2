use Rattle.sv_core.proofs.FinishLaws.{Finishing}
use Rattle.sv_core.proofs.world.World.finish.Given as goal

abbrev pub invariant-loop-place : goal.invariant-loop-place
invariant-loop-place l = record { finishing : Finishing l.initial.self l.self l.place }

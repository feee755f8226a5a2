use Rattle.std.proofs.Common.{◌+◌, ◌≤◌, length, map, take}
use Rattle.std.specs.Vec.{vec_capacity}
use Rattle.sv_effect.specs.BareTables.{bare}
use Rattle.sv_effect.specs.Reads.{answer_of}
use Rattle.sv_core.specs.Applying.{GiveAll}
use Rattle.sv_core.proofs.applying.told_all.Given as goal

abbrev pub invariant-loop-ask : goal.invariant-loop-ask
invariant-loop-ask g l = GiveAll (bare (g.S.RowStore.stamped l.store)) (take l.ask-index l.asks) (map answer_of l.all.items) × (length l.asks + length l.all.items ≤ vec_capacity l.all + l.ask-index)

use Rattle.std.proofs.Common.{◌≡◌, drop}
use Rattle.std.specs.Prelude.{max}
use Rattle.sv_core.specs.Clock.{latest_of}
use Rattle.sv_legal.proofs.lists.latest_of.Given as goal

abbrev pub invariant-loop-op : goal.invariant-loop-op
invariant-loop-op l = max l.latest (latest_of (drop l.op-index l.ops)) ≡ latest_of l.ops

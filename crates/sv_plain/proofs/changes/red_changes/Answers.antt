use Rattle.std.proofs.Common.{arith}
use Rattle.sv_plain.proofs.HeldLaws.{held_short, all_short}
use Rattle.sv_plain.proofs.changes.red_changes.Goals as goal

pub put_changes-requires : goal.put_changes-requires
put_changes-requires c = held_short _ _ _ c.held.ensures (all_short _ 0 (omega arith) c.requires)

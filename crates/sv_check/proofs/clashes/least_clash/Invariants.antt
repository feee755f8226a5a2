use Rattle.std.proofs.Common.{take}
use Rattle.sv_check.proofs.FirstLaws.{HasSeen}
use Rattle.sv_check.proofs.clashes.least_clash.Given as goal

abbrev pub invariant-loop-key : goal.invariant-loop-key
invariant-loop-key l = HasSeen (take l.key-index l.pairs) l.firsts l.found

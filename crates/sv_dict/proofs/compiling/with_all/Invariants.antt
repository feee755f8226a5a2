use Rattle.std.proofs.Common.{take}
use Rattle.sv_dict.specs.Standing.{HasUnits, txns_in}
use Rattle.sv_listing.specs.Frugal.{parts_from}
use Rattle.sv_dict.proofs.compiling.with_all.Given as goal

abbrev pub invariant-loop-number : goal.invariant-loop-number
invariant-loop-number l = HasUnits l.setting (parts_from 0 (take l.number (txns_in l.setting))) l.counted

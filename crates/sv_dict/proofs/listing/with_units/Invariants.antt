use Rattle.std.proofs.Common.{take}
use Rattle.sv_dict.specs.Standing.{HasUnits, parts_before, txns_in}
use Rattle.sv_dict.proofs.listing.with_units.Given as goal

abbrev pub invariant-loop-at : goal.invariant-loop-at
invariant-loop-at l = HasUnits l.setting (parts_before (txns_in l.setting) l.number l.at) l.counted

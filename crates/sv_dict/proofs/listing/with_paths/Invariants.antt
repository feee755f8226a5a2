use Rattle.std.proofs.Common.{take}
use Rattle.sv_paths.specs.Numbered.{part_of}
use Rattle.sv_dict.specs.Standing.{HasPaths}
use Rattle.sv_dict.proofs.listing.with_paths.Given as goal

abbrev pub invariant-loop-at : goal.invariant-loop-at
invariant-loop-at l = HasPaths l.setting (part_of l.unit) (take l.at l.paths) l.counted

use Rattle.std.proofs.Common.{◌≡◌, All, map, take}
use Rattle.sv_gains.specs.Asked.{IsRight, sides_of}
use Rattle.sv_gains.proofs.asked.gains_of.Given as goal

abbrev pub invariant-loop-hi : goal.invariant-loop-hi
invariant-loop-hi l = (map sides_of l.gains ≡ take l.hi-index l.asked) × All (IsRight l.system) l.gains

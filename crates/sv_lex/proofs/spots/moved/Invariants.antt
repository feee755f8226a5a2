use Rattle.std.proofs.Common.{◌≡◌, ◌+◌}
use Rattle.sv_lex.specs.Spots.{spot_at}
use Rattle.sv_lex.proofs.spots.moved.Given as goal

abbrev pub invariant-loop-byte : goal.invariant-loop-byte
invariant-loop-byte l = l.spot ≡ spot_at l.bytes (l.from + l.byte-index)

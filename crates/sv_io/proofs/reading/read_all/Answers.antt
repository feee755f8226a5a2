use Rattle.std.proofs.Common.{arith}
use Rattle.std.proofs.lemmas.List.{length-take}
use Rattle.sv_io.proofs.ReadLemmas.{passed_more}
use Rattle.sv_io.proofs.reading.read_all.Goals as goal

pub returns-then-is_err-clause-err : goal.returns-then-is_err-clause-err
returns-then-is_err-clause-err g c =
    passed_more _ _ _ _ _ _ _ c.loop-piece.invariant.consumed c.in-Ok.ensures.bytes.0 (omega (arith, c.in-Ok.ensures.bound, c.read.auto.buf, length-take c.min-room.result c.loop-piece.piece))

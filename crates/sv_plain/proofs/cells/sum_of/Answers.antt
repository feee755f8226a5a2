use Rattle.std.proofs.Common.{arith}
use Rattle.std.proofs.lemmas.Int.{ints}
use Rattle.sv_plain.proofs.HeldLaws.{sum_more, within_more}
use Rattle.sv_plain.proofs.cells.sum_of.Goals as goal

pub loop-held-preserved : goal.loop-held-preserved
loop-held-preserved c = record {
  rest =
      sum_more c.args.writes.now c.loop-held.held-index c.held-item.result _ c.delta_of.result _ c.loop-held-test.true c.held-item.is c.delta_of.ensures (omega (arith, ints)) c.loop-held.invariant.rest;
  bounded = within_more c.loop-held.held-index _ c.delta_of.result _ c.loop-held.invariant.bounded c.delta_of.type_inv (omega (arith, ints));
}

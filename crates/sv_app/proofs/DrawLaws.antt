-- Drawn keys differ.
use Rattle.std.proofs.Common.{arith}
use Rattle.std.proofs.lemmas.Int.{ints}
use Rattle.sv_app.specs.Draws.{DrawsDiffer}

pub draws_differ : DrawsDiffer
draws_differ s t i j n m one most other_one other_most few other_few same = record {
  session = omega (arith, ints, one, most, other_one, other_most, few, other_few, same);
  index = omega (arith, ints, one, most, other_one, other_most, few, other_few, same);
  number = omega (arith, ints, one, most, other_one, other_most, few, other_few, same);
}

use Rattle.sv_lex.proofs.SpotLaws.{line_within, col_within}
use Rattle.sv_lex.proofs.spots.moved.Goals as goal

pub past-spot-requires-clause-line : goal.past-spot-requires-clause-line
past-spot-requires-clause-line c = line_within c.args.bytes.now c.args.from c.args.to c.loop-byte.byte-index c.loop-byte.spot c.loop-byte.invariant c.loop-byte-test.true c.requires.short

pub past-spot-requires-clause-col : goal.past-spot-requires-clause-col
past-spot-requires-clause-col c = col_within c.args.bytes.now c.args.from c.args.to c.loop-byte.byte-index c.loop-byte.spot c.loop-byte.invariant c.loop-byte-test.true c.requires.short

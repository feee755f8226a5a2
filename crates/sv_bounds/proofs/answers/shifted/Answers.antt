use Rattle.std.proofs.Common.{rules, ◌^◌, arith}
use Rattle.std.proofs.lemmas.Int.{ints}
use Rattle.sv_bounds.specs.Differences.{Within}
use Rattle.sv_bounds.specs.Rounds.{value}
use Rattle.sv_bounds.proofs.AnswerLaws.{shifted_more}
use Rattle.sv_bounds.proofs.answers.shifted.Goals as goal

pub loop-cell-preserved : goal.loop-cell-preserved
loop-cell-preserved c = record {
  long = search rules;
  each =
      let zero : Within (2 ^ 101) (value c.args.cells.now 0) = c.requires.values 0 in
      let here : Within (2 ^ 101) (value c.args.cells.now c.loop-cell.cell-index) = c.requires.values c.loop-cell.cell-index in
      shifted_more c.args.cells.now c.loop-cell.values.items c.push.new.self.items c.loop-cell.cell-index _ c.loop-cell.invariant.long c.loop-cell.invariant.each c.in_ok-push.ensures.items
      (omega (arith, ints, zero.low, zero.high, here.low, here.high));
}

use Rattle.std.proofs.Common.{sym, ◌∙◌, arith}
use Rattle.sv_effect.specs.Agrees.{key_behind}
use Rattle.sv_pool.proofs.IndexLaws.{length-kept_in}
use Rattle.sv_pool.proofs.SearchLaws.{sides_first, sides_raise, sides_lower, before_down, behind_up, start_found}
use Rattle.sv_pool.proofs.pools.rest_start.Goals as goal

pub loop-low-init : goal.loop-low-init
loop-low-init c = record {
  ordered = omega arith;
  within = omega arith;
  sides = sides_first (sym (length-kept_in c.args.index.now c.args.rows.now.values c.requires.given));
}

pub loop-low-preserved-then-is_behind : goal.loop-low-preserved-then-is_behind
loop-low-preserved-then-is_behind c = record {
  ordered = omega arith;
  within = omega (arith, c.loop-low-test.true, c.loop-low.invariant.within);
  sides =
      sides_lower c.requires.rising (behind_up c.args.table (key_behind c.args.after)) c.loop-low.invariant.sides c.row_at.ensures
      (sym c.is_behind.ensures ∙ c.if-is_behind.true);
}

pub loop-low-preserved : goal.loop-low-preserved
loop-low-preserved c = record {
  ordered = omega (arith, c.loop-low-test.true);
  within = c.loop-low.invariant.within;
  sides =
      sides_raise _ c.requires.rising (before_down c.args.table (key_behind c.args.after)) c.loop-low.invariant.sides c.row_at.ensures
      (sym c.is_behind.ensures ∙ c.if-is_behind.false);
}

pub returns : goal.returns
returns c =
    let many = length-kept_in c.args.index.now c.args.rows.now.values c.requires.given in
    start_found c.args.table (key_behind c.args.after) (omega (arith, c.loop-low-test.false))
    (omega (arith, many, c.loop-low.invariant.ordered, c.loop-low.invariant.within)) c.loop-low.invariant.sides

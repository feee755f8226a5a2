use Rattle.std.proofs.Common.{◌≡◌, ◌+◌, ◌-◌, ◌/◌, Some, slice_get, sym, ◌∙◌, arith}
use Rattle.std.proofs.lemmas.Option.{slice_get-get_or}
use Rattle.sv_app.proofs.PlaceLaws.{exact_places}
use Rattle.sv_pool.specs.Pooled.{kept_in}
use Rattle.sv_pool.proofs.IndexLaws.{length-kept_in, read_kept}
use Rattle.sv_pool.proofs.SearchLaws.{sides_first, sides_raise, sides_lower, below_down, above_up, gap_found}
use Rattle.sv_pool.proofs.pools.search.Goals as goal

pub loop-low-init : goal.loop-low-init
loop-low-init c = record {
  ordered = omega arith;
  within = omega arith;
  sides = sides_first (sym (length-kept_in c.args.index.now c.args.rows.now.values c.requires.given));
}

pub loop-low-preserved-in-Less : goal.loop-low-preserved-in-Less
loop-low-preserved-in-Less c =
    let row : slice_get (kept_in c.args.index.now c.args.rows.now.values) (c.loop-low.low + (c.loop-low.high - c.loop-low.low) / 2) ≡ Some c.at.result.now =
    read_kept c.args.index.now c.args.rows.now.values _ (record { number = 0 }) c.at.result.now c.requires.given
    (omega (arith, c.loop-low-test.true, c.loop-low.invariant.within)) c.at.ensures in
    record {
      ordered = omega (arith, c.loop-low-test.true);
      within = c.loop-low.invariant.within;
      sides = sides_raise _ c.requires.rising (below_down c.args.place.now) c.loop-low.invariant.sides row (sym c.cmp.ensures ∙ c.in-Less.is);
    }

pub returns-in-Equal-clause-found : goal.returns-in-Equal-clause-found
returns-in-Equal-clause-found c = record {
  at = _;
  slot_at = slice_get-get_or c.args.index.now _ (record { number = 0 }) (omega (arith, c.loop-low-test.true, c.loop-low.invariant.within));
  row = c.at.result.now;
  row_at = c.at.ensures;
  is = exact_places c.at.result.now.place c.args.place.now (sym c.cmp.ensures ∙ c.in-Equal.is);
}

pub loop-low-preserved : goal.loop-low-preserved
loop-low-preserved c =
    let row : slice_get (kept_in c.args.index.now c.args.rows.now.values) (c.loop-low.low + (c.loop-low.high - c.loop-low.low) / 2) ≡ Some c.at.result.now =
    read_kept c.args.index.now c.args.rows.now.values _ (record { number = 0 }) c.at.result.now c.requires.given
    (omega (arith, c.loop-low-test.true, c.loop-low.invariant.within)) c.at.ensures in
    record {
      ordered = omega arith;
      within = omega (arith, c.loop-low-test.true, c.loop-low.invariant.within);
      sides = sides_lower c.requires.rising (above_up c.args.place.now) c.loop-low.invariant.sides row (sym c.cmp.ensures ∙ c.in-Greater.is);
    }

pub returns-clause-absent : goal.returns-clause-absent
returns-clause-absent c =
    let many = length-kept_in c.args.index.now c.args.rows.now.values c.requires.given in
    gap_found (omega (arith, c.loop-low-test.false)) (omega (arith, many, c.loop-low.invariant.ordered, c.loop-low.invariant.within)) c.loop-low.invariant.sides

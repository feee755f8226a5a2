use Rattle.std.proofs.Common.{◌≡◌, sym, ◌∙◌, arith, length}
use Rattle.std.proofs.lemmas.Bool.Decides.{nat_tests}
use Rattle.std.proofs.lemmas.Option.{slice_get_within, get_or_from_slice_get}
use Rattle.sv_store.proofs.NextLaws.{look_other, look_found, look_past, look_end}
use Rattle.sv_pool.specs.Pooled.{kept_in}
use Rattle.sv_pool.proofs.IndexLaws.{length-kept_in}
use Rattle.sv_pool.proofs.pools.first_present.Goals as goal

pub returns-then-kept-table : goal.returns-then-kept-table
returns-then-kept-table c =
    let rows = kept_in c.args.index.now c.args.rows.now.values in
    let row = c.row_at-kept.result.now in
    sym (look_other c.args.table rows c.loop-at.at row (slice_get_within rows c.loop-at.at row c.row_at-kept.ensures)
    (sym (get_or_from_slice_get rows c.loop-at.at row row c.row_at-kept.ensures)) (grind (arith, nat_tests, c.if-kept-table.true))) ∙ c.loop-at.invariant

pub returns-then-kept : goal.returns-then-kept
returns-then-kept c =
    let rows = kept_in c.args.index.now c.args.rows.now.values in
    let row = c.row_at-kept.result.now in
    sym (look_found c.args.table rows c.loop-at.at row (slice_get_within rows c.loop-at.at row c.row_at-kept.ensures)
    (sym (get_or_from_slice_get rows c.loop-at.at row row c.row_at-kept.ensures))
    (grind (arith, nat_tests, c.if-kept-table.false)) c.if-kept.true) ∙ c.loop-at.invariant

pub loop-at-preserved : goal.loop-at-preserved
loop-at-preserved c =
    let rows = kept_in c.args.index.now c.args.rows.now.values in
    let row = c.row_at-kept.result.now in
    sym (look_past c.args.table rows c.loop-at.at row (slice_get_within rows c.loop-at.at row c.row_at-kept.ensures)
    (sym (get_or_from_slice_get rows c.loop-at.at row row c.row_at-kept.ensures))
    (grind (arith, nat_tests, c.if-kept-table.false)) c.if-kept.false) ∙ c.loop-at.invariant

pub returns : goal.returns
returns c =
    let rows = kept_in c.args.index.now c.args.rows.now.values in
    let many : length rows ≡ length c.args.index.now = length-kept_in c.args.index.now c.args.rows.now.values c.requires in
    sym (look_end c.args.table rows c.loop-at.at (omega (arith, many, c.loop-at-test.false))) ∙ c.loop-at.invariant

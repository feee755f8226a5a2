use Rattle.std.proofs.Common.{◌∙◌}
use Rattle.std.specs.Prelude.{map}
use Rattle.sv_value.specs.Cuts.{counts}
use Rattle.sv_app.specs.Schema.{schema_of}
use Rattle.sv_effect.specs.TablesOfCut.{row_at}
use Rattle.sv_plain.specs.Behind.{held_by}
use Rattle.sv_plain.specs.Held.{medium_of}
use Rattle.sv_plain.proofs.RowsLaws.{best_none, best_more, best_all}
use Rattle.sv_plain.proofs.sources.PlainRows.key_after.Goals as goal

pub loop-place-init : goal.loop-place-init
loop-place-init c =
    best_none (λ p. (row_at (schema_of c.args.self.now.app.now.tables.items) c.args.self.now.init.now (held_by c.args.self.now) p).mark.value) c.args.table c.args.after.now c.deref-place-items.result.now

pub loop-place-preserved : goal.loop-place-preserved
loop-place-preserved c =
    best_more (λ p. (row_at (schema_of c.args.self.now.app.now.tables.items) c.args.self.now.init.now (held_by c.args.self.now) p).mark.value) c.args.table c.args.after.now
    c.loop-place.best c.chosen-best.result c.deref-place-items.result.now c.loop-place.place-index c.place-item.result c.in_ok-counts.counts
    c.loop-place-test.true c.place-item.is c.in_ok-counts.ensures c.chosen-best.ensures c.loop-place.invariant

pub returns : goal.returns
returns c =
    best_all (schema_of c.args.self.now.app.now.tables.items) c.args.self.now.init.now (medium_of (map (λ ops. ops.items) c.args.self.now.published.now)) (counts c.args.self.now.cut.now)
    c.args.table c.args.after.now c.loop-place.best c.deref-place-items.result.now c.loop-place.place-index (c.deref-place-items.ensures.value ∙ c.in_ok-places.ensures) c.loop-place-test.false c.loop-place.invariant

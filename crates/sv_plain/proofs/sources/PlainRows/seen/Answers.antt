use Rattle.std.proofs.Common.{sym, ap, ◌∙◌}
use Rattle.std.specs.Prelude.{map}
use Rattle.std.specs.List.{list_any}
use Rattle.sv_value.specs.Cuts.{counts}
use Rattle.sv_app.specs.Schema.{schema_of}
use Rattle.sv_effect.specs.Agrees.{place_at}
use Rattle.sv_effect.specs.Reads.{seen_of}
use Rattle.sv_effect.specs.StampedTables.{row_of}
use Rattle.sv_effect.specs.TablesOfCut.{is_place}
use Rattle.sv_plain.specs.Held.{medium_of}
use Rattle.sv_plain.proofs.RowsLaws.{tell_row, row_is_of}
use Rattle.sv_plain.proofs.sources.PlainRows.seen.Goals as goal

pub returns-then-is_among-clause-value : goal.returns-then-is_among-clause-value
returns-then-is_among-clause-value c =
    tell_row (schema_of c.args.self.now.app.now.tables.items) c.args.self.now.init.now (medium_of (map (λ ops. ops.items) c.args.self.now.published.now)) (counts c.args.self.now.cut.now)
    c.in_ok-places.places.items (place_at c.args.table c.args.key.now) (row_of c.in_ok-row.row) (seen_of c.seen.result)
    c.in_ok-places.ensures (ap (list_any (is_place (place_at c.args.table c.args.key.now))) (sym c.deref.ensures.value) ∙ sym c.is_among.ensures ∙ c.if-is_among.true)
    c.in_ok-row.ensures.value c.seen.ensures.value

pub returns-then-is_among-clause-fits : goal.returns-then-is_among-clause-fits
returns-then-is_among-clause-fits c = λ schema stand.
    c.seen.ensures.fits schema (place_at c.args.table c.args.key.now) stand.accepted
    (row_is_of (schema_of c.args.self.now.app.now.tables.items) schema c.args.self.now.init.now (medium_of (map (λ ops. ops.items) c.args.self.now.published.now)) (counts c.args.self.now.cut.now)
    c.in_ok-places.places.items (place_at c.args.table c.args.key.now) (row_of c.in_ok-row.row)
    c.in_ok-places.ensures (ap (list_any (is_place (place_at c.args.table c.args.key.now))) (sym c.deref.ensures.value) ∙ sym c.is_among.ensures ∙ c.if-is_among.true)
    c.in_ok-row.ensures.value c.in_ok-row.ensures.narrow stand)

-- The tables behind plain rows.
use Rattle.std.specs.Prelude.{List, map, ◌++◌}
use Rattle.sv_value.specs.Cuts.{counts}
use Rattle.sv_app.specs.declared.places.Place.{Place}
use Rattle.sv_app.specs.Schema.{schema_of}
use Rattle.sv_effect.specs.Cut.{Medium, held}
use Rattle.sv_effect.specs.StampedTables.{StampedTables}
use Rattle.sv_effect.specs.TablesOfCut.{all_to, init_place, named_by, tables_of}
use Rattle.sv_plain.specs.declared.sources.PlainRows.{PlainRows}
use Rattle.sv_plain.specs.Held.{medium_of}

abbrev pub held_by : PlainRows → Medium
held_by rows = held (medium_of (map (λ ops. ops.items) rows.published.now)) (counts rows.cut.now)

abbrev pub places_of : PlainRows → List Place
places_of rows = map init_place rows.init.now ++ all_to (λ o. named_by (held_by rows o)) 9

abbrev pub tables_behind : PlainRows → StampedTables
tables_behind rows = tables_of (schema_of rows.app.now.tables.items) rows.init.now (medium_of (map (λ ops. ops.items) rows.published.now)) (counts rows.cut.now)

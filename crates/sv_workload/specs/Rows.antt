-- What a written row stands for.
use Rattle.std.specs.Prelude.{ℕ, List, [], Option, Some, None, unwrap_or}
use Rattle.sv_value.specs.declared.values.Key.{Key}
use Rattle.sv_app.specs.declared.apps.Ident.{Ident}
use Rattle.sv_app.specs.declared.requests.InitRow.{InitRow}
use Rattle.sv_app.specs.Lookups.{place_of, table_of, table_names}
use Rattle.sv_app.specs.Schema.{Declaration}
use Rattle.sv_effect.specs.RunChanges.{key_in}
use Rattle.sv_workload.specs.declared.written.Row.{Row}

-- the key by the columns that the table's key names
abbrev pub key_of : Option Declaration → Row → Key
key_of None r = key_in [] r.values
key_of (Some table) r = key_in table.key r.values

abbrev pub table_number : List Declaration → Ident → ℕ
table_number schema ident = unwrap_or (place_of ident (table_names schema)) 0

-- the initial row that is written
abbrev pub init_row : List Declaration → Row → InitRow
init_row schema r = record { table = table_number schema r.table; key = key_of (table_of schema r.table) r; values = r.values; spot = r.table.spot }

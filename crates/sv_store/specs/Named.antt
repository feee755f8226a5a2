-- Whether the name of a key column, if there is one, is that of a column, and the cells that a key gives a row that nothing was written to.
use Rattle.std.specs.Prelude.{ℕ, suc, ◌==◌, Bool, false, List, [], ◌∷◌, Option, Some, None}
use Rattle.sv_value.specs.declared.values.Key.{Key}
use Rattle.sv_app.specs.declared.apps.Ident.{Ident}
use Rattle.sv_app.specs.declared.schemas.Column.{Column}
use Rattle.sv_effect.specs.declared.cells.Cell.{Cell}
use Rattle.sv_effect.specs.RowChange.{cell_from, zero_of, key_values, from_key}

abbrev pub is_named : Option Ident → ℕ → Bool
is_named None column = false
is_named (Some name) column = name.num == column

abbrev pub zero_cells : List Ident → Key → ℕ → List Column → List Cell
zero_cells names key number [] = []
zero_cells names key number (column ∷ columns) = cell_from column.merge (from_key names (key_values key) number (zero_of column.ty)) ∷ zero_cells names key (suc number) columns

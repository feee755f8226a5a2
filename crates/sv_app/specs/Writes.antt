-- What is written to the columns of a table, whatever it is: a list of column numbers with what each gets.
use Rattle.std.specs.Prelude.{ℕ, suc, ◌==◌, if◌then◌else◌, List, [], ◌∷◌, ◌++◌}
use Rattle.sv_app.specs.declared.schemas.Column.{Column}
use Rattle.sv_app.specs.Schema.{Declaration}
use Rattle.sv_app.specs.Symbols.{is_key_column}

-- the first write to a column
abbrev pub writes_at : {A : Type 0} → ℕ → List (ℕ × A) → List (ℕ × A)
writes_at c [] = []
writes_at c (w ∷ ws) = if w.0 == c then w ∷ [] else writes_at c ws

-- the writes to columns outside the key, in column order
abbrev pub in_order : {A : Type 0} → Declaration → ℕ → List Column → List (ℕ × A) → List (ℕ × A)
in_order table c [] ws = []
in_order table c (column ∷ columns) ws = (if is_key_column table.key c then [] else writes_at c ws) ++ in_order table (suc c) columns ws

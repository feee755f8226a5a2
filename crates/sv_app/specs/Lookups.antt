-- What a name stands for: the first table of a schema, or the first column of a table, that has it.
use Rattle.std.specs.Prelude.{ℕ, suc, Bool, false, List, [], ◌∷◌, Option, Some, None, map, bytes_eq, if◌then◌else◌}
use Rattle.std.specs.List.{find, list_any}
use Rattle.std.specs.Option.{option_map}
use Rattle.sv_app.specs.declared.apps.Ident.{Ident}
use Rattle.sv_app.specs.declared.schemas.Column.{Column}
use Rattle.sv_app.specs.Schema.{Declaration}

abbrev pub is_named : Ident → Ident → Bool
is_named ident other = bytes_eq ident.name other.name

abbrev pub column_of : Declaration → Ident → Option Column
column_of t ident = find (λ c. is_named c.name ident) t.columns

abbrev pub table_of : List Declaration → Ident → Option Declaration
table_of schema ident = find (λ t. is_named t.name ident) schema

-- the name is one of those in the parentheses of the table's primary key
abbrev pub is_key : Declaration → Ident → Bool
is_key t ident = list_any (λ name. is_named name ident) t.key

-- there is one, and the test holds of it
abbrev pub holds_of : {A : Type 0} → Option A → (A → Bool) → Bool
holds_of None test = false
holds_of (Some x) test = test x

-- the place of the first that has the name
abbrev pub place_of : Ident → List Ident → Option ℕ
place_of ident [] = None
place_of ident (x ∷ xs) = if is_named x ident then Some 0 else option_map (λ place. suc place) (place_of ident xs)

abbrev pub table_names : List Declaration → List Ident
table_names schema = map (λ t. t.name) schema

abbrev pub column_names : Declaration → List Ident
column_names t = map (λ c. c.name) t.columns

-- What the tables of a document declare: of each its columns, its first key, and its invariants, which are numbered through the document.
use Rattle.std.specs.Prelude.{ℕ, suc, ◌+◌, List, [], ◌∷◌, length, option_to_list, Option, Some, None}
use Rattle.sv_app.specs.declared.apps.Ident.{Ident}
use Rattle.sv_app.specs.declared.schemas.Column.{Column}
use Rattle.sv_app.specs.Schema.{Invariant, Declaration}
use Rattle.sv_schema_reader.specs.Grammar.{Item, Field, Key, Demand, Written}

abbrev pub columns_of : List Item → List Column
columns_of [] = []
columns_of (Field c ∷ items) = c ∷ columns_of items
columns_of (Key first second ∷ items) = columns_of items
columns_of (Demand spot rule ∷ items) = columns_of items

-- each primary key: its first name, and its second one, if it has one
abbrev pub keys_of : List Item → List (Ident × Option Ident)
keys_of [] = []
keys_of (Field c ∷ items) = keys_of items
keys_of (Key first second ∷ items) = (first, second) ∷ keys_of items
keys_of (Demand spot rule ∷ items) = keys_of items

abbrev pub first_key : List (Ident × Option Ident) → List Ident
first_key [] = []
first_key (key ∷ others) = key.0 ∷ option_to_list key.1

abbrev pub second_key : List (Ident × Option Ident) → Option Ident
second_key [] = None
second_key (key ∷ []) = None
second_key (key ∷ second ∷ others) = Some second.0

-- the invariants, numbered behind so many others
abbrev pub invariants_of : ℕ → List Item → List Invariant
invariants_of count [] = []
invariants_of count (Field c ∷ items) = invariants_of count items
invariants_of count (Key first second ∷ items) = invariants_of count items
invariants_of count (Demand spot rule ∷ items) = record { number = suc count; rule = rule; spot = spot } ∷ invariants_of (suc count) items

-- what a table declares, if so many invariants stand before it
abbrev pub declared : ℕ → Written → Declaration
declared count t = record {
  name = t.name;
  kind = t.kind;
  columns = columns_of t.items;
  key = first_key (keys_of t.items);
  second_key = second_key (keys_of t.items);
  invs = invariants_of count t.items;
}

abbrev pub declared_behind : ℕ → List Written → List Declaration
declared_behind count [] = []
declared_behind count (t ∷ tables) = declared count t ∷ declared_behind (count + length (invariants_of count t.items)) tables

abbrev pub all_declared : List Written → List Declaration
all_declared tables = declared_behind 0 tables

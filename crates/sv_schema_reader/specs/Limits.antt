-- The limits that tables keep: 16 tables, 16 columns and 16 invariants of a table, 16 texts of a list, and bounds of 64 bits.
use Rattle.std.specs.Prelude.{ℤ, pos, neg_ℤ, ◌≤◌, ◌≤ℤ◌, ◌<ℤ◌, ◌^◌, List, length}
use Rattle.std.specs.List.{AllByRecursion}
use Rattle.sv_app.specs.Schema.{Rule, Bound, OneOf, Different, Refers}
use Rattle.sv_schema_reader.specs.Declarations.{columns_of, invariants_of}
use Rattle.sv_schema_reader.specs.Grammar.{Item, Field, Key, Demand, Written}

abbrev pub Fits64 : ℤ → Type 0
Fits64 n = (neg_ℤ (pos (2 ^ 63)) ≤ℤ n) × (n <ℤ pos (2 ^ 63))

abbrev pub IsSmallRule : Rule → Type 0
IsSmallRule (Bound check) = Fits64 check.most
IsSmallRule (OneOf col texts) = length texts ≤ 16
IsSmallRule (Different col) = Unit {0}
IsSmallRule (Refers col table target) = Unit {0}

abbrev pub IsSmallItem : Item → Type 0
IsSmallItem (Field c) = Unit {0}
IsSmallItem (Key first second) = Unit {0}
IsSmallItem (Demand spot rule) = IsSmallRule rule

pub record IsSmallTable (t : Written) : Type 0 where
  pub columns : length (columns_of t.items) ≤ 16
  pub invariants : length (invariants_of 0 t.items) ≤ 16
  pub items : AllByRecursion IsSmallItem t.items

pub record AreSmall (tables : List Written) : Type 0 where
  pub count : length tables ≤ 16
  pub each : AllByRecursion IsSmallTable tables

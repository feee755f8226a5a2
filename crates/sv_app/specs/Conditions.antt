-- What a schema keeps before it is looked at: the grammar, the limits, and the numbers of its invariants.
use Rattle.std.specs.Prelude.{◌≡◌, ◌≢◌, ◌+◌, ℕ, suc, ◌≤◌, List, [], ◌∷◌, length}
use Rattle.std.specs.List.{All, flat_map}
use Rattle.sv_app.specs.declared.schemas.Ty.TheVariants.{Ints}
use Rattle.sv_app.specs.Limits.{most_tables, most_columns, most_invariants, most_texts}
use Rattle.sv_app.specs.Schema.{Rule, Bound, OneOf, Different, Refers, Invariant, Declaration}

-- a list has a text
abbrev pub KeepsRule : Rule → Type 0
KeepsRule (OneOf name texts) = 1 ≤ length texts
KeepsRule (Bound check) = Unit {0}
KeepsRule (Different name) = Unit {0}
KeepsRule (Refers name table target) = Unit {0}

-- a table has a column, a key or an invariant; a key has one or two names, and none where no key is written; no column is a list
pub record KeepsTable (t : Declaration) : Type 0 where
  pub any : 1 ≤ length t.columns + length t.key + length t.invs
  pub key : length t.key ≤ 2
  pub columns : All (λ c. c.ty ≢ Ints) t.columns
  pub rules : All (λ inv. KeepsRule inv.rule) t.invs

pub record KeepsGrammar (schema : List Declaration) : Type 0 where
  pub any : 1 ≤ length schema
  pub each : All KeepsTable schema

-- at most 16 tables, 16 columns and 16 invariants of a table, and 16 texts of a list
abbrev pub IsSmallRule : Rule → Type 0
IsSmallRule (OneOf name texts) = length texts ≤ most_texts
IsSmallRule (Bound check) = Unit {0}
IsSmallRule (Different name) = Unit {0}
IsSmallRule (Refers name table target) = Unit {0}

pub record IsSmallTable (t : Declaration) : Type 0 where
  pub columns : length t.columns ≤ most_columns
  pub invariants : length t.invs ≤ most_invariants
  pub rules : All (λ inv. IsSmallRule inv.rule) t.invs

pub record KeepsLimits (schema : List Declaration) : Type 0 where
  pub count : length schema ≤ most_tables
  pub each : All IsSmallTable schema

-- the invariants are numbered from so many on
abbrev pub AreNumberedFrom : ℕ → List Invariant → Type 0
AreNumberedFrom number [] = Unit {0}
AreNumberedFrom number (inv ∷ invs) = (inv.number ≡ number) × AreNumberedFrom (suc number) invs

-- all invariants of the schema are numbered from 1 in order of writing
abbrev pub AreNumbered : List Declaration → Type 0
AreNumbered schema = AreNumberedFrom 1 (flat_map (λ t. t.invs) schema)

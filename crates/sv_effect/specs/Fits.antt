-- A change fits the schema: its table is declared, its key has values of the key's types, the table's kind allows its act, and it writes
-- columns outside the key, each at most once and in order, counters by deltas and others by values of their type; a remove writes none, an insert all.
use Rattle.std.specs.Prelude.{◌≡◌, ◌≢◌, ℕ, ℤ, pos, neg_ℤ, ◌^◌, ◌≤ℤ◌, ◌<◌, ◌≤◌, ◌==◌, ◌||◌, Bool, true, false, List, [], ◌∷◌, length, map, Some, slice_get}
use Rattle.sv_value.specs.declared.values.Val.{Val}
use Rattle.sv_app.specs.declared.acts.Act.{Act}
use Rattle.sv_app.specs.declared.acts.Act.TheVariants.{Insert, Fresh, Update, Remove}
use Rattle.sv_app.specs.declared.apps.Ident.{Ident}
use Rattle.sv_app.specs.declared.schemas.Column.{Column}
use Rattle.sv_app.specs.declared.schemas.Merge.TheVariants.{NumDelta, Lww}
pub use Rattle.sv_app.specs.Fitting.{HasType}
use Rattle.sv_app.specs.Kinds.{allows, is_unmerged}
use Rattle.sv_app.specs.Schema.{Declaration}
pub use Rattle.sv_app.specs.Symbols.{is_key_column}
use Rattle.sv_effect.specs.declared.cells.Cell.{Cell}
use Rattle.sv_effect.specs.declared.cells.Cell.TheVariants.{Count, Last, Plain}
use Rattle.sv_effect.specs.declared.ops.Write.{Write}
use Rattle.sv_effect.specs.declared.ops.Write.TheVariants.{Delta, Set}
use Rattle.sv_effect.specs.declared.ops.RowEffect.{RowEffect}
use Rattle.sv_effect.specs.declared.ops.Op.{Op}
use Rattle.sv_effect.specs.RowChange.{key_values}
use Rattle.sv_effect.specs.RunChanges.{Effect, effect_of}

-- the values are of the columns that the key names, in order
abbrev pub KeyFits : List Column → List Ident → List Val → Type 0
KeyFits columns [] [] = Unit {0}
KeyFits columns (name ∷ names) (v ∷ vs) = ((column : Column) × (slice_get columns name.num ≡ Some column) × HasType column.ty v) × KeyFits columns names vs
KeyFits _ _ _ = ⊥

-- counters are written by deltas, other columns by values of their type
abbrev pub WriteFits : Column → Write → Type 0
WriteFits column (Delta d) = column.merge ≡ NumDelta
WriteFits column (Set v) = (column.merge ≢ NumDelta) × HasType column.ty v

-- the write is to a column of the table outside the key
pub record IsWrite (table : Declaration) (number : ℕ) (write : Write) : Type 0 where
  pub column : Column
  pub declared : slice_get table.columns number ≡ Some column
  pub outside : is_key_column table.key number ≡ false
  pub fits : WriteFits column write

abbrev pub AreWrites : Declaration → List (ℕ × Write) → Type 0
AreWrites table [] = Unit {0}
AreWrites table (w ∷ ws) = IsWrite table w.0 w.1 × AreWrites table ws

-- each number is greater than those before it
abbrev pub AllAbove : ℕ → List ℕ → Type 0
AllAbove n [] = Unit {0}
AllAbove n (m ∷ ms) = (n < m) × AllAbove n ms

abbrev pub Ascending : List ℕ → Type 0
Ascending [] = Unit {0}
Ascending (n ∷ ns) = AllAbove n ns × Ascending ns

abbrev pub columns_written : List (ℕ × Write) → List ℕ
columns_written ws = map (λ w. w.0) ws

abbrev pub is_written : ℕ → List (ℕ × Write) → Bool
is_written number [] = false
is_written number (w ∷ ws) = w.0 == number || is_written number ws

abbrev pub WritesAll : Declaration → List (ℕ × Write) → Type 0
WritesAll table ws = (number : ℕ) → number < length table.columns → is_key_column table.key number ≡ false → is_written number ws ≡ true

-- a remove writes no column, an insert each one outside the key, and so where the key is drawn
abbrev pub ActFits : Declaration → Act → List (ℕ × Write) → Type 0
ActFits table Insert ws = WritesAll table ws
ActFits table Fresh ws = WritesAll table ws
ActFits table Update ws = Unit {0}
ActFits table Remove ws = ws ≡ []

pub record SuitsTable (table : Declaration) (e : Effect) : Type 0 where
  pub key : KeyFits table.columns table.key (key_values e.place.key)
  pub allowed : allows table e.act ≡ true
  pub writes : AreWrites table e.writes
  pub order : Ascending (columns_written e.writes)
  pub act : ActFits table e.act e.writes

-- its table is one of the schema's
pub record EffectFits (schema : List Declaration) (e : Effect) : Type 0 where
  pub table : Declaration
  pub declared : slice_get schema e.place.table ≡ Some table
  pub fits : SuitsTable table e

-- the same of a change as operations carry it
abbrev pub ChangeFits : Declaration → RowEffect → Type 0
ChangeFits table e = SuitsTable table (effect_of e)

abbrev pub FitsSchema : List Declaration → RowEffect → Type 0
FitsSchema schema e = EffectFits schema (effect_of e)

-- the cell is of its column's kind
abbrev pub CellFits : Column → Cell → Type 0
CellFits column (Count n) = column.merge ≡ NumDelta
CellFits column (Last v s) = (column.merge ≡ Lww) × HasType column.ty v
CellFits column (Plain v) = (is_unmerged column.merge ≡ true) × HasType column.ty v

-- a row has a cell for each column
abbrev pub CellsFit : List Column → List Cell → Type 0
CellsFit [] [] = Unit {0}
CellsFit (column ∷ columns) (cell ∷ cells) = CellFits column cell × CellsFit columns cells
CellsFit _ _ = ⊥

-- each count lies between -2^100 and 2^100
abbrev pub IsNarrow : ℤ → Type 0
IsNarrow n = (neg_ℤ (pos (2 ^ 100)) ≤ℤ n) × (n ≤ℤ pos (2 ^ 100))

abbrev pub CountsFit : List Cell → Type 0
CountsFit [] = Unit {0}
CountsFit (Count n ∷ cells) = IsNarrow n × CountsFit cells
CountsFit (Last v s ∷ cells) = CountsFit cells
CountsFit (Plain v ∷ cells) = CountsFit cells

abbrev pub AllFit : List Declaration → List RowEffect → Type 0
AllFit schema [] = Unit {0}
AllFit schema (e ∷ es) = FitsSchema schema e × AllFit schema es

-- an operation that the schema allows
pub record OpFits (schema : List Declaration) (op : Op) : Type 0 where
  pub changes : AllFit schema op.effects
  pub few : length op.effects ≤ 64
  pub time : 1 ≤ op.time

-- Numbers of 64 bits, and what a store needs to take an operation of a history.
use Rattle.std.specs.Prelude.{◌≡◌, ◌≤◌, ℕ, ℤ, pos, neg_ℤ, ◌≤ℤ◌, ◌+◌, ◌^◌, All, Some, slice_get}
use Rattle.sv_app.specs.declared.requests.InitRow.{InitRow}
use Rattle.sv_effect.specs.declared.ops.Op.{Op}
use Rattle.sv_effect.specs.declared.ops.RowEffect.{RowEffect}
use Rattle.sv_effect.specs.Applied.{changes_of}
use Rattle.sv_effect.specs.BareTables.{how_many}
use Rattle.sv_effect.specs.Cut.{Medium}
use Rattle.sv_effect.specs.Fits.{OpFits}
use Rattle.sv_effect.specs.StampedTables.{StampedTables}
use Rattle.sv_effect.specs.TablesOfCut.{delta_of, number_in}
use Rattle.sv_effect.specs.Takes.{KeepsBounds, FindsRows, inserts}
use Rattle.sv_core.specs.Document.{Document}

-- between -2^63 and 2^63
pub record IsShort (z : ℤ) : Type 0 where
  pub low : neg_ℤ (pos (2 ^ 63)) ≤ℤ z
  pub high : z ≤ℤ pos (2 ^ 63)

abbrev pub HasShortValues : InitRow → Type 0
HasShortValues row = All (λ v. IsShort (number_in v)) row.values

abbrev pub AddsShort : RowEffect → Type 0
AddsShort e = All (λ w. IsShort (delta_of w.1)) e.writes.items

-- the numbers of the initial rows, and those that published changes add
pub record AreShort (doc : Document) (m : Medium) : Type 0 where
  pub init : All HasShortValues doc.init
  pub adds : (o q : ℕ) (op : Op) → slice_get (m o) q ≡ Some op → All AddsShort op.effects

-- what a store of these tables needs to take the operation, if it has space for as many rows as the document has room for
pub record CanTake (doc : Document) (op : Op) (t : StampedTables) : Type 0 where
  pub fits : OpFits doc.schema op
  pub found : FindsRows doc.schema (changes_of op) t
  pub counts : KeepsBounds doc.schema (changes_of op) t
  pub room : how_many t + inserts op.effects ≤ doc.rows

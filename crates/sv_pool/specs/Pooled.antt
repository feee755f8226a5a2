-- Rows in one region, and the slots of an index in the order of the rows' places.
use Rattle.std.specs.Prelude.{◌≡◌, ◌≢◌, ℕ, ◌+◌, ◌<◌, ◌≤◌, List, [], ◌∷◌, length, slice_get, Option, Some, None}
use Rattle.sv_app.specs.declared.places.Place.{Place}
use Rattle.sv_store.specs.declared.rows.KeptRow.{KeptRow}
use Rattle.sv_store.specs.Stored.{Stored, tables_in, AreRising}
use Rattle.sv_pool.specs.declared.regions.Slot.{Slot}
use Rattle.sv_pool.specs.Placed.{Placed, IsGiven}

-- a row was placed at each slot of the index
pub record AreGiven (index : List Slot) (rows : List KeptRow) : Type 0 where
  pub each : (at : ℕ) (slot : Slot) → slice_get index at ≡ Some slot → IsGiven slot rows

-- no slot stands twice in the index
pub record AreApart (index : List Slot) : Type 0 where
  pub each : (i j : ℕ) (a b : Slot) → i < j → slice_get index i ≡ Some a → slice_get index j ≡ Some b → a.number ≢ b.number

-- a row before others, if there is one
abbrev pub with_kept : Option KeptRow → List KeptRow → List KeptRow
with_kept None kept = kept
with_kept (Some row) kept = row ∷ kept

-- the rows at the slots of the index
abbrev pub kept_in : List Slot → List KeptRow → List KeptRow
kept_in [] rows = []
kept_in (slot ∷ index) rows = with_kept (slice_get rows slot.number) (kept_in index rows)

-- the row at the slot stands at the place
pub record IsSlotOf (index : List Slot) (rows : List KeptRow) (place : Place) (slot : Slot) : Type 0 where
  pub at : ℕ
  pub slot_at : slice_get index at ≡ Some slot
  pub row : KeptRow
  pub row_at : slice_get rows slot.number ≡ Some row
  pub is : row.place ≡ place

-- what contracts see of a pool
abbrev pub pooled : List Slot → Placed KeptRow → Stored
pooled index region = record { tables = tables_in (kept_in index region.values); room = region.spare }

-- the rows stand in the order of their places, and the index has space for the slots of all further rows
pub record Holds (index : List Slot) (region : Placed KeptRow) (capacity : ℕ) : Type 0 where
  pub given : AreGiven index region.values
  pub apart : AreApart index
  pub rising : AreRising (kept_in index region.values)
  pub space : length index + region.spare ≤ capacity

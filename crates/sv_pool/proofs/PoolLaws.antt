-- What contracts see of a pool is a store of the rows at the slots of its index: what it has at a place, and what an edit does to it.
use Rattle.std.proofs.Common.{◌≡◌, ℕ, ◌+◌, ◌-◌, ◌<◌, ◌≤◌, List, [], ◌∷◌, ◌++◌, length, set, drop, Option, Some, None, slice_get, refl, sym, ap, subst, ◌∙◌, arith}
use Rattle.std.specs.Prelude.{unwrap_or}
use Rattle.std.specs.List.{insert}
use Rattle.std.specs.Option.{option_map}
use Rattle.std.specs.FinMap.{get, entries}
use Rattle.std.proofs.lemmas.List.{length-set, length-append}
use Rattle.std.proofs.lemmas.List.Edits as edits
use Rattle.std.proofs.lemmas.Option.{slice_get-map}
use Rattle.sv_value.specs.declared.stamps.Stamp.{Stamp}
use Rattle.sv_value.specs.declared.values.Key.{Key}
use Rattle.sv_app.specs.declared.places.Place.{Place}
use Rattle.sv_app.specs.Schema.{Declaration}
use Rattle.sv_effect.specs.declared.ops.RowEffect.{RowEffect}
use Rattle.sv_effect.specs.StampedTables.{StampedRow, row_of}
use Rattle.sv_effect.specs.RowChange.{changed, is_annotated, zero_row}
use Rattle.sv_effect.specs.Applied.{place_of}
use Rattle.sv_effect.specs.BareTables.{bare, how_many}
use Rattle.sv_effect.specs.Agrees.{IsNextKey}
use Rattle.sv_store.specs.declared.rows.KeptRow.{KeptRow}
use Rattle.sv_store.specs.Stored.{Stored, entry_of, stored_in, tables_in, AreRising, IsAt, IsGapFor, HasRoom, with_row}
use Rattle.sv_store.specs.Rest.{IsStart, first_present}
use Rattle.sv_store.specs.Standing.{standing, left_by}
use Rattle.sv_store.proofs.RowLaws.{Stands, before, here, behind, get_insert, entries-tables_in, rising_set, rising_insert}
use Rattle.sv_store.proofs.StoreLaws.{there, not_there, stored_set, stored_insert, fits_in, filled}
use Rattle.sv_store.proofs.NextLaws.{next_found}
use Rattle.sv_pool.specs.declared.regions.Slot.{Slot}
use Rattle.sv_pool.specs.Placed.{Placed, IsGiven, with_value}
use Rattle.sv_pool.specs.Pooled.{kept_in, IsSlotOf, pooled, Holds}
use Rattle.sv_pool.proofs.IndexLaws.{same_item, length-kept_in, get-kept_in, kept_insert, kept_set}

-- the rows at the slots of the index, in a space for them and for all further ones
abbrev rows_in : List Slot → Placed KeptRow → List KeptRow
rows_in index region = kept_in index region.values

abbrev space_of : List Slot → Placed KeptRow → ℕ
space_of index region = region.spare + length (rows_in index region)

as_stored : (index : List Slot) (region : Placed KeptRow) → stored_in (rows_in index region) (space_of index region) ≡ pooled index region
as_stored index region =
    let room : ((region.spare + length (rows_in index region)) - length (rows_in index region)) ≡ region.spare = omega arith in
    (λ i. record { tables = tables_in (rows_in index region); room = room i })

-- what a search found along the index
pub found_in : {slots index : List Slot} {rows : List KeptRow} {p : Place} {slot : Slot} → slots ≡ index → IsSlotOf slots rows p slot
    → IsSlotOf index rows p slot
found_in {slots} {index} {rows} {p} {slot} same = subst (λ xs. IsSlotOf xs rows p slot) same

pub gap_in : {slots index : List Slot} {p : Place} {at : ℕ} (rows : List KeptRow) → slots ≡ index → IsGapFor (kept_in slots rows) p at
    → IsGapFor (kept_in index rows) p at
gap_in {slots} {index} {p} {at} rows same = subst (λ xs. IsGapFor (kept_in xs rows) p at) same

-- the row at a slot
pub slot_given : {index : List Slot} {region : Placed KeptRow} {capacity : ℕ} {p : Place} {slot : Slot} → Holds index region capacity
    → IsSlotOf index region.values p slot
    → IsGiven slot region.values
slot_given holds found = holds.given.each found.at _ found.slot_at

pub slot_place : {index : List Slot} {rows : List KeptRow} {p : Place} {slot : Slot} {read : KeptRow} → IsSlotOf index rows p slot
    → slice_get rows slot.number ≡ Some read → read.place ≡ p
slot_place found get = ap (λ r. r.place) (same_item _ found.row (sym get ∙ found.row_at)) ∙ found.is

abbrev stands_at : {index : List Slot} {region : Placed KeptRow} {capacity : ℕ} {p : Place} {slot : Slot} → Holds index region capacity
    → (found : IsSlotOf index region.values p slot)
    → IsAt (rows_in index region) p found.at
stands_at {index} {region} {capacity} {p} {slot} holds found =
    record { row = found.row; stands = get-kept_in index region.values found.at slot holds.given found.slot_at ∙ found.row_at; is = found.is }

pub pool_there : {index : List Slot} {region : Placed KeptRow} {capacity : ℕ} {s : Stored} {p : Place} {slot : Slot} {read : KeptRow} → pooled index region ≡ s
    → Holds index region capacity → IsSlotOf index region.values p slot → slice_get region.values slot.number ≡ Some read
    → get s.tables p ≡ Some (row_of read.row)
pool_there {index} {region} {capacity} {s} {p} view holds found get_read =
    there (rows_in index region) (space_of index region) s p found.at (as_stored index region ∙ view) holds.rising (stands_at holds found)
    ∙ ap (λ r. Some (row_of r.row)) (same_item found.row _ (sym found.row_at ∙ get_read))

pub pool_not_there : (index : List Slot) (region : Placed KeptRow) {s : Stored} {p : Place} {at : ℕ} → pooled index region ≡ s
    → IsGapFor (kept_in index region.values) p at
    → get s.tables p ≡ None
pool_not_there index region {s} {p} {at} view gap = not_there (rows_in index region) (space_of index region) s p at (as_stored index region ∙ view) gap

-- a look along the index from where the rows behind a key begin finds the next key
pub pool_next : {index : List Slot} {region : Placed KeptRow} {capacity : ℕ} {s : Stored} (table : ℕ) (after : Option Key) (start : ℕ) → pooled index region ≡ s
    → Holds index region capacity → IsStart (kept_in index region.values) table after start
    → IsNextKey (bare s.tables) table after (first_present table (drop start (kept_in index region.values)))
pool_next {index} {region} table after start view holds is_start =
    subst (λ x. IsNextKey (bare x.tables) table after (first_present table (drop start (rows_in index region)))) view
    (next_found (rows_in index region) table after start holds.rising is_start)

-- the rows and the room fill the space
pub pool_filled : {index : List Slot} {region : Placed KeptRow} {capacity : ℕ} {s : Stored} → pooled index region ≡ s → Holds index region capacity
    → s.room + how_many s.tables ≡ region.spare + length index
pool_filled {index} {region} {capacity} {s} view holds =
    filled (rows_in index region) (space_of index region) s (as_stored index region ∙ view) holds.rising (omega arith)
    ∙ ap (λ n. region.spare + n) (length-kept_in index region.values holds.given)

pub pool_many : {index : List Slot} {region : Placed KeptRow} {capacity : ℕ} {s : Stored} → pooled index region ≡ s → Holds index region capacity
    → how_many s.tables ≡ length index
pool_many view holds = omega (arith, pool_filled view holds, ap (λ x. x.room) view)

-- the entry at a number
pub pool_entry : {index : List Slot} {region : Placed KeptRow} {capacity : ℕ} {s : Stored} (at : ℕ) {read : KeptRow} → pooled index region ≡ s
    → Holds index region capacity
    → slice_get (kept_in index region.values) at ≡ Some read → slice_get (entries s.tables) at ≡ Some (entry_of read)
pool_entry {index} {region} {capacity} {s} at view holds get_read =
    ap (λ x. slice_get (entries x.tables) at) (sym view) ∙ ap (λ es. slice_get es at) (entries-tables_in (rows_in index region) holds.rising)
    ∙ slice_get-map entry_of (rows_in index region) at ∙ ap (option_map entry_of) get_read

-- a row written over where its place stands
over : {index : List Slot} {region : Placed KeptRow} {capacity : ℕ} {p : Place} {slot : Slot} (new : KeptRow) → Holds index region capacity
    → (found : IsSlotOf index region.values p slot) → kept_in index (set region.values slot.number new) ≡ set (kept_in index region.values) found.at new
over {index} {region} {capacity} {p} {slot} new holds found = kept_set index region.values found.at slot new holds.given holds.apart found.slot_at

pub holds_set : {index : List Slot} {region : Placed KeptRow} {capacity : ℕ} {p : Place} {slot : Slot} (new : KeptRow) → Holds index region capacity
    → IsSlotOf index region.values p slot → new.place ≡ p → Holds index (with_value region slot new) capacity
holds_set {index} {region} {capacity} {p} {slot} new holds found place = record {
  given = record { each = λ i s get_s. omega (arith, holds.given.each i s get_s, length-set region.values slot.number new) };
  apart = holds.apart;
  rising =
      subst AreRising (sym (over new holds found))
      (rising_set (rows_in index region) found.at found.row new holds.rising (stands_at holds found).stands (found.is ∙ sym place));
  space = holds.space;
}

pub pool_set : {index : List Slot} {region : Placed KeptRow} {capacity : ℕ} {s : Stored} {p : Place} {slot : Slot} (new : KeptRow) → pooled index region ≡ s
    → Holds index region capacity → IsSlotOf index region.values p slot → new.place ≡ p
    → pooled index (with_value region slot new) ≡ with_row s p (row_of new.row)
pool_set {index} {region} {capacity} {s} {p} {slot} new view holds found place =
    sym (as_stored index (with_value region slot new))
    ∙ (λ i. stored_in (over new holds found i) (spaces i))
    ∙ stored_set (rows_in index region) (space_of index region) s found.at new p (as_stored index region ∙ view) holds.rising (stands_at holds found) place
  where
    spaces : space_of index (with_value region slot new) ≡ space_of index region
    spaces = ap (λ n. region.spare + n) (ap length (over new holds found) ∙ length-set (rows_in index region) found.at new)

-- a row placed in the region, and its slot put into the index
pub record IsKept
    (index : List Slot) (region : Placed KeptRow) (capacity at : ℕ) (new : KeptRow) (slots : List Slot) (grown : Placed KeptRow) (space : ℕ) : Type 0 where
  pub put : slots ≡ insert index at (record { number = length region.values })
  pub values : grown.values ≡ region.values ++ new ∷ []
  pub spare : grown.spare + 1 ≡ region.spare
  pub same : space ≡ capacity

pub kept_by : {slots : List Slot} {grown : Placed KeptRow} {space : ℕ} (index : List Slot) (region : Placed KeptRow) (capacity at : ℕ) (new : KeptRow)
    → slots ≡ insert index at (record { number = length region.values }) → grown.values ≡ region.values ++ new ∷ [] → grown.spare + 1 ≡ region.spare
    → space ≡ capacity
    → IsKept index region capacity at new slots grown space
kept_by index region capacity at new put values spare same = record { put = put; values = values; spare = spare; same = same }

pub gap_within : {index : List Slot} {region : Placed KeptRow} {capacity : ℕ} {p : Place} {at : ℕ} → Holds index region capacity
    → IsGapFor (kept_in index region.values) p at
    → at ≤ length index
gap_within {index} {region} holds gap = omega (arith, gap.within, length-kept_in index region.values holds.given)

-- where room is asked for a place that isn't there, the region has space
pub pool_spare : (index : List Slot) (region : Placed KeptRow) {s : Stored} {p : Place} {at : ℕ} → pooled index region ≡ s
    → IsGapFor (kept_in index region.values) p at
    → HasRoom (get s.tables p) s.room → 1 ≤ region.spare
pool_spare index region {s} {p} {at} view gap has =
    omega (arith, fits_in (rows_in index region) (space_of index region) s p at (as_stored index region ∙ view) gap has)

grown_rows : {index slots : List Slot} {region grown : Placed KeptRow} {capacity space at : ℕ} {new : KeptRow} → Holds index region capacity
    → IsGapFor (kept_in index region.values) new.place at → IsKept index region capacity at new slots grown space
    → kept_in slots grown.values ≡ insert (kept_in index region.values) at new
grown_rows {index} {slots} {region} {grown} {capacity} {space} {at} {new} holds gap is =
    (λ i. kept_in (is.put i) (is.values i)) ∙ kept_insert index region.values at new holds.given (gap_within holds gap)

pub holds_kept : {index slots : List Slot} {region grown : Placed KeptRow} {capacity space at : ℕ} {new : KeptRow} → Holds index region capacity
    → IsGapFor (kept_in index region.values) new.place at → IsKept index region capacity at new slots grown space → Holds slots grown space
holds_kept {index} {slots} {region} {grown} {capacity} {space} {at} {new} holds gap is = record {
  given = record { each = λ i slot get_slot. given_from i slot (stands i slot get_slot) };
  apart = record { each = λ i j a b lt get_a get_b. apart_from i j a b lt (stands i a get_a) (stands j b get_b) };
  rising = subst AreRising (sym (grown_rows holds gap is)) (rising_insert (rows_in index region) at new holds.rising gap);
  space = omega (arith, holds.space, is.spare, is.same, longer);
}
  where
    slot_new : Slot
    slot_new = record { number = length region.values }

    longer : length slots ≡ length index + 1
    longer = ap length is.put ∙ edits.length-insert index at slot_new (gap_within holds gap)

    more : length grown.values ≡ length region.values + 1
    more = ap length is.values ∙ length-append region.values (new ∷ [])

    stands : (i : ℕ) (slot : Slot) → slice_get slots i ≡ Some slot → Stands index at slot_new i slot
    stands i slot get_slot = get_insert index at slot_new i slot (gap_within holds gap) (ap (λ xs. slice_get xs i) (sym is.put) ∙ get_slot)

    given_from : (i : ℕ) (slot : Slot) → Stands index at slot_new i slot → slot.number < length grown.values
    given_from i slot (before lt get_slot) = omega (arith, more, holds.given.each i slot get_slot)
    given_from i slot (here e same) = omega (arith, more, ap (λ x. x.number) same)
    given_from i slot (behind k e le get_slot) = omega (arith, more, holds.given.each k slot get_slot)

    apart_from : (i j : ℕ) (a b : Slot) → i < j → Stands index at slot_new i a → Stands index at slot_new j b → a.number ≡ b.number → ⊥
    apart_from i j a b lt (before x get_a) (before y get_b) e = holds.apart.each i j a b lt get_a get_b e
    apart_from i j a b lt (before x get_a) (here y same) e = omega (arith, holds.given.each i a get_a, ap (λ x. x.number) same, e)
    apart_from i j a b lt (before x get_a) (behind k y le get_b) e = holds.apart.each i k a b (omega (arith, x, le)) get_a get_b e
    apart_from i j a b lt (here x same) (before y get_b) e = omega (arith, lt, x, y)
    apart_from i j a b lt (here x same) (here y other) e = omega (arith, lt, x, y)
    apart_from i j a b lt (here x same) (behind k y le get_b) e = omega (arith, holds.given.each k b get_b, ap (λ x. x.number) same, e)
    apart_from i j a b lt (behind k x le get_a) (before y get_b) e = omega (arith, lt, x, y, le)
    apart_from i j a b lt (behind k x le get_a) (here y same) e = omega (arith, lt, x, y, le)
    apart_from i j a b lt (behind k x le get_a) (behind m y le_b get_b) e = holds.apart.each k m a b (omega (arith, lt, x, y)) get_a get_b e

pub pool_kept : {index slots : List Slot} {region grown : Placed KeptRow} {capacity space at : ℕ} {s : Stored} {new : KeptRow} → pooled index region ≡ s
    → Holds index region capacity → IsGapFor (kept_in index region.values) new.place at → IsKept index region capacity at new slots grown space
    → pooled slots grown ≡ with_row s new.place (row_of new.row)
pool_kept {index} {slots} {region} {grown} {capacity} {space} {at} {s} {new} view holds gap is =
    sym (as_stored slots grown)
    ∙ (λ i. stored_in (grown_rows holds gap is i) (spaces i))
    ∙ stored_insert (rows_in index region) (space_of index region) s at new (as_stored index region ∙ view) gap
  where
    spaces : space_of slots grown ≡ space_of index region
    spaces = omega (arith, is.spare, ap length (grown_rows holds gap is), edits.length-insert (rows_in index region) at new gap.within)

pub space_kept : {index slots : List Slot} {region grown : Placed KeptRow} {capacity space at : ℕ} {s : Stored} {new : KeptRow} → pooled index region ≡ s
    → Holds index region capacity → IsGapFor (kept_in index region.values) new.place at → IsKept index region capacity at new slots grown space
    → (pooled slots grown).room + how_many (pooled slots grown).tables ≡ s.room + how_many s.tables
space_kept {index} {slots} {region} {grown} {capacity} {space} {at} view holds gap is =
    pool_filled {s = pooled slots grown} refl (holds_kept holds gap is) ∙ moved ∙ sym (pool_filled view holds)
  where
    moved : (grown.spare + length slots) ≡ (region.spare + length index)
    moved = omega (arith, is.spare, ap length is.put, edits.length-insert index at (record { number = length region.values }) (gap_within holds gap))

-- the row that a change starts from, and the one that it leaves
pub pool_standing : {index : List Slot} {region : Placed KeptRow} {capacity : ℕ} {s : Stored} {slot : Slot} {read : KeptRow}
    (table : Declaration) (e : RowEffect) → pooled index region ≡ s → Holds index region capacity → IsSlotOf index region.values (place_of e) slot
    → slice_get region.values slot.number ≡ Some read
    → standing table e s.tables ≡ row_of read.row
pool_standing table e view holds found get_read = ap (λ o. unwrap_or o (zero_row table e.key)) (pool_there view holds found get_read)

pub pool_new_standing : (index : List Slot) (region : Placed KeptRow) {s : Stored} {at : ℕ} (table : Declaration) (e : RowEffect) → pooled index region ≡ s
    → IsGapFor (kept_in index region.values) (place_of e) at → standing table e s.tables ≡ zero_row table e.key
pool_new_standing index region table e view gap = ap (λ o. unwrap_or o (zero_row table e.key)) (pool_not_there index region view gap)

pub changed_kept : (s : Stored) {old row : StampedRow} (table : Declaration) (stamp : Stamp) (e : RowEffect) → standing table e s.tables ≡ old
    → row ≡ changed (is_annotated table.kind) stamp e old → row ≡ left_by table stamp e s.tables
changed_kept s table stamp e is made = made ∙ ap (changed (is_annotated table.kind) stamp e) (sym is)

-- What an edit of rising rows does to what contracts see of the store.
use Rattle.std.proofs.Common.{◌≡◌, ℕ, zero, suc, ◌+◌, ◌-◌, ◌<◌, ◌≤◌, List, [], ◌∷◌, length, set, Some, None, refl, sym, ap, subst, ◌∙◌, arith}
use Rattle.std.specs.List.{insert}
use Rattle.std.specs.FinMap.{get}
use Rattle.std.specs.FinMap as map_of
use Rattle.std.proofs.lemmas.List.{length-set, length-map}
use Rattle.sv_app.specs.declared.places.Place.{Place}
use Rattle.sv_effect.specs.StampedTables.{row_of}
use Rattle.sv_effect.specs.BareTables.{how_many}
use Rattle.sv_store.specs.declared.rows.KeptRow.{KeptRow}
use Rattle.sv_store.specs.Stored.{Stored, tables_in, stored_in, AreRising, Keeps, IsAt, IsGapFor, HasRoom, room_after, with_row, entry_of}
use Rattle.sv_store.proofs.RowLaws.{get-tables_in, get-tables_gap, entries-tables_in, tables_set, tables_insert, rising_set, rising_insert}

pub length-insert : (rows : List KeptRow) (at : ℕ) (new : KeptRow) → at ≤ length rows → length (insert rows at new) ≡ suc (length rows)
length-insert rows zero new within = refl
length-insert [] (suc at) new within = absurd (omega (arith, within))
length-insert (x ∷ rows) (suc at) new within = ap suc (length-insert rows at new (omega (arith, within)))

-- what the store has at a place
pub there : (rows : List KeptRow) (cap : ℕ) (s : Stored) (p : Place) (at : ℕ) → stored_in rows cap ≡ s → AreRising rows → (is_at : IsAt rows p at) → get s.tables p ≡ Some (row_of is_at.row.row)
there rows cap s p at view rising is_at = ap (λ x. get x.tables p) (sym view) ∙ get-tables_in rows p at is_at.row rising is_at.stands is_at.is

pub not_there : (rows : List KeptRow) (cap : ℕ) (s : Stored) (p : Place) (at : ℕ) → stored_in rows cap ≡ s → IsGapFor rows p at → get s.tables p ≡ None
not_there rows cap s p at view gap = ap (λ x. get x.tables p) (sym view) ∙ get-tables_gap rows p at gap

-- a row written over where its place stands
pub stored_set : (rows : List KeptRow) (cap : ℕ) (s : Stored) (at : ℕ) (new : KeptRow) (p : Place) → stored_in rows cap ≡ s → AreRising rows → IsAt rows p at → new.place ≡ p
    → stored_in (set rows at new) cap ≡ with_row s p (row_of new.row)
stored_set rows cap s at new p view rising is_at place = λ i. record { tables = tables i; room = room i }
  where
    tables : tables_in (set rows at new) ≡ map_of.insert s.tables p (row_of new.row)
    tables = tables_set rows at is_at.row new rising is_at.stands (is_at.is ∙ sym place) ∙ (λ i. map_of.insert (view i).tables (place i) (row_of new.row))

    room : (cap - length (set rows at new)) ≡ room_after (get s.tables p) s.room
    room = ap (λ n. cap - n) (length-set rows at new) ∙ ap (λ x. x.room) view ∙ ap (λ o. room_after o s.room) (sym (there rows cap s p at view rising is_at))

-- a row put into the gap for its place
pub stored_insert : (rows : List KeptRow) (cap : ℕ) (s : Stored) (at : ℕ) (new : KeptRow) → stored_in rows cap ≡ s → IsGapFor rows new.place at
    → stored_in (insert rows at new) cap ≡ with_row s new.place (row_of new.row)
stored_insert rows cap s at new view gap = λ i. record { tables = tables i; room = room i }
  where
    tables : tables_in (insert rows at new) ≡ map_of.insert s.tables new.place (row_of new.row)
    tables = tables_insert rows at new gap ∙ ap (λ x. map_of.insert x.tables new.place (row_of new.row)) view

    less : (cap - suc (length rows)) ≡ ((cap - length rows) - 1)
    less = omega arith

    room : (cap - length (insert rows at new)) ≡ room_after (get s.tables new.place) s.room
    room = ap (λ n. cap - n) (length-insert rows at new gap.within) ∙ less ∙ ap (λ x. x.room - 1) view ∙ ap (λ o. room_after o s.room) (sym (not_there rows cap s new.place at view gap))

-- where room is asked for a place that isn't there, a row fits
pub fits_in : (rows : List KeptRow) (cap : ℕ) (s : Stored) (p : Place) (at : ℕ) → stored_in rows cap ≡ s → IsGapFor rows p at → HasRoom (get s.tables p) s.room → length rows < cap
fits_in rows cap s p at view gap has = omega (arith, some, is)
  where
    is : (cap - length rows) ≡ s.room
    is = ap (λ x. x.room) view

    some : 1 ≤ s.room
    some = subst (λ o. HasRoom o s.room) (not_there rows cap s p at view gap) has

pub keeps_set : (rows : List KeptRow) (cap at : ℕ) (new : KeptRow) (p : Place) → Keeps rows cap → IsAt rows p at → new.place ≡ p → Keeps (set rows at new) cap
keeps_set rows cap at new p keeps is_at place = record { rising = rising_set rows at is_at.row new keeps.rising is_at.stands (is_at.is ∙ sym place); small = keeps.small }

pub keeps_insert : (rows : List KeptRow) (cap at : ℕ) (new : KeptRow) → Keeps rows cap → IsGapFor rows new.place at → Keeps (insert rows at new) cap
keeps_insert rows cap at new keeps gap = record { rising = rising_insert rows at new keeps.rising gap; small = keeps.small }

-- the rows and the room fill the space
pub filled : (rows : List KeptRow) (cap : ℕ) (s : Stored) → stored_in rows cap ≡ s → AreRising rows → length rows ≤ cap → s.room + how_many s.tables ≡ cap
filled rows cap s view rising le = omega (arith, room, many, le)
  where
    room : (cap - length rows) ≡ s.room
    room = ap (λ x. x.room) view

    many : how_many s.tables ≡ length rows
    many = ap (λ x. how_many x.tables) (sym view) ∙ ap length (entries-tables_in rows rising) ∙ length-map rows entry_of

-- an edit in the same space
pub same_space : (rows news : List KeptRow) (cap : ℕ) (s new : Stored) → stored_in rows cap ≡ s → AreRising rows → length rows ≤ cap → stored_in news cap ≡ new → AreRising news → length news ≤ cap
    → new.room + how_many new.tables ≡ s.room + how_many s.tables
same_space rows news cap s new view rising le view_new rising_new le_new = filled news cap new view_new rising_new le_new ∙ sym (filled rows cap s view rising le)

pub space_set : (rows : List KeptRow) (cap : ℕ) (s : Stored) (at : ℕ) (new : KeptRow) → stored_in rows cap ≡ s → AreRising rows → length rows ≤ cap → AreRising (set rows at new)
    → (cap - length (set rows at new)) + how_many (tables_in (set rows at new)) ≡ s.room + how_many s.tables
space_set rows cap s at new view rising le rising_new = same_space rows (set rows at new) cap s (stored_in (set rows at new) cap) view rising le refl rising_new (omega (arith, le, length-set rows at new))

pub space_insert : (rows news : List KeptRow) (cap cap_new : ℕ) (s : Stored) (at : ℕ) (new : KeptRow) → stored_in rows cap ≡ s → AreRising rows → length rows < cap → news ≡ insert rows at new → cap_new ≡ cap
    → at ≤ length rows → AreRising news → (cap_new - length news) + how_many (tables_in news) ≡ s.room + how_many s.tables
space_insert rows news cap cap_new s at new view rising lt is same within rising_new =
    ap (λ n. (n - length news) + how_many (tables_in news)) same
    ∙ same_space rows news cap s (stored_in news cap) view rising (omega (arith, lt)) refl rising_new (omega (arith, lt, ap length is, length-insert rows at new within))

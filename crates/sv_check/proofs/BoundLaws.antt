-- Numbers of rows stay within their bounds.
use Rattle.std.proofs.Common.{◌≡◌, ℕ, zero, suc, ◌+◌, ◌*◌, ◌<◌, ◌≤◌, ℤ, pos, Bool, true, false, List, [], ◌∷◌, ◌-◌, length, get_or, Option, Some, None, slice_get, refl, sym, ap, subst, ◌∙◌, arith}
use Rattle.std.proofs.lemmas.Int.{ints}
use Rattle.std.proofs.lemmas.Map.Views.{tells_apart}
use Rattle.std.specs.FinMap.{get, get-empty, empty}
use Rattle.sv_app.specs.declared.gots.Got.{Got}
use Rattle.sv_app.specs.declared.gots.Got.TheVariants.{Num, Text}
use Rattle.sv_app.specs.declared.places.Place.{Place}
use Rattle.sv_app.specs.declared.schemas.Column.{Column}
use Rattle.sv_app.specs.declared.schemas.Merge.{Merge}
use Rattle.sv_app.specs.declared.schemas.Merge.TheVariants.{NumDelta, Lww, Plain, Fresh}
use Rattle.sv_app.specs.Lookups.{holds_of}
use Rattle.sv_app.specs.Schema.{Declaration}
use Rattle.sv_app.specs.Tables.{place_cmp, Row}
use Rattle.sv_app.specs.Typing.{is_numdelta}
use Rattle.sv_app.proofs.PlaceLaws.{exact_places}
use Rattle.sv_effect.specs.declared.ops.Write.{Write}
use Rattle.sv_effect.specs.declared.ops.Write.TheVariants.{Delta, Set}
use Rattle.sv_effect.specs.declared.ops.RowEffect.{RowEffect}
use Rattle.sv_effect.specs.declared.left.LeftRow.{LeftRow}
use Rattle.sv_effect.specs.Agrees.{seen_in}
use Rattle.sv_effect.specs.Fits.{AreWrites, IsWrite, FitsSchema, AllFit}
use Rattle.sv_effect.specs.Overlays.{over, left_row, left_rows, FoundFits}
use Rattle.sv_effect.specs.RowsFit.{IsWord, NumberFits, GotFits, GotsFit, SeenFits}
use Rattle.sv_effect.specs.RunChanges.{written_got, with_write, with_writes}
use Rattle.sv_effect.specs.RunValues.{column}
use Rattle.sv_effect.specs.Words.{IsWordGot, AreWordGots}
use Rattle.sv_effect.proofs.OverlayLaws.{left_here, left_past, found_by}
use Rattle.sv_effect.proofs.WordLaws.{set_word}
use Rattle.sv_effect.specs.TablesOfCut.{is_place}
use Rattle.sv_effect.specs.Room.{HasRoom, IsWordWrite, AreWordWrites}
use Rattle.sv_effect.proofs.RoomLaws.{put_all, room_less, write_room}
use Rattle.sv_check.specs.Bounds.{is_counter, AreBounded, IsBounded, LeftBounded, ChangesBounded}

-- a write to a column of the table
word_kept : (table : Declaration) (w : ℕ × Write) (got : Got) → IsWrite table w.0 w.1 → IsWordWrite w.1 → is_counter (Some table) w.0 ≡ false → IsWordGot (written_got w.1 got)
word_kept table (c, Set v) got is word plain = set_word v word
word_kept table (c, Delta d) got is word plain = absurd (clash plain)
  where
    counts : is_counter (Some table) c ≡ true
    counts = ap (λ o. holds_of o (λ column. is_numdelta column.merge)) is.declared ∙ ap is_numdelta is.fits

    clash : is_counter (Some table) c ≡ false → ⊥
    clash e = let no : true ≡ false = sym counts ∙ e in cc

pub write_bounded : (table : Declaration) (k n : ℕ) (w : ℕ × Write) (row : List Got) → k < n → IsWrite table w.0 w.1 → IsWordWrite w.1 → AreBounded (Some table) n row → AreBounded (Some table) k (with_write w row)
write_bounded table k n w row less is word before = record {
  room = write_room k n w row less before.room word;
  words = put_all (λ c got. is_counter (Some table) c ≡ false → IsWordGot got) row w.0 (written_got w.1 (column row w.0)) before.words (λ plain. word_kept table w (column row w.0) is word plain);
}

pub writes_bounded : (table : Declaration) (k n : ℕ) (ws : List (ℕ × Write)) (row : List Got) → length ws + k ≤ n → AreWrites table ws → AreWordWrites ws → AreBounded (Some table) n row
    → AreBounded (Some table) k (with_writes ws row)
writes_bounded table k n [] row le are words before = record {
  room = record { each = λ c. room_less k n (column row c) (omega (arith, le)) (before.room.each c) };
  words = before.words;
}
writes_bounded table k n (w ∷ ws) row le are words before =
    writes_bounded table k (length ws + k) ws (with_write w row) (omega arith) are.1 words.1 (write_bounded table (length ws + k) n w row (omega (arith, le)) are.0 words.0 before)

-- more room is room
bounded_less : (table : Option Declaration) (k n : ℕ) (values : List Got) → k ≤ n → AreBounded table n values → AreBounded table k values
bounded_less table k n values le h = record {
  room = record { each = λ c. room_less k n (column values c) le (h.room.each c) };
  words = h.words;
}

pub left_less : (schema : List Declaration) (k n : ℕ) (left : List (Place × LeftRow)) → k ≤ n → LeftBounded schema n left → LeftBounded schema k left
left_less schema k n [] le h = tt
left_less schema k n (e ∷ left) le h = (bounded_less (slice_get schema e.0.table) k n e.1.values le h.0, left_less schema k n left le h.1)

-- words have room for all writes
words_room : (k : ℕ) (got : Got) → k ≤ 1024 → IsWordGot got → HasRoom k got
words_room k (Num n) le h = (omega (arith, ints, le, h.0, h.1), omega (arith, ints, le, h.0, h.1))
words_room k (Text text) le h = tt

pub words_bounded : (table : Option Declaration) (k : ℕ) (values : List Got) → k ≤ 1024 → AreWordGots values → AreBounded table k values
words_bounded table k values le h = record {
  room = record { each = λ c. words_room k (column values c) le (h.each c) };
  words = λ c plain. h.each c;
}

-- values that fit the columns of their table
number_room : (merge : Merge) (n : ℤ) (k : ℕ) → k ≤ 1024 → NumberFits merge n → HasRoom k (Num n)
number_room NumDelta n k le h = (omega (arith, ints, le, h.0, h.1), omega (arith, ints, le, h.0, h.1))
number_room Lww n k le h = words_room k (Num n) le h
number_room Plain n k le h = words_room k (Num n) le h
number_room Fresh n k le h = words_room k (Num n) le h

number_word : (merge : Merge) (n : ℤ) → is_numdelta merge ≡ false → NumberFits merge n → IsWord n
number_word NumDelta n plain h = absurd cc
number_word Lww n plain h = h
number_word Plain n plain h = h
number_word Fresh n plain h = h

fit_room : (c : Column) (got : Got) (k : ℕ) → k ≤ 1024 → GotFits c got → HasRoom k got
fit_room c (Num n) k le h = number_room c.merge n k le h.1
fit_room c (Text text) k le h = tt

fit_word : (c : Column) (got : Got) → is_numdelta c.merge ≡ false → GotFits c got → IsWordGot got
fit_word c (Num n) plain h = number_word c.merge n plain h.1
fit_word c (Text text) plain h = tt

zero_word : IsWordGot (Num (pos 0))
zero_word = (omega (arith, ints), omega (arith, ints))

fits_room : (columns : List Column) (values : List Got) (k : ℕ) → k ≤ 1024 → GotsFit columns values → (c : ℕ) → HasRoom k (column values c)
fits_room [] [] k le h c = words_room k (Num (pos 0)) le zero_word
fits_room [] (got ∷ values) k le h c = absurd h
fits_room (x ∷ columns) [] k le h c = absurd h
fits_room (x ∷ columns) (got ∷ values) k le h zero = fit_room x got k le h.0
fits_room (x ∷ columns) (got ∷ values) k le h (suc c) = fits_room columns values k le h.1 c

fits_words : (columns : List Column) (values : List Got) → GotsFit columns values → (c : ℕ) → holds_of (slice_get columns c) (λ x. is_numdelta x.merge) ≡ false → IsWordGot (column values c)
fits_words [] [] h c plain = zero_word
fits_words [] (got ∷ values) h c plain = absurd h
fits_words (x ∷ columns) [] h c plain = absurd h
fits_words (x ∷ columns) (got ∷ values) h zero plain = fit_word x got plain h.0
fits_words (x ∷ columns) (got ∷ values) h (suc c) plain = fits_words columns values h.1 c plain

-- what was told of a row
told_bounded : (schema : List Declaration) (k : ℕ) (place : Place) (found : Option Row) → k ≤ 1024 → SeenFits schema place (seen_in found) → IsBounded schema k place found
told_bounded schema k place None le h = tt
told_bounded schema k place (Some row) le h = subst (λ o. AreBounded o k row.values) (sym h.key.declared) (record {
  room = record { each = fits_room h.key.table.columns row.values k le h.fits };
  words = fits_words h.key.table.columns row.values h.fits;
})

-- a row that changes left
left_bounded : (schema : List Declaration) (k : ℕ) (left : List (Place × LeftRow)) (p : Place) → LeftBounded schema k left → IsBounded schema k p (get (over left empty) p)
left_bounded schema k [] p h = subst (IsBounded schema k p) (sym (get-empty place_cmp p)) tt
left_bounded schema k (e ∷ es) p h = by_place (is_place p e.0) refl (left_bounded schema k es p h.1)
  where
    by_place : (b : Bool) → is_place p e.0 ≡ b → IsBounded schema k p (get (over es empty) p) → IsBounded schema k p (get (over (e ∷ es) empty) p)
    by_place true same ih = subst (IsBounded schema k p) (sym (left_here e es empty p same)) (subst (λ q. IsBounded schema k q (Some (left_row e.1))) (sym (tells_apart exact_places p e.0 same)) h.0)
    by_place false other ih = subst (IsBounded schema k p) (sym (left_past e es empty p other)) ih

-- what was found at a place
pub found_bounded : (is_of : List Declaration → Type 0) (schema : List Declaration) (k : ℕ) (left : List (Place × LeftRow)) (p : Place) (found : Option Row) → k ≤ 1024 → FoundFits is_of left p found → is_of schema
    → LeftBounded schema k left → IsBounded schema k p found
found_bounded is_of schema k left p found le fit is h = found_by (IsBounded schema k p) is_of schema left p found fit is (left_bounded schema k left p h) (told_bounded schema k p found le)

-- the row after a change
pub some_bounded : (schema : List Declaration) (k : ℕ) (place : Place) (row : LeftRow) (kept : Option LeftRow) → kept ≡ Some row → IsBounded schema k place (left_rows kept) → IsBounded schema k place (Some (left_row row))
some_bounded schema k place row kept is h = subst (λ o. IsBounded schema k place (left_rows o)) is h

pub row_bounded : (schema : List Declaration) (e : RowEffect) (k : ℕ) (old new : List Got) → FitsSchema schema e → length e.writes.items ≤ 16 → AreWordWrites e.writes.items
    → new ≡ with_writes e.writes.items old → AreBounded (slice_get schema e.table) (16 + k) old → AreBounded (slice_get schema e.table) k new
row_bounded schema e k old new fits few words is h =
    subst (λ o. AreBounded o k new) (sym fits.declared) (subst (AreBounded (Some fits.table) k) (sym is)
    (writes_bounded fits.table k (16 + k) e.writes.items old (omega (arith, few)) fits.fits.writes words (subst (λ o. AreBounded o (16 + k) old) fits.declared h)))

-- one change more
pub change_bounded : (schema : List Declaration) (place : Place) (row : LeftRow) (left new : List (Place × LeftRow)) → length left < 64 → ChangesBounded schema left
    → ((k : ℕ) → k ≤ 1008 → LeftBounded schema (16 + k) left → IsBounded schema k place (Some (left_row row))) → new ≡ (place, row) ∷ left → ChangesBounded schema new
change_bounded schema place row left new less h made is = subst (ChangesBounded schema) (sym is)
    (made (16 * (64 - suc (length left))) le (subst (λ n. LeftBounded schema n left) same h), left_less schema (16 * (64 - suc (length left))) (16 * (64 - length left)) left more h)
  where
    le : 16 * (64 - suc (length left)) ≤ 1008
    le = omega arith

    more : 16 * (64 - suc (length left)) ≤ 16 * (64 - length left)
    more = omega arith

    same : 16 * (64 - length left) ≡ 16 + 16 * (64 - suc (length left))
    same = omega (arith, less)

pub fits_at : (schema : List Declaration) (es : List RowEffect) (i : ℕ) (d : RowEffect) → i < length es → AllFit schema es → FitsSchema schema (get_or es i d)
fits_at schema [] i d less fits = absurd (omega (arith, less))
fits_at schema (e ∷ es) zero d less fits = fits.0
fits_at schema (e ∷ es) (suc i) d less fits = fits_at schema es i d (omega (arith, less)) fits.1

pub ruleset starting = (words_bounded, some_bounded)

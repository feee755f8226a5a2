-- How great the counts of tables can become: each change adds a number of 64 bits to each at most. And how many rows are kept: each insert adds one at most.
use Rattle.std.proofs.Common.{◌≡◌, ℕ, zero, suc, ◌+◌, ◌*◌, ◌^◌, ◌≤◌, ◌==◌, ◌||◌, cond, if◌then◌else◌, Bool, true, false, List, [], ◌∷◌, length, Option, Some, None, slice_get, refl, sym, ap, subst, ◌∙◌, arith}
use Rattle.std.specs.Prelude.{ℤ, pos, neg_ℤ, ◌+ℤ◌, ◌≤ℤ◌, All, is_some, unwrap_or}
use Rattle.std.specs.FinMap.{get, get-insert, insert, len, len-empty, len-entries, len-insert}
use Rattle.std.specs.FinMap as fin
use Rattle.std.specs.Option.{option_map}
use Rattle.std.proofs.lemmas.Int.{ints}
use Rattle.std.proofs.lemmas.List.Elements.{All-head, All-tail}
use Rattle.sv_value.specs.declared.stamps.Stamp.{Stamp}
use Rattle.sv_value.specs.declared.values.Key.{Key}
use Rattle.sv_value.specs.declared.values.Val.{Val}
use Rattle.sv_value.specs.declared.values.Val.TheVariants.{Int, Text as IsText}
use Rattle.sv_app.specs.declared.acts.Act.{Act}
use Rattle.sv_app.specs.declared.acts.Act.TheVariants.{Insert, Fresh, Update, Remove}
use Rattle.sv_app.specs.declared.apps.Ident.{Ident}
use Rattle.sv_app.specs.declared.places.Place.{Place}
use Rattle.sv_app.specs.declared.schemas.Column.{Column}
use Rattle.sv_app.specs.declared.schemas.Merge.{Merge}
use Rattle.sv_app.specs.declared.schemas.Merge.TheVariants as merges
use Rattle.sv_app.specs.declared.schemas.Ty.{Ty}
use Rattle.sv_app.specs.declared.schemas.Ty.TheVariants as types
use Rattle.sv_app.specs.Accepted.{AcceptedSchema}
use Rattle.sv_app.specs.Schema.{Declaration}
use Rattle.sv_app.specs.Symbols.{is_key_column}
use Rattle.sv_app.specs.Tables.{place_cmp}
use Rattle.sv_app.proofs.PlaceLaws.{place_total}
use Rattle.sv_app.proofs.SchemaLaws.{key_plain}
use Rattle.sv_app.proofs.TestLaws.{test_same}
use Rattle.sv_effect.specs.declared.cells.Cell.{Cell}
use Rattle.sv_effect.specs.declared.cells.Cell.TheVariants.{Count, Last, Plain}
use Rattle.sv_effect.specs.declared.ops.Op.{Op}
use Rattle.sv_effect.specs.declared.ops.RowEffect.{RowEffect}
use Rattle.sv_effect.specs.declared.ops.Write.{Write}
use Rattle.sv_effect.specs.declared.ops.Write.TheVariants.{Delta, Set}
use Rattle.sv_effect.specs.Acts.{IsFound}
use Rattle.sv_effect.specs.Applied.{Change, place_of, changes_from, columns_of, zeros_of, zero_row_in, annotated_in, with_change_at, with_changes}
use Rattle.sv_effect.specs.BareTables.{how_many}
use Rattle.sv_effect.specs.Fits.{AllAbove, Ascending, columns_written, FitsSchema, AllFit, CountsFit}
use Rattle.sv_effect.specs.RowChange.{written, made, changed, cell_from, cells_from, zero_of, key_values, from_key, values_from, zero_values}
use Rattle.sv_effect.specs.StampedTables.{StampedRow, StampedTables}
use Rattle.sv_effect.specs.TablesOfCut.{is_place, delta_of, number_in, tables_by}
use Rattle.sv_effect.specs.Takes.{row_left, KeepsBounds, FindsRows, as_insert, inserts}
use Rattle.sv_effect.proofs.FitLaws.{get_each, made_past}
use Rattle.sv_core.specs.Counts.{IsShort, AddsShort}

-- between -n * 2^63 and n * 2^63
pub record IsWithin (n : ℕ) (z : ℤ) : Type 0 where
  pub low : neg_ℤ (pos (n * 2 ^ 63)) ≤ℤ z
  pub high : z ≤ℤ pos (n * 2 ^ 63)

-- each count of cells lies there, and each of the rows that tables keep
abbrev pub AreWithin : ℕ → List Cell → Type 0
AreWithin n cells = (c : ℕ) (z : ℤ) → slice_get cells c ≡ Some (Count z) → IsWithin n z

abbrev pub TablesWithin : ℕ → StampedTables → Type 0
TablesWithin n t = (p : Place) (row : StampedRow) → get t p ≡ Some row → AreWithin n row.cells

within_more : (m n : ℕ) (z : ℤ) → m ≤ n → IsWithin m z → IsWithin n z
within_more m n z le w = record { low = omega (arith, ints, le, w.low); high = omega (arith, ints, le, w.high) }

within-add : (n : ℕ) (z d : ℤ) → IsWithin n z → IsShort d → IsWithin (suc n) (z +ℤ d)
within-add n z d w s = record { low = omega (arith, ints, w.low, s.low); high = omega (arith, ints, w.high, s.high) }

pub one_within : (z : ℤ) → IsShort z → IsWithin 1 z
one_within z s = record { low = omega (arith, ints, s.low); high = omega (arith, ints, s.high) }

none_within : (n : ℕ) → IsWithin n (pos 0)
none_within n = record { low = omega (arith, ints); high = omega (arith, ints) }

-- so many numbers of 64 bits lie far within 2^100
fit_counts : (n : ℕ) (cells : List Cell) → n ≤ 65537 → AreWithin n cells → CountsFit cells
fit_counts n [] few w = tt
fit_counts n (Count z ∷ cells) few w =
    let here : IsWithin n z = w 0 z refl in
    ((omega (arith, ints, here.low, few), omega (arith, ints, here.high, few)), fit_counts n cells few (λ c. w (suc c)))
fit_counts n (Last v s ∷ cells) few w = fit_counts n cells few (λ c. w (suc c))
fit_counts n (Plain v ∷ cells) few w = fit_counts n cells few (λ c. w (suc c))

same_count : (x y : ℤ) → Count x ≡ Count y → x ≡ y
same_count x y e = cc

-- one write, and the writes of a change to a column, of which there is one at most
written_within : (n : ℕ) (s : Stamp) (w : Write) (cell : Cell) (z : ℤ) → IsShort (delta_of w) → ((k : ℤ) → cell ≡ Count k → IsWithin n k)
    → written s w cell ≡ Count z → IsWithin (suc n) z
written_within n s (Delta d) (Count k) z short before e = subst (IsWithin (suc n)) (same_count (k +ℤ d) z e) (within-add n k d (before k refl) short)
written_within n s (Delta d) (Last v t) z short before e = absurd cc
written_within n s (Delta d) (Plain v) z short before e = absurd cc
written_within n s (Set v) (Count k) z short before e = within_more n (suc n) z (omega arith) (before z e)
written_within n s (Set v) (Last old t) z short before e = absurd cc
written_within n s (Set v) (Plain old) z short before e = absurd cc

made_within : (n : ℕ) (s : Stamp) (c : ℕ) (ws : List (ℕ × Write)) (cell : Cell) (z : ℤ) → Ascending (columns_written ws) → All (λ w. IsShort (delta_of w.1)) ws
    → ((k : ℤ) → cell ≡ Count k → IsWithin n k) → made s c ws cell ≡ Count z → IsWithin (suc n) z
made_within n s c [] cell z order short before e = within_more n (suc n) z (omega arith) (before z e)
made_within n s c (w ∷ ws) cell z order short before e =
    by (w.0 == c) refl e (λ rest. made_within n s c ws cell z order.1 (All-tail (λ x. IsShort (delta_of x.1)) w ws short) before rest)
  where
    by : (b : Bool) → (w.0 == c) ≡ b → made s c ws (if b then written s w.1 cell else cell) ≡ Count z → (made s c ws cell ≡ Count z → IsWithin (suc n) z)
        → IsWithin (suc n) z
    by false is e ih = ih e
    by true is e ih = written_within n s w.1 cell z (All-head (λ x. IsShort (delta_of x.1)) w ws short) before
        (sym (made_past s c ws (written s w.1 cell) (subst (λ k. AllAbove k (columns_written ws)) (test_same w.0 c is) order.0)) ∙ e)

-- the row after a change
changed_within : (n : ℕ) (annotated : Bool) (s : Stamp) (e : RowEffect) (row : StampedRow) → AddsShort e → Ascending (columns_written e.writes.items)
    → AreWithin n row.cells
    → AreWithin (suc n) (changed annotated s e row).cells
changed_within n annotated s e row short order w c z at = by (slice_get row.cells c) refl (sym (get_each (λ k. made s k e.writes.items) 0 row.cells c) ∙ at)
  where
    by : (o : Option Cell) → slice_get row.cells c ≡ o → option_map (made s (0 + c) e.writes.items) o ≡ Some (Count z) → IsWithin (suc n) z
    by None is e' = absurd cc
    by (Some x) is e' =
        let same : made s (0 + c) e.writes.items x ≡ Count z = cc in
        made_within n s (0 + c) e.writes.items x z order short (λ k count. w c k (is ∙ ap (λ y. Some y) count)) same

-- a row that is made of values
cell_within : (n : ℕ) (merge : Merge) (v : Val) (z : ℤ) → (merge ≡ merges.NumDelta → IsWithin n (number_in v)) → cell_from merge v ≡ Count z → IsWithin n z
cell_within n merges.Plain v z given e = absurd cc
cell_within n merges.Fresh v z given e = absurd cc
cell_within n merges.Lww v z given e = absurd cc
cell_within n merges.NumDelta (Int k) z given e = subst (IsWithin n) (same_count k z e) (given refl)
cell_within n merges.NumDelta (IsText b) z given e = subst (IsWithin n) (same_count (pos 0) z e) (given refl)

pub from_within : (n : ℕ) (columns : List Column) (vs : List Val)
    → ((c : ℕ) (column : Column) (v : Val) → slice_get columns c ≡ Some column → slice_get vs c ≡ Some v → column.merge ≡ merges.NumDelta
    → IsWithin n (number_in v)) → AreWithin n (cells_from columns vs)
from_within n [] vs given c z at = absurd cc
from_within n (column ∷ columns) [] given c z at = absurd cc
from_within n (column ∷ columns) (v ∷ vs) given zero z at =
    let same : cell_from column.merge v ≡ Count z = cc in cell_within n column.merge v z (given 0 column v refl refl) same
from_within n (column ∷ columns) (v ∷ vs) given (suc c) z at = from_within n columns vs (λ d. given (suc d)) c z at

-- a row that isn't kept has zeros outside its key, and no count in it
outside_key : (names : List Ident) (vs : List Val) (c : ℕ) (v : Val) → is_key_column names c ≡ false → from_key names vs c v ≡ v
outside_key [] vs c v out = refl
outside_key (name ∷ names) [] c v out = refl
outside_key (name ∷ names) (x ∷ vs) c v out = by (name.num == c) refl (outside_key names vs c v)
  where
    by : (b : Bool) → (name.num == c) ≡ b → (is_key_column names c ≡ false → from_key names vs c v ≡ v) → (if b then x else from_key names vs c v) ≡ v
    by true is ih = absurd (let both : true ≡ false = sym (ap (λ b. b || is_key_column names c) is) ∙ out in cc)
    by false is ih = ih (sym (ap (λ b. b || is_key_column names c) is) ∙ out)

zero_at : (table : Declaration) (key : Key) (k : ℕ) (columns : List Column) (c : ℕ) (column : Column) (v : Val) → slice_get columns c ≡ Some column
    → slice_get (values_from table key k columns) c ≡ Some v → v ≡ from_key table.key (key_values key) (k + c) (zero_of column.ty)
zero_at table key k [] c column v declared at = absurd cc
zero_at table key k (x ∷ columns) zero column v declared at =
    let same : x ≡ column = cc in
    let here : from_key table.key (key_values key) k (zero_of x.ty) ≡ v = cc in
    let number : k ≡ (k + 0) = omega arith in
    sym here ∙ (λ i. from_key table.key (key_values key) (number i) (zero_of (same i).ty))
zero_at table key k (x ∷ columns) (suc c) column v declared at =
    let number : (suc k + c) ≡ (k + suc c) = omega arith in
    zero_at table key (suc k) columns c column v declared at ∙ (λ i. from_key table.key (key_values key) (number i) (zero_of column.ty))

no_number : (ty : Ty) → number_in (zero_of ty) ≡ pos 0
no_number types.Int = refl
no_number types.Text = refl
no_number types.Ints = refl

zeros_within : (schema : List Declaration) (number : ℕ) (table : Declaration) (key : Key) (n : ℕ) → AcceptedSchema schema → slice_get schema number ≡ Some table
    → AreWithin n (cells_from table.columns (zero_values table key))
zeros_within schema number table key n accepted declared = from_within n table.columns (zero_values table key) given
  where
    given : (c : ℕ) (column : Column) (v : Val) → slice_get table.columns c ≡ Some column → slice_get (zero_values table key) c ≡ Some v
        → column.merge ≡ merges.NumDelta → IsWithin n (number_in v)
    given c column v at is counter = by (is_key_column table.key c) refl
      where
        by : (b : Bool) → is_key_column table.key c ≡ b → IsWithin n (number_in v)
        by true inside = absurd (key_plain schema accepted number table c column declared at inside counter)
        by false outside =
            let number : (0 + c) ≡ c = omega arith in
            let zero_is : v ≡ zero_of column.ty =
            zero_at table key 0 table.columns c column v at is ∙ (λ i. from_key table.key (key_values key) (number i) (zero_of column.ty))
            ∙ outside_key table.key (key_values key) c (zero_of column.ty) outside in
            subst (IsWithin n) (sym (ap number_in zero_is ∙ no_number column.ty)) (none_within n)

abbrev change_of : Op → ℕ → RowEffect → Change
change_of op m e = record { value = e; stamp = record { time = op.time; site = op.site; place = m } }

-- the row that a change leaves
left_within : (schema : List Declaration) (op : Op) (m n : ℕ) (e : RowEffect) (t : StampedTables) → AcceptedSchema schema → FitsSchema schema e → AddsShort e
    → TablesWithin n t
    → AreWithin (suc n) (row_left schema (change_of op m e) t).cells
left_within schema op m n e t accepted fits short w =
    changed_within n (annotated_in schema (place_of e)) (change_of op m e).stamp e (unwrap_or (get t (place_of e)) (zero_row_in schema (place_of e))) short
    fits.fits.order (start (get t (place_of e)) refl)
  where
    start : (o : Option StampedRow) → get t (place_of e) ≡ o → AreWithin n (unwrap_or o (zero_row_in schema (place_of e))).cells
    start None is =
        subst (λ d. AreWithin n (cells_from (columns_of d) (zeros_of d e.key))) (sym fits.declared)
        (zeros_within schema e.table fits.table e.key n accepted fits.declared)
    start (Some row) is = w (place_of e) row is

pub same_row : (a b : StampedRow) → Some a ≡ Some b → a ≡ b
same_row a b e = cc

change_within : (schema : List Declaration) (op : Op) (m n : ℕ) (e : RowEffect) (t : StampedTables) → AcceptedSchema schema → FitsSchema schema e → AddsShort e
    → TablesWithin n t
    → TablesWithin (suc n) (with_change_at schema (place_of e) (change_of op m e) t)
change_within schema op m n e t accepted fits short w q row is = by (is_place q (place_of e)) (sym (get-insert place_total t (place_of e) left q) ∙ is)
  where
    left : StampedRow
    left = row_left schema (change_of op m e) t

    by : (b : Bool) → cond b (Some left) (get t q) ≡ Some row → AreWithin (suc n) row.cells
    by true at = subst (λ r. AreWithin (suc n) r.cells) (same_row left row at) (left_within schema op m n e t accepted fits short w)
    by false at = λ c z count. within_more n (suc n) z (omega arith) (w q row at c z count)

-- all changes of an operation: each leaves counts in their bounds
pub changes_within : (schema : List Declaration) (op : Op) (m n : ℕ) (es : List RowEffect) (t : StampedTables) → AcceptedSchema schema → AllFit schema es
    → All AddsShort es → TablesWithin n t
    → TablesWithin (n + length es) (with_changes schema (changes_from op m es) t)
changes_within schema op m n [] t accepted fits short w = let number : n ≡ (n + 0) = omega arith in subst (λ k. TablesWithin k t) number w
changes_within schema op m n (e ∷ es) t accepted fits short w =
    let number : (suc n + length es) ≡ (n + suc (length es)) = omega arith in
    subst (λ k. TablesWithin k (with_changes schema (changes_from op m (e ∷ es)) t)) number
    (changes_within schema op (suc m) (suc n) es (with_change_at schema (place_of e) (change_of op m e) t) accepted fits.1 (All-tail AddsShort e es short)
    (change_within schema op m n e t accepted fits.0 (All-head AddsShort e es short) w))

pub bounds_kept : (schema : List Declaration) (op : Op) (m n : ℕ) (es : List RowEffect) (t : StampedTables) → AcceptedSchema schema → AllFit schema es
    → All AddsShort es → TablesWithin n t
    → n + length es ≤ 65537 → KeepsBounds schema (changes_from op m es) t
bounds_kept schema op m n [] t accepted fits short w few = tt
bounds_kept schema op m n (e ∷ es) t accepted fits short w few = (
  fit_counts (suc n) (row_left schema (change_of op m e) t).cells (omega (arith, few))
      (left_within schema op m n e t accepted fits.0 (All-head AddsShort e es short) w),
  bounds_kept schema op (suc m) (suc n) es (with_change_at schema (place_of e) (change_of op m e) t) accepted fits.1 (All-tail AddsShort e es short)
      (change_within schema op m n e t accepted fits.0 (All-head AddsShort e es short) w) (omega (arith, few)),
)

-- how many rows are kept with one more
pub inserted_many : (t : StampedTables) (p : Place) (row : StampedRow) → how_many (insert t p row) ≡ cond (is_some (get t p)) (how_many t) (how_many t + 1)
inserted_many t p row =
    sym (len-entries (insert t p row)) ∙ len-insert place_total t p row ∙ (λ i. cond (is_some (get t p)) (len-entries t i) (len-entries t i + 1))

found_many : (act : Act) (o : Option StampedRow) (n : ℕ) → IsFound act o → cond (is_some o) n (n + 1) ≤ n + as_insert act
found_many act (Some row) n found = omega arith
found_many Insert None n found = omega arith
found_many Fresh None n found = omega arith
found_many Update None n found = absurd found
found_many Remove None n found = absurd found

pub changes_many : (schema : List Declaration) (op : Op) (m : ℕ) (es : List RowEffect) (t : StampedTables) → FindsRows schema (changes_from op m es) t
    → how_many (with_changes schema (changes_from op m es) t) ≤ how_many t + inserts es
changes_many schema op m [] t found = omega arith
changes_many schema op m (e ∷ es) t found =
    let after : StampedTables = with_change_at schema (place_of e) (change_of op m e) t in
    let rest : how_many (with_changes schema (changes_from op (suc m) es) after) ≤ how_many after + inserts es =
    changes_many schema op (suc m) es after found.1 in
    let one : how_many after ≡ cond (is_some (get t (place_of e))) (how_many t) (how_many t + 1) =
    inserted_many t (place_of e) (row_left schema (change_of op m e) t) in
    let few : cond (is_some (get t (place_of e))) (how_many t) (how_many t + 1) ≤ how_many t + as_insert e.act =
    found_many e.act (get t (place_of e)) (how_many t) found.0 in
    omega (arith, rest, one, few)

-- and of places
at_most_more : (b : Bool) (n : ℕ) → cond b n (n + 1) ≤ suc n
at_most_more true n = omega arith
at_most_more false n = omega arith

pub places_many : (ps : List Place) (row : Place → StampedRow) → how_many (tables_by ps row) ≤ length ps
places_many [] row =
    let nothing : StampedTables = fin.empty in
    let none : len nothing ≡ 0 = len-empty place_cmp StampedRow in
    let same : len nothing ≡ how_many nothing = len-entries nothing in
    omega (arith, none, same)
places_many (p ∷ ps) row =
    let t : StampedTables = tables_by ps row in
    let ih : how_many t ≤ length ps = places_many ps row in
    let one : how_many (insert t p (row p)) ≡ cond (is_some (get t p)) (how_many t) (how_many t + 1) = inserted_many t p (row p) in
    let few : cond (is_some (get t p)) (how_many t) (how_many t + 1) ≤ suc (how_many t) = at_most_more (is_some (get t p)) (how_many t) in
    omega (arith, ih, one, few)

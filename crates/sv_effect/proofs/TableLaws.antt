-- The tables of a cut with one operation more are that operation applied to the tables of the cut.
use Rattle.std.proofs.Common.{◌≡◌, ◌⊎◌, inl, inr, ℕ, zero, suc, ◌<◌, ◌||◌, if◌then◌else◌, cond, Bool, true, false, List, [], ◌∷◌, ◌++◌, take, Option, Some, None, slice_get, refl, sym, ap, ◌∙◌, arith}
use Rattle.std.specs.Prelude.{ℤ, pos, map, unwrap_or}
use Rattle.std.proofs.lemmas.Int.{ints}
use Rattle.std.proofs.lemmas.Bool.{cases_eq}
use Rattle.std.proofs.lemmas.List.{append-nil, map-append}
use Rattle.std.proofs.lemmas.List.Concat.{flat_map-append}
use Rattle.std.proofs.lemmas.Map.Views.{tells_apart}
use Rattle.std.specs.FinMap.{get, get-insert, get-empty, same_map}
use Rattle.sv_value.specs.Cuts.{more}
use Rattle.sv_value.specs.declared.values.Val.{Val}
use Rattle.sv_value.specs.declared.values.Val.TheVariants.{Int, Text}
use Rattle.sv_app.specs.declared.places.Place.{Place}
use Rattle.sv_app.specs.declared.requests.InitRow.{InitRow}
use Rattle.sv_app.specs.declared.schemas.Column.{Column}
use Rattle.sv_app.specs.declared.schemas.Merge.{Merge}
use Rattle.sv_app.specs.declared.schemas.Merge.TheVariants as merges
use Rattle.sv_app.specs.Schema.{Declaration}
use Rattle.sv_app.specs.Tables.{place_cmp}
use Rattle.sv_app.proofs.PlaceLaws.{place_total, exact_places}
use Rattle.sv_effect.specs.declared.cells.Cell.TheVariants.{Count}
use Rattle.sv_effect.specs.declared.ops.Write.{Write}
use Rattle.sv_effect.specs.declared.ops.Op.{Op}
use Rattle.sv_effect.specs.StampedTables.{Stamped, StampedRow, StampedTables}
use Rattle.sv_effect.specs.RowChange.{last_cell, cell_from, cells_from, row_from}
use Rattle.sv_effect.specs.Applied.{Change, place_of, changes_of, columns_in, annotated_in, zeros_in, zero_row_in, changed_at, with_change_at, with_changes, applied}
use Rattle.sv_effect.specs.Threatened.{any_threatened}
use Rattle.sv_effect.specs.Cut.{Cut, Medium, held}
use Rattle.sv_effect.specs.TablesOfCut.{Family, is_place, at_place, changes_by, changes_at, writes_to, sum_of, sets_of, turns_of, sum_to, all_to, greatest, last, started, number_in, plain_cell, cell_by, cells_by, mark_by, row_by, init_place, initial, values_or, is_there, row_at, named_by, tables_by, tables_held, tables_of}
use Rattle.sv_effect.specs.Laws.{AllAllowed, Differ, BluesMerge}
use Rattle.sv_effect.proofs.Members.{Grown}
use Rattle.sv_effect.proofs.RowLaws.{changed_all, Orderly, Merging, row_more}
use Rattle.sv_app.proofs.TestLaws.{same_test, other_test, or_left, or_right, or_assoc}
use Rattle.sv_effect.proofs.PlaceListLaws.{among, among-append, names, at_place-none, among-more, among-none}
use Rattle.sv_effect.proofs.MediumLaws.{orderly, grown_changes, merging}

pub get-tables_by : (ps : List Place) (row : Place → StampedRow) (q : Place) → get (tables_by ps row) q ≡ (if among q ps then Some (row q) else None)
get-tables_by [] row q = get-empty place_cmp q
get-tables_by (p ∷ ps) row q = get-insert place_total (tables_by ps row) p (row p) q ∙ split (is_place q p) refl (get-tables_by ps row q)
  where
    split : (b : Bool) → is_place q p ≡ b → get (tables_by ps row) q ≡ (if among q ps then Some (row q) else None)
        → cond b (Some (row p)) (get (tables_by ps row) q) ≡ (if b || among q ps then Some (row q) else None)
    split true is ih = λ i. Some (row (sym (tells_apart exact_places q p is) i))
    split false is ih = ih

-- the row of a place after changes, in order
abbrev pub row_after : List Declaration → Place → List Change → StampedRow → StampedRow
row_after schema q cs row = changed_all (annotated_in schema q) (at_place q cs) row

-- what stands at a place after changes
abbrev pub after : List Declaration → Place → List Change → Option StampedRow → Option StampedRow
after schema q cs o = if names q cs then Some (row_after schema q cs (unwrap_or o (zero_row_in schema q))) else o

after-some : (schema : List Declaration) (q : Place) (cs : List Change) (row : StampedRow) → after schema q cs (Some row) ≡ Some (row_after schema q cs row)
after-some schema q cs row = split (names q cs) refl
  where
    split : (b : Bool) → names q cs ≡ b → (if b then Some (row_after schema q cs row) else Some row) ≡ Some (row_after schema q cs row)
    split true is = refl
    split false is = ap (λ l. Some (changed_all (annotated_in schema q) l row)) (sym (at_place-none q cs is))

-- one change, and then the others
after-change : (schema : List Declaration) (q : Place) (c : Change) (cs : List Change) (o : Option StampedRow) (b : Bool) → is_place q (place_of c.value) ≡ b
    → after schema q cs (cond b (Some (changed_at schema q c (unwrap_or o (zero_row_in schema q)))) o) ≡ after schema q (c ∷ cs) o
after-change schema q c cs o true is = after-some schema q cs (changed_at schema q c (unwrap_or o (zero_row_in schema q))) ∙ rw is refl
after-change schema q c cs o false is = rw is refl

pub get-with_changes : (schema : List Declaration) (cs : List Change) (t : StampedTables) (q : Place) → get (with_changes schema cs t) q ≡ after schema q cs (get t q)
get-with_changes schema [] t q = refl
get-with_changes schema (c ∷ cs) t q =
    get-with_changes schema cs (with_change_at schema (place_of c.value) c t) q
    ∙ ap (after schema q cs) (get-insert place_total t (place_of c.value) (changed_at schema (place_of c.value) c (unwrap_or (get t (place_of c.value)) (zero_row_in schema (place_of c.value)))) q)
    ∙ split (is_place q (place_of c.value)) refl
  where
    split : (b : Bool) → is_place q (place_of c.value) ≡ b
        → after schema q cs (cond b (Some (changed_at schema (place_of c.value) c (unwrap_or (get t (place_of c.value)) (zero_row_in schema (place_of c.value))))) (get t q)) ≡ after schema q (c ∷ cs) (get t q)
    split true is = ap (λ p. after schema q cs (Some (changed_at schema p c (unwrap_or (get t p) (zero_row_in schema p))))) (sym (tells_apart exact_places q (place_of c.value) is)) ∙ after-change schema q c cs (get t q) true is
    split false is = after-change schema q c cs (get t q) false is

-- a family in which nothing stands below n
abbrev Bare : {A : Type 0} → Family A → ℕ → Type 0
Bare f n = (o : ℕ) → o < n → f o ≡ []

all_to-bare : {A : Type 0} (f : Family A) (n : ℕ) → Bare f n → all_to f n ≡ []
unfolding all_to
all_to-bare f zero bare = refl
all_to-bare f (suc n) bare = λ i. all_to-bare f n (λ o lt. bare o (omega (arith, lt))) i ++ bare n (omega arith) i

sum_to-bare : (f : ℕ → ℤ) (n : ℕ) → ((o : ℕ) → o < n → f o ≡ pos 0) → sum_to f n ≡ pos 0
unfolding sum_to
sum_to-bare f zero bare = refl
sum_to-bare f (suc n) bare =
    let a : sum_to f n ≡ pos 0 = sum_to-bare f n (λ o lt. bare o (omega (arith, lt))) in
    let b : f n ≡ pos 0 = bare n (omega arith) in
    omega (arith, ints, a, b)

cell-bare : (merge : Merge) (v : Val) (ws : Family (Stamped Write)) → Bare ws 9 → cell_by merge v ws ≡ cell_from merge v
cell-bare merges.Plain v ws bare = ap (λ l. plain_cell (last (started v) (sets_of l))) (bare 0 (omega arith))
cell-bare merges.Fresh v ws bare = ap (λ l. plain_cell (last (started v) (sets_of l))) (bare 0 (omega arith))
cell-bare merges.Lww v ws bare = ap (λ l. last_cell (greatest (started v) l)) (all_to-bare (λ o. sets_of (ws o)) 9 (λ o lt. ap sets_of (bare o lt)))
cell-bare merges.NumDelta v ws bare = ap (λ k. Count k) (omega (arith, ints, none)) ∙ start v
  where
    none : sum_to (λ o. sum_of (ws o)) 9 ≡ pos 0
    none = sum_to-bare (λ o. sum_of (ws o)) 9 (λ o lt. ap sum_of (bare o lt))

    start : (x : Val) → Count (number_in x) ≡ cell_from merges.NumDelta x
    start (Int n) = refl
    start (Text b) = refl

cells-bare : (number : ℕ) (columns : List Column) (vs : List Val) (cs : Family Change) → Bare cs 9 → cells_by number columns vs cs ≡ cells_from columns vs
cells-bare number [] [] cs bare = refl
cells-bare number [] (v ∷ vs) cs bare = refl
cells-bare number (column ∷ columns) [] cs bare = refl
cells-bare number (column ∷ columns) (v ∷ vs) cs bare = λ i.
    cell-bare column.merge v (λ o. writes_to number (cs o)) (λ o lt. ap (writes_to number) (bare o lt)) i ∷ cells-bare (suc number) columns vs cs bare i

mark-bare : (annotated present : Bool) (ts : Family (Stamped Bool)) → Bare ts 9 → mark_by annotated present ts ≡ started present
mark-bare true present ts bare = ap (greatest (started present)) (all_to-bare ts 9 bare)
mark-bare false present ts bare = ap (last (started present)) (bare 0 (omega arith))

pub row-bare : (annotated : Bool) (columns : List Column) (vs : List Val) (present : Bool) (cs : Family Change) → Bare cs 9 → row_by annotated columns vs present cs ≡ row_from columns vs present
row-bare annotated columns vs present cs bare = λ i. record {
  cells = cells-bare 0 columns vs cs bare i;
  mark = mark-bare annotated present (λ o. turns_of (cs o)) (λ o lt. ap turns_of (bare o lt)) i;
}

initial-none : (q : Place) (init : List InitRow) → among q (map init_place init) ≡ false → initial q init ≡ None
initial-none q [] none_named = refl
initial-none q (row ∷ init) none_named =
    rw (or_left (is_place q (init_place row)) (among q (map init_place init)) none_named) (initial-none q init (or_right (is_place q (init_place row)) (among q (map init_place init)) none_named))

-- one held operation more
pub tables_held-one : (schema : List Declaration) (init : List InitRow) (m k : Medium) (o : ℕ) (op : Op) → o < 9 → k o ≡ m o ++ op ∷ [] → ((p : ℕ) → (p ≡ o → ⊥) → k p ≡ m p)
    → ((q : Place) → Orderly (all_to (changes_at q k) 9)) → (o ≡ 0) ⊎ (any_threatened schema op.effects ≡ false)
    → tables_held schema init k ≡ applied schema op (tables_held schema init m)
tables_held-one schema init m k o op small here others order blue = same_map place_total exact_places (tables_held schema init k) (applied schema op (tables_held schema init m)) each
  where
    cs : List Change
    cs = changes_of op

    places : Medium → List Place
    places f = map init_place init ++ all_to (λ p. named_by (f p)) 9

    grown_names : Grown (λ p. named_by (m p)) (λ p. named_by (k p)) o (map (λ c. place_of c.value) (changes_of op))
    grown_names = record {
      here = ap named_by here
          ∙ ap (map (λ c. place_of c.value)) (flat_map-append changes_of (m o) (op ∷ []) ∙ ap (λ l. changes_by (m o) ++ l) (append-nil (changes_of op)))
          ∙ map-append (λ c. place_of c.value) (changes_by (m o)) (changes_of op);
      others = λ p apart. ap named_by (others p apart);
    }

    kept : (q : Place) → among q (map init_place init ++ all_to (λ p. named_by (k p)) 9) ≡ (among q (map init_place init ++ all_to (λ p. named_by (m p)) 9) || names q (changes_of op))
    kept q =
        among-append q (map init_place init) (all_to (λ p. named_by (k p)) 9)
        ∙ ap (λ b. among q (map init_place init) || b) (among-more q (λ p. named_by (m p)) (λ p. named_by (k p)) 9 o (map (λ c. place_of c.value) (changes_of op)) small grown_names)
        ∙ or_assoc (among q (map init_place init)) (among q (all_to (λ p. named_by (m p)) 9)) (names q (changes_of op))
        ∙ ap (λ b. b || names q (changes_of op)) (sym (among-append q (map init_place init) (all_to (λ p. named_by (m p)) 9)))

    merges_at : (q : Place) → (o ≡ 0) ⊎ (any_threatened schema op.effects ≡ false) → (o ≡ 0) ⊎ Merging (annotated_in schema q) (columns_in schema q) (at_place q (changes_of op))
    merges_at q (inl e) = inl e
    merges_at q (inr safe) = inr (merging schema q op 0 op.effects safe)

    row : (q : Place) → row_at schema init k q ≡ row_after schema q (changes_of op) (row_at schema init m q)
    row q = row_more (annotated_in schema q) (columns_in schema q) (values_or (zeros_in schema q) (initial q init)) (is_there (initial q init)) (changes_at q m) (changes_at q k) o (at_place q (changes_of op))
        (grown_changes q m k o op here others) small (order q) (merges_at q blue)

    fresh : (q : Place) → among q (map init_place init ++ all_to (λ p. named_by (m p)) 9) ≡ false → row_at schema init m q ≡ zero_row_in schema q
    fresh q none_named =
        (λ i. row_by (annotated_in schema q) (columns_in schema q) (values_or (zeros_in schema q) (no_row i)) (is_there (no_row i)) (changes_at q m))
        ∙ row-bare (annotated_in schema q) (columns_in schema q) (zeros_in schema q) false (changes_at q m)
        (λ p lt. at_place-none q (changes_by (m p)) (among-none q (λ x. named_by (m x)) 9 p lt (or_right (among q (map init_place init)) (among q (all_to (λ x. named_by (m x)) 9)) both)))
      where
        both : (among q (map init_place init) || among q (all_to (λ x. named_by (m x)) 9)) ≡ false
        both = sym (among-append q (map init_place init) (all_to (λ x. named_by (m x)) 9)) ∙ none_named

        no_row : initial q init ≡ None
        no_row = initial-none q init (or_left (among q (map init_place init)) (among q (all_to (λ x. named_by (m x)) 9)) both)

    each : (q : Place) → get (tables_held schema init k) q ≡ get (applied schema op (tables_held schema init m)) q
    each q =
        get-tables_by (map init_place init ++ all_to (λ p. named_by (k p)) 9) (row_at schema init k) q
        ∙ (λ i. if kept q i then Some (row q i) else None)
        ∙ split (among q (map init_place init ++ all_to (λ p. named_by (m p)) 9)) refl
        ∙ ap (after schema q (changes_of op)) (sym (get-tables_by (map init_place init ++ all_to (λ p. named_by (m p)) 9) (row_at schema init m) q))
        ∙ sym (get-with_changes schema (changes_of op) (tables_held schema init m) q)
      where
        split : (b : Bool) → among q (map init_place init ++ all_to (λ p. named_by (m p)) 9) ≡ b
            → ◌≡◌ {A = Option StampedRow} (if b || names q (changes_of op) then Some (row_after schema q (changes_of op) (row_at schema init m q)) else None) (after schema q (changes_of op) (if b then Some (row_at schema init m q) else None))
        split true is = sym (after-some schema q (changes_of op) (row_at schema init m q))
        split false is = ap (λ r. if names q (changes_of op) then Some (row_after schema q (changes_of op) r) else None) (fresh q is)

take-more : (ops : List Op) (n : ℕ) (op : Op) → slice_get ops n ≡ Some op → take (suc n) ops ≡ take n ops ++ op ∷ []
take-more [] n op e = absurd cc
take-more (x ∷ ops) zero op e = let same : x ≡ op = cc in ap (λ y. y ∷ []) same
take-more (x ∷ ops) (suc n) op e = ap (λ l. x ∷ l) (take-more ops n op e)

-- the next operation of an origin is applied to the tables of the cut
pub tables_of-more : (schema : List Declaration) (init : List InitRow) (m : Medium) (cut : Cut) (o : ℕ) (op : Op) → AllAllowed schema m → Differ m → BluesMerge schema m
    → o < 9 → slice_get (m o) (cut o) ≡ Some op → tables_of schema init m (more cut o) ≡ applied schema op (tables_of schema init m cut)
tables_of-more schema init m cut o op allowed differ blues small next = tables_held-one schema init (held m cut) (held m (more cut o)) o op small
    ((λ i. take (here i) (m o)) ∙ take-more (m o) (cut o) op next)
    (λ p apart. (λ i. take (there p apart i) (m p)))
    (λ q. orderly schema m (more cut o) q allowed differ)
    (blue (cases_eq o 0))
  where
    here : more cut o o ≡ suc (cut o)
    here = rw (same_test o o refl) refl

    there : (p : ℕ) → (p ≡ o → ⊥) → more cut o p ≡ cut p
    there p apart = rw (other_test p o apart) refl

    blue : (o ≡ 0) ⊎ (o ≡ 0 → ⊥) → (o ≡ 0) ⊎ (any_threatened schema op.effects ≡ false)
    blue (inl e) = inl e
    blue (inr apart) = inr (blues o (cut o) op (omega (arith, apart)) next)

-- The rows at the slots of an index, and what an edit of the index or of a row does to them.
use Rattle.std.proofs.Common.{◌≡◌, ℕ, zero, suc, ◌<◌, ◌≤◌, List, [], ◌∷◌, ◌++◌, length, get_or, set, Some, slice_get, refl, sym, ap, ◌∙◌, arith}
use Rattle.std.specs.List.{insert}
use Rattle.std.proofs.lemmas.Option.{slice_get-get_or}
use Rattle.sv_app.proofs.ListLaws.{front_at}
use Rattle.sv_store.specs.declared.rows.KeptRow.{KeptRow}
use Rattle.sv_pool.specs.declared.regions.Slot.{Slot}
use Rattle.sv_pool.specs.Placed.{IsGiven}
use Rattle.sv_pool.specs.Pooled.{AreGiven, AreApart, with_kept, kept_in}

pub same_item : {A : Type 0} (a b : A) → Some a ≡ Some b → a ≡ b
same_item a b e = cc

-- a value at a number
record Has {A : Type 0} (xs : List A) (at : ℕ) : Type 0 where
  item : A
  stands : slice_get xs at ≡ Some item

has_at : {A : Type 0} (xs : List A) (at : ℕ) → at < length xs → Has xs at
has_at [] at lt = absurd (omega (arith, lt))
has_at (x ∷ xs) zero lt = record { item = x; stands = refl }
has_at (x ∷ xs) (suc at) lt = let rest = has_at xs at (omega (arith, lt)) in record { item = rest.item; stands = rest.stands }

first_has : (slot : Slot) (index : List Slot) (rows : List KeptRow) → AreGiven (slot ∷ index) rows → Has rows slot.number
first_has slot index rows given = has_at rows slot.number (given.each 0 slot refl)

rest_given : (slot : Slot) (index : List Slot) (rows : List KeptRow) → AreGiven (slot ∷ index) rows → AreGiven index rows
rest_given slot index rows given = record { each = λ at s get. given.each (suc at) s get }

rest_apart : (slot : Slot) (index : List Slot) → AreApart (slot ∷ index) → AreApart index
rest_apart slot index apart = record { each = λ i j a b lt at_i at_j. apart.each (suc i) (suc j) a b (omega (arith, lt)) at_i at_j }

pub given_at : (index : List Slot) (rows : List KeptRow) (at : ℕ) (d : Slot) → AreGiven index rows → at < length index
    → IsGiven (get_or index at d) rows
given_at index rows at d given lt = given.each at (get_or index at d) (slice_get-get_or index at d lt)

pub length-kept_in : (index : List Slot) (rows : List KeptRow) → AreGiven index rows → length (kept_in index rows) ≡ length index
length-kept_in [] rows given = refl
length-kept_in (slot ∷ index) rows given =
    ap (λ o. length (with_kept o (kept_in index rows))) (first_has slot index rows given).stands
    ∙ ap suc (length-kept_in index rows (rest_given slot index rows given))

-- the row at a slot of the index
pub get-kept_in : (index : List Slot) (rows : List KeptRow) (at : ℕ) (slot : Slot) → AreGiven index rows → slice_get index at ≡ Some slot
    → slice_get (kept_in index rows) at ≡ slice_get rows slot.number
get-kept_in [] rows at slot given get = absurd cc
get-kept_in (s ∷ index) rows zero slot given get =
    let has = first_has s index rows given in
    ap (λ o. slice_get (with_kept o (kept_in index rows)) 0) has.stands ∙ sym has.stands ∙ ap (λ x. slice_get rows x.number) (same_item s slot get)
get-kept_in (s ∷ index) rows (suc at) slot given get =
    ap (λ o. slice_get (with_kept o (kept_in index rows)) (suc at)) (first_has s index rows given).stands
    ∙ get-kept_in index rows at slot (rest_given s index rows given) get

-- a row that was read at a slot of the index
pub read_kept : (index : List Slot) (rows : List KeptRow) (at : ℕ) (d : Slot) (row : KeptRow) → AreGiven index rows → at < length index
    → slice_get rows (get_or index at d).number ≡ Some row → slice_get (kept_in index rows) at ≡ Some row
read_kept index rows at d row given lt read = get-kept_in index rows at (get_or index at d) given (slice_get-get_or index at d lt) ∙ read

-- a further row in the region
kept_grown : (index : List Slot) (rows : List KeptRow) (row : KeptRow) → AreGiven index rows → kept_in index (rows ++ row ∷ []) ≡ kept_in index rows
kept_grown [] rows row given = refl
kept_grown (slot ∷ index) rows row given =
    let has = first_has slot index rows given in
    let same : slice_get (rows ++ row ∷ []) slot.number ≡ slice_get rows slot.number =
    front_at rows (row ∷ []) slot.number has.item has.stands ∙ sym has.stands in
    (λ i. with_kept (same i) (kept_grown index rows row (rest_given slot index rows given) i))

get_last : {A : Type 0} (xs : List A) (x : A) → slice_get (xs ++ x ∷ []) (length xs) ≡ Some x
get_last [] x = refl
get_last (y ∷ xs) x = get_last xs x

-- a further row in the region, whose slot is put into the index
pub kept_insert : (index : List Slot) (rows : List KeptRow) (at : ℕ) (row : KeptRow) → AreGiven index rows → at ≤ length index
    → kept_in (insert index at (record { number = length rows })) (rows ++ row ∷ []) ≡ insert (kept_in index rows) at row
kept_insert index rows zero row given within = (λ i. with_kept (get_last rows row i) (kept_grown index rows row given i))
kept_insert [] rows (suc at) row given within = absurd (omega (arith, within))
kept_insert (slot ∷ index) rows (suc at) row given within =
    let has = first_has slot index rows given in
    let rest = kept_insert index rows at row (rest_given slot index rows given) (omega (arith, within)) in
    (λ i. with_kept (front_at rows (row ∷ []) slot.number has.item has.stands i) (rest i))
    ∙ ap (λ o. insert (with_kept o (kept_in index rows)) (suc at) row) (sym has.stands)

get_set_same : {A : Type 0} (xs : List A) (at : ℕ) (new : A) → at < length xs → slice_get (set xs at new) at ≡ Some new
get_set_same [] at new lt = absurd (omega (arith, lt))
get_set_same (x ∷ xs) zero new lt = refl
get_set_same (x ∷ xs) (suc at) new lt = get_set_same xs at new (omega (arith, lt))

get_set_other : {A : Type 0} (xs : List A) (at : ℕ) (new : A) (i : ℕ) → (i ≡ at → ⊥) → slice_get (set xs at new) i ≡ slice_get xs i
get_set_other [] at new i apart = refl
get_set_other (x ∷ xs) zero new zero apart = absurd (apart refl)
get_set_other (x ∷ xs) zero new (suc i) apart = refl
get_set_other (x ∷ xs) (suc at) new zero apart = refl
get_set_other (x ∷ xs) (suc at) new (suc i) apart = get_set_other xs at new i (λ e. apart (ap suc e))

-- a row written over whose slot isn't in the index
kept_other : (index : List Slot) (rows : List KeptRow) (number : ℕ) (new : KeptRow)
    → ((i : ℕ) (slot : Slot) → slice_get index i ≡ Some slot → slot.number ≡ number → ⊥)
    → kept_in index (set rows number new) ≡ kept_in index rows
kept_other [] rows number new apart = refl
kept_other (slot ∷ index) rows number new apart =
    (λ i. with_kept (get_set_other rows number new slot.number (apart 0 slot refl) i) (kept_other index rows number new (λ j s get. apart (suc j) s get) i))

-- a row written over at a slot of the index
pub kept_set : (index : List Slot) (rows : List KeptRow) (at : ℕ) (slot : Slot) (new : KeptRow) → AreGiven index rows → AreApart index
    → slice_get index at ≡ Some slot
    → kept_in index (set rows slot.number new) ≡ set (kept_in index rows) at new
kept_set [] rows at slot new given apart get = absurd cc
kept_set (s ∷ index) rows zero slot new given apart get =
    let has = first_has s index rows given in
    let same : s ≡ slot = same_item s slot get in
    let others : (i : ℕ) (other : Slot) → slice_get index i ≡ Some other → other.number ≡ slot.number → ⊥ =
    λ i other at_i e. apart.each 0 (suc i) s other (omega arith) refl at_i (ap (λ x. x.number) same ∙ sym e) in
    let here : slice_get (set rows slot.number new) s.number ≡ Some new =
    ap (λ x. slice_get (set rows slot.number new) x.number) same ∙ get_set_same rows slot.number new (given.each 0 slot get) in
    (λ i. with_kept (here i) (kept_other index rows slot.number new others i))
    ∙ ap (λ o. set (with_kept o (kept_in index rows)) 0 new) (sym has.stands)
kept_set (s ∷ index) rows (suc at) slot new given apart get =
    let has = first_has s index rows given in
    let rest = kept_set index rows at slot new (rest_given s index rows given) (rest_apart s index apart) get in
    (λ i. with_kept ((get_set_other rows slot.number new s.number (apart.each 0 (suc at) s slot (omega arith) refl get) ∙ has.stands) i) (rest i))
    ∙ ap (λ o. set (with_kept o (kept_in index rows)) (suc at) new) (sym has.stands)

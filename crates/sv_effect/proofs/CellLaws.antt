-- Writes made to a cell one after the other give what the query over all writes gives.
use Rattle.std.proofs.Common.{◌≡◌, ◌⊎◌, inl, inr, ℕ, ◌<◌, ◌≤◌, ◌==◌, if◌then◌else◌, Bool, true, false, List, [], ◌∷◌, ◌++◌, refl, sym, ap, ◌∙◌, arith}
use Rattle.std.specs.Prelude.{ℤ, ◌+ℤ◌}
use Rattle.std.proofs.lemmas.Int.{ints}
use Rattle.std.proofs.lemmas.Bool.{cases_eq}
use Rattle.std.proofs.lemmas.List.Concat.{flat_map-append}
use Rattle.sv_value.specs.declared.values.Val.{Val}
use Rattle.sv_value.specs.declared.stamps.Stamp.{Stamp}
use Rattle.sv_app.specs.declared.schemas.Merge.{Merge}
use Rattle.sv_app.specs.declared.schemas.Merge.TheVariants as merges
use Rattle.sv_app.specs.Kinds.{is_unmerged}
use Rattle.sv_effect.specs.declared.cells.Cell.{Cell}
use Rattle.sv_effect.specs.declared.cells.Cell.TheVariants.{Count}
use Rattle.sv_effect.specs.declared.ops.Write.{Write}
use Rattle.sv_effect.specs.declared.ops.Write.TheVariants.{Delta, Set}
use Rattle.sv_effect.specs.StampedTables.{Stamped}
use Rattle.sv_effect.specs.RowChange.{later, last_cell, written, made}
use Rattle.sv_effect.specs.TablesOfCut.{Family, to_column, delta_of, sum_of, set_by, sets_of, sum_to, all_to, greatest, last, started, number_in, plain_cell, cell_by}
use Rattle.sv_effect.proofs.Members.{In, Grown, grown_in, in_grown}
use Rattle.sv_effect.proofs.GreatestLaws.{Alone, same_greatest, greatest_append}
use Rattle.sv_effect.proofs.SumLaws.{sum_to-one, sum_of-append}

-- stamped writes made to a cell in order
abbrev pub all_made : List (Stamped Write) → Cell → Cell
all_made [] cell = cell
all_made (w ∷ ws) cell = all_made ws (written w.stamp w.value cell)

pub all_made-append : (xs ys : List (Stamped Write)) (cell : Cell) → all_made (xs ++ ys) cell ≡ all_made ys (all_made xs cell)
all_made-append [] ys cell = refl
all_made-append (x ∷ xs) ys cell = all_made-append xs ys (written x.stamp x.value cell)

pub made_is : (s : Stamp) (column : ℕ) (ws : List (ℕ × Write)) (cell : Cell) → made s column ws cell ≡ all_made (to_column column s ws) cell
made_is s column [] cell = refl
made_is s column (w ∷ ws) cell = split (w.0 == column) (λ c. made_is s column ws c)
  where
    split : (b : Bool) → ((c : Cell) → made s column ws c ≡ all_made (to_column column s ws) c)
        → made s column ws (if b then written s w.1 cell else cell) ≡ all_made (if b then record { value = w.1; stamp = s } ∷ to_column column s ws else to_column column s ws) cell
    split true ih = ih (written s w.1 cell)
    split false ih = ih cell

made_count : (ws : List (Stamped Write)) (n : ℤ) → all_made ws (Count n) ≡ Count (n +ℤ sum_of ws)
made_count [] n = ap (λ k. Count k) (omega (arith, ints))
made_count (w ∷ ws) n = first w.value ∙ made_count ws (n +ℤ delta_of w.value) ∙ ap (λ k. Count k) (omega (arith, ints))
  where
    first : (x : Write) → all_made ws (written w.stamp x (Count n)) ≡ all_made ws (Count (n +ℤ delta_of x))
    first (Delta d) = refl
    first (Set v) = ap (λ k. all_made ws (Count k)) (omega (arith, ints))

made_last : (ws : List (Stamped Write)) (y : Stamped Val) → all_made ws (last_cell y) ≡ last_cell (greatest y (sets_of ws))
made_last [] y = refl
made_last (w ∷ ws) y = first w.value (λ z. made_last ws z)
  where
    first : (x : Write) → ((z : Stamped Val) → all_made ws (last_cell z) ≡ last_cell (greatest z (sets_of ws)))
        → all_made ws (written w.stamp x (last_cell y)) ≡ last_cell (greatest y (set_by x w.stamp ++ sets_of ws))
    first (Delta d) ih = ih y
    first (Set v) ih = ih (later y (record { value = v; stamp = w.stamp }))

made_plain : (ws : List (Stamped Write)) (y : Stamped Val) → all_made ws (plain_cell y) ≡ plain_cell (last y (sets_of ws))
made_plain [] y = refl
made_plain (w ∷ ws) y = first w.value (λ z. made_plain ws z)
  where
    first : (x : Write) → ((z : Stamped Val) → all_made ws (plain_cell z) ≡ plain_cell (last z (sets_of ws)))
        → all_made ws (written w.stamp x (plain_cell y)) ≡ plain_cell (last y (set_by x w.stamp ++ sets_of ws))
    first (Delta d) ih = ih y
    first (Set v) ih = ih (record { value = v; stamp = w.stamp })

pub last_append : {A : Type 0} (x : A) (xs ys : List A) → last x (xs ++ ys) ≡ last (last x xs) ys
last_append x [] ys = refl
last_append x (y ∷ xs) ys = last_append y xs ys

-- each is of an operation's time
abbrev pub Late : {A : Type 0} → List (Stamped A) → Type 0
Late {A} xs = (x : Stamped A) → In x xs → 1 ≤ x.stamp.time

-- the greatest of all, with more in one list
pub greatest_more : {A : Type 0} (v : A) (f g : Family (Stamped A)) (o : ℕ) (more : List (Stamped A)) → Grown f g o more → o < 9
    → Alone (all_to g 9) → Late (all_to g 9) → greatest (started v) (all_to g 9) ≡ greatest (greatest (started v) (all_to f 9)) more
greatest_more {A} v f g o more grown small alone late =
    same_greatest (started v) (all_to g 9) (all_to f 9 ++ more) (λ x h. grown_in f g o 9 more x grown h) up with_start ∙ greatest_append (started v) (all_to f 9) more
  where
    up : (x : Stamped A) → In x (all_to f 9 ++ more) → In x (all_to g 9)
    up x h = in_grown f g o 9 more x grown small h

    with_start : Alone (started v ∷ (all_to f 9 ++ more))
    with_start a b (inl s) (inl t) e = s ∙ sym t
    with_start a b (inl s) (inr t) e = absurd (let z : a.stamp.time ≡ 0 = ap (λ c. c.stamp.time) s in let l : 1 ≤ b.stamp.time = late b (up b t) in let k : a.stamp.time ≡ b.stamp.time = ap (λ c. c.time) e in omega (arith, z, l, k))
    with_start a b (inr s) (inl t) e = absurd (let z : b.stamp.time ≡ 0 = ap (λ c. c.stamp.time) t in let l : 1 ≤ a.stamp.time = late a (up a s) in let k : a.stamp.time ≡ b.stamp.time = ap (λ c. c.time) e in omega (arith, z, l, k))
    with_start a b (inr s) (inr t) e = alone a b (up a s) (up b t) e

-- the last of the reds, with more in one list: of the reds, or of a list that adds nothing
pub last_more : {A : Type 0} (v : A) (f g : Family A) (o : ℕ) (more : List A) → Grown f g o more → (o ≡ 0) ⊎ (more ≡ []) → last v (g 0) ≡ last (last v (f 0)) more
last_more {A} v f g o more grown (inl e) = ap (λ l. last v l) (ap g (sym e) ∙ grown.here ∙ ap (λ p. f p ++ more) e) ∙ last_append v (f 0) more
last_more {A} v f g o more grown (inr none) = ap (λ l. last v l) (same (cases_eq 0 o)) ∙ last_append v (f 0) more
  where
    nothing : f 0 ≡ f 0 ++ more
    nothing = sym (app_nil (f 0)) ∙ ap (λ l. f 0 ++ l) (sym none)
      where
        app_nil : (xs : List A) → xs ++ [] ≡ xs
        app_nil [] = refl
        app_nil (x ∷ xs) = ap (λ l. x ∷ l) (app_nil xs)

    same : (0 ≡ o) ⊎ (0 ≡ o → ⊥) → g 0 ≡ f 0 ++ more
    same (inl e) = ap g e ∙ grown.here ∙ ap (λ p. f p ++ more) (sym e)
    same (inr apart) = grown.others 0 apart ∙ nothing

pub grown_sets : (f g : Family (Stamped Write)) (o : ℕ) (more : List (Stamped Write)) → Grown f g o more → Grown (λ p. sets_of (f p)) (λ p. sets_of (g p)) o (sets_of more)
grown_sets f g o more grown = record {
  here = ap sets_of grown.here ∙ flat_map-append (λ w. set_by w.value w.stamp) (f o) more;
  others = λ p apart. ap sets_of (grown.others p apart);
}

-- a cell by its query, with more writes by one origin
pub cell_more : (merge : Merge) (v : Val) (f g : Family (Stamped Write)) (o : ℕ) (more : List (Stamped Write)) → Grown f g o more → o < 9
    → Alone (all_to (λ p. sets_of (g p)) 9) → Late (all_to (λ p. sets_of (g p)) 9) → (is_unmerged merge ≡ true → (o ≡ 0) ⊎ (sets_of more ≡ []))
    → cell_by merge v g ≡ all_made more (cell_by merge v f)
cell_more merges.NumDelta v f g o more grown small alone late plain =
    ap (λ k. Count k) sums ∙ sym (made_count more (number_in v +ℤ sum_to (λ p. sum_of (f p)) 9))
  where
    sum : sum_to (λ p. sum_of (g p)) 9 ≡ (sum_to (λ p. sum_of (f p)) 9 +ℤ sum_of more)
    sum = sum_to-one (λ p. sum_of (f p)) (λ p. sum_of (g p)) 9 o (sum_of more) small (ap sum_of grown.here ∙ sum_of-append (f o) more) (λ p apart. ap sum_of (grown.others p apart))

    sums : (number_in v +ℤ sum_to (λ p. sum_of (g p)) 9) ≡ ((number_in v +ℤ sum_to (λ p. sum_of (f p)) 9) +ℤ sum_of more)
    sums = omega (arith, ints, sum)
cell_more merges.Lww v f g o more grown small alone late plain =
    ap last_cell (greatest_more v (λ p. sets_of (f p)) (λ p. sets_of (g p)) o (sets_of more) (grown_sets f g o more grown) small alone late)
    ∙ sym (made_last more (greatest (started v) (all_to (λ p. sets_of (f p)) 9)))
cell_more merges.Plain v f g o more grown small alone late plain =
    ap plain_cell (last_more (started v) (λ p. sets_of (f p)) (λ p. sets_of (g p)) o (sets_of more) (grown_sets f g o more grown) (plain refl))
    ∙ sym (made_plain more (last (started v) (sets_of (f 0))))
cell_more merges.Fresh v f g o more grown small alone late plain =
    ap plain_cell (last_more (started v) (λ p. sets_of (f p)) (λ p. sets_of (g p)) o (sets_of more) (grown_sets f g o more grown) (plain refl))
    ∙ sym (made_plain more (last (started v) (sets_of (f 0))))

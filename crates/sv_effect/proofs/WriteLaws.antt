-- Writes made one after the other, and each cell by its column's writes.
use Rattle.std.proofs.Common.{◌≡◌, ℕ, zero, suc, ◌+◌, ◌<◌, ◌≤◌, ◌==◌, if◌then◌else◌, List, [], ◌∷◌, length, take, drop, slice_get, slice_set, get_or, refl, sym, ap, ◌++◌, ◌∙◌, arith, subst}
use Rattle.std.specs.List.{refill}
use Rattle.std.proofs.Math.ListN.{length-set}
use Rattle.std.proofs.Math.Seq.{take-length, drop-length}
use Rattle.std.proofs.lemmas.List.{append-nil, at_drop_more, at_drop_all}
use Rattle.sv_value.specs.declared.stamps.Stamp.{Stamp}
use Rattle.sv_effect.specs.declared.cells.Cell.{Cell}
use Rattle.sv_effect.specs.declared.ops.Write.{Write}
use Rattle.sv_effect.specs.RowChange.{written, made, each}
use Rattle.sv_effect.specs.Suits.{SuitsAt, with_cell, AllSuit}
use Rattle.sv_app.proofs.TestLaws.{same_test, other_test}

-- a write in place is not cut or filled up
pub refill_set : (xs : List Cell) (i : ℕ) (x : Cell) → refill (length xs) xs (slice_set xs i x) ≡ slice_set xs i x
refill_set xs i x =
    let n : length (slice_set xs i x) ≡ length xs = length-set xs i x in
    ap (λ k. take (length xs) (slice_set xs i x ++ drop k xs)) n ∙ ap (λ l. take (length xs) (slice_set xs i x ++ l)) (drop-length xs) ∙ ap (take (length xs)) (append-nil (slice_set xs i x)) ∙ ap (λ k. take k (slice_set xs i x)) (sym n) ∙ take-length (slice_set xs i x)

-- what is written in place of what stands there
pub lands : (xs : List Cell) (i : ℕ) (w : Write) (f : Cell → Cell) (y d : Cell) → SuitsAt w (slice_get xs i) → y ≡ f (get_or xs i d) → slice_set xs i y ≡ with_cell f i xs
lands [] i w f y d h e = absurd h
lands (x ∷ xs) zero w f y d h e = ap (λ z. z ∷ xs) e
lands (x ∷ xs) (suc i) w f y d h e = ap (λ zs. x ∷ zs) (lands xs i w f y d h e)

pub suits_within : (xs : List Cell) (i : ℕ) (w : Write) → SuitsAt w (slice_get xs i) → i < length xs
suits_within [] i w h = absurd h
suits_within (x ∷ xs) zero w h = omega arith
suits_within (x ∷ xs) (suc i) w h = let l : i < length xs = suits_within xs i w h in omega (arith, l)

-- a write to an earlier column is none to these
each_past : (s : Stamp) (d : ℕ) (w : Write) (ws : List (ℕ × Write)) (k : ℕ) (cells : List Cell) → d < k → each (λ c. made s c ws) k cells ≡ each (λ c. made s c ((d, w) ∷ ws)) k cells
each_past s d w ws k [] lt = refl
each_past s d w ws k (cell ∷ cells) lt = λ i. made s k ws (here i) ∷ each_past s d w ws (suc k) cells (omega (arith, lt)) i
  where
    here : cell ≡ (if d == k then written s w cell else cell)
    here = rw (other_test d k (λ e. absurd (omega (arith, lt, e)))) refl

pub each_with : (s : Stamp) (d : ℕ) (w : Write) (ws : List (ℕ × Write)) (k n : ℕ) (cells : List Cell) → d ≡ (k + n)
    → each (λ c. made s c ws) k (with_cell (written s w) n cells) ≡ each (λ c. made s c ((d, w) ∷ ws)) k cells
each_with s d w ws k n [] e = refl
each_with s d w ws k zero (cell ∷ cells) e = λ i. made s k ws (here i) ∷ each_past s d w ws (suc k) cells (omega (arith, e)) i
  where
    here : written s w cell ≡ (if d == k then written s w cell else cell)
    here = rw (same_test d k (omega (arith, e))) refl
each_with s d w ws k (suc n) (cell ∷ cells) e = λ i. made s k ws (here i) ∷ each_with s d w ws (suc k) n cells (omega (arith, e)) i
  where
    here : cell ≡ (if d == k then written s w cell else cell)
    here = rw (other_test d k (λ same. absurd (omega (arith, same, e)))) refl

-- the writes that are left, and one of them made
pub suits_first : (s : Stamp) (cells : List Cell) (ws : List (ℕ × Write)) (i : ℕ) (d : ℕ × Write) → i < length ws → AllSuit s cells (drop i ws)
    → SuitsAt (get_or ws i d).1 (slice_get cells (get_or ws i d).0) × AllSuit s (with_cell (written s (get_or ws i d).1) (get_or ws i d).0 cells) (drop (i + 1) ws)
suits_first s cells ws i d lt h = subst (λ l. AllSuit s cells l) (at_drop_more (λ l. l) ws i d lt) h

pub made_first : (s : Stamp) (cells : List Cell) (ws : List (ℕ × Write)) (i : ℕ) (d : ℕ × Write) → i < length ws
    → each (λ c. made s c (drop (i + 1) ws)) 0 (with_cell (written s (get_or ws i d).1) (get_or ws i d).0 cells) ≡ each (λ c. made s c (drop i ws)) 0 cells
made_first s cells ws i d lt =
    each_with s (get_or ws i d).0 (get_or ws i d).1 (drop (i + 1) ws) 0 (get_or ws i d).0 cells (omega arith)
    ∙ ap (λ l. each (λ c. made s c l) 0 cells) (sym (at_drop_more (λ l. l) ws i d lt))

pub step_suits : (s : Stamp) (cells after : List Cell) (ws : List (ℕ × Write)) (i : ℕ) (item : ℕ × Write) → i < length ws → AllSuit s cells (drop i ws)
    → item ≡ get_or ws i item → after ≡ with_cell (written s item.1) item.0 cells → AllSuit s after (drop (i + 1) ws)
step_suits s cells after ws i item lt h is e =
    subst (λ l. AllSuit s l (drop (i + 1) ws)) (sym (e ∙ ap (λ w. with_cell (written s w.1) w.0 cells) is)) (suits_first s cells ws i item lt h).1

pub step_made : (s : Stamp) (cells after before : List Cell) (ws : List (ℕ × Write)) (i : ℕ) (item : ℕ × Write) → i < length ws
    → each (λ c. made s c (drop i ws)) 0 cells ≡ before → item ≡ get_or ws i item → after ≡ with_cell (written s item.1) item.0 cells
    → each (λ c. made s c (drop (i + 1) ws)) 0 after ≡ before
step_made s cells after before ws i item lt h is e =
    ap (λ l. each (λ c. made s c (drop (i + 1) ws)) 0 l) (e ∙ ap (λ w. with_cell (written s w.1) w.0 cells) is) ∙ made_first s cells ws i item lt ∙ h

-- no writes are left
pub each_still : (s : Stamp) (k : ℕ) (cells : List Cell) → each (λ c. made s c []) k cells ≡ cells
each_still s k [] = refl
each_still s k (cell ∷ cells) = ap (λ l. cell ∷ l) (each_still s (suc k) cells)

pub made_all : (s : Stamp) (cells before : List Cell) (ws : List (ℕ × Write)) (i : ℕ) → length ws ≤ i → each (λ c. made s c (drop i ws)) 0 cells ≡ before → cells ≡ before
made_all s cells before ws i le h = sym (each_still s 0 cells) ∙ ap (λ l. each (λ c. made s c l) 0 cells) (sym (at_drop_all (λ l. l) ws i le)) ∙ h

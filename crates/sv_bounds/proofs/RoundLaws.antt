-- One round, row by row.
use Rattle.std.proofs.Common.{◌≡◌, ◌⊎◌, inl, inr, ℕ, ◌+◌, ◌<◌, List, length, set, ◌<ℤ◌, ◌≤ℤ◌, sym, ap, subst, ◌∙◌, below_more, arith}
use Rattle.std.proofs.lemmas.Int.{ints}
use Rattle.std.proofs.lemmas.Bool.{cases_eq}
use Rattle.std.proofs.lemmas.List.{get_or-set_same, get_or-set_other, length-set}
use Rattle.sv_bounds.specs.declared.systems.Diff.{Diff}
use Rattle.sv_bounds.specs.declared.rounds.Cell.{Cell}
use Rattle.sv_bounds.specs.Differences.{row_at}
use Rattle.sv_bounds.specs.Rounds.{no_cell, cell_of, value, asked, IsLowered, IsNext}

pub next_start : (rows : List Diff) (old new : List Cell) → new ≡ old → IsNext rows 0 old new
next_start rows old new e = record {
  long = ap length e;
  cells = λ x l. inl (ap (λ (cells : List Cell). cell_of cells x) e);
  below = λ i l. absurd (omega (arith, l));
}

-- the row asks for no less than the new round has
pub next_keep : (rows : List Diff) (i : ℕ) (old new : List Cell) → IsNext rows i old new → value new (row_at rows i).x ≤ℤ asked rows i old → IsNext rows (i + 1) old new
next_keep rows i old new next h = record {
  long = next.long;
  cells = next.cells;
  below = below_more (λ j. value new (row_at rows j).x ≤ℤ asked rows j old) i next.below h;
}

pub value_same : (new : List Cell) (x : ℕ) (c : Cell) → x < length new → value (set new x c) x ≡ c.value
value_same new x c l = ap (λ (k : Cell). k.value) (get_or-set_same new x c no_cell l)

pub value_after : (new : List Cell) (x : ℕ) (c : Cell) → x < length new → c.value <ℤ value new x → (z : ℕ) → value (set new x c) z ≤ℤ value new z
value_after new x c l h z = pick (cases_eq z x)
  where
    pick : (z ≡ x) ⊎ (z ≡ x → ⊥) → value (set new x c) z ≤ℤ value new z
    pick (inl e) =
        let s : value (set new x c) x ≡ c.value = value_same new x c l in
        let a : value (set new x c) z ≡ value (set new x c) x = ap (value (set new x c)) e in
        let b : value new z ≡ value new x = ap (value new) e in
        omega (arith, ints, s, a, b, h)
    pick (inr ne) = let s : value (set new x c) z ≡ value new z = ap (λ (k : Cell). k.value) (get_or-set_other new x z c no_cell ne) in omega (arith, ints, s)

-- no variable rises
pub low : (rows : List Diff) (i : ℕ) (old new : List Cell) → IsNext rows i old new → (z : ℕ) → z < length old → value new z ≤ℤ value old z
low rows i old new next z l = pick (next.cells z l)
  where
    pick : (cell_of new z ≡ cell_of old z) ⊎ IsLowered rows old z (cell_of new z) → value new z ≤ℤ value old z
    pick (inl e) = let s : value new z ≡ value old z = ap (λ (k : Cell). k.value) e in omega (arith, ints, s)
    pick (inr h) = omega (arith, ints, h.less)

lowered_by : (rows : List Diff) (i : ℕ) (old new : List Cell) (c : Cell) → IsNext rows i old new → i < length rows → c.by ≡ i → c.value ≡ asked rows i old
    → (row_at rows i).x < length old → c.value <ℤ value new (row_at rows i).x → IsLowered rows old (row_at rows i).x c
lowered_by rows i old new c next l by is in' less = record {
  stands = omega (arith, by, l);
  from = ap (λ j. (row_at rows j).x) by;
  is = is ∙ ap (λ j. asked rows j old) (sym by);
  less = let h : value new (row_at rows i).x ≤ℤ value old (row_at rows i).x = low rows i old new next (row_at rows i).x in' in omega (arith, ints, h, less);
}

cells_after : (rows : List Diff) (i : ℕ) (old new : List Cell) (c : Cell) → IsNext rows i old new → IsLowered rows old (row_at rows i).x c → (row_at rows i).x < length new
    → (z : ℕ) → z < length old → (cell_of (set new (row_at rows i).x c) z ≡ cell_of old z) ⊎ IsLowered rows old z (cell_of (set new (row_at rows i).x c) z)
cells_after rows i old new c next h in' z l = pick (cases_eq z (row_at rows i).x)
  where
    after : List Cell
    after = set new (row_at rows i).x c

    pick : (z ≡ (row_at rows i).x) ⊎ (z ≡ (row_at rows i).x → ⊥) → (cell_of (set new (row_at rows i).x c) z ≡ cell_of old z) ⊎ IsLowered rows old z (cell_of (set new (row_at rows i).x c) z)
    pick (inl e) =
        let s : cell_of (set new (row_at rows i).x c) z ≡ c = ap (cell_of (set new (row_at rows i).x c)) e ∙ get_or-set_same new (row_at rows i).x c no_cell in' in
        let m : IsLowered rows old z c = subst (λ k. IsLowered rows old k c) (sym e) h in
        inr (subst (IsLowered rows old z) (sym s) m)
    pick (inr ne) =
        let s : cell_of (set new (row_at rows i).x c) z ≡ cell_of new z = get_or-set_other new (row_at rows i).x z c no_cell ne in
        subst (λ (k : Cell). (k ≡ cell_of old z) ⊎ IsLowered rows old z k) (sym s) (next.cells z l)

-- the row lowered its first variable
pub next_lower : (rows : List Diff) (i : ℕ) (old new : List Cell) (c : Cell) → IsNext rows i old new → i < length rows → c.by ≡ i → c.value ≡ asked rows i old
    → (row_at rows i).x < length old → c.value <ℤ value new (row_at rows i).x → IsNext rows (i + 1) old (set new (row_at rows i).x c)
next_lower rows i old new c next l by is in' less =
    let inside : (row_at rows i).x < length new = omega (arith, in', next.long) in
    record {
      long = length-set new (row_at rows i).x c ∙ next.long;
      cells = cells_after rows i old new c next (lowered_by rows i old new c next l by is in' less) inside;
      below = below_more (λ j. value (set new (row_at rows i).x c) (row_at rows j).x ≤ℤ asked rows j old) i
          (λ j lt.
          let a : value (set new (row_at rows i).x c) (row_at rows j).x ≤ℤ value new (row_at rows j).x = value_after new (row_at rows i).x c inside less (row_at rows j).x in
          let b : value new (row_at rows j).x ≤ℤ asked rows j old = next.below j lt in
          omega (arith, ints, a, b))
          (let s : value (set new (row_at rows i).x c) (row_at rows i).x ≡ c.value = value_same new (row_at rows i).x c inside in omega (arith, ints, s, is));
    }

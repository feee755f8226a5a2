-- Changes with different stamps commute where no plain cell is written and no unannotated mark turned.
use Rattle.std.proofs.Common.{◌≡◌, ◌≢◌, inl, inr, ℕ, suc, ◌+◌, Bool, true, false, List, [], ◌∷◌, refl, sym, ap, subst, ◌∙◌, arith}
use Rattle.std.specs.Prelude.{ℤ, ◌+ℤ◌}
use Rattle.std.proofs.lemmas.Int.{ints}
use Rattle.std.specs.declared.cmp.Ordering.{Ordering}
use Rattle.std.specs.declared.cmp.Ordering.TheVariants.{Less, Equal, Greater}
use Rattle.std.specs.Ordering.{ordering_reverse}
use Rattle.sv_value.specs.declared.stamps.Stamp.{Stamp}
use Rattle.sv_value.specs.Orders.{stamp_cmp}
use Rattle.sv_value.proofs.OrderLaws.{stamp_total, exact_stamps}
use Rattle.sv_app.specs.declared.schemas.Column.{Column}
use Rattle.sv_effect.specs.declared.cells.Cell.{Cell}
use Rattle.sv_effect.specs.declared.cells.Cell.TheVariants.{Count, Last, Plain}
use Rattle.sv_effect.specs.declared.ops.Write.{Write}
use Rattle.sv_effect.specs.declared.ops.Write.TheVariants.{Delta, Set}
use Rattle.sv_effect.specs.StampedTables.{Stamped}
use Rattle.sv_effect.specs.RowChange.{later, last_cell, written, each}
use Rattle.sv_app.specs.Kinds.{is_unmerged}
use Rattle.sv_effect.specs.Threatened.{is_plain_column}
use Rattle.sv_effect.proofs.Members.{In}
use Rattle.sv_effect.proofs.CellLaws.{all_made}
use Rattle.sv_effect.proofs.RowLaws.{all_turned}

-- of two values with different stamps the order doesn't matter
later_less : {A : Type 0} (y a b : Stamped A) → stamp_cmp a.stamp b.stamp ≡ Less → later (later y a) b ≡ later (later y b) a
later_less y a b h =
    let back : stamp_cmp b.stamp a.stamp ≡ Greater = stamp_total.antisymm b.stamp a.stamp ∙ ap ordering_reverse h in
    let along : stamp_cmp y.stamp a.stamp ≡ Less → stamp_cmp y.stamp b.stamp ≡ Less = λ p. stamp_total.trans y.stamp a.stamp b.stamp p h in
    grind arith

later_by : {A : Type 0} (y a b : Stamped A) (r : Ordering) → stamp_cmp a.stamp b.stamp ≡ r → a.stamp ≢ b.stamp → later (later y a) b ≡ later (later y b) a
later_by y a b Less h apart = later_less y a b h
later_by y a b Equal h apart = absurd (apart (exact_stamps a.stamp b.stamp h))
later_by y a b Greater h apart = sym (later_less y b a (stamp_total.antisymm b.stamp a.stamp ∙ ap ordering_reverse h))

pub later_both : {A : Type 0} (y a b : Stamped A) → a.stamp ≢ b.stamp → later (later y a) b ≡ later (later y b) a
later_both y a b apart = later_by y a b (stamp_cmp a.stamp b.stamp) refl apart

-- not a plain cell
abbrev pub Merges : Cell → Type 0
Merges (Count n) = Unit {0}
Merges (Last v s) = Unit {0}
Merges (Plain v) = ⊥

written_merges : (s : Stamp) (w : Write) (cell : Cell) → Merges cell → Merges (written s w cell)
written_merges s (Delta d) (Count n) m = tt
written_merges s (Delta d) (Last v t) m = tt
written_merges s (Delta d) (Plain v) m = m
written_merges s (Set x) (Count n) m = tt
written_merges s (Set x) (Last v t) m = tt
written_merges s (Set x) (Plain v) m = m

swap_sum : (n d e : ℤ) → (n +ℤ d) +ℤ e ≡ (n +ℤ e) +ℤ d
swap_sum n d e = omega (arith, ints)

abbrev one_made : Stamped Write → Cell → Cell
one_made w cell = written w.stamp w.value cell

made_both : (s t : Stamp) (v w : Write) (cell : Cell) → s ≢ t → Merges cell → written t w (written s v cell) ≡ written s v (written t w cell)
made_both s t (Delta d) (Delta e) (Count n) apart m = ap (λ z. Count z) (swap_sum n d e)
made_both s t (Delta d) (Delta e) (Last x o) apart m = refl
made_both s t v w (Plain x) apart m = absurd m
made_both s t (Delta d) (Set b) (Count n) apart m = refl
made_both s t (Delta d) (Set b) (Last x o) apart m = refl
made_both s t (Set a) (Delta e) (Count n) apart m = refl
made_both s t (Set a) (Delta e) (Last x o) apart m = refl
made_both s t (Set a) (Set b) (Count n) apart m = refl
made_both s t (Set a) (Set b) (Last x o) apart m =
    ap last_cell (later_both (record { value = x; stamp = o }) (record { value = a; stamp = s }) (record { value = b; stamp = t }) apart)

-- no stamp stands in both lists
abbrev pub Strange : {A B : Type 0} → List (Stamped A) → List (Stamped B) → Type 0
Strange {A} {B} xs ys = (x : Stamped A) (y : Stamped B) → In x xs → In y ys → x.stamp ≢ y.stamp

made_past : (ws : List (Stamped Write)) (v : Stamped Write) (cell : Cell) → ((w : Stamped Write) → In w ws → v.stamp ≢ w.stamp) → Merges cell
    → all_made ws (one_made v cell) ≡ one_made v (all_made ws cell)
made_past [] v cell apart m = refl
made_past (w ∷ ws) v cell apart m =
    ap (all_made ws) (made_both v.stamp w.stamp v.value w.value cell (apart w (inl refl)) m)
    ∙ made_past ws v (one_made w cell) (λ x h. apart x (inr h)) (written_merges w.stamp w.value cell m)

pub made_lists : (ws vs : List (Stamped Write)) (cell : Cell) → Strange vs ws → Merges cell → all_made ws (all_made vs cell) ≡ all_made vs (all_made ws cell)
made_lists ws [] cell apart m = refl
made_lists ws (v ∷ vs) cell apart m =
    made_lists ws vs (one_made v cell) (λ x y h k. apart x y (inr h) k) (written_merges v.stamp v.value cell m)
    ∙ ap (all_made vs) (made_past ws v cell (λ w h. apart v w (inl refl) h) m)

turned_past : (ts : List (Stamped Bool)) (u mark : Stamped Bool) → ((t : Stamped Bool) → In t ts → u.stamp ≢ t.stamp) → all_turned true ts (later mark u) ≡ later (all_turned true ts mark) u
turned_past [] u mark apart = refl
turned_past (t ∷ ts) u mark apart =
    ap (all_turned true ts) (later_both mark u t (apart t (inl refl))) ∙ turned_past ts u (later mark t) (λ x h. apart x (inr h))

pub turned_lists : (ts us : List (Stamped Bool)) (mark : Stamped Bool) → Strange us ts → all_turned true ts (all_turned true us mark) ≡ all_turned true us (all_turned true ts mark)
turned_lists ts [] mark apart = refl
turned_lists ts (u ∷ us) mark apart =
    turned_lists ts us (later mark u) (λ x y h k. apart x y (inr h) k) ∙ ap (all_turned true us) (turned_past ts u mark (λ t h. apart u t (inl refl) h))

-- the cells of columns that aren't plain merge
abbrev pub Settled : List Column → List Cell → Type 0
Settled columns [] = Unit {0}
Settled [] (cell ∷ cells) = ⊥
Settled (column ∷ columns) (cell ∷ cells) = (is_unmerged column.merge ≡ false → Merges cell) × Settled columns cells

pub each_both : (f g : ℕ → Cell → Cell) (k : ℕ) (columns : List Column) (cells : List Cell) → Settled columns cells
    → ((j : ℕ) (cell : Cell) → (is_plain_column columns j ≡ false → Merges cell) → f (k + j) (g (k + j) cell) ≡ g (k + j) (f (k + j) cell))
    → each f k (each g k cells) ≡ each g k (each f k cells)
each_both f g k columns [] settled same = refl
each_both f g k [] (cell ∷ cells) settled same = absurd settled
each_both f g k (column ∷ columns) (cell ∷ cells) settled same = λ i. here i ∷ each_both f g (suc k) columns cells settled.1 later_columns i
  where
    here : f k (g k cell) ≡ g k (f k cell)
    here = let n : (k + 0) ≡ k = omega arith in subst (λ c. f c (g c cell) ≡ g c (f c cell)) n (same 0 cell settled.0)

    later_columns : (j : ℕ) (x : Cell) → (is_plain_column columns j ≡ false → Merges x) → f (suc k + j) (g (suc k + j) x) ≡ g (suc k + j) (f (suc k + j) x)
    later_columns j x m = let n : (k + suc j) ≡ (suc k + j) = omega arith in subst (λ c. f c (g c x) ≡ g c (f c x)) n (same (suc j) x m)

-- Lists of published operations: one operation more, the greatest time, and how many rows they insert and changes they make.
use Rattle.std.proofs.Common.{◌≡◌, ◌⊎◌, inl, inr, ℕ, zero, suc, ◌+◌, ◌<◌, ◌≤◌, List, [], ◌∷◌, ◌++◌, length, get_or, set, Some, refl, sym, ap, subst, ◌∙◌, arith, length-append}
use Rattle.std.specs.Prelude.{map}
use Rattle.std.proofs.lemmas.List.{get_or-set_same, get_or-set_other, map-set, length-map, get_or-map}
use Rattle.std.proofs.lemmas.Bool.{cases_eq}
use Rattle.sv_app.proofs.TestLaws.{same_test, other_test}
use Rattle.sv_effect.specs.declared.ops.Op.{Op}
use Rattle.sv_effect.specs.declared.ops.RowEffect.{RowEffect}
use Rattle.sv_effect.specs.Applied.{changes_from, changes_of}
use Rattle.sv_effect.specs.Cut.{Medium}
use Rattle.sv_effect.specs.TablesOfCut.{changes_by}
use Rattle.sv_core.specs.History.{with_news}
use Rattle.sv_core.specs.Room.{changes_in}
use Rattle.sv_core.proofs.CutLaws.{order}
use Rattle.sv_core.proofs.SumLaws.{sum_below}
use Rattle.sv_plain.specs.Held.{medium_of}

-- the lists after one operation was put at the end of one of them
lists_pushed : (lists : List (List Op)) (n : ℕ) (op : Op) → length lists ≡ 9 → n < 9
    → (o : ℕ) → medium_of (set lists n (get_or lists n [] ++ op ∷ [])) o ≡ with_news (Some (n, op)) (medium_of lists) o
lists_pushed lists n op long small o = from (cases_eq o n)
  where
    after : List (List Op)
    after = set lists n (get_or lists n [] ++ op ∷ [])

    from : (o ≡ n) ⊎ (o ≡ n → ⊥) → medium_of after o ≡ with_news (Some (n, op)) (medium_of lists) o
    from (inl is) = rw (same_test o n is)
        (ap (λ p. get_or after p []) is ∙ get_or-set_same lists n (get_or lists n [] ++ op ∷ []) [] (omega (arith, small, long)) ∙ ap (λ p. get_or lists p [] ++ op ∷ []) (sym is))
    from (inr apart) = rw (other_test o n apart) (get_or-set_other lists n o (get_or lists n [] ++ op ∷ []) [] apart)

pub publish_is : {V : Type 0} (items : V → List Op) (vs : List V) (v now : V) (n : ℕ) (op : Op) → length vs ≡ 9 → n < 9 → v ≡ get_or vs n v → items now ≡ items v ++ op ∷ []
    → (o : ℕ) → medium_of (map items (set vs n now)) o ≡ with_news (Some (n, op)) (medium_of (map items vs)) o
publish_is items vs v now n op long small is pushed o =
    ap (λ l. medium_of l o) (map-set items vs n now ∙ ap (set (map items vs) n) was)
    ∙ lists_pushed (map items vs) n op (length-map vs items ∙ long) small o
  where
    was : items now ≡ get_or (map items vs) n [] ++ op ∷ []
    was = pushed ∙ ap (λ l. l ++ op ∷ []) (ap items is ∙ sym (get_or-map items vs n v [] (omega (arith, small, long))))

-- one empty list more
pub empty_more : {V : Type 0} (items : V → List Op) (vs : List V) (v : V) → items v ≡ [] → ((o : ℕ) → medium_of (map items vs) o ≡ []) → (o : ℕ) → medium_of (map items (vs ++ v ∷ [])) o ≡ []
empty_more items [] v none all zero = none
empty_more items [] v none all (suc o) = refl
empty_more items (x ∷ vs) v none all zero = all 0
empty_more items (x ∷ vs) v none all (suc o) = empty_more items vs v none (λ p. all (suc p)) o

-- the sum over no lists, over one list more, and over fewer lists
pub sum_none : (F : List Op → ℕ) (m : Medium) → 0 ≡ sum_below (λ o. F (m o)) 0
unfolding sum_below
sum_none F m = refl

pub sum_more : (F : List Op → ℕ) (m : Medium) (place before count : ℕ) → before ≡ sum_below (λ o. F (m o)) place → count ≡ F (m place) → before + count ≡ sum_below (λ o. F (m o)) (place + 1)
unfolding sum_below
sum_more F m place before count was is =
    let next : suc place ≡ place + 1 = omega arith in
    (λ i. was i + is i) ∙ ap (sum_below (λ o. F (m o))) next

sum_grows : (f : ℕ → ℕ) (n m : ℕ) → n ≤ m → sum_below f n ≤ sum_below f m
unfolding sum_below
sum_grows f n zero le = let none : n ≡ 0 = omega (arith, le) in subst (λ k. sum_below f k ≤ sum_below f 0) (sym none) (omega arith)
sum_grows f n (suc m) le = from (order n (suc m)) (λ below. sum_grows f n m below)
  where
    from : (n < suc m) ⊎ (suc m ≤ n) → (n ≤ m → sum_below f n ≤ sum_below f m) → sum_below f n ≤ sum_below f m + f m
    from (inl lt) ih = let below : sum_below f n ≤ sum_below f m = ih (omega (arith, lt)) in omega (arith, below)
    from (inr ge) ih = let same : n ≡ suc m = omega (arith, le, ge) in subst (λ k. sum_below f k ≤ sum_below f (suc m)) (sym same) (omega arith)

pub sum_within : (F : List Op → ℕ) (m : Medium) (place before count total : ℕ) → place < 9 → before ≡ sum_below (λ o. F (m o)) place → count ≡ F (m place) → total ≡ sum_below (λ o. F (m o)) 9
    → before + count ≤ total
sum_within F m place before count total lt was is all =
    let a : before + count ≡ sum_below (λ o. F (m o)) (place + 1) = sum_more F m place before count was is in
    let b : sum_below (λ o. F (m o)) (place + 1) ≤ sum_below (λ o. F (m o)) 9 = sum_grows (λ o. F (m o)) (place + 1) 9 (omega (arith, lt)) in
    omega (arith, a, b, all)

-- so many changes have stamps
many_from : (op : Op) (n : ℕ) (es : List RowEffect) → length (changes_from op n es) ≡ length es
many_from op n [] = refl
many_from op n (e ∷ es) = ap suc (many_from op (suc n) es)

pub many_changes : (ops : List Op) → length (changes_by ops) ≡ changes_in ops
many_changes [] = refl
many_changes (op ∷ ops) =
    let a : length (changes_of op ++ changes_by ops) ≡ length (changes_of op) + length (changes_by ops) = length-append (changes_of op) (changes_by ops) in
    let b : length (changes_of op) ≡ length op.effects = many_from op 0 op.effects in
    let ih : length (changes_by ops) ≡ changes_in ops = many_changes ops in
    omega (arith, a, b, ih)

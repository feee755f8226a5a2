-- The keys of the present rows of a table, and those after a row was written.
use Rattle.std.proofs.Common.{◌≡◌, ◌≢◌, ℕ, Bool, true, false, cond, ◌==◌, List, [], ◌∷◌, ◌++◌, Option, Some, None, refl, sym, ap, subst, ◌∙◌}
use Rattle.std.specs.declared.cmp.Ordering.{Ordering}
use Rattle.std.specs.declared.cmp.Ordering.TheVariants.{Less, Equal, Greater}
use Rattle.std.specs.Ordering.{is_lt, is_eq}
use Rattle.std.specs.FinMap.{get, insert, get-insert, get-entries, entries, entries_sorted}
use Rattle.sv_value.specs.declared.values.Key.{Key}
use Rattle.sv_value.specs.Orders.{key_cmp}
use Rattle.sv_value.proofs.OrderLaws.{exact_keys}
use Rattle.sv_app.specs.declared.places.Place.{Place}
use Rattle.sv_app.specs.Tables.{place_cmp, Row, Tables}
use Rattle.sv_app.proofs.PlaceLaws.{place_total}
use Rattle.sv_effect.specs.declared.left.LeftRow.{LeftRow}
use Rattle.sv_effect.specs.Agrees.{place_at, seen_in, is_present, is_after}
use Rattle.sv_effect.specs.Faces.{Face}
use Rattle.sv_effect.specs.Follows.{Follows}
use Rattle.sv_effect.specs.Keys.{Walks, Walked, with_by, with_key, without_by, without_key, laid}
use Rattle.sv_effect.specs.Overlays.{left_row, over}
use Rattle.sv_effect.specs.Reads.{ReadValue}
use Rattle.sv_effect.specs.Run.{present_keys}
use Rattle.sv_effect.proofs.FollowLaws.{so}
use Rattle.sv_effect.proofs.KeyLaws.{less_of, below_of, self_of, lt_trans, later, walk_along, walk_keys, found, keys_walk, in_table, other_table}

lt_apart : (k j : Key) → is_lt (key_cmp k j) ≡ true → k ≢ j
lt_apart k j l e = let h : key_cmp j j ≡ Less = subst (λ z. key_cmp z j ≡ Less) e (less_of _ l) in let g = self_of j _ refl in cc

gt_apart : (k j : Key) → is_lt (key_cmp j k) ≡ true → k ≢ j
gt_apart k j l e = lt_apart j k l (sym e)

-- the key is in
with_walk : (j : Key) (p q : Key → Bool) → q j ≡ true → ((k : Key) → k ≢ j → q k ≡ p k) → (after : Option Key) (ks : List Key) → is_after after j ≡ true → Walks p after ks → Walks q after (with_key j ks)
with_walk j p q here other after [] a h = ((a, here, λ k b l. other k (lt_apart k j l) ∙ h k b), λ k l. other k (gt_apart k j l) ∙ h k (later after j k a l))
with_walk j p q here other after (x ∷ xs) a h = placed (key_cmp j x) refl (λ g. with_walk j p q here other (Some x) xs g h.1)
  where
    placed : (o : Ordering) → key_cmp j x ≡ o → (is_lt (key_cmp x j) ≡ true → Walks q (Some x) (with_key j xs)) → Walks q after (with_by o j x xs (with_key j xs))
    placed Less e ih = let l : is_lt (key_cmp j x) ≡ true = ap is_lt e in (
      (a, here, λ k b m. other k (lt_apart k j m) ∙ h.0.2 k b (lt_trans k j x m l)),
      (
        (l, other x (gt_apart x j l) ∙ h.0.1, λ k b m. other k (gt_apart k j b) ∙ h.0.2 k (later after j k a b) m),
        walk_along p q (Some x) xs (λ k b. sym (other k (gt_apart k j (lt_trans j x k l b)))) h.1,
      ),
    )
    placed Equal e ih = let is : j ≡ x = exact_keys j x e in (
      (h.0.0, subst (λ z. q z ≡ true) is here, λ k b m. other k (lt_apart k j (subst (λ z. is_lt (key_cmp k z) ≡ true) (sym is) m)) ∙ h.0.2 k b m),
      walk_along p q (Some x) xs (λ k b. sym (other k (gt_apart k j (subst (λ z. is_lt (key_cmp z k) ≡ true) (sym is) b)))) h.1,
    )
    placed Greater e ih = let g : is_lt (key_cmp x j) ≡ true = ap is_lt (below_of j x e) in (
      (h.0.0, other x (lt_apart x j g) ∙ h.0.1, λ k b m. other k (lt_apart k j (lt_trans k x j m g)) ∙ h.0.2 k b m),
      ih g,
    )

-- a test that fails at the key, and elsewhere is the other
off : (j : Key) (p q : Key → Bool) → q j ≡ false → ((k : Key) → k ≢ j → q k ≡ p k) → (k : Key) (o : Ordering) → key_cmp k j ≡ o → p k ≡ false → q k ≡ false
off j p q gone' other k Less e h = other k (lt_apart k j (ap is_lt e)) ∙ h
off j p q gone' other k Equal e h = ap q (exact_keys k j e) ∙ gone'
off j p q gone' other k Greater e h = other k (gt_apart k j (ap is_lt (below_of k j e))) ∙ h

-- behind the first key
over_first : (x : Key) (p q : Key → Bool) → q x ≡ false → ((k : Key) → k ≢ x → q k ≡ p k) → (after : Option Key) (xs : List Key) → is_after after x ≡ true
    → ((k : Key) → is_after after k ≡ true → is_lt (key_cmp k x) ≡ true → p k ≡ false) → Walks p (Some x) xs → Walks q after xs
over_first x p q gone' other after [] a low h = λ k b. at k b _ refl
  where
    at : (k : Key) → is_after after k ≡ true → (o : Ordering) → key_cmp k x ≡ o → q k ≡ false
    at k b Less e = other k (lt_apart k x (ap is_lt e)) ∙ low k b (ap is_lt e)
    at k b Equal e = ap q (exact_keys k x e) ∙ gone'
    at k b Greater e = let l : is_lt (key_cmp x k) ≡ true = ap is_lt (below_of k x e) in other k (gt_apart k x l) ∙ h k l
over_first x p q gone' other after (y ∷ ys) a low h = (
  (later after x y a h.0.0, other y (gt_apart y x h.0.0) ∙ h.0.1, λ k b m. at k b m _ refl),
  walk_along p q (Some y) ys (λ k b. sym (other k (gt_apart k x (lt_trans x y k h.0.0 b)))) h.1,
)
  where
    at : (k : Key) → is_after after k ≡ true → is_lt (key_cmp k y) ≡ true → (o : Ordering) → key_cmp k x ≡ o → q k ≡ false
    at k b m Less e = other k (lt_apart k x (ap is_lt e)) ∙ low k b (ap is_lt e)
    at k b m Equal e = ap q (exact_keys k x e) ∙ gone'
    at k b m Greater e = let l : is_lt (key_cmp x k) ≡ true = ap is_lt (below_of k x e) in other k (gt_apart k x l) ∙ h.0.2 k l m

-- the key is out
without_walk : (j : Key) (p q : Key → Bool) → q j ≡ false → ((k : Key) → k ≢ j → q k ≡ p k) → (after : Option Key) (ks : List Key) → Walks p after ks → Walks q after (without_key j ks)
without_walk j p q gone' other after [] h = λ k b. off j p q gone' other k _ refl (h k b)
without_walk j p q gone' other after (x ∷ xs) h = placed (key_cmp j x) refl (without_walk j p q gone' other (Some x) xs h.1)
  where
    placed : (o : Ordering) → key_cmp j x ≡ o → Walks q (Some x) (without_key j xs) → Walks q after (without_by o x xs (without_key j xs))
    placed Less e ih = let l : is_lt (key_cmp j x) ≡ true = ap is_lt e in (
      (h.0.0, other x (gt_apart x j l) ∙ h.0.1, λ k b m. off j p q gone' other k _ refl (h.0.2 k b m)),
      walk_along p q (Some x) xs (λ k b. sym (other k (gt_apart k j (lt_trans j x k l b)))) h.1,
    )
    placed Equal e ih = let is : j ≡ x = exact_keys j x e in
        over_first x p q (subst (λ z. q z ≡ false) is gone') (subst (λ z. (k : Key) → k ≢ z → q k ≡ p k) is other) after xs h.0.0 h.0.2 h.1
    placed Greater e ih = let g : is_lt (key_cmp x j) ≡ true = ap is_lt (below_of j x e) in (
      (h.0.0, other x (lt_apart x j g) ∙ h.0.1, λ k b m. off j p q gone' other k _ refl (h.0.2 k b m)),
      ih,
    )

pub present_walk : (t : Tables) (table : ℕ) → Walks (is_present t table) None (present_keys t table)
present_walk t table = walk_along (found table (entries t)) (is_present t table) None (present_keys t table)
    (λ k a. ap (λ o. (seen_in o).present) (sym (get-entries t (place_at table k)))) (keys_walk table (entries t) (entries_sorted t))

-- presence after a row was written
written : (t : Tables) (table : ℕ) (p : Place) (row : Row) (k : Key) → is_present (insert t p row) table k ≡ (seen_in (cond (is_eq (place_cmp (place_at table k) p)) (Some row) (get t (place_at table k)))).present
written t table p row k = ap (λ o. (seen_in o).present) (get-insert place_total t p row (place_at table k))

apart_false : (k j : Key) (o : Ordering) → key_cmp k j ≡ o → k ≢ j → is_eq o ≡ false
apart_false k j Less e n = refl
apart_false k j Equal e n = absurd (n (exact_keys k j e))
apart_false k j Greater e n = refl

written_here : (t : Tables) (table : ℕ) (p : Place) (row : Row) → (table == p.table) ≡ true → is_present (insert t p row) table p.key ≡ row.present
written_here t table p row h = written t table p row p.key ∙ ap (λ o. (seen_in (cond (is_eq o) (Some row) (get t (place_at table p.key)))).present) (in_table table p.key p h ∙ self_of p.key _ refl)

written_other : (t : Tables) (table : ℕ) (p : Place) (row : Row) (k : Key) → (table == p.table) ≡ true → k ≢ p.key → is_present (insert t p row) table k ≡ is_present t table k
written_other t table p row k h n = written t table p row k ∙ ap (λ b. (seen_in (cond b (Some row) (get t (place_at table k)))).present) (ap is_eq (in_table table k p h) ∙ apart_false k p.key _ refl n)

not_equal : (o : Ordering) → o ≢ Equal → is_eq o ≡ false
not_equal Less n = refl
not_equal Equal n = absurd (n refl)
not_equal Greater n = refl

written_elsewhere : (t : Tables) (table : ℕ) (p : Place) (row : Row) (k : Key) → (table == p.table) ≡ false → is_present (insert t p row) table k ≡ is_present t table k
written_elsewhere t table p row k h = written t table p row k ∙ ap (λ b. (seen_in (cond b (Some row) (get t (place_at table k)))).present) (not_equal _ (other_table table k p h))

pub laid_keys : (t : Tables) (e : Place × LeftRow) (table : ℕ) → laid e table (present_keys t table) ≡ present_keys (insert t e.0 (left_row e.1)) table
laid_keys t e table = by_table (table == e.0.table) refl
  where
    p : Key → Bool
    p = is_present t table

    q : Key → Bool
    q = is_present (insert t e.0 (left_row e.1)) table

    by_present : (c : Bool) → e.1.present ≡ c → (table == e.0.table) ≡ true → cond c (with_key e.0.key (present_keys t table)) (without_key e.0.key (present_keys t table)) ≡ present_keys (insert t e.0 (left_row e.1)) table
    by_present true c h = walk_keys (insert t e.0 (left_row e.1)) table _ (with_walk e.0.key p q (written_here t table e.0 (left_row e.1) h ∙ c) (λ k n. written_other t table e.0 (left_row e.1) k h n) None (present_keys t table) refl (present_walk t table))
    by_present false c h = walk_keys (insert t e.0 (left_row e.1)) table _ (without_walk e.0.key p q (written_here t table e.0 (left_row e.1) h ∙ c) (λ k n. written_other t table e.0 (left_row e.1) k h n) None (present_keys t table) (present_walk t table))

    by_table : (b : Bool) → (table == e.0.table) ≡ b → cond b (cond e.1.present (with_key e.0.key (present_keys t table)) (without_key e.0.key (present_keys t table))) (present_keys t table) ≡ present_keys (insert t e.0 (left_row e.1)) table
    by_table true h = by_present e.1.present refl h
    by_table false h = walk_keys (insert t e.0 (left_row e.1)) table _ (walk_along p q None (present_keys t table) (λ k a. sym (written_elsewhere t table e.0 (left_row e.1) k h)) (present_walk t table))

pub laid_over : (e : Place × LeftRow) (es : List (Place × LeftRow)) (t : Tables) (table : ℕ) (under left : List Key) → under ≡ present_keys (over es t) table → left ≡ laid e table under → left ≡ present_keys (over (e ∷ es) t) table
laid_over e es t table under left h g = g ∙ ap (laid e table) h ∙ laid_keys (over es t) e table

pub ruleset laying = (laid_over)

-- a table was walked from its start
pub walked_present : (o n : Face) (a b : Option (List ReadValue)) (table : ℕ) (old new : List Key) → Walked o n a b table None old new → old ≡ [] → Follows o n a b (λ t. new ≡ present_keys t table)
walked_present o n a b table old new w e = so o n a b _ _ w.ran (λ t walk. w.grown ∙ ap (λ l. l ++ w.keys) e ∙ walk_keys t table w.keys walk)

-- and what changes left was put over it
pub present_laid : (o n : Face) (a b : Option (List ReadValue)) (left : List (Place × LeftRow)) (table : ℕ) (under keys : List Key)
    → Follows o n a b (λ t. under ≡ present_keys t table) → ((t : Tables) → under ≡ present_keys t table → keys ≡ present_keys (over left t) table)
    → Follows o n a b (λ t. keys ≡ present_keys (over left t) table)
present_laid o n a b left table under keys f h = so o n a b _ _ f h

pub ruleset laid_all = (present_laid)

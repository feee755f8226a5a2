-- A rule is broken only at candidates, so the least of these at which it is broken is the least of all.
use Rattle.std.proofs.Common.{◌≡◌, ◌⊎◌, inl, inr, ⊎_elim, ℕ, zero, suc, ◌+◌, ◌<◌, ◌≤◌, ◌||◌, ◌&&◌, ◌==◌, not, Bool, true, false, cond, List, [], ◌∷◌, take, get_or, length, Option, Some, None, slice_get, refl, sym, ap, subst, ◌∙◌, arith}
use Rattle.std.specs.Ordering.{is_lt, eq_by_cmp}
use Rattle.std.specs.FinMap.{get, get-insert}
use Rattle.std.proofs.lemmas.Bool.Decides.{nat_tests}
use Rattle.std.proofs.lemmas.Cmp.{eq_by_cmp_equiv}
use Rattle.std.proofs.lemmas.List.{take_more, take_all}
use Rattle.std.proofs.lemmas.List.Folds.{list_any-append}
use Rattle.std.proofs.lemmas.Map.Views.{tells_apart}
use Rattle.sv_value.specs.declared.values.Key.{Key}
use Rattle.sv_value.specs.Orders.{key_cmp}
use Rattle.sv_value.proofs.OrderLaws.{key_total, exact_keys}
use Rattle.sv_app.specs.declared.apps.Ident.{Ident}
use Rattle.sv_app.specs.declared.gots.Got.{Got}
use Rattle.sv_app.specs.declared.places.Place.{Place}
use Rattle.sv_app.specs.declared.schemas.Inv.{Inv}
use Rattle.sv_app.specs.declared.schemas.InvBody.{InvBody}
use Rattle.sv_app.specs.declared.schemas.InvBody.TheVariants as bodies
use Rattle.sv_app.specs.Schema.{Rule, Bound, OneOf, Different, Refers, Invariant, Declaration, rule_of, invariant_of}
use Rattle.sv_app.specs.Tables.{Row, Tables}
use Rattle.sv_app.specs.Valid.{value_of, key_by, place_at, IsKept, IsPresent, Binds, Holds, IsInvariant}
use Rattle.sv_app.proofs.PlaceLaws.{place_total, exact_places}
use Rattle.sv_effect.specs.declared.left.LeftRow.{LeftRow}
use Rattle.sv_effect.specs.Faces.{Face}
use Rattle.sv_effect.specs.Follows.{Follows}
use Rattle.sv_effect.specs.Overlays.{over, left_row}
use Rattle.sv_effect.specs.Reads.{ReadValue}
use Rattle.sv_effect.specs.TablesOfCut.{is_place}
use Rattle.sv_effect.proofs.FollowLaws.{quiet, so, next_to}
use Rattle.sv_check.specs.Left.{is_left}
use Rattle.sv_check.specs.Least.{IsLeast, lesser, Says, BrokenAt, IsAfter, has_key, AreCandidates, IsOwn, has_absent, PlaceSays, LeastAmong, LeastBroken, is_touched, walks}
use Rattle.sv_check.specs.Clashes.{Pair, values_of, values_at, Clashes}
use Rattle.sv_check.proofs.BrokenLaws.{not_left, from_present}
use Rattle.sv_check.proofs.ClashLaws.{HasTwo, has_two, two_clash, cases_keys}
use Rattle.sv_check.proofs.LeastLaws.{least_both, least_same, least_one}
use Rattle.sv_app.proofs.ListLaws.{Stands, Passes, any_passes, flat_stands, stands_in}
use Rattle.sv_check.proofs.RuleLaws.{clash}
use Rattle.sv_check.proofs.WalkLaws.{other_table}

some_same : {A : Type 0} (x y : A) → Some x ≡ Some y → x ≡ y
some_same x y e = cc

-- two sets that can't be told apart have one least key
pub least_classic : (P Q : Key → Type 0) (found : Option Key) → IsLeast P found → ((k : Key) → P k → Q k) → ((k : Key) → Q k → (P k → ⊥) → ⊥) → IsLeast Q found
least_classic P Q None p to from = λ k h. from k h (p k)
least_classic P Q (Some key) p to from = (to key p.0, λ k h. by (is_lt (key_cmp k key)) refl h)
  where
    by : {k : Key} (b : Bool) → is_lt (key_cmp k key) ≡ b → Q k → b ≡ false
    by {k} false e h = refl
    by {k} true e h = absurd (from k h (λ q. clash (is_lt (key_cmp k key)) e (p.1 k q)))

-- ---- the least among keys that are looked through

has_more : (key : Key) (keys : List Key) (i : ℕ) (e : Key) → i < length keys → e ≡ get_or keys i e → has_key key (take (i + 1) keys) ≡ (has_key key (take i keys) || eq_by_cmp key_cmp key e)
has_more key keys i e less is =
    ap (has_key key) (take_more keys i e less) ∙ list_any-append (eq_by_cmp key_cmp key) (take i keys) (get_or keys i e ∷ [])
    ∙ ap (λ b. has_key key (take i keys) || b) (or_none (eq_by_cmp key_cmp key (get_or keys i e)) ∙ ap (eq_by_cmp key_cmp key) (sym is))
  where
    or_none : (b : Bool) → (b || false) ≡ b
    or_none true = refl
    or_none false = refl

either_of : (a b : Bool) → (a || b) ≡ true → (a ≡ true) ⊎ (b ≡ true)
either_of true b e = inl refl
either_of false b e = inr e

first_of : (a b : Bool) → a ≡ true → (a || b) ≡ true
first_of true b e = refl
first_of false b e = absurd cc

second_of : (a b : Bool) → b ≡ true → (a || b) ≡ true
second_of true b e = refl
second_of false b e = e

pub key_itself : (k : Key) → eq_by_cmp key_cmp k k ≡ true
key_itself k = (eq_by_cmp_equiv key_total).refl k

pub none_looked : (o n : Face) (a b : Option (List ReadValue)) (schema : List Declaration) (left : List (Place × LeftRow)) (table : ℕ) (rule : Rule) (keys : List Key) → n ≡ o → b ≡ a
    → Follows o n a b (LeastAmong schema left table rule (take 0 keys) None)
none_looked o n a b schema left table rule keys same stands = quiet o n a b _ same stands (λ t after k h. none_there h.0)
  where
    none_there : false ≡ true → ⊥
    none_there e = cc

pub one_looked : (o m n : Face) (a b c : Option (List ReadValue)) (schema : List Declaration) (left : List (Place × LeftRow)) (table : ℕ) (rule : Rule) (keys : List Key) (i : ℕ) (key : Key)
    (found new : Option Key) (broken : Bool) → i < length keys → key ≡ get_or keys i key → Follows o m a b (LeastAmong schema left table rule (take i keys) found)
    → Follows m n b c (PlaceSays schema left (place_at table key) rule broken) → new ≡ cond broken (lesser found (Some key)) found
    → Follows o n a c (LeastAmong schema left table rule (take (i + 1) keys) new)
one_looked o m n a b c schema left table rule keys i key found new broken less is f g e =
    next_to o m n a b c _ _ _ f g (λ t before says after. subst (IsLeast (Both t (take (i + 1) keys))) (sym e) (by t broken (before after) (says after)))
  where
    Both : Tables → List Key → Key → Type 0
    Both t ks k = (has_key k ks ≡ true) × BrokenAt schema (over left t) table rule k

    to : (t : Tables) (k : Key) → Both t (take i keys) k → Both t (take (i + 1) keys) k
    to t k h = (has_more k keys i key less is ∙ first_of (has_key k (take i keys)) (eq_by_cmp key_cmp k key) h.0, h.1)

    from : (t : Tables) (k : Key) → Both t (take (i + 1) keys) k → Both t (take i keys) k ⊎ ((k ≡ key) × BrokenAt schema (over left t) table rule k)
    from t k h = ⊎_elim (λ x. inl (x, h.1)) (λ x. inr (tells_apart exact_keys k key x, h.1)) (either_of (has_key k (take i keys)) (eq_by_cmp key_cmp k key) (sym (has_more k keys i key less is) ∙ h.0))

    by : (t : Tables) (r : Bool) → IsLeast (Both t (take i keys)) found → Says r (BrokenAt schema (over left t) table rule key) → IsLeast (Both t (take (i + 1) keys)) (cond r (lesser found (Some key)) found)
    by t true before says = least_same (λ k. Both t (take i keys) k ⊎ (k ≡ key)) (Both t (take (i + 1) keys)) (lesser found (Some key))
        (least_both (Both t (take i keys)) (λ k. k ≡ key) found (Some key) before (least_one key))
        (λ k either. ⊎_elim (to t k) (λ s. (
          has_more k keys i key less is ∙ second_of (has_key k (take i keys)) (eq_by_cmp key_cmp k key) (ap (λ z. eq_by_cmp key_cmp z key) s ∙ key_itself key),
          subst (BrokenAt schema (over left t) table rule) (sym s) says,
        )) either)
        (λ k h. ⊎_elim (λ x. inl x) (λ x. inr x.0) (from t k h))
    by t false before says = least_same (Both t (take i keys)) (Both t (take (i + 1) keys)) found before (to t)
        (λ k h. ⊎_elim (λ x. x) (λ x. absurd (says (subst (BrokenAt schema (over left t) table rule) x.0 x.1))) (from t k h))

pub all_looked : (o n : Face) (a b : Option (List ReadValue)) (schema : List Declaration) (left : List (Place × LeftRow)) (table : ℕ) (rule : Rule) (keys : List Key) (i : ℕ) (found : Option Key)
    → length keys ≤ i → Follows o n a b (LeastAmong schema left table rule (take i keys) found) → Follows o n a b (LeastAmong schema left table rule keys found)
all_looked o n a b schema left table rule keys i found le f = so o n a b _ _ f (λ t h. subst (λ ks. LeastAmong schema left table rule ks found t) (take_all i keys le) h)

pub ruleset looking = (none_looked, all_looked)

-- ---- a rule of one row is broken only at candidates

-- what stands after the changes where a row stood before them
data Later (left : List (Place × LeftRow)) (t : Tables) (p : Place) : Type 0 where
  Same : get (over left t) p ≡ get t p → Later left t p
  Changed : (number : ℕ) (e : Place × LeftRow) → slice_get left number ≡ Some e → e.0 ≡ p → get (over left t) p ≡ Some (left_row e.1) → Later left t p

later_at : (left : List (Place × LeftRow)) (t : Tables) (p : Place) → Later left t p
later_at [] t p = Same refl
later_at (x ∷ left) t p = by (is_place p x.0) refl (later_at left t p)
  where
    stands : (b : Bool) → is_place p x.0 ≡ b → get (over (x ∷ left) t) p ≡ cond b (Some (left_row x.1)) (get (over left t) p)
    stands b e = get-insert place_total (over left t) x.0 (left_row x.1) p ∙ ap (λ r. cond r (Some (left_row x.1)) (get (over left t) p)) e

    by : (b : Bool) → is_place p x.0 ≡ b → Later left t p → Later (x ∷ left) t p
    by true e ih = Changed 0 x refl (sym (tells_apart exact_places p x.0 e)) (stands true e)
    by false e (Same h) = Same (stands false e ∙ h)
    by false e (Changed n y at here h) = Changed (suc n) y at here (stands false e ∙ h)

absent_at : (left : List (Place × LeftRow)) (table number : ℕ) (e : Place × LeftRow) → slice_get left number ≡ Some e → e.0.table ≡ table → e.1.present ≡ false → has_absent left table ≡ true
absent_at [] table number e at here absent = absurd cc
absent_at (x ∷ left) table zero e at here absent =
    let same : x ≡ e = cc in
    first_of (x.0.table == table && not x.1.present) (has_absent left table) (both (x.0.table == table) x.1.present (same_number x.0.table table (ap (λ y. y.0.table) same ∙ here)) (ap (λ y. y.1.present) same ∙ absent))
  where
    both : (a b : Bool) → a ≡ true → b ≡ false → (a && not b) ≡ true
    both true false g h = refl
    both true true g h = absurd cc
    both false b g h = absurd cc

    same_number : (a b : ℕ) → a ≡ b → (a == b) ≡ true
    same_number a b h = grind (arith, nat_tests)
absent_at (x ∷ left) table (suc number) e at here absent = second_of (x.0.table == table && not x.1.present) (has_absent left table) (absent_at left table number e at here absent)

-- a parent that was present stands after the changes, unless one of its table was removed, or it binds rows that aren't present and so is grow-only
parent_stands : (schema : List Declaration) (left : List (Place × LeftRow)) (t : Tables) (parent : ℕ) (key : Key) (present : Bool) → IsAfter schema left t → IsPresent t parent key
    → (has_absent left parent ≡ false) ⊎ (present ≡ false) → Binds (slice_get schema parent) present → IsPresent (over left t) parent key
parent_stands schema left t parent key present after before why binds = by (later_at left t (place_at parent key))
  where
    by_present : (e : Place × LeftRow) (number : ℕ) → slice_get left number ≡ Some e → e.0 ≡ place_at parent key → get (over left t) (place_at parent key) ≡ Some (left_row e.1)
        → (b : Bool) → e.1.present ≡ b → IsPresent (over left t) parent key
    by_present e number at here h true p = record { row = left_row e.1; kept = h; present = p }
    by_present e number at here h false p = ⊎_elim (λ none_absent. clash (has_absent left parent) (absent_at left parent number e at (ap (λ q. q.table) here) p) none_absent) (λ not_present. of_option (slice_get schema parent) refl binds not_present) why
      where
        of_option : (o : Option Declaration) → slice_get schema parent ≡ o → Binds o present → present ≡ false → IsPresent (over left t) parent key
        of_option None declared b not_present = absurd b
        of_option (Some declaration) declared b not_present = ⊎_elim
            (λ grows. record { row = left_row e.1; kept = h; present = after.grown parent declaration key (left_row e.1) declared grows h })
            (λ is_present. clash present is_present not_present) b

    by : Later left t (place_at parent key) → IsPresent (over left t) parent key
    by (Same h) = record { row = before.row; kept = h ∙ before.kept; present = before.present }
    by (Changed number e at here h) = by_present e number at here h e.1.present refl

not_true : (b : Bool) → (b ≡ true → ⊥) → b ≡ false
not_true true h = absurd (h refl)
not_true false h = refl

-- at a key that is no candidate the rule holds as it did before
holds_still : (schema : List Declaration) (left : List (Place × LeftRow)) (t : Tables) (table : ℕ) (inv : Invariant) (rule : Rule) (keys : List Key) (key : Key) (row : Row)
    → IsAfter schema left t → AreCandidates (walks rule left) left table keys t → IsInvariant schema table inv → inv.rule ≡ rule → IsOwn rule → has_key key keys ≡ false
    → IsKept (over left t) table key row → Holds schema (over left t) table rule key row
holds_still schema left t table inv rule keys key row after candidates is same own outside kept = by rule same candidates own
  where
    unchanged : is_left (place_at table key) left ≡ false
    unchanged = not_true (is_left (place_at table key) left) (λ h. clash (has_key key keys) (candidates.changed key h) outside)

    before : IsKept t table key row
    before = sym (not_left left t (place_at table key) unchanged) ∙ kept

    held : (r : Rule) → inv.rule ≡ r → Holds schema t table r key row
    held r e = subst (λ x. Holds schema t table x key row) e (after.valid.invariants table inv key row is before)

    by : (r : Rule) → inv.rule ≡ r → AreCandidates (walks r left) left table keys t → IsOwn r → Holds schema (over left t) table r key row
    by (Bound check) e cs o = held (Bound check) e
    by (OneOf column texts) e cs o = held (OneOf column texts) e
    by (Different column) e cs o = absurd o
    by (Refers column parent target) e cs o = λ binds.
        parent_stands schema left t parent.num (key_by (value_of row column)) row.present after (held (Refers column parent target) e binds) (why (has_absent left parent.num) refl) binds
      where
        why : (b : Bool) → has_absent left parent.num ≡ b → (has_absent left parent.num ≡ false) ⊎ (row.present ≡ false)
        why false h = inl h
        why true h = inr (not_true row.present (λ p. clash (has_key key keys) (cs.present h key (from_present t table key (record { row = row; kept = before; present = p }))) outside))

pub own_least : (schema : List Declaration) (left : List (Place × LeftRow)) (t : Tables) (table : ℕ) (inv : Invariant) (keys : List Key) (found : Option Key)
    → AreCandidates (walks inv.rule left) left table keys t → IsInvariant schema table inv → IsOwn inv.rule → LeastAmong schema left table inv.rule keys found t → LeastBroken schema left table inv.rule found t
own_least schema left t table inv keys found candidates is own among after =
    least_classic (λ k. (has_key k keys ≡ true) × BrokenAt schema (over left t) table inv.rule k) (BrokenAt schema (over left t) table inv.rule) found (among after) (λ k h. h.1)
    (λ k broken not_both. broken.breaks (holds_still schema left t table inv inv.rule keys k broken.row after candidates is refl own (not_true (has_key k keys) (λ h. not_both (h, broken))) broken.kept))

-- ---- different values

record RowWith (t : Tables) (table : ℕ) (column : Ident) (key : Key) (value : Got) : Type 0 where
  pub row : Row
  pub kept : IsKept t table key row
  pub present : row.present ≡ true
  pub is : value_of row column ≡ value

abbrev pair_by : Key → Got → Pair
pair_by key value = (key, value)

row_of_pair : (t : Tables) (table : ℕ) (column : Ident) (k key : Key) (value : Got) → Stands (values_of column k (get t (place_at table k))) (key, value) → RowWith t table column key value
row_of_pair t table column k key value h = by (get t (place_at table k)) refl h
  where
    pair : (x y : Pair) → Some x ≡ Some y → x ≡ y
    pair x y e = cc

    by : (o : Option Row) → get t (place_at table k) ≡ o → Stands (values_of column k o) (key, value) → RowWith t table column key value
    by None kept s = absurd (no_element s.number s.at)
      where
        no_element : (n : ℕ) → slice_get {X = Pair} [] n ≡ Some (key, value) → ⊥
        no_element n e = cc
    by (Some row) kept s = present row.present refl s
      where
        one : (n : ℕ) → slice_get {X = Pair} ((k, value_of row column) ∷ []) n ≡ Some (key, value) → pair_by k (value_of row column) ≡ pair_by key value
        one zero e = pair (k, value_of row column) (key, value) e
        one (suc n) e = absurd cc

        present : (b : Bool) → row.present ≡ b → Stands {A = Pair} (cond b ((k, value_of row column) ∷ []) []) (key, value) → RowWith t table column key value
        present true p s =
            let same : pair_by k (value_of row column) ≡ pair_by key value = one s.number s.at in
            record { row = row; kept = ap (λ x. get t (place_at table x)) (sym (ap (λ x. x.0) same)) ∙ kept; present = p; is = ap (λ x. x.1) same }
        present false p s = absurd (no_element s.number s.at)
          where
            no_element : (n : ℕ) → slice_get {X = Pair} [] n ≡ Some (key, value) → ⊥
            no_element n e = cc

pair_of_row : (t : Tables) (table : ℕ) (column : Ident) (key : Key) (row : Row) → IsKept t table key row → row.present ≡ true → Stands (values_of column key (get t (place_at table key))) (key, value_of row column)
pair_of_row t table column key row kept present = subst (λ o. Stands (values_of column key o) (key, value_of row column)) (sym kept)
    (subst (λ b. Stands {A = Pair} (cond b ((key, value_of row column) ∷ []) []) (key, value_of row column)) (sym present) (record { number = 0; at = refl }))

candidate_stands : (keys : List Key) (k : Key) → has_key k keys ≡ true → Stands keys k
candidate_stands keys k h =
    let passes : Passes (eq_by_cmp key_cmp k) keys = any_passes (eq_by_cmp key_cmp k) keys h in
    record { number = passes.number; at = passes.at ∙ ap (λ x. Some x) (sym (tells_apart exact_keys k passes.x passes.is)) }

-- each row that is present after the changes is at a candidate
present_candidate : (left : List (Place × LeftRow)) (t : Tables) (table : ℕ) (keys : List Key) (key : Key) (row : Row) → AreCandidates true left table keys t → IsKept (over left t) table key row → row.present ≡ true
    → has_key key keys ≡ true
present_candidate left t table keys key row candidates kept present = by (is_left (place_at table key) left) refl
  where
    by : (b : Bool) → is_left (place_at table key) left ≡ b → has_key key keys ≡ true
    by true h = candidates.changed key h
    by false h = candidates.present refl key (from_present t table key (record { row = row; kept = sym (not_left left t (place_at table key) h) ∙ kept; present = present }))

pub clash_least : (schema : List Declaration) (left : List (Place × LeftRow)) (t : Tables) (table : ℕ) (column : Ident) (keys : List Key) (pairs : List Pair) (found : Option Key)
    → AreCandidates true left table keys t → pairs ≡ values_at (over left t) table column keys → IsLeast (Clashes pairs) found → LeastBroken schema left table (Different column) found t
clash_least schema left t table column keys pairs found candidates is least after = least_classic (Clashes pairs) (BrokenAt schema (over left t) table (Different column)) found least to from
  where
    row_at : (n : ℕ) (key : Key) (value : Got) → slice_get pairs n ≡ Some (key, value) → RowWith (over left t) table column key value
    row_at n key value at =
        let inside = stands_in (λ k. values_of column k (get (over left t) (place_at table k))) keys n (key, value) (ap (λ ps. slice_get ps n) (sym is) ∙ at) in
        row_of_pair (over left t) table column inside.x key value inside.here

    pair_at : (key : Key) (row : Row) → IsKept (over left t) table key row → row.present ≡ true → Stands pairs (key, value_of row column)
    pair_at key row kept present =
        let candidate : Stands keys key = candidate_stands keys key (present_candidate left t table keys key row candidates kept present) in
        subst (λ ps. Stands ps (key, value_of row column)) (sym is)
        (flat_stands (λ k. values_of column k (get (over left t) (place_at table k))) keys candidate.number key (key, value_of row column) candidate.at (pair_of_row (over left t) table column key row kept present))

    to : (k : Key) → Clashes pairs k → BrokenAt schema (over left t) table (Different column) k
    to k c =
        let both : HasTwo pairs k = has_two pairs k c in
        let mine : RowWith (over left t) table column k both.value = row_at both.one.number k both.value both.one.at in
        let its : RowWith (over left t) table column both.other both.value = row_at both.two.number both.other both.value both.two.at in
        record { row = mine.row; kept = mine.kept; breaks = λ holds. both.apart (holds mine.present both.other its.row its.kept its.present (its.is ∙ sym mine.is)) }

    from : (k : Key) → BrokenAt schema (over left t) table (Different column) k → (Clashes pairs k → ⊥) → ⊥
    from k broken none_clashes = broken.breaks (λ present other with_it kept there equal. ⊎_elim (λ same. same) (λ apart. absurd (none_clashes (two_clash pairs k (record {
      value = value_of broken.row column;
      other = other;
      one = pair_at k broken.row broken.kept present;
      two = subst (λ v. Stands pairs (other, v)) equal (pair_at other with_it kept there);
      apart = apart;
    })))) (cases_keys other k))

-- ---- as the calls follow each other

pub own_broken : (o m n : Face) (a b c : Option (List ReadValue)) (schema : List Declaration) (left : List (Place × LeftRow)) (table : ℕ) (inv : Inv) (walk : Bool) (keys : List Key) (found : Option Key)
    → Follows o m a b (AreCandidates walk left table keys) → walk ≡ walks (rule_of inv.body) left → Follows m n b c (LeastAmong schema left table (rule_of inv.body) keys found)
    → IsInvariant schema table (invariant_of inv) → IsOwn (rule_of inv.body) → Follows o n a c (LeastBroken schema left table (rule_of inv.body) found)
own_broken o m n a b c schema left table inv walk keys found f is g declared own =
    next_to o m n a b c _ _ _ f g (λ t candidates among. own_least schema left t table (invariant_of inv) keys found (subst (λ w. AreCandidates w left table keys t) is candidates) declared own among)

pub clash_broken : (o m n : Face) (a b c : Option (List ReadValue)) (schema : List Declaration) (left : List (Place × LeftRow)) (table : ℕ) (body : InvBody) (column : Ident) (keys : List Key)
    (pairs : List Pair) (found : Option Key) → Follows o m a b (AreCandidates true left table keys) → body ≡ bodies.Unique column
    → Follows m n b c (λ t. pairs ≡ values_at (over left t) table column keys) → IsLeast (Clashes pairs) found → Follows o n a c (LeastBroken schema left table (rule_of body) found)
clash_broken o m n a b c schema left table body column keys pairs found f unique g least =
    next_to o m n a b c _ _ _ f g (λ t candidates pairs_are. subst (λ x. LeastBroken schema left table (rule_of x) found t) (sym unique)
    (clash_least schema left t table column keys pairs found candidates pairs_are least))

none_touched : (left : List (Place × LeftRow)) (table : ℕ) (key : Key) → is_touched left table ≡ false → is_left (place_at table key) left ≡ false
none_touched [] table key e = refl
none_touched (x ∷ left) table key e = by (x.0.table == table) refl e (none_touched left table key)
  where
    by : (b : Bool) → (x.0.table == table) ≡ b → (b || is_touched left table) ≡ false → (is_touched left table ≡ false → is_left (place_at table key) left ≡ false) → is_left (place_at table key) (x ∷ left) ≡ false
    by true h e ih = absurd cc
    by false h e ih = (λ i. other_table table key x.0 h i || is_left (place_at table key) left) ∙ ih e

-- no row of the table was changed, so its values differ as they did before
pub untouched : (o n : Face) (a b : Option (List ReadValue)) (schema : List Declaration) (left : List (Place × LeftRow)) (table : ℕ) (inv : Inv) (column : Ident) (touched : Bool) → n ≡ o → b ≡ a
    → IsInvariant schema table (invariant_of inv) → inv.body ≡ bodies.Unique column → touched ≡ is_touched left table → touched ≡ false → Follows o n a b (LeastBroken schema left table (rule_of inv.body) None)
untouched o n a b schema left table inv column touched same stands declared unique is none_left =
    quiet o n a b _ same stands (λ t after. subst (λ x. IsLeast (BrokenAt schema (over left t) table (rule_of x)) None) (sym unique) (λ key broken. broken.breaks (λ present other with_it kept there equal.
    held t after key broken.row (as_before t key broken.row broken.kept) present other with_it (as_before t other with_it kept) there equal)))
  where
    as_before : (t : Tables) (key : Key) (row : Row) → IsKept (over left t) table key row → IsKept t table key row
    as_before t key row kept = sym (not_left left t (place_at table key) (none_touched left table key (sym is ∙ none_left))) ∙ kept

    held : (t : Tables) → IsAfter schema left t → (key : Key) (row : Row) → IsKept t table key row → Holds schema t table (Different column) key row
    held t after key row kept = subst (λ x. Holds schema t table (rule_of x) key row) unique (after.valid.invariants table (invariant_of inv) key row declared kept)

pub ruleset breaking = (own_broken, clash_broken, untouched)

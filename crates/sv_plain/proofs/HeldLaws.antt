-- Lists that are walked from the front, and what was gathered so far.
use Rattle.std.proofs.Common.{◌≡◌, ℕ, zero, suc, ◌+◌, ◌*◌, ◌^◌, ◌<◌, ◌≤◌, ◌==◌, if◌then◌else◌, Bool, true, false, List, [], ◌∷◌, ◌++◌, length, take, drop, get_or, Some, None, slice_get, refl, sym, ap, subst, ◌∙◌, arith, append_assoc, append-nil, length-append, ◌⊎◌, inl, inr}
use Rattle.std.specs.Prelude.{ℤ, pos, ◌+ℤ◌, map}
use lib.Signed.{mag}
use Rattle.std.proofs.lemmas.Int.{ints}
use Rattle.std.proofs.lemmas.Bool.{cases_eq}
use Rattle.std.proofs.lemmas.List.{drop_more, drop_all, length-map}
use Rattle.std.proofs.lemmas.List.Concat.{flat_map-append}
use Rattle.sv_value.specs.declared.stamps.Stamp.{Stamp}
use Rattle.sv_app.specs.declared.places.Place.{Place}
use Rattle.sv_effect.specs.declared.ops.Op.{Op}
use Rattle.sv_effect.specs.declared.ops.RowEffect.{RowEffect}
use Rattle.sv_effect.specs.declared.ops.Write.{Write}
use Rattle.sv_effect.specs.Applied.{Change, place_of, changes_from, changes_of}
use Rattle.sv_effect.specs.Cut.{Cut, Medium, held}
use Rattle.sv_effect.specs.StampedTables.{Stamped}
use Rattle.sv_effect.specs.TablesOfCut.{Family, is_place, at_place, changes_by, changes_at, to_column, all_to, delta_of, sum_of, set_by, sets_of, turn_by, turns_of, greatest, last}
use Rattle.sv_effect.proofs.PlaceListLaws.{at_place-append}
use Rattle.sv_effect.proofs.GreatestLaws.{greatest_append}
use Rattle.sv_effect.proofs.CellLaws.{last_append}
use Rattle.sv_plain.specs.declared.changes.HeldWrite.{HeldWrite}
use Rattle.sv_plain.specs.declared.changes.HeldChange.{HeldChange}
use Rattle.sv_plain.specs.Few.{FewChanges}
use Rattle.sv_plain.specs.Held.{IsWithin, AreShort, change_of, write_of, medium_of}

pub drop_next : {X : Type 0} (xs : List X) (i : ℕ) (x : X) → i < length xs → x ≡ get_or xs i x → drop i xs ≡ x ∷ drop (i + 1) xs
drop_next xs i x lt is = drop_more xs i x lt ∙ ap (λ y. y ∷ drop (i + 1) xs) (sym is)

-- one item more was gathered
pub gathered : {X A : Type 0} (f : List X → List A) → ((x : X) (rest : List X) → f (x ∷ rest) ≡ f (x ∷ []) ++ f rest) → (xs : List X) (i : ℕ) (x : X) (before now whole : List A)
    → i < length xs → x ≡ get_or xs i x → now ≡ before ++ f (x ∷ []) → before ++ f (drop i xs) ≡ whole → now ++ f (drop (i + 1) xs) ≡ whole
gathered f cut xs i x before now whole lt is e rest =
    ap (λ l. l ++ f (drop (i + 1) xs)) e ∙ append_assoc before (f (x ∷ [])) (f (drop (i + 1) xs))
    ∙ ap (λ l. before ++ l) (sym (cut x (drop (i + 1) xs)) ∙ ap f (sym (drop_next xs i x lt is))) ∙ rest

pub all_gathered : {X A : Type 0} (f : List X → List A) → f [] ≡ [] → (xs : List X) (i : ℕ) (now whole : List A) → length xs ≤ i → now ++ f (drop i xs) ≡ whole → now ≡ whole
all_gathered f none xs i now whole le e = sym (append-nil now) ∙ ap (λ l. now ++ l) (sym (ap f (drop_all i xs le) ∙ none)) ∙ e

pub to_column-cut : (column : ℕ) (s : Stamp) (w : ℕ × Write) (ws : List (ℕ × Write)) → to_column column s (w ∷ ws) ≡ to_column column s (w ∷ []) ++ to_column column s ws
to_column-cut column s w ws = by (w.0 == column)
  where
    by : (b : Bool) → (if b then record { value = w.1; stamp = s } ∷ to_column column s ws else to_column column s ws)
        ≡ (if b then record { value = w.1; stamp = s } ∷ [] else []) ++ to_column column s ws
    by true = refl
    by false = refl

-- one change of an operation more
pub changes_more : (p : Place) (op : Op) (es : List RowEffect) (i : ℕ) (e : RowEffect) (site : ℕ) (before now whole : List Change) → i < length es → e ≡ get_or es i e → site ≡ op.site
    → now ≡ before ++ at_place p (record { value = e; stamp = record { time = op.time; site = site; place = i } } ∷ [])
    → before ++ at_place p (changes_from op i (drop i es)) ≡ whole → now ++ at_place p (changes_from op (i + 1) (drop (i + 1) es)) ≡ whole
changes_more p op es i e site before now whole lt is at made rest =
    let c : Change = record { value = e; stamp = record { time = op.time; site = op.site; place = i } } in
    let later : List Change = changes_from op (i + 1) (drop (i + 1) es) in
    let next : suc i ≡ i + 1 = omega arith in
    let split : at_place p (changes_from op i (drop i es)) ≡ at_place p (c ∷ []) ++ at_place p later =
    ap (λ l. at_place p (changes_from op i l)) (drop_next es i e lt is) ∙ ap (λ n. at_place p (c ∷ changes_from op n (drop (i + 1) es))) next ∙ at_place-append p (c ∷ []) later in
    let mine : now ≡ before ++ at_place p (c ∷ []) = made ∙ (λ j. before ++ at_place p (record { value = e; stamp = record { time = op.time; site = at j; place = i } } ∷ [])) in
    ap (λ l. l ++ at_place p later) mine ∙ append_assoc before (at_place p (c ∷ [])) (at_place p later) ∙ ap (λ l. before ++ l) (sym split) ∙ rest

-- one operation more
pub ops_more : (p : Place) (ops : List Op) (i : ℕ) (op : Op) (before now whole : List Change) → i < length ops → op ≡ get_or ops i op → now ≡ before ++ at_place p (changes_of op)
    → before ++ at_place p (changes_by (drop i ops)) ≡ whole → now ++ at_place p (changes_by (drop (i + 1) ops)) ≡ whole
ops_more p ops i op before now whole lt is made rest =
    let later : List Change = at_place p (changes_by (drop (i + 1) ops)) in
    let split : at_place p (changes_by (drop i ops)) ≡ at_place p (changes_of op) ++ later =
    ap (λ l. at_place p (changes_by l)) (drop_next ops i op lt is) ∙ at_place-append p (changes_of op) (changes_by (drop (i + 1) ops)) in
    ap (λ l. l ++ later) made ∙ append_assoc before (at_place p (changes_of op)) later ∙ ap (λ l. before ++ l) (sym split) ∙ rest

-- the lists of the first origin, and of one origin more
pub first_list : {A : Type 0} (f : Family A) → all_to f 1 ≡ f 0
unfolding all_to
first_list f = refl

pub list_more : (m : Medium) (cut : Cut) (p : Place) (site : ℕ) (before now : List Change) (ops : List Op) (n : ℕ) → before ≡ all_to (changes_at p (held m cut)) (site + 1) → n ≡ cut (suc site) → ops ≡ take n (m (site + 1))
    → now ≡ before ++ at_place p (changes_by ops) → now ≡ all_to (changes_at p (held m cut)) (site + 1 + 1)
unfolding all_to
list_more m cut p site before now ops n was many is made =
    let one : suc (site + 1) ≡ site + 1 + 1 = omega arith in
    let next : suc site ≡ site + 1 = omega arith in
    made ∙ (λ i. was i ++ at_place p (changes_by (is i))) ∙ ap (λ k. all_to (changes_at p (held m cut)) (site + 1) ++ at_place p (changes_by (take k (m (site + 1))))) (many ∙ ap cut next)
    ∙ ap (all_to (changes_at p (held m cut))) one

get_untaken : {A : Type 0} (n : ℕ) (xs : List A) (q : ℕ) (x : A) → slice_get (take n xs) q ≡ Some x → slice_get xs q ≡ Some x
get_untaken zero xs q x e = absurd cc
get_untaken (suc n) [] q x e = absurd cc
get_untaken (suc n) (y ∷ xs) zero x e = e
get_untaken (suc n) (y ∷ xs) (suc q) x e = get_untaken n xs q x e

short_taken : (n : ℕ) (ops : List Op) → AreShort ops → AreShort (take n ops)
short_taken n ops short = record { each = λ q op at. short.each q op (get_untaken n ops q op at) }

pub held_short : (ops whole : List Op) (n : ℕ) → ops ≡ take n whole → AreShort whole → AreShort ops
held_short ops whole n is short = subst AreShort (sym is) (short_taken n whole short)

-- one write more
pub sum_more : (ws : List HeldWrite) (i : ℕ) (w : HeldWrite) (before delta now : ℤ) → i < length ws → w ≡ get_or ws i w → delta ≡ delta_of w.write → now ≡ (before +ℤ delta)
    → (before +ℤ sum_of (map write_of (drop i ws))) ≡ sum_of (map write_of ws) → (now +ℤ sum_of (map write_of (drop (i + 1) ws))) ≡ sum_of (map write_of ws)
sum_more ws i w before delta now lt is d e rest =
    let step : sum_of (map write_of (drop i ws)) ≡ (delta_of w.write +ℤ sum_of (map write_of (drop (i + 1) ws))) = ap (λ l. sum_of (map write_of l)) (drop_next ws i w lt is) in
    omega (arith, ints, step, d, e, rest)

pub within_more : (i : ℕ) (before delta now : ℤ) → IsWithin (i * 2 ^ 63) before → mag delta < 2 ^ 63 → now ≡ (before +ℤ delta) → IsWithin ((i + 1) * 2 ^ 63) now
within_more i before delta now w d e = record { low = omega (arith, ints, w.low, d, e); high = omega (arith, ints, w.high, d, e) }

-- so many changes stand in lists at most
same_op : (a b : Op) → Some a ≡ Some b → a ≡ b
same_op a b e = cc

many_changes : (op : Op) (n : ℕ) (es : List RowEffect) → length (changes_from op n es) ≡ length es
many_changes op n [] = refl
many_changes op n (e ∷ es) = ap suc (many_changes op (suc n) es)

fewer_at : (p : Place) (cs : List Change) → length (at_place p cs) ≤ length cs
fewer_at p [] = omega arith
fewer_at p (c ∷ cs) = by (is_place p (place_of c.value)) (fewer_at p cs)
  where
    by : (b : Bool) → length (at_place p cs) ≤ length cs → length (if b then c ∷ at_place p cs else at_place p cs) ≤ suc (length cs)
    by true le = omega (arith, le)
    by false le = omega (arith, le)

by_more : (xs ys : List Op) → length (changes_by (xs ++ ys)) ≡ length (changes_by xs) + length (changes_by ys)
by_more xs ys = ap length (flat_map-append changes_of xs ys) ∙ length-append (changes_by xs) (changes_by ys)

by_take : (n : ℕ) (ops : List Op) → length (changes_by (take n ops)) ≤ length (changes_by ops)
by_take zero ops = omega arith
by_take (suc n) [] = omega arith
by_take (suc n) (op ∷ ops) =
    let a : length (changes_by (take n ops)) ≤ length (changes_by ops) = by_take n ops in
    let b : length (changes_of op ++ changes_by (take n ops)) ≡ length (changes_of op) + length (changes_by (take n ops)) = length-append (changes_of op) (changes_by (take n ops)) in
    let d : length (changes_of op ++ changes_by ops) ≡ length (changes_of op) + length (changes_by ops) = length-append (changes_of op) (changes_by ops) in
    omega (arith, a, b, d)

few_at : (p : Place) (m : Medium) (cut : Cut) (n : ℕ) → length (all_to (changes_at p (held m cut)) n) ≤ length (changes_by (all_to m n))
unfolding all_to
few_at p m cut zero = omega arith
few_at p m cut (suc n) =
    let a : length (all_to (changes_at p (held m cut)) n) ≤ length (changes_by (all_to m n)) = few_at p m cut n in
    let b : length (all_to (changes_at p (held m cut)) n ++ changes_at p (held m cut) n) ≡ length (all_to (changes_at p (held m cut)) n) + length (changes_at p (held m cut) n) =
    length-append (all_to (changes_at p (held m cut)) n) (changes_at p (held m cut) n) in
    let d : length (changes_by (all_to m n ++ m n)) ≡ length (changes_by (all_to m n)) + length (changes_by (m n)) = by_more (all_to m n) (m n) in
    let e : length (changes_at p (held m cut) n) ≤ length (changes_by (take (cut n) (m n))) = fewer_at p (changes_by (take (cut n) (m n))) in
    let f : length (changes_by (take (cut n) (m n))) ≤ length (changes_by (m n)) = by_take (cut n) (m n) in
    omega (arith, a, b, d, e, f)

-- at most 65,536 of a place
pub few_gathered : (lists : List (List Op)) (cut : Cut) (p : Place) (xs : List HeldChange) → FewChanges lists → map change_of xs ≡ all_to (changes_at p (held (medium_of lists) cut)) 9 → length xs ≤ 65536
few_gathered lists cut p xs few are =
    let a : length xs ≡ length (all_to (changes_at p (held (medium_of lists) cut)) 9) = sym (length-map xs change_of) ∙ ap length are in
    let b : length (all_to (changes_at p (held (medium_of lists) cut)) 9) ≤ length (changes_by (all_to (medium_of lists) 9)) = few_at p (medium_of lists) cut 9 in
    omega (arith, a, b, few.few)

one_list : (ops : List Op) (q : ℕ) (op : Op) → slice_get ops q ≡ Some op → length op.effects ≤ length (changes_by ops)
one_list [] q op e = absurd cc
one_list (x ∷ ops) zero op e =
    let a : length (changes_of x ++ changes_by ops) ≡ length (changes_of x) + length (changes_by ops) = length-append (changes_of x) (changes_by ops) in
    let b : length (changes_of x) ≡ length x.effects = many_changes x 0 x.effects in
    let d : length x.effects ≡ length op.effects = ap (λ y. length y.effects) (same_op x op e) in
    omega (arith, a, b, d)
one_list (x ∷ ops) (suc q) op e =
    let a : length (changes_of x ++ changes_by ops) ≡ length (changes_of x) + length (changes_by ops) = length-append (changes_of x) (changes_by ops) in
    let b : length op.effects ≤ length (changes_by ops) = one_list ops q op e in
    omega (arith, a, b)

in_all_lists : (m : Medium) (n o : ℕ) → o < n → length (changes_by (m o)) ≤ length (changes_by (all_to m n))
unfolding all_to
in_all_lists m zero o lt = absurd (omega (arith, lt))
in_all_lists m (suc n) o lt = from (cases_eq o n) (λ below. in_all_lists m n o below)
  where
    both : length (changes_by (all_to m n ++ m n)) ≡ length (changes_by (all_to m n)) + length (changes_by (m n))
    both = by_more (all_to m n) (m n)

    from : (o ≡ n) ⊎ (o ≡ n → ⊥) → (o < n → length (changes_by (m o)) ≤ length (changes_by (all_to m n))) → length (changes_by (m o)) ≤ length (changes_by (all_to m n ++ m n))
    from (inl same) ih = let e : length (changes_by (m o)) ≡ length (changes_by (m n)) = ap (λ k. length (changes_by (m k))) same in omega (arith, both, e)
    from (inr apart) ih = let le : length (changes_by (m o)) ≤ length (changes_by (all_to m n)) = ih (omega (arith, lt, apart)) in omega (arith, both, le)

pub all_short : (lists : List (List Op)) (o : ℕ) → o < 9 → FewChanges lists → AreShort (medium_of lists o)
all_short lists o lt few = record {
  each = λ q op at.
      let a : length op.effects ≤ length (changes_by (medium_of lists o)) = one_list (medium_of lists o) q op at in
      let b : length (changes_by (medium_of lists o)) ≤ length (changes_by (all_to (medium_of lists) 9)) = in_all_lists (medium_of lists) 9 o lt in
      omega (arith, a, b, few.few);
}

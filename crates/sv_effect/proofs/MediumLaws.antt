-- The changes that a cut holds of a place: where they come from, and what a blue operation's are like.
use Rattle.std.proofs.Common.{◌≡◌, inl, inr, ℕ, zero, suc, ◌+◌, ◌≤◌, ◌==◌, ◌&&◌, not, if◌then◌else◌, Bool, true, false, List, [], ◌∷◌, ◌++◌, take, Option, Some, None, slice_get, refl, sym, ap, subst, ◌∙◌, arith}
use Rattle.std.proofs.lemmas.List.Concat.{flat_map-append}
use Rattle.std.proofs.lemmas.List.{append-nil}
use Rattle.std.proofs.lemmas.Map.Views.{tells_apart}
use Rattle.sv_value.specs.declared.stamps.Stamp.{Stamp}
use Rattle.sv_app.specs.declared.places.Place.{Place}
use Rattle.sv_app.specs.declared.schemas.Column.{Column}
use Rattle.sv_app.specs.Schema.{Declaration}
use Rattle.sv_app.proofs.PlaceLaws.{exact_places}
use Rattle.sv_effect.specs.declared.ops.Write.{Write}
use Rattle.sv_effect.specs.declared.ops.RowEffect.{RowEffect}
use Rattle.sv_effect.specs.declared.ops.Op.{Op}
use Rattle.sv_effect.specs.RowChange.{turn_of}
use Rattle.sv_effect.specs.Applied.{Change, place_of, changes_from, changes_of, columns_in, annotated_in}
use Rattle.sv_effect.specs.Fits.{Ascending, columns_written, FitsSchema, AllFit, OpFits}
use Rattle.sv_effect.specs.Threatened.{is_plain_column, writes_plain, turns, threatened_by_plain, any_threatened}
use Rattle.sv_effect.specs.Cut.{Cut, Medium, held}
use Rattle.sv_effect.specs.TablesOfCut.{is_place, at_place, changes_by, changes_at, to_column, writes_to, turn_by, turns_of, all_to}
use Rattle.sv_effect.specs.Laws.{AllAllowed, Differ}
use Rattle.sv_effect.proofs.Members.{In, Comes, comes, Source, source, Grown}
use Rattle.sv_effect.proofs.GreatestLaws.{Alone}
use Rattle.sv_effect.proofs.CellLaws.{Late}
use Rattle.sv_effect.proofs.RowLaws.{Orderly, Merging}
use Rattle.sv_app.proofs.TestLaws.{test_same, or_left, or_right}
use Rattle.sv_effect.proofs.PlaceListLaws.{at_place-append}

pub in_at_place : (q : Place) (cs : List Change) (c : Change) → In c (at_place q cs) → In c cs
in_at_place q [] c h = h
in_at_place q (x ∷ cs) c h = split (is_place q (place_of x.value)) h (λ i. in_at_place q cs c i)
  where
    split : (b : Bool) → In c (if b then x ∷ at_place q cs else at_place q cs) → (In c (at_place q cs) → In c cs) → In c (x ∷ cs)
    split true (inl e) ih = inl e
    split true (inr i) ih = inr (ih i)
    split false i ih = inr (ih i)

in_get : {A : Type 0} (xs : List A) (x : A) → In x xs → (q : ℕ) × (slice_get xs q ≡ Some x)
in_get [] x h = absurd h
in_get (y ∷ xs) x (inl e) = (0, ap (λ z. Some z) (sym e))
in_get (y ∷ xs) x (inr h) = let r : (q : ℕ) × (slice_get xs q ≡ Some x) = in_get xs x h in (suc r.0, r.1)

get_untaken : {A : Type 0} (k : ℕ) (xs : List A) (q : ℕ) (x : A) → slice_get (take k xs) q ≡ Some x → slice_get xs q ≡ Some x
get_untaken zero xs q x e = absurd cc
get_untaken (suc k) [] q x e = absurd cc
get_untaken (suc k) (y ∷ xs) zero x e = e
get_untaken (suc k) (y ∷ xs) (suc q) x e = get_untaken k xs q x e

-- a change of an operation, by its place in it
pub record IsChange (op : Op) (n : ℕ) (es : List RowEffect) (c : Change) : Type 0 where
  pub place : ℕ
  pub is : slice_get es place ≡ Some c.value
  pub time : c.stamp.time ≡ op.time
  pub site : c.stamp.site ≡ op.site
  pub number : c.stamp.place ≡ (n + place)

pub is_change : (op : Op) (n : ℕ) (es : List RowEffect) (c : Change) → In c (changes_from op n es) → IsChange op n es c
is_change op n [] c h = absurd h
is_change op n (e ∷ es) c (inl s) = record {
  place = 0;
  is = ap (λ z. Some z.value) (sym s);
  time = ap (λ z. z.stamp.time) s;
  site = ap (λ z. z.stamp.site) s;
  number = (let k : c.stamp.place ≡ n = ap (λ z. z.stamp.place) s in omega (arith, k));
}
is_change op n (e ∷ es) c (inr h) =
    let r : IsChange op (suc n) es c = is_change op (suc n) es c h in
    record { place = suc r.place; is = r.is; time = r.time; site = r.site; number = (let k : c.stamp.place ≡ (suc n + r.place) = r.number in omega (arith, k)) }

-- where a change of a family of held lists comes from
record Birth (m : Medium) (c : Change) : Type 0 where
  origin : ℕ
  number : ℕ
  op : Op
  stands : slice_get (m origin) number ≡ Some op
  change : IsChange op 0 op.effects c

birth : (m : Medium) (cut : Cut) (q : Place) (c : Change) → In c (all_to (changes_at q (held m cut)) 9) → Birth m c
birth m cut q c h =
    let s : Source (changes_at q (held m cut)) 9 c = source (changes_at q (held m cut)) 9 c h in
    let w : Comes changes_of (held m cut s.origin) c = comes changes_of (held m cut s.origin) c (in_at_place q (changes_by (held m cut s.origin)) c s.is) in
    let g : (r : ℕ) × (slice_get (take (cut s.origin) (m s.origin)) r ≡ Some w.from) = in_get (take (cut s.origin) (m s.origin)) w.from w.is in
    record { origin = s.origin; number = g.0; op = w.from; stands = get_untaken (cut s.origin) (m s.origin) g.0 w.from g.1; change = is_change w.from 0 w.from.effects c w.gives }

fits_at : (schema : List Declaration) (es : List RowEffect) (n : ℕ) (e : RowEffect) → AllFit schema es → slice_get es n ≡ Some e → FitsSchema schema e
fits_at schema [] n e fits is = absurd cc
fits_at schema (x ∷ es) zero e fits is = let same : x ≡ e = cc in subst (FitsSchema schema) same fits.0
fits_at schema (x ∷ es) (suc n) e fits is = fits_at schema es n e fits.1 is

same_op : (a b : Op) → Some a ≡ Some b → a ≡ b
same_op a b e = cc

same_effect : (a b : RowEffect) → Some a ≡ Some b → a ≡ b
same_effect a b e = cc

pub orderly : (schema : List Declaration) (m : Medium) (cut : Cut) (q : Place) → AllAllowed schema m → Differ m → Orderly (all_to (changes_at q (held m cut)) 9)
orderly schema m cut q allowed differ = record { alone = alone; late = late; once = once }
  where
    alone : Alone (all_to (changes_at q (held m cut)) 9)
    alone a b h k e = λ i. record { value = value i; stamp = e i }
      where
        s : Birth m a
        s = birth m cut q a h

        t : Birth m b
        t = birth m cut q b k

        both : (s.origin ≡ t.origin) × (s.number ≡ t.number)
        both = differ s.origin s.number t.origin t.number s.op t.op s.stands t.stands
            (sym s.change.time ∙ ap (λ z. z.time) e ∙ t.change.time) (sym s.change.site ∙ ap (λ z. z.site) e ∙ t.change.site)

        one : s.op ≡ t.op
        one = same_op s.op t.op (sym s.stands ∙ (λ i. slice_get (m (both.0 i)) (both.1 i)) ∙ t.stands)

        place : s.change.place ≡ t.change.place
        place =
            let x : a.stamp.place ≡ (0 + s.change.place) = s.change.number in
            let y : b.stamp.place ≡ (0 + t.change.place) = t.change.number in
            let z : a.stamp.place ≡ b.stamp.place = ap (λ w. w.place) e in
            omega (arith, x, y, z)

        value : a.value ≡ b.value
        value = same_effect a.value b.value (sym s.change.is ∙ (λ i. slice_get (one i).effects (place i)) ∙ t.change.is)

    late : Late (all_to (changes_at q (held m cut)) 9)
    late x h =
        let s : Birth m x = birth m cut q x h in
        let fits : OpFits schema s.op = allowed s.origin s.number s.op s.stands in
        let l : 1 ≤ s.op.time = fits.time in
        let e : x.stamp.time ≡ s.op.time = s.change.time in
        omega (arith, l, e)

    once : (c : Change) → In c (all_to (changes_at q (held m cut)) 9) → Ascending (columns_written c.value.writes.items)
    once c h =
        let s : Birth m c = birth m cut q c h in
        let fits : OpFits schema s.op = allowed s.origin s.number s.op s.stands in
        let one : FitsSchema schema c.value = fits_at schema s.op.effects s.change.place c.value fits.changes s.change.is in
        one.fits.order

-- one operation more
pub grown_changes : (q : Place) (m k : Medium) (o : ℕ) (op : Op) → k o ≡ m o ++ op ∷ [] → ((p : ℕ) → (p ≡ o → ⊥) → k p ≡ m p)
    → Grown (changes_at q m) (changes_at q k) o (at_place q (changes_of op))
grown_changes q m k o op here others = record {
  here = ap (λ ops. at_place q (changes_by ops)) here ∙ ap (at_place q) (flat_map-append changes_of (m o) (op ∷ []) ∙ ap (λ l. changes_by (m o) ++ l) (append-nil (changes_of op)))
      ∙ at_place-append q (changes_by (m o)) (changes_of op);
  others = λ p apart. ap (λ ops. at_place q (changes_by ops)) (others p apart);
}

no_plain_column : (columns : List Column) (j : ℕ) (s : Stamp) (ws : List (ℕ × Write)) → is_plain_column columns j ≡ true → writes_plain columns ws ≡ false → to_column j s ws ≡ []
no_plain_column columns j s [] is none_plain = refl
no_plain_column columns j s (w ∷ ws) is none_plain = split (w.0 == j) refl (no_plain_column columns j s ws is (or_right (is_plain_column columns w.0) (writes_plain columns ws) none_plain))
  where
    split : (b : Bool) → (w.0 == j) ≡ b → to_column j s ws ≡ [] → (if b then record { value = w.1; stamp = s } ∷ to_column j s ws else to_column j s ws) ≡ []
    split true e ih = absurd (clash (sym is ∙ ap (is_plain_column columns) (sym (test_same w.0 j e)) ∙ or_left (is_plain_column columns w.0) (writes_plain columns ws) none_plain))
      where
        clash : true ≡ false → ⊥
        clash e = cc
    split false e ih = ih

no_turn : (o : Option Bool) (s : Stamp) (annotated : Bool) → annotated ≡ false → (turns o && not annotated) ≡ false → turn_by o s ≡ []
no_turn None s annotated plain none_turned = refl
no_turn (Some on) s true plain none_turned = absurd cc
no_turn (Some on) s false plain none_turned = absurd cc

-- the changes of an operation that `plain` doesn't threaten
pub merging : (schema : List Declaration) (q : Place) (op : Op) (n : ℕ) (es : List RowEffect) → any_threatened schema es ≡ false
    → Merging (annotated_in schema q) (columns_in schema q) (at_place q (changes_from op n es))
merging schema q op n [] safe = record { plain = λ j is. refl; turns = λ e. refl }
merging schema q op n (e ∷ es) safe = split (is_place q (place_of e)) refl (merging schema q op (suc n) es (or_right (threatened_by_plain schema e) (any_threatened schema es) safe))
  where
    here : threatened_by_plain schema e ≡ false
    here = or_left (threatened_by_plain schema e) (any_threatened schema es) safe

    split : (b : Bool) → is_place q (place_of e) ≡ b → Merging (annotated_in schema q) (columns_in schema q) (at_place q (changes_from op (suc n) es))
        → Merging (annotated_in schema q) (columns_in schema q)
        (if b then record { value = e; stamp = record { time = op.time; site = op.site; place = n } } ∷ at_place q (changes_from op (suc n) es) else at_place q (changes_from op (suc n) es))
    split false is ih = ih
    split true is ih = record {
      plain = λ j plain. ap (λ l. l ++ writes_to (0 + j) (at_place q (changes_from op (suc n) es))) (none_written j plain) ∙ ih.plain j plain;
      turns = λ unmarked. ap (λ l. l ++ turns_of (at_place q (changes_from op (suc n) es))) (none_turned unmarked) ∙ ih.turns unmarked;
    }
      where
        at : q ≡ place_of e
        at = tells_apart exact_places q (place_of e) is

        none_written : (j : ℕ) → is_plain_column (columns_in schema q) j ≡ true → to_column (0 + j) (record { time = op.time; site = op.site; place = n }) e.writes.items ≡ []
        none_written j plain =
            let number : (0 + j) ≡ j = omega arith in
            ap (λ k. to_column k (record { time = op.time; site = op.site; place = n }) e.writes.items) number
            ∙ no_plain_column (columns_in schema q) j (record { time = op.time; site = op.site; place = n }) e.writes.items plain
            (ap (λ p. writes_plain (columns_in schema p) e.writes.items) at ∙ or_left (writes_plain (columns_in schema (place_of e)) e.writes.items) (turns (turn_of e.act) && not (annotated_in schema (place_of e))) here)

        none_turned : annotated_in schema q ≡ false → turn_by (turn_of e.act) (record { time = op.time; site = op.site; place = n }) ≡ []
        none_turned unmarked = no_turn (turn_of e.act) (record { time = op.time; site = op.site; place = n }) (annotated_in schema (place_of e)) (ap (annotated_in schema) (sym at) ∙ unmarked)
            (or_right (writes_plain (columns_in schema (place_of e)) e.writes.items) (turns (turn_of e.act) && not (annotated_in schema (place_of e))) here)

-- What is known of a need that is listed.
use Rattle.std.proofs.Common.{◌≡◌, ◌⊎◌, inl, inr, ℕ, zero, suc, ◌&&◌, ◌||◌, not, if◌then◌else◌, cond, Bool, true, false, List, [], ◌∷◌, ◌++◌, map, Option, Some, None, slice_get, refl, sym, ap, subst, ◌∙◌}
use Rattle.std.specs.Prelude.{unwrap_or}
use Rattle.std.specs.FinMap.{get, get-insert}
use Rattle.std.specs.List.{list_any, flat_map}
use Rattle.std.proofs.lemmas.Map.Views.{tells_apart}
use Rattle.sv_value.specs.declared.values.Key.{Key}
use Rattle.sv_value.specs.declared.values.Val.{Val}
use Rattle.sv_app.specs.declared.acts.Act.{Act}
use Rattle.sv_app.specs.declared.acts.Act.TheVariants.{Insert, Update, Remove, Fresh}
use Rattle.sv_app.specs.declared.places.Place.{Place}
use Rattle.sv_app.specs.Schema.{Rule, Bound, OneOf, Different, Refers, Invariant, Declaration}
use Rattle.sv_app.specs.Valid.{place_at}
use Rattle.sv_app.proofs.ListLaws.{Stands, in_either, StandsIn, stands_in, any_at}
use Rattle.sv_app.proofs.PlaceLaws.{place_total, exact_places}
use Rattle.sv_effect.specs.declared.ops.Need.{Need}
use Rattle.sv_effect.specs.declared.ops.Need.TheVariants as needs
use Rattle.sv_effect.specs.declared.ops.Op.{Op}
use Rattle.sv_effect.specs.declared.ops.RowEffect.{RowEffect}
use Rattle.sv_effect.specs.Acts.{is_insert, IsFound}
use Rattle.sv_effect.specs.Applied.{place_of, changes_from, zero_row_in, changed_at, with_change_at}
use Rattle.sv_effect.specs.Needs.{is_inserted, need_of, kept_need, given, grows, present_need, rule_needs, present_needs, needs_from, is_same_need, once, needs_of}
use Rattle.sv_effect.specs.RunChanges.{Effect, effect_of}
use Rattle.sv_effect.specs.StampedTables.{StampedRow, StampedTables}
use Rattle.sv_effect.specs.TablesOfCut.{is_place}
use Rattle.sv_effect.specs.Takes.{FindsRows}
use Rattle.sv_effect.proofs.SourceLaws.{same_place}
use Rattle.sv_safety.proofs.Finds.{KeptAt}
use Rattle.sv_safety.proofs.Walk.{change_of}

-- what is listed once stood in the list
once_from : (held ns : List Need) (n : Need) → Stands (once held ns) n → Stands held n ⊎ Stands ns n
once_from held [] n s = inl s
once_from held (m ∷ ns) n s = by (list_any (is_same_need m) held) (once_from (if list_any (is_same_need m) held then held else held ++ m ∷ []) ns n s)
  where
    last : Stands (m ∷ []) n → Stands (m ∷ ns) n
    last h = at h.number h.at
      where
        at : (k : ℕ) → slice_get (m ∷ []) k ≡ Some n → Stands (m ∷ ns) n
        at zero e = record { number = 0; at = e }
        at (suc k) e = absurd cc

    more : Stands ns n → Stands (m ∷ ns) n
    more h = record { number = suc h.number; at = h.at }

    appended : Stands held n ⊎ Stands (m ∷ []) n → Stands held n ⊎ Stands (m ∷ ns) n
    appended (inl h) = inl h
    appended (inr h) = inr (last h)

    by : (b : Bool) → Stands (if b then held else held ++ m ∷ []) n ⊎ Stands ns n → Stands held n ⊎ Stands (m ∷ ns) n
    by b (inr h) = inr (more h)
    by true (inl h) = inl h
    by false (inl h) = appended (in_either held (m ∷ []) h.number n h.at)

pub unlisted : (schema : List Declaration) (es : List Effect) (n : Need) → Stands (needs_of schema es) n → Stands (needs_from schema es [] es) n
unlisted schema es n s = by (once_from [] (needs_from schema es [] es) n s)
  where
    by : Stands [] n ⊎ Stands (needs_from schema es [] es) n → Stands (needs_from schema es [] es) n
    by (inl h) = absurd (let e : slice_get [] h.number ≡ Some n = h.at in cc)
    by (inr h) = h

-- ---- present needs

pub record IsPresentNeed (schema : List Declaration) (all : List Effect) (need : Need) : Type 0 where
  pub table : ℕ
  pub v : Val
  pub is : need ≡ needs.Present table (record { first = v; second = None })
  pub grown : grows (slice_get schema table) ≡ true
  pub none_made : is_inserted (place_at table (record { first = v; second = None })) all ≡ false

from_one : (schema : List Declaration) (all : List Effect) (table : ℕ) (v : Val) (need : Need) → grows (slice_get schema table) ≡ true → Stands (present_need all table v) need → IsPresentNeed schema all need
from_one schema all table v need grown s = by (is_inserted (place_at table (record { first = v; second = None })) all) refl s.number s.at
  where
    by : (b : Bool) → is_inserted (place_at table (record { first = v; second = None })) all ≡ b → (k : ℕ) → slice_get (need_of (not b) (needs.Present table (record { first = v; second = None }))) k ≡ Some need → IsPresentNeed schema all need
    by true is k at = absurd cc
    by false is zero at = let same : needs.Present table (record { first = v; second = None }) ≡ need = cc in record { table = table; v = v; is = sym same; grown = grown; none_made = is }
    by false is (suc k) at = absurd cc

from_rule : (schema : List Declaration) (all : List Effect) (d : Declaration) (e : Effect) (rule : Rule) (need : Need) → Stands (rule_needs schema all d e rule) need → IsPresentNeed schema all need
from_rule schema all d e (Bound check) need s = absurd (let x : slice_get [] s.number ≡ Some need = s.at in cc)
from_rule schema all d e (OneOf column texts) need s = absurd (let x : slice_get [] s.number ≡ Some need = s.at in cc)
from_rule schema all d e (Different column) need s = absurd (let x : slice_get [] s.number ≡ Some need = s.at in cc)
from_rule schema all d e (Refers column parent target) need s = by (grows (slice_get schema parent.num)) refl s.number s.at
  where
    by : (b : Bool) → grows (slice_get schema parent.num) ≡ b → (k : ℕ) → slice_get (if b then flat_map (present_need all parent.num) (given d e column.num) else []) k ≡ Some need → IsPresentNeed schema all need
    by true is k at = let x : StandsIn (present_need all parent.num) (given d e column.num) need = stands_in (present_need all parent.num) (given d e column.num) k need at in from_one schema all parent.num x.x need is x.here
    by false is k at = absurd cc

from_table : (schema : List Declaration) (all : List Effect) (o : Option Declaration) (e : Effect) (need : Need) → Stands (present_needs schema all o e) need → IsPresentNeed schema all need
from_table schema all None e need s = absurd (let x : slice_get [] s.number ≡ Some need = s.at in cc)
from_table schema all (Some d) e need s =
    let x : StandsIn (λ (inv : Invariant). rule_needs schema all d e inv.rule) d.invs need = stands_in (λ (inv : Invariant). rule_needs schema all d e inv.rule) d.invs s.number need s.at in
    from_rule schema all d e x.x.rule need x.here

-- a need is the kept one of a change, or a present one
pub record IsKeptNeed (earlier : List Effect) (e : Effect) (need : Need) : Type 0 where
  pub is : need ≡ needs.Kept e.place.table e.place.key
  pub finds : is_insert e.act ≡ false
  pub new : is_inserted e.place earlier ≡ false

from_kept : (earlier : List Effect) (e : Effect) (need : Need) → Stands (kept_need earlier e) need → IsKeptNeed earlier e need
from_kept earlier e need s = by (is_insert e.act) (is_inserted e.place earlier) refl refl s.number s.at
  where
    by : (a b : Bool) → is_insert e.act ≡ a → is_inserted e.place earlier ≡ b → (k : ℕ) → slice_get (need_of (not a && not b) (needs.Kept e.place.table e.place.key)) k ≡ Some need → IsKeptNeed earlier e need
    by false false x y zero at = let same : needs.Kept e.place.table e.place.key ≡ need = cc in record { is = sym same; finds = x; new = y }
    by false false x y (suc k) at = absurd cc
    by false true x y k at = absurd cc
    by true b x y k at = absurd cc

pub present_from : (schema : List Declaration) (all earlier es : List Effect) (table : ℕ) (key : Key) → Stands (needs_from schema all earlier es) (needs.Present table key) → IsPresentNeed schema all (needs.Present table key)
present_from schema all earlier [] table key s = absurd (let x : slice_get [] s.number ≡ Some (needs.Present table key) = s.at in cc)
present_from schema all earlier (e ∷ es) table key s =
    by (in_either (kept_need earlier e ++ present_needs schema all (slice_get schema e.place.table) e) (needs_from schema all (earlier ++ e ∷ []) es) s.number (needs.Present table key) s.at)
    (present_from schema all (earlier ++ e ∷ []) es table key)
  where
    here : Stands (kept_need earlier e) (needs.Present table key) ⊎ Stands (present_needs schema all (slice_get schema e.place.table) e) (needs.Present table key) → IsPresentNeed schema all (needs.Present table key)
    here (inl k) = absurd (let same : needs.Present table key ≡ needs.Kept e.place.table e.place.key = (from_kept earlier e (needs.Present table key) k).is in cc)
    here (inr p) = from_table schema all (slice_get schema e.place.table) e (needs.Present table key) p

    by : Stands (kept_need earlier e ++ present_needs schema all (slice_get schema e.place.table) e) (needs.Present table key) ⊎ Stands (needs_from schema all (earlier ++ e ∷ []) es) (needs.Present table key)
        → (Stands (needs_from schema all (earlier ++ e ∷ []) es) (needs.Present table key) → IsPresentNeed schema all (needs.Present table key)) → IsPresentNeed schema all (needs.Present table key)
    by (inl h) ih = here (in_either (kept_need earlier e) (present_needs schema all (slice_get schema e.place.table) e) h.number (needs.Present table key) h.at)
    by (inr h) ih = ih h

-- ---- the row of a kept need was kept

any_front : {A : Type 0} (p : A → Bool) (xs : List A) (x : A) → list_any p xs ≡ true → list_any p (xs ++ x ∷ []) ≡ true
any_front p [] x e = absurd cc
any_front p (y ∷ xs) x e = by (p y) e (any_front p xs x)
  where
    by : (b : Bool) → (b || list_any p xs) ≡ true → (list_any p xs ≡ true → list_any p (xs ++ x ∷ []) ≡ true) → (b || list_any p (xs ++ x ∷ [])) ≡ true
    by true e ih = refl
    by false e ih = ih e

any_back : {A : Type 0} (p : A → Bool) (xs : List A) (x : A) → p x ≡ true → list_any p (xs ++ x ∷ []) ≡ true
any_back p [] x e = rw e refl
any_back p (y ∷ xs) x e = by (p y) (any_back p xs x e)
  where
    by : (b : Bool) → list_any p (xs ++ x ∷ []) ≡ true → (b || list_any p (xs ++ x ∷ [])) ≡ true
    by true h = refl
    by false h = h

pub kept_from : (schema : List Declaration) (op : Op) (all earlier : List Effect) (n : ℕ) (es : List RowEffect) (start t : StampedTables) → FindsRows schema (changes_from op n es) t
    → ((q : Place) → KeptAt t q → KeptAt start q ⊎ (is_inserted q earlier ≡ true)) → (table : ℕ) (key : Key) → Stands (needs_from schema all earlier (map effect_of es)) (needs.Kept table key)
    → KeptAt start (place_at table key)
kept_from schema op all earlier n [] start t found old table key s = absurd (let x : slice_get [] s.number ≡ Some (needs.Kept table key) = s.at in cc)
kept_from schema op all earlier n (e ∷ es) start t found old table key s =
    by (in_either (kept_need earlier (effect_of e) ++ present_needs schema all (slice_get schema e.table) (effect_of e)) (needs_from schema all (earlier ++ effect_of e ∷ []) (map effect_of es)) s.number (needs.Kept table key) s.at)
    (kept_from schema op all (earlier ++ effect_of e ∷ []) (suc n) es start (with_change_at schema (place_of e) (change_of op n e) t) found.1 older table key)
  where
    row_of : (act : Act) → is_insert act ≡ false → (o : Option StampedRow) → get t (place_of e) ≡ o → IsFound act o → KeptAt t (place_of e)
    row_of Insert is o at f = absurd cc
    row_of Fresh is o at f = absurd cc
    row_of Update is None at f = absurd f
    row_of Update is (Some r) at f = record { row = r; at = at }
    row_of Remove is None at f = absurd f
    row_of Remove is (Some r) at f = record { row = r; at = at }

    sure : KeptAt start (place_of e) ⊎ (is_inserted (place_of e) earlier ≡ true) → is_inserted (place_of e) earlier ≡ false → KeptAt start (place_of e)
    sure (inl r) new = r
    sure (inr made) new = absurd (let both : true ≡ false = sym made ∙ new in cc)

    here : Stands (kept_need earlier (effect_of e)) (needs.Kept table key) ⊎ Stands (present_needs schema all (slice_get schema e.table) (effect_of e)) (needs.Kept table key) → KeptAt start (place_at table key)
    here (inl k) =
        let need : IsKeptNeed earlier (effect_of e) (needs.Kept table key) = from_kept earlier (effect_of e) (needs.Kept table key) k in
        subst (KeptAt start) (sym (place need.is)) (sure (old (place_of e) (row_of e.act need.finds (get t (place_of e)) refl found.0)) need.new)
      where
        place_in : Need → Place
        place_in (needs.Kept t k) = place_at t k
        place_in (needs.Present t k) = place_at t k

        place : needs.Kept table key ≡ needs.Kept e.table e.key → place_at table key ≡ place_of e
        place same = ap place_in same
    here (inr p) =
        let x : IsPresentNeed schema all (needs.Kept table key) = from_table schema all (slice_get schema e.table) (effect_of e) (needs.Kept table key) p in
        absurd (let same : needs.Kept table key ≡ needs.Present x.table (record { first = x.v; second = None }) = x.is in cc)

    own : (act : Act) → e.act ≡ act → KeptAt start (place_of e) ⊎ (is_inserted (place_of e) (earlier ++ effect_of e ∷ []) ≡ true)
    own Insert is = inr (any_back (λ (x : Effect). is_insert x.act && is_place (place_of e) x.place) earlier (effect_of e) (λ i. is_insert (is i) && same_place (place_of e) i))
    own Fresh is = inr (any_back (λ (x : Effect). is_insert x.act && is_place (place_of e) x.place) earlier (effect_of e) (λ i. is_insert (is i) && same_place (place_of e) i))
    own Update is = later (old (place_of e) (row_of e.act (ap is_insert is) (get t (place_of e)) refl found.0))
      where
        later : KeptAt start (place_of e) ⊎ (is_inserted (place_of e) earlier ≡ true) → KeptAt start (place_of e) ⊎ (is_inserted (place_of e) (earlier ++ effect_of e ∷ []) ≡ true)
        later (inl r) = inl r
        later (inr made) = inr (any_front (λ (x : Effect). is_insert x.act && is_place (place_of e) x.place) earlier (effect_of e) made)
    own Remove is = later (old (place_of e) (row_of e.act (ap is_insert is) (get t (place_of e)) refl found.0))
      where
        later : KeptAt start (place_of e) ⊎ (is_inserted (place_of e) earlier ≡ true) → KeptAt start (place_of e) ⊎ (is_inserted (place_of e) (earlier ++ effect_of e ∷ []) ≡ true)
        later (inl r) = inl r
        later (inr made) = inr (any_front (λ (x : Effect). is_insert x.act && is_place (place_of e) x.place) earlier (effect_of e) made)

    older : (q : Place) → KeptAt (with_change_at schema (place_of e) (change_of op n e) t) q → KeptAt start q ⊎ (is_inserted q (earlier ++ effect_of e ∷ []) ≡ true)
    older q r = split (is_place q (place_of e)) refl
      where
        new : StampedRow
        new = changed_at schema (place_of e) (change_of op n e) (unwrap_or (get t (place_of e)) (zero_row_in schema (place_of e)))

        other : KeptAt start q ⊎ (is_inserted q earlier ≡ true) → KeptAt start q ⊎ (is_inserted q (earlier ++ effect_of e ∷ []) ≡ true)
        other (inl r) = inl r
        other (inr made) = inr (any_front (λ (x : Effect). is_insert x.act && is_place q x.place) earlier (effect_of e) made)

        split : (b : Bool) → is_place q (place_of e) ≡ b → KeptAt start q ⊎ (is_inserted q (earlier ++ effect_of e ∷ []) ≡ true)
        split true is = subst (λ p. KeptAt start p ⊎ (is_inserted p (earlier ++ effect_of e ∷ []) ≡ true)) (sym (tells_apart exact_places q (place_of e) is)) (own e.act refl)
        split false is = other (old q (record { row = r.row; at = sym (get-insert place_total t (place_of e) new q ∙ ap (λ b. cond b (Some new) (get t q)) is) ∙ r.at }))

    by : Stands (kept_need earlier (effect_of e) ++ present_needs schema all (slice_get schema e.table) (effect_of e)) (needs.Kept table key) ⊎ Stands (needs_from schema all (earlier ++ effect_of e ∷ []) (map effect_of es)) (needs.Kept table key)
        → (Stands (needs_from schema all (earlier ++ effect_of e ∷ []) (map effect_of es)) (needs.Kept table key) → KeptAt start (place_at table key)) → KeptAt start (place_at table key)
    by (inl h) ih = here (in_either (kept_need earlier (effect_of e)) (present_needs schema all (slice_get schema e.table) (effect_of e)) h.number (needs.Kept table key) h.at)
    by (inr h) ih = ih h

-- ---- a row that no change inserts

pub never_made : (q : Place) (es : List Effect) (n : ℕ) (e : Effect) → is_inserted q es ≡ false → slice_get es n ≡ Some e → q ≡ e.place → is_insert e.act ≡ true → ⊥
never_made q es n e none_made at same inserts =
    let made : is_inserted q es ≡ true = any_at (λ (x : Effect). is_insert x.act && is_place q x.place) es n e at (λ i. inserts i && (ap (λ p. is_place p e.place) same ∙ same_place e.place) i) in
    let both : true ≡ false = sym made ∙ none_made in cc

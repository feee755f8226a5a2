-- An operation whose needs hold finds the rows of its updates and removes, and none under the keys that it draws if none was kept there.
use Rattle.std.proofs.Common.{◌≡◌, ◌⊎◌, inl, inr, ℕ, zero, suc, ◌&&◌, ◌||◌, not, if◌then◌else◌, cond, Bool, true, false, List, [], ◌∷◌, ◌++◌, map, Option, Some, None, slice_get, refl, sym, ap, subst, ◌∙◌, arith}
use Rattle.std.specs.Prelude.{unwrap_or, IsSome}
use Rattle.std.specs.FinMap.{get, get-insert}
use Rattle.std.specs.List.{list_any}
use Rattle.std.specs.Option.{option_map}
use Rattle.std.proofs.lemmas.Map.Views.{tells_apart}
use Rattle.sv_app.specs.declared.acts.Act.{Act}
use Rattle.sv_app.specs.declared.acts.Act.TheVariants as acts
use Rattle.sv_app.specs.declared.places.Place.{Place}
use Rattle.sv_app.specs.Kinds.{allows, kind_allows, keys_allow, is_fresh}
use Rattle.sv_app.specs.Schema.{Declaration}
use Rattle.sv_app.specs.Valid.{place_at}
use Rattle.sv_app.proofs.AcceptedLaws.{all_at}
use Rattle.sv_app.proofs.ListLaws.{Stands, front_at, back_stands, same_some}
use Rattle.sv_app.proofs.PlaceLaws.{place_total, exact_places}
use Rattle.sv_effect.specs.declared.ops.Need.{Need}
use Rattle.sv_effect.specs.declared.ops.Need.TheVariants as needs
use Rattle.sv_effect.specs.declared.ops.Op.{Op}
use Rattle.sv_effect.specs.declared.ops.RowEffect.{RowEffect}
use Rattle.sv_effect.specs.Acts.{is_insert, IsFound, is_draw}
use Rattle.sv_effect.specs.Applied.{Change, place_of, changes_from, zero_row_in, changed_at, with_change_at, with_changes, changes_of}
use Rattle.sv_effect.specs.BareTables.{bare_row, bare}
use Rattle.sv_effect.specs.Fits.{AllFit, FitsSchema}
use Rattle.sv_effect.specs.Has.{NeedHolds, Has, effects_of}
use Rattle.sv_effect.specs.Needs.{is_inserted, need_of, kept_need, present_needs, needs_from, is_same_need, once, needs_of}
use Rattle.sv_effect.specs.RunChanges.{Effect, effect_of}
use Rattle.sv_effect.specs.Safe.{Unmade}
use Rattle.sv_effect.specs.StampedTables.{StampedRow, StampedTables}
use Rattle.sv_effect.specs.TablesOfCut.{is_place}
use Rattle.sv_effect.specs.Takes.{FindsRows}
use Rattle.sv_effect.proofs.SourceLaws.{get-bare, same_place}
use Rattle.sv_safety.specs.Laws.{IsMade}
use Rattle.sv_safety.proofs.Walk.{change_of}

-- ---- each need is listed

same_need : (a b : Need) → is_same_need a b ≡ true → a ≡ b
same_need (needs.Kept t k) (needs.Kept u l) e = ap (λ (p : Place). needs.Kept p.table p.key) (tells_apart exact_places (place_at t k) (place_at u l) e)
same_need (needs.Present t k) (needs.Present u l) e = ap (λ (p : Place). needs.Present p.table p.key) (tells_apart exact_places (place_at t k) (place_at u l) e)
same_need (needs.Kept t k) (needs.Present u l) e = absurd cc
same_need (needs.Present t k) (needs.Kept u l) e = absurd cc

held_need : (n : Need) (held : List Need) → list_any (is_same_need n) held ≡ true → Stands held n
held_need n [] e = absurd cc
held_need n (m ∷ held) e = split (is_same_need n m) refl e (held_need n held)
  where
    split : (b : Bool) → is_same_need n m ≡ b → (b || list_any (is_same_need n) held) ≡ true → (list_any (is_same_need n) held ≡ true → Stands held n) → Stands (m ∷ held) n
    split true is e ih = record { number = 0; at = ap (λ x. Some x) (sym (same_need n m is)) }
    split false is e ih = record { number = suc (ih e).number; at = (ih e).at }

pub front_stands : {A : Type 0} (xs ys : List A) (x : A) → Stands xs x → Stands (xs ++ ys) x
front_stands xs ys x s = record { number = s.number; at = front_at xs ys s.number x s.at }

once_holds : (held ns : List Need) (n : Need) → Stands held n ⊎ Stands ns n → Stands (once held ns) n
once_holds held [] n (inl h) = h
once_holds held [] n (inr s) = absurd (let e : slice_get [] s.number ≡ Some n = s.at in cc)
once_holds held (m ∷ ns) n s = once_holds (if list_any (is_same_need m) held then held else held ++ m ∷ []) ns n (by (list_any (is_same_need m) held) refl s)
  where
    first : (b : Bool) → list_any (is_same_need m) held ≡ b → Stands (if b then held else held ++ m ∷ []) m
    first true is = held_need m held is
    first false is = back_stands held (m ∷ []) m (record { number = 0; at = refl })

    old : (b : Bool) → Stands held n → Stands (if b then held else held ++ m ∷ []) n
    old true h = h
    old false h = front_stands held (m ∷ []) n h

    later : (b : Bool) → list_any (is_same_need m) held ≡ b → (k : ℕ) → slice_get (m ∷ ns) k ≡ Some n → Stands (if b then held else held ++ m ∷ []) n ⊎ Stands ns n
    later b is zero at = let same : m ≡ n = cc in inl (subst (Stands (if b then held else held ++ m ∷ [])) same (first b is))
    later b is (suc k) at = inr (record { number = k; at = at })

    by : (b : Bool) → list_any (is_same_need m) held ≡ b → Stands held n ⊎ Stands (m ∷ ns) n → Stands (if b then held else held ++ m ∷ []) n ⊎ Stands ns n
    by b is (inl h) = inl (old b h)
    by b is (inr s) = later b is s.number s.at

pub listed : (schema : List Declaration) (es : List Effect) (n : Need) → Stands (needs_from schema es [] es) n → Stands (needs_of schema es) n
listed schema es n s = once_holds [] (needs_from schema es [] es) n (inr s)

-- ---- kept rows

pub record KeptAt (t : StampedTables) (p : Place) : Type 0 where
  pub row : StampedRow
  pub at : get t p ≡ Some row

pub from_some : (t : StampedTables) (p : Place) → IsSome (get (bare t) p) → KeptAt t p
from_some t p some = by (get t p) refl (subst IsSome (get-bare t p) some)
  where
    by : (o : Option StampedRow) → get t p ≡ o → IsSome (option_map bare_row o) → KeptAt t p
    by None e s = absurd (let f : false ≡ true = s in cc)
    by (Some row) e s = record { row = row; at = e }

-- a kept row stays kept
pub kept_one : (schema : List Declaration) (c : Change) (t : StampedTables) (q : Place) → KeptAt t q → KeptAt (with_change_at schema (place_of c.value) c t) q
kept_one schema c t q kept = by (is_place q (place_of c.value)) refl
  where
    new : StampedRow
    new = changed_at schema (place_of c.value) c (unwrap_or (get t (place_of c.value)) (zero_row_in schema (place_of c.value)))

    by : (b : Bool) → is_place q (place_of c.value) ≡ b → KeptAt (with_change_at schema (place_of c.value) c t) q
    by true is = record { row = new; at = get-insert place_total t (place_of c.value) new q ∙ ap (λ b. cond b (Some new) (get t q)) is }
    by false is = record { row = kept.row; at = get-insert place_total t (place_of c.value) new q ∙ ap (λ b. cond b (Some new) (get t q)) is ∙ kept.at }

pub kept_on : (schema : List Declaration) (cs : List Change) (t : StampedTables) (q : Place) → KeptAt t q → KeptAt (with_changes schema cs t) q
kept_on schema [] t q kept = kept
kept_on schema (c ∷ cs) t q kept = kept_on schema cs (with_change_at schema (place_of c.value) c t) q (kept_one schema c t q kept)

-- the row of a change is kept behind it
pub kept_here : (schema : List Declaration) (c : Change) (t : StampedTables) → KeptAt (with_change_at schema (place_of c.value) c t) (place_of c.value)
kept_here schema c t =
    let new : StampedRow = changed_at schema (place_of c.value) c (unwrap_or (get t (place_of c.value)) (zero_row_in schema (place_of c.value))) in
    record { row = new; at = get-insert place_total t (place_of c.value) new (place_of c.value) ∙ ap (λ b. cond b (Some new) (get t (place_of c.value))) (same_place (place_of c.value)) }

pub and_right : (a b : Bool) → (a && b) ≡ true → b ≡ true
and_right true b e = e
and_right false b e = absurd cc

pub fits_at : (schema : List Declaration) (es : List RowEffect) (k : ℕ) (x : RowEffect) → AllFit schema es → slice_get es k ≡ Some x → FitsSchema schema x
fits_at schema [] k x fits e = absurd cc
fits_at schema (y ∷ es) zero x fits e = let same : y ≡ x = cc in subst (FitsSchema schema) same fits.0
fits_at schema (y ∷ es) (suc k) x fits e = fits_at schema es k x fits.1 e

-- no statement inserts into a table whose keys are drawn
pub inserts_apart : (schema : List Declaration) (e d : RowEffect) → FitsSchema schema e → FitsSchema schema d → e.table ≡ d.table → e.act ≡ acts.Insert → is_draw d.act ≡ true → ⊥
inserts_apart schema e d fe fd same inserts drawn = clash (is_fresh fe.table) (inserted e.act inserts fe.fits.allowed) (drawn_in d.act drawn (subst (λ t. allows t d.act ≡ true) table fd.fits.allowed))
  where
    table : fd.table ≡ fe.table
    table = same_some (slice_get schema d.table) fd.table fe.table fd.declared (ap (slice_get schema) (sym same) ∙ fe.declared)

    inserted : (act : Act) → act ≡ acts.Insert → allows fe.table act ≡ true → keys_allow (is_fresh fe.table) acts.Insert ≡ true
    inserted act is allowed = and_right (kind_allows fe.table.kind acts.Insert) (keys_allow (is_fresh fe.table) acts.Insert) (ap (allows fe.table) (sym is) ∙ allowed)

    drawn_in : (act : Act) → is_draw act ≡ true → allows fe.table act ≡ true → keys_allow (is_fresh fe.table) acts.Fresh ≡ true
    drawn_in acts.Fresh drawn allowed = and_right (kind_allows fe.table.kind acts.Fresh) (keys_allow (is_fresh fe.table) acts.Fresh) allowed
    drawn_in acts.Insert drawn allowed = absurd cc
    drawn_in acts.Update drawn allowed = absurd cc
    drawn_in acts.Remove drawn allowed = absurd cc

    clash : (b : Bool) → keys_allow b acts.Insert ≡ true → keys_allow b acts.Fresh ≡ true → ⊥
    clash true a c = cc
    clash false a c = cc

any_append : {A : Type 0} (p : A → Bool) (xs : List A) (x : A) → list_any p (xs ++ x ∷ []) ≡ true → (list_any p xs ≡ true) ⊎ (p x ≡ true)
any_append p [] x e = by (p x) e
  where
    by : (b : Bool) → (b || false) ≡ true → (false ≡ true) ⊎ (b ≡ true)
    by true e = inr refl
    by false e = absurd cc
any_append p (y ∷ xs) x e = by (p y) e (any_append p xs x)
  where
    by : (b : Bool) → (b || list_any p (xs ++ x ∷ [])) ≡ true → (list_any p (xs ++ x ∷ []) ≡ true → (list_any p xs ≡ true) ⊎ (p x ≡ true)) → ((b || list_any p xs) ≡ true) ⊎ (p x ≡ true)
    by true e ih = inl refl
    by false e ih = ih e

-- each change finds its row
-- no row is kept under a key that one of the changes draws, and none of them draws a key twice
pub record Draws (es : List RowEffect) (t : StampedTables) : Type 0 where
  pub unmade : (k : ℕ) (e : RowEffect) → slice_get es k ≡ Some e → is_draw e.act ≡ true → get t (place_of e) ≡ None
  pub once : (a b : ℕ) (d e : RowEffect) → slice_get es a ≡ Some d → slice_get es b ≡ Some e → is_draw d.act ≡ true → is_draw e.act ≡ true → place_of d ≡ place_of e → a ≡ b

-- no other change draws a key under which a change stands that finds its row
draws_next : (schema : List Declaration) (op : Op) (n : ℕ) (e : RowEffect) (es : List RowEffect) (t : StampedTables) → AllFit schema (e ∷ es) → IsFound e.act (get t (place_of e)) → Draws (e ∷ es) t
    → Draws es (with_change_at schema (place_of e) (change_of op n e) t)
draws_next schema op n e es t fits found draws = record {
  unmade = λ k d at drawn. get-insert place_total t (place_of e) new (place_of d) ∙ ap (λ b. cond b (Some new) (get t (place_of d))) (other k d at drawn) ∙ draws.unmade (suc k) d at drawn;
  once = λ a b d f at_a at_b x y same. let next : suc a ≡ suc b = draws.once (suc a) (suc b) d f at_a at_b x y same in omega (arith, next);
}
  where
    new : StampedRow
    new = changed_at schema (place_of e) (change_of op n e) (unwrap_or (get t (place_of e)) (zero_row_in schema (place_of e)))

    apart : (k : ℕ) (d : RowEffect) → slice_get es k ≡ Some d → is_draw d.act ≡ true → place_of d ≡ place_of e → ⊥
    apart k d at drawn same = by e.act refl
      where
        kept : (o : Option StampedRow) → o ≡ None → (act : Act) → is_insert act ≡ false → IsFound act o → ⊥
        kept None is acts.Insert none f = cc
        kept None is acts.Fresh none f = cc
        kept None is acts.Update none f = f
        kept None is acts.Remove none f = f
        kept (Some r) is act none f = cc

        absent : get t (place_of e) ≡ None
        absent = ap (get t) (sym same) ∙ draws.unmade (suc k) d at drawn

        by : (act : Act) → e.act ≡ act → ⊥
        by acts.Insert is = inserts_apart schema e d fits.0 (fits_at schema es k d fits.1 at) (ap (λ (p : Place). p.table) (sym same)) is drawn
        by acts.Fresh is = let none : 0 ≡ suc k = draws.once 0 (suc k) e d refl at (ap is_draw is) drawn (sym same) in omega (arith, none)
        by acts.Update is = kept (get t (place_of e)) absent e.act (ap is_insert is) found
        by acts.Remove is = kept (get t (place_of e)) absent e.act (ap is_insert is) found

    other : (k : ℕ) (d : RowEffect) → slice_get es k ≡ Some d → is_draw d.act ≡ true → is_place (place_of d) (place_of e) ≡ false
    other k d at drawn = by (is_place (place_of d) (place_of e)) refl
      where
        by : (b : Bool) → is_place (place_of d) (place_of e) ≡ b → b ≡ false
        by false is = refl
        by true is = absurd (apart k d at drawn (tells_apart exact_places (place_of d) (place_of e) is))

-- each change finds its row
finds_from : (schema : List Declaration) (op : Op) (all earlier : List Effect) (n : ℕ) (es : List RowEffect) (start t : StampedTables) → AllFit schema es → Draws es t
    → ((need : Need) → Stands (needs_from schema all earlier (map effect_of es)) need → NeedHolds schema all (bare start) need)
    → ((q : Place) → KeptAt start q → KeptAt t q) → ((q : Place) → is_inserted q earlier ≡ true → KeptAt t q) → FindsRows schema (changes_from op n es) t
finds_from schema op all earlier n [] start t fits draws have kept made = tt
finds_from schema op all earlier n (e ∷ es) start t fits draws have kept made = (
  here,
  finds_from schema op all (earlier ++ effect_of e ∷ []) (suc n) es start (with_change_at schema (place_of e) (change_of op n e) t) fits.1 (draws_next schema op n e es t fits here draws)
      (λ need s. have need (back_stands (kept_need earlier (effect_of e) ++ present_needs schema all (slice_get schema e.table) (effect_of e)) (needs_from schema all (earlier ++ effect_of e ∷ []) (map effect_of es)) need s))
      (λ q k. kept_one schema (change_of op n e) t q (kept q k)) more,
)
  where
    row_found : (act : Act) → is_draw act ≡ false → KeptAt t (place_of e) → IsFound act (get t (place_of e))
    row_found act old r = subst (IsFound act) (sym r.at) (by act old)
      where
        by : (act : Act) → is_draw act ≡ false → IsFound act (Some r.row)
        by acts.Insert old = tt
        by acts.Fresh old = absurd cc
        by acts.Update old = tt
        by acts.Remove old = tt

    need_here : (act : Act) → e.act ≡ act → is_insert act ≡ false → is_inserted (place_of e) earlier ≡ false → KeptAt t (place_of e)
    need_here act is none_made none_before = kept (place_of e) (from_some start (place_of e) (have (needs.Kept e.table e.key)
        (front_stands (kept_need earlier (effect_of e) ++ present_needs schema all (slice_get schema e.table) (effect_of e)) (needs_from schema all (earlier ++ effect_of e ∷ []) (map effect_of es)) (needs.Kept e.table e.key)
        (front_stands (kept_need earlier (effect_of e)) (present_needs schema all (slice_get schema e.table) (effect_of e)) (needs.Kept e.table e.key) (record { number = 0; at = ap (λ (b : Bool × Bool). slice_get (need_of (not b.0 && not b.1) (needs.Kept e.table e.key)) 0) (λ i. ((ap is_insert is ∙ none_made) i, none_before i)) })))))

    first : (act : Act) (b : Bool) → e.act ≡ act → is_inserted (place_of e) earlier ≡ b → IsFound e.act (get t (place_of e))
    first acts.Insert b is before = subst (λ a. IsFound a (get t (place_of e))) (sym is) tt
    first acts.Fresh b is before = subst (λ (x : Act × Option StampedRow). IsFound x.0 x.1) (λ i. (sym is i, sym (draws.unmade 0 e refl (ap is_draw is)) i)) tt
    first acts.Update true is before = row_found e.act (ap is_draw is) (made (place_of e) before)
    first acts.Remove true is before = row_found e.act (ap is_draw is) (made (place_of e) before)
    first acts.Update false is before = row_found e.act (ap is_draw is) (need_here acts.Update is refl before)
    first acts.Remove false is before = row_found e.act (ap is_draw is) (need_here acts.Remove is refl before)

    here : IsFound e.act (get t (place_of e))
    here = first e.act (is_inserted (place_of e) earlier) refl refl

    more : (q : Place) → is_inserted q (earlier ++ effect_of e ∷ []) ≡ true → KeptAt (with_change_at schema (place_of e) (change_of op n e) t) q
    more q is = by (any_append (λ (x : Effect). is_insert x.act && is_place q x.place) earlier (effect_of e) is)
      where
        now_kept : is_place q (place_of e) ≡ true → KeptAt (with_change_at schema (place_of e) (change_of op n e) t) q
        now_kept same = subst (KeptAt (with_change_at schema (place_of e) (change_of op n e) t)) (sym (tells_apart exact_places q (place_of e) same)) (kept_here schema (change_of op n e) t)

        by : (is_inserted q earlier ≡ true) ⊎ ((is_insert e.act && is_place q (place_of e)) ≡ true) → KeptAt (with_change_at schema (place_of e) (change_of op n e) t) q
        by (inl before) = kept_one schema (change_of op n e) t q (made q before)
        by (inr now) = now_kept (and_right (is_insert e.act) (is_place q (place_of e)) now)

pub finds : (schema : List Declaration) (op : Op) (t : StampedTables) → IsMade schema op → Has schema op t → Unmade op t → FindsRows schema (changes_of op) t
finds schema op t is have unmade = finds_from schema op (effects_of op) [] 0 op.effects t t is.fits.changes (record { unmade = unmade; once = is.draws.once })
    (λ need s. let l : Stands (needs_of schema (effects_of op)) need = listed schema (effects_of op) need s in
    all_at (NeedHolds schema (effects_of op) (bare t)) op.needs l.number need have (ap (λ ns. slice_get ns l.number) is.needs ∙ l.at))
    (λ q k. k) (λ q is. absurd cc)

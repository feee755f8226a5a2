-- Under keys that an operation drew another one keeps no row.
use Rattle.std.proofs.Common.{◌≡◌, ◌∙◌, ℕ, suc, ◌&&◌, ◌||◌, not, cond, Bool, true, false, List, [], ◌∷◌, ◌++◌, map, Some, None, slice_get, refl, sym, ap}
use Rattle.std.specs.Prelude.{unwrap_or}
use Rattle.std.specs.FinMap.{get, get-insert}
use Rattle.std.proofs.lemmas.Map.Views.{tells_apart}
use Rattle.sv_app.specs.declared.acts.Act.{Act}
use Rattle.sv_app.specs.declared.acts.Act.TheVariants as acts
use Rattle.sv_app.specs.declared.places.Place.{Place}
use Rattle.sv_app.specs.Schema.{Declaration}
use Rattle.sv_app.proofs.AcceptedLaws.{all_at}
use Rattle.sv_app.proofs.ListLaws.{Stands, back_stands}
use Rattle.sv_app.proofs.PlaceLaws.{place_total, exact_places}
use Rattle.sv_effect.specs.declared.ops.Need.{Need}
use Rattle.sv_effect.specs.declared.ops.Need.TheVariants as needs
use Rattle.sv_effect.specs.declared.ops.Op.{Op}
use Rattle.sv_effect.specs.declared.ops.RowEffect.{RowEffect}
use Rattle.sv_effect.specs.Acts.{is_insert, is_draw}
use Rattle.sv_effect.specs.Applied.{place_of, changes_from, zero_row_in, changed_at, with_change_at, with_changes}
use Rattle.sv_effect.specs.BareTables.{bare}
use Rattle.sv_effect.specs.Has.{effects_of, NeedHolds}
use Rattle.sv_effect.specs.Needs.{is_inserted, need_of, kept_need, present_needs, needs_from, needs_of}
use Rattle.sv_effect.specs.RunChanges.{Effect, effect_of}
use Rattle.sv_effect.specs.StampedTables.{StampedRow, StampedTables}
use Rattle.sv_effect.specs.TablesOfCut.{is_place}
use Rattle.sv_safety.specs.Laws.{DrawnStay}
use Rattle.sv_safety.proofs.Finds.{KeptAt, from_some, front_stands, fits_at, inserts_apart, listed}
use Rattle.sv_safety.proofs.Walk.{change_of}

-- a row that is drawn, and that no change inserts or draws, isn't kept behind changes whose needs hold
none_kept : (schema : List Declaration) (op : Op) (all earlier : List Effect) (n : ℕ) (es : List RowEffect) (start t : StampedTables) (p : Place)
    → ((need : Need) → Stands (needs_from schema all earlier (map effect_of es)) need → NeedHolds schema all (bare start) need)
    → ((k : ℕ) (x : RowEffect) → slice_get es k ≡ Some x → is_insert x.act ≡ true → place_of x ≡ p → ⊥)
    → is_inserted p earlier ≡ false → get start p ≡ None → get t p ≡ None → get (with_changes schema (changes_from op n es) t) p ≡ None
none_kept schema op all earlier n [] start t p have none_made none_before absent none = none
none_kept schema op all earlier n (e ∷ es) start t p have none_made none_before absent none =
    none_kept schema op all (earlier ++ effect_of e ∷ []) (suc n) es start (with_change_at schema (place_of e) (change_of op n e) t) p
    (λ need s. have need (back_stands (kept_need earlier (effect_of e) ++ present_needs schema all (slice_get schema e.table) (effect_of e)) (needs_from schema all (earlier ++ effect_of e ∷ []) (map effect_of es)) need s))
    (λ k x at. none_made (suc k) x at) (more earlier none_before) absent still
  where
    new : StampedRow
    new = changed_at schema (place_of e) (change_of op n e) (unwrap_or (get t (place_of e)) (zero_row_in schema (place_of e)))

    -- an update or a remove would need it kept
    needed : is_insert e.act ≡ false → place_of e ≡ p → ⊥
    needed old same =
        let before : is_inserted (place_of e) earlier ≡ false = ap (λ q. is_inserted q earlier) same ∙ none_before in
        let kept : KeptAt start (place_of e) = from_some start (place_of e) (have (needs.Kept e.table e.key)
        (front_stands (kept_need earlier (effect_of e) ++ present_needs schema all (slice_get schema e.table) (effect_of e)) (needs_from schema all (earlier ++ effect_of e ∷ []) (map effect_of es)) (needs.Kept e.table e.key)
        (front_stands (kept_need earlier (effect_of e)) (present_needs schema all (slice_get schema e.table) (effect_of e)) (needs.Kept e.table e.key)
        (record { number = 0; at = ap (λ (b : Bool × Bool). slice_get (need_of (not b.0 && not b.1) (needs.Kept e.table e.key)) 0) (λ i. (old i, before i)) })))) in
        let both : None ≡ Some kept.row = sym absent ∙ ap (get start) (sym same) ∙ kept.at in
        cc

    elsewhere : place_of e ≡ p → ⊥
    elsewhere same = by (is_insert e.act) refl
      where
        by : (b : Bool) → is_insert e.act ≡ b → ⊥
        by true is = none_made 0 e refl is same
        by false is = needed is same

    apart : is_place p (place_of e) ≡ false
    apart = by (is_place p (place_of e)) refl
      where
        by : (b : Bool) → is_place p (place_of e) ≡ b → b ≡ false
        by false is = refl
        by true is = absurd (elsewhere (sym (tells_apart exact_places p (place_of e) is)))

    still : get (with_change_at schema (place_of e) (change_of op n e) t) p ≡ None
    still = get-insert place_total t (place_of e) new p ∙ ap (λ b. cond b (Some new) (get t p)) apart ∙ none

    ends : (a : Bool) → (a && false) ≡ false
    ends true = refl
    ends false = refl

    more : (xs : List Effect) → is_inserted p xs ≡ false → is_inserted p (xs ++ effect_of e ∷ []) ≡ false
    more [] is = ap (λ b. (is_insert e.act && b) || false) apart ∙ ap (λ b. b || false) (ends (is_insert e.act))
    more (x ∷ xs) is = by (is_insert x.act && is_place p x.place) is (more xs)
      where
        by : (b : Bool) → (b || is_inserted p xs) ≡ false → (is_inserted p xs ≡ false → is_inserted p (xs ++ effect_of e ∷ []) ≡ false) → (b || is_inserted p (xs ++ effect_of e ∷ [])) ≡ false
        by true is ih = absurd cc
        by false is ih = ih is

pub drawn_stay : DrawnStay
drawn_stay schema op other t fits other_fits needs_are has draws unmade number e at drawn =
    none_kept schema other (effects_of other) [] 0 other.effects t t (place_of e)
    (λ need s. let l : Stands (needs_of schema (effects_of other)) need = listed schema (effects_of other) need s in
    all_at (NeedHolds schema (effects_of other) (bare t)) other.needs l.number need has (ap (λ ns. slice_get ns l.number) needs_are ∙ l.at))
    made refl (unmade number e at drawn) (unmade number e at drawn)
  where
    made : (k : ℕ) (x : RowEffect) → slice_get other.effects k ≡ Some x → is_insert x.act ≡ true → place_of x ≡ place_of e → ⊥
    made k x there inserts same = by x.act refl
      where
        by : (act : Act) → x.act ≡ act → ⊥
        by acts.Insert is = inserts_apart schema x e (fits_at schema other.effects k x other_fits.changes there) (fits_at schema op.effects number e fits.changes at) (ap (λ (p : Place). p.table) same) is drawn
        by acts.Fresh is = draws.apart number k e x at there drawn (ap is_draw is) (sym same)
        by acts.Update is = let wrong : false ≡ true = sym (ap is_insert is) ∙ inserts in cc
        by acts.Remove is = let wrong : false ≡ true = sym (ap is_insert is) ∙ inserts in cc

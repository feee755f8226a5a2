-- A kept row stays kept, and a present row of a grow-only table present.
use Rattle.std.proofs.Common.{◌≡◌, ℕ, suc, cond, Bool, true, false, List, [], ◌∷◌, Some, slice_get, refl, sym, ap, subst, ◌∙◌}
use Rattle.std.specs.Prelude.{unwrap_or, IsSome}
use Rattle.std.specs.FinMap.{get, get-insert}
use Rattle.std.proofs.lemmas.Map.Views.{tells_apart}
use Rattle.sv_value.specs.declared.values.Key.{Key}
use Rattle.sv_app.specs.declared.places.Place.{Place}
use Rattle.sv_app.specs.Kinds.{is_grow_only}
use Rattle.sv_app.specs.Schema.{Declaration}
use Rattle.sv_app.specs.Tables.{Row}
use Rattle.sv_app.specs.Valid.{place_at, IsPresent}
use Rattle.sv_app.proofs.AcceptedLaws.{all_at}
use Rattle.sv_app.proofs.PlaceLaws.{place_total, exact_places}
use Rattle.sv_effect.specs.declared.ops.Need.{Need}
use Rattle.sv_effect.specs.declared.ops.Need.TheVariants as needs
use Rattle.sv_effect.specs.declared.ops.Op.{Op}
use Rattle.sv_effect.specs.declared.ops.RowEffect.{RowEffect}
use Rattle.sv_effect.specs.Applied.{Change, place_of, changes_from, changes_of, annotated_in, zero_row_in, changed_at, with_change_at, with_changes, applied}
use Rattle.sv_effect.specs.BareTables.{bare_row, bare}
use Rattle.sv_effect.specs.Fits.{FitsSchema, AllFit, OpFits}
use Rattle.sv_effect.specs.Has.{effects_of, NeedHolds}
use Rattle.sv_effect.specs.Needs.{grows}
use Rattle.sv_effect.specs.StampedTables.{StampedRow, StampedTables}
use Rattle.sv_effect.specs.TablesOfCut.{is_place}
use Rattle.sv_safety.specs.Laws.{NeedsStay, KeptStays, GrownStays}
use Rattle.sv_safety.proofs.CheckSteps.{all_from}
use Rattle.sv_safety.proofs.Finds.{KeptAt, from_some, kept_on}
use Rattle.sv_safety.proofs.MarkSteps.{present_found, grown_stays as no_remove}
use Rattle.sv_safety.proofs.NeedLaws.{unlisted, IsPresentNeed, present_from}
use Rattle.sv_safety.proofs.TableWalk.{BareAt, from_bare, to_bare}
use Rattle.sv_safety.proofs.Walk.{change_of}

pub record PresentAt (t : StampedTables) (p : Place) : Type 0 where
  pub row : StampedRow
  pub at : get t p ≡ Some row
  pub present : row.mark.value ≡ true

present_one : (schema : List Declaration) (c : Change) (t : StampedTables) (p : Place) → FitsSchema schema c.value → grows (slice_get schema p.table) ≡ true → PresentAt t p → PresentAt (with_change_at schema (place_of c.value) c t) p
present_one schema c t p fits grown here = by (is_place p (place_of c.value)) refl
  where
    new : StampedRow
    new = changed_at schema (place_of c.value) c (unwrap_or (get t (place_of c.value)) (zero_row_in schema (place_of c.value)))

    turned : p ≡ place_of c.value → new.mark.value ≡ true
    turned same =
        let kind : is_grow_only fits.table.kind ≡ true = ap grows (sym fits.declared) ∙ ap (λ (q : Place). grows (slice_get schema q.table)) (sym same) ∙ grown in
        ap (λ o. (changed_at schema (place_of c.value) c (unwrap_or o (zero_row_in schema (place_of c.value)))).mark.value) (ap (get t) (sym same) ∙ here.at)
        ∙ present_found (annotated_in schema (place_of c.value)) c.stamp c.value here.row (no_remove fits.table c.value.act kind fits.fits.allowed) here.present

    by : (b : Bool) → is_place p (place_of c.value) ≡ b → PresentAt (with_change_at schema (place_of c.value) c t) p
    by true is = record { row = new; at = get-insert place_total t (place_of c.value) new p ∙ ap (λ b. cond b (Some new) (get t p)) is; present = turned (tells_apart exact_places p (place_of c.value) is) }
    by false is = record { row = here.row; at = get-insert place_total t (place_of c.value) new p ∙ ap (λ b. cond b (Some new) (get t p)) is ∙ here.at; present = here.present }

present_all : (schema : List Declaration) (op : Op) (n : ℕ) (es : List RowEffect) (t : StampedTables) (p : Place) → AllFit schema es → grows (slice_get schema p.table) ≡ true → PresentAt t p → PresentAt (with_changes schema (changes_from op n es) t) p
present_all schema op n [] t p fits grown here = here
present_all schema op n (e ∷ es) t p fits grown here = present_all schema op (suc n) es (with_change_at schema (place_of e) (change_of op n e) t) p fits.1 grown (present_one schema (change_of op n e) t p fits.0 grown here)

pub present_stays : (schema : List Declaration) (op : Op) (t : StampedTables) (table : ℕ) (key : Key) → OpFits schema op → grows (slice_get schema table) ≡ true → IsPresent (bare t) table key → IsPresent (bare (applied schema op t)) table key
present_stays schema op t table key fits grown p =
    let before : BareAt t (place_at table key) p.row = from_bare t (place_at table key) p.row p.kept in
    let after : PresentAt (applied schema op t) (place_at table key) = present_all schema op 0 op.effects t (place_at table key) fits.changes grown
    (record { row = before.stamped; at = before.at; present = ap (λ (r : Row). r.present) before.is ∙ p.present }) in
    record { row = bare_row after.row; kept = to_bare (applied schema op t) (place_at table key) after.row after.at; present = after.present }

pub grown_stays : GrownStays
grown_stays schema op t table d key fits declared grown p = present_stays schema op t table key fits (ap grows declared ∙ grown) p

pub kept_stays : KeptStays
kept_stays schema op t p some = let r : KeptAt (applied schema op t) p = kept_on schema (changes_of op) t p (from_some t p some) in subst IsSome (sym (to_bare (applied schema op t) p r.row r.at)) refl

pub needs_stay : NeedsStay
needs_stay schema op other t needs_are fits has = all_from (NeedHolds schema (effects_of op) (bare (applied schema other t))) op.needs (λ k need at. each k need at (all_at (NeedHolds schema (effects_of op) (bare t)) op.needs k need has at))
  where
    table_of : Need → ℕ
    table_of (needs.Kept table key) = table
    table_of (needs.Present table key) = table

    each : (k : ℕ) (need : Need) → slice_get op.needs k ≡ Some need → NeedHolds schema (effects_of op) (bare t) need → NeedHolds schema (effects_of op) (bare (applied schema other t)) need
    each k (needs.Kept table key) at h = kept_stays schema other t (place_at table key) h
    each k (needs.Present table key) at h = λ standing. present_stays schema other t table key fits
        (ap (λ n. grows (slice_get schema n)) (ap table_of p.is) ∙ p.grown) (h standing)
      where
        p : IsPresentNeed schema (effects_of op) (needs.Present table key)
        p = present_from schema (effects_of op) [] (effects_of op) table key
            (unlisted schema (effects_of op) (needs.Present table key) (record { number = k; at = ap (λ ns. slice_get ns k) (sym needs_are) ∙ at }))

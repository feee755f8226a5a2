-- The needs of changes that fit hold on the tables that they were made on.
use Rattle.std.proofs.Common.{◌≡◌, ◌⊎◌, inl, inr, ℕ, zero, suc, ◌<◌, Bool, true, false, List, [], ◌∷◌, Option, Some, None, slice_get, refl, sym, ap, subst, ◌∙◌}
use Rattle.std.specs.Prelude.{IsSome}
use Rattle.std.specs.FinMap.{get}
use Rattle.std.specs.List.{Contains}
use Rattle.std.proofs.lemmas.Option.{slice_get-map}
use Rattle.sv_value.specs.declared.values.Key.{Key}
use Rattle.sv_value.specs.declared.values.Val.{Val}
use Rattle.sv_app.specs.declared.places.Place.{Place}
use Rattle.sv_app.specs.Accepted.{AcceptedSchema}
use Rattle.sv_app.specs.Schema.{Declaration}
use Rattle.sv_app.specs.Tables.{Row}
use Rattle.sv_app.specs.Valid.{key_by, place_at, Binds, Holds, IsPresent, Valid}
use Rattle.sv_app.specs.Valid as valid
use Rattle.sv_app.proofs.ListLaws.{IsSomeBy, map_some, Stands, same_some}
use Rattle.sv_effect.specs.declared.ops.Need.{Need}
use Rattle.sv_effect.specs.declared.ops.Need.TheVariants as needs
use Rattle.sv_effect.specs.declared.ops.Op.{Op}
use Rattle.sv_effect.specs.declared.ops.RowEffect.{RowEffect}
use Rattle.sv_effect.specs.declared.ops.Write.TheVariants.{Set}
use Rattle.sv_effect.specs.Acts.{is_insert}
use Rattle.sv_effect.specs.Applied.{place_of, changes_from, with_changes, with_change_at, applied, changes_of}
use Rattle.sv_effect.specs.BareTables.{got_of, bare_row, bare}
use Rattle.sv_effect.specs.Fits.{FitsSchema, ChangeFits}
use Rattle.sv_effect.specs.Has.{effects_of, IsStanding, NeedHolds, Has}
use Rattle.sv_effect.specs.Needs.{is_inserted, key_value, given, grows, needs_from}
use Rattle.sv_effect.specs.Newer.{IsNewer}
use Rattle.sv_effect.specs.RowChange.{key_values}
use Rattle.sv_effect.specs.RowsFit.{HoldsKey, AllStand, RowStands}
use Rattle.sv_effect.specs.RunChanges.{Effect, effect_of}
use Rattle.sv_effect.specs.StampedTables.{StampedRow, StampedTables}
use Rattle.sv_effect.specs.Takes.{FindsRows}
use Rattle.sv_effect.specs.Threatened.{write_to, is_set}
use Rattle.sv_safety.specs.Laws.{IsMade}
use Rattle.sv_safety.proofs.AcceptLaws.{none_lists, rules_are}
use Rattle.sv_safety.proofs.Cells.{write_fits}
use Rattle.sv_safety.proofs.CheckSteps.{all_from}
use Rattle.sv_safety.proofs.Finds.{KeptAt, kept_on, kept_here, fits_at}
use Rattle.sv_safety.proofs.GivenLaws.{gives}
use Rattle.sv_safety.proofs.KindLaws.{IsNoCounter, RuleIs, effect_at}
use Rattle.sv_safety.proofs.LastLaws.{last_value}
use Rattle.sv_safety.proofs.MarkSteps.{present_before}
use Rattle.sv_safety.proofs.NeedLaws.{unlisted, IsPresentNeed, present_from, kept_from, never_made}
use Rattle.sv_safety.proofs.RefLaws.{as_val_got}
use Rattle.sv_safety.proofs.Stamps.{stamp_of}
use Rattle.sv_safety.proofs.StandLaws.{stand_fit, stand_kept}
use Rattle.sv_safety.proofs.TableWalk.{Base, RowStep, still_walk, BareAt, from_bare, to_bare}
use Rattle.sv_safety.proofs.Walk.{change_of}

-- the row of each change is kept behind the operation
named_kept : (schema : List Declaration) (op : Op) (m : ℕ) (es : List RowEffect) (t : StampedTables) (n : ℕ) (e : RowEffect) → slice_get es n ≡ Some e → KeptAt (with_changes schema (changes_from op m es) t) (place_of e)
named_kept schema op m [] t n e at = absurd cc
named_kept schema op m (x ∷ es) t zero e at =
    let same : x ≡ e = cc in
    kept_on schema (changes_from op (suc m) es) (with_change_at schema (place_of x) (change_of op m x) t) (place_of e) (subst (λ y. KeptAt (with_change_at schema (place_of x) (change_of op m x) t) (place_of y)) same (kept_here schema (change_of op m x) t))
named_kept schema op m (x ∷ es) t (suc n) e at = named_kept schema op (suc m) es (with_change_at schema (place_of x) (change_of op m x) t) n e at

-- ---- a present row that no change inserts was present

record WasPresent (t : StampedTables) (q place : Place) : Type 0 where
  before : StampedRow
  at : get t q ≡ Some before
  present : before.mark.value ≡ true

was_present : (schema : List Declaration) (op : Op) (t : StampedTables) → Base schema op t → (table : ℕ) (d : Declaration) (key : Key) → slice_get schema table ≡ Some d
    → is_inserted (place_at table key) (effects_of op) ≡ false → IsPresent (bare (applied schema op t)) table key → IsPresent (bare t) table key
was_present schema op t b table d key declared none_made p =
    let w : WasPresent t place place = still_walk schema op t b table d P declared step (λ q r here at same present. record { before = r; at = at; present = present }) place after.stamped refl after.at refl
    (ap (λ (r : Row). r.present) after.is ∙ p.present) in
    record { row = bare_row w.before; kept = to_bare t place w.before w.at; present = w.present }
  where
    place : Place
    place = place_at table key

    P : Place → StampedRow → Type 0
    P q row = q ≡ place → row.mark.value ≡ true → WasPresent t q place

    after : BareAt (applied schema op t) place p.row
    after = from_bare (applied schema op t) place p.row p.kept

    step : (n : ℕ) (e : RowEffect) → slice_get op.effects n ≡ Some e → ChangeFits d e → e.table ≡ table → RowStep d op (λ m. P) n e
    step n e there fits here = record {
      found = λ a row finds cells old same present. old same (present_before a (stamp_of op n) e row (none (is_insert e.act) refl same) present);
      made = λ a inserts same present. absurd (never_made place (effects_of op) n (effect_of e) none_made (effect_at op n e there) (sym same) inserts);
    }
      where
        none : (i : Bool) → is_insert e.act ≡ i → place_of e ≡ place → i ≡ false
        none false is same = refl
        none true is same = absurd (never_made place (effects_of op) n (effect_of e) none_made (effect_at op n e there) (sym same) is)

-- ---- needs

grown_binds : (o : Option Declaration) (present : Bool) → grows o ≡ true → Binds o present
grown_binds None present is = absurd cc
grown_binds (Some d) present is = inl is

declared_if : (o : Option Declaration) → grows o ≡ true → (d : Declaration) × (o ≡ Some d)
declared_if None is = absurd cc
declared_if (Some d) is = (d, refl)

-- the row that a change refers to, as no later one sets the reference again, was present
standing_holds : (schema : List Declaration) (op : Op) (t : StampedTables) → AcceptedSchema schema → Base schema op t → IsNewer op t → AllStand schema (applied schema op t) → Valid schema (bare (applied schema op t))
    → (table : ℕ) (v : Val) → grows (slice_get schema table) ≡ true → is_inserted (place_at table (record { first = v; second = None })) (effects_of op) ≡ false
    → IsStanding schema (effects_of op) table (record { first = v; second = None }) → IsPresent (bare t) table (record { first = v; second = None })
standing_holds schema op t accepted b below stand holds table v grown none_made s = was_present schema op t b table parent.0 key parent.1 none_made after
  where
    key : Key
    key = record { first = v; second = None }

    parent : (d : Declaration) × (slice_get schema table ≡ Some d)
    parent = declared_if (slice_get schema table) grown

    x : IsSomeBy effect_of (slice_get op.effects s.number) s.e
    x = map_some effect_of (slice_get op.effects s.number) s.e (sym (slice_get-map effect_of op.effects s.number) ∙ s.at)

    e : RowEffect
    e = x.x

    d : Declaration
    d = s.among.declaration

    declared : slice_get schema e.table ≡ Some d
    declared = ap (λ (o : Effect). slice_get schema o.place.table) x.gives ∙ s.among.declared

    fits : ChangeFits d e
    fits = let f : FitsSchema schema e = fits_at schema op.effects s.number e b.fits.changes x.is in subst (λ y. ChangeFits y e) (same_some (slice_get schema e.table) f.table d f.declared declared) f.fits

    named : IsNoCounter d s.column
    named = subst (RuleIs d) s.rule (rules_are schema accepted s.e.place.table s.inv s.among)

    kept : KeptAt (applied schema op t) (place_of e)
    kept = named_kept schema op 0 op.effects t s.number e x.is

    last : (k : ℕ) (y : RowEffect) → s.number < k → slice_get op.effects k ≡ Some y → place_of y ≡ place_of e → is_set (write_to s.column.num y.writes.items) ≡ false
    last k y lt at same = s.last k (effect_of y) lt (effect_at op k y at) (same ∙ ap (λ (o : Effect). o.place) x.gives)

    value : Contains (key_value d.key (key_values e.key) s.column.num) v ⊎ (write_to s.column.num e.writes.items ≡ Some (Set v)) → valid.value_of (bare_row kept.row) s.column ≡ got_of v
    value (inl of_key) = let r : RowStands schema (place_of e) kept.row = stand (place_of e) kept.row kept.at in
        subst (λ x. HoldsKey x e.key (bare_row kept.row)) (same_some (slice_get schema e.table) r.key.table d r.key.declared declared) r.keyed s.column v of_key
    value (inr set) = last_value schema op t b below e.table d declared s.column named.col named.declared named.apart (write_fits d s.column.num e.writes.items (Set v) fits.writes set).outside
        s.number e v x.is set last refl kept.row kept.at

    asks : Contains (given d (effect_of e) s.column.num) v
    asks = subst (λ (o : Effect). Contains (given d o s.column.num) v) (sym x.gives) s.asks

    referred : IsPresent (bare (applied schema op t)) s.parent.num (key_by (valid.value_of (bare_row kept.row) s.column))
    referred = subst (λ r. Holds schema (bare (applied schema op t)) e.table r e.key (bare_row kept.row)) s.rule
        (holds.invariants e.table s.inv e.key (bare_row kept.row) (record { declaration = d; declared = declared; among = s.among.among }) (to_bare (applied schema op t) (place_of e) kept.row kept.at))
        (grown_binds (slice_get schema s.parent.num) (bare_row kept.row).present (ap (λ n. grows (slice_get schema n)) s.refers ∙ grown))

    after : IsPresent (bare (applied schema op t)) table key
    after = subst (λ n. IsPresent (bare (applied schema op t)) n key) s.refers
        (subst (λ (w : Val). IsPresent (bare (applied schema op t)) s.parent.num (record { first = w; second = None })) (as_val_got v)
        (subst (λ g. IsPresent (bare (applied schema op t)) s.parent.num (key_by g)) (value (gives d e s.column.num v fits asks)) referred))

kept_some : (t : StampedTables) (p : Place) → KeptAt t p → IsSome (get (bare t) p)
kept_some t p r = subst IsSome (sym (to_bare t p r.row r.at)) refl

pub fitting_has : (schema : List Declaration) (op : Op) (t : StampedTables) → AcceptedSchema schema → IsMade schema op → AllStand schema t → IsNewer op t → FindsRows schema (changes_of op) t
    → Valid schema (bare (applied schema op t)) → Has schema op t
fitting_has schema op t accepted made stand newer finds holds = all_from (NeedHolds schema (effects_of op) (bare t)) op.needs each
  where
    b : Base schema op t
    b = record { none_lists = none_lists schema accepted; fits = made.fits; tables = stand_fit schema t stand; found = finds }

    from : (need : Need) (k : ℕ) → slice_get op.needs k ≡ Some need → Stands (needs_from schema (effects_of op) [] (effects_of op)) need
    from need k at = unlisted schema (effects_of op) need (record { number = k; at = ap (λ ns. slice_get ns k) (sym made.needs) ∙ at })

    table_of : Need → ℕ
    table_of (needs.Kept table key) = table
    table_of (needs.Present table key) = table

    key_of : Need → Key
    key_of (needs.Kept table key) = key
    key_of (needs.Present table key) = key

    each : (k : ℕ) (need : Need) → slice_get op.needs k ≡ Some need → NeedHolds schema (effects_of op) (bare t) need
    each k (needs.Kept table key) at =
        kept_some t (place_at table key) (kept_from schema op (effects_of op) [] 0 op.effects t t b.found (λ q r. inl r) table key (from (needs.Kept table key) k at))
    each k (needs.Present table key) at = subst (λ (x : ℕ × Key). IsStanding schema (effects_of op) x.0 x.1 → IsPresent (bare t) x.0 x.1) (λ i. (sym (ap table_of p.is) i, sym (ap key_of p.is) i))
        (standing_holds schema op t accepted b newer (stand_kept schema op t accepted made.fits finds stand) holds p.table p.v p.grown p.none_made)
      where
        p : IsPresentNeed schema (effects_of op) (needs.Present table key)
        p = present_from schema (effects_of op) [] (effects_of op) table key (from (needs.Present table key) k at)

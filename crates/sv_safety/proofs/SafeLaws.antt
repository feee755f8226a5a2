-- An operation none of whose changes is threatened is safe.
use Rattle.std.proofs.Common.{◌≡◌, inl, inr, ℕ, ◌&&◌, Bool, true, false, List, Option, Some, None, slice_get, refl, sym, ap, subst, ◌∙◌, ◌||◌, map, suc, [], ◌∷◌}
use Rattle.std.specs.FinMap.{get}
use Rattle.sv_value.specs.declared.values.Key.{Key}
use Rattle.sv_app.specs.declared.apps.Ident.{Ident}
use Rattle.sv_app.specs.declared.reasons.Reason.TheVariants as reasons
use Rattle.sv_app.specs.Accepted.{AcceptedSchema}
use Rattle.sv_app.specs.Kinds.{is_grow_only}
use Rattle.sv_app.specs.Schema.{Rule, Bound, OneOf, Different, Refers, Invariant, Declaration}
use Rattle.sv_app.specs.Tables.{Row}
use Rattle.sv_app.specs.Valid.{key_by, place_at, IsKept, IsPresent, IsAlone, Binds, Holds, IsInvariant, Valid}
use Rattle.sv_app.specs.Valid as valid
use Rattle.sv_app.proofs.TestLaws.{same_test}
use Rattle.sv_effect.specs.declared.ops.Op.{Op}
use Rattle.sv_effect.specs.declared.ops.RowEffect.{RowEffect}
use Rattle.sv_effect.specs.Applied.{applied}
use Rattle.sv_effect.specs.BareTables.{bare_row, bare}
use Rattle.sv_effect.specs.Fits.{ChangeFits}
use Rattle.sv_effect.specs.Has.{effects_of}
use Rattle.sv_effect.specs.Needs.{grows, needs_of}
use Rattle.sv_effect.specs.RunChanges.{effect_of}
use Rattle.sv_effect.specs.Safe.{Suffices, Safe}
use Rattle.sv_effect.specs.StampedTables.{StampedRow, StampedTables}
use Rattle.sv_effect.specs.Threatened.{is_remove, touches, ByUnique, ByChild, ByParent, Unthreatened, threatened_by_plain, any_threatened}
use Rattle.sv_effect.proofs.CommuteLaws.{unthreatened}
use Rattle.sv_safety.specs.Laws.{BlueIsSafe, IsMade}
use Rattle.sv_safety.proofs.AcceptLaws.{none_lists, rules_are}
use Rattle.sv_safety.proofs.Finds.{finds}
use Rattle.sv_safety.proofs.KindLaws.{IsNoCounter, RuleIs, RulesAre, effect_at, checks_kept, lists_kept, grown_kept, present_stays, IsOld, old_kept}
use Rattle.sv_safety.proofs.RefLaws.{referred}
use Rattle.sv_safety.proofs.TableWalk.{Base, BareAt, from_bare, to_bare}

module _ (schema : List Declaration) (op : Op) (t : StampedTables) (b : Base schema op t) (rules : RulesAre schema) (free : Unthreatened schema (effects_of op)) (asks : Suffices schema op t)
    (needs_are : op.needs ≡ needs_of schema (effects_of op)) where
  abbrev after : StampedTables
  after = applied schema op t

  -- different values
  alone : (table : ℕ) (inv : Invariant) (column : Ident) (i : IsInvariant schema table inv) → inv.rule ≡ Different column → (key : Key) (row : StampedRow) → get after (place_at table key) ≡ Some row
      → Holds schema (bare after) table (Different column) key (bare_row row)
  alone table inv column i rule key row at present other with_it kept there same =
      was (bare_row old.before) (to_bare t (place_at table key) old.before old.at) (old.present present) other (bare_row twin.before) (to_bare t (place_at table other) twin.before twin.at)
      (twin.present (ap (λ (r : Row). r.present) found.is ∙ there)) (sym twin.value ∙ ap (λ r. valid.value_of r column) found.is ∙ same ∙ old.value)
    where
      named : IsNoCounter i.declaration column
      named = subst (RuleIs i.declaration) rule (rules table inv i)

      never : (n : ℕ) (e : RowEffect) → slice_get op.effects n ≡ Some e → touches (effect_of e) table column ≡ true → ⊥
      never n e stands touched = free n (effect_of e) (reasons.Unique inv.number) (effect_at op n e stands)
          (record { table = table; inv = inv; among = i; numbered = refl; by = subst (ByUnique (effect_of e) table i.declaration) (sym rule) touched })

      found : BareAt after (place_at table other) with_it
      found = from_bare after (place_at table other) with_it kept

      old : IsOld t column (place_at table key) row
      old = old_kept schema op t b table i.declaration column i.declared named never (place_at table key) row refl at

      twin : IsOld t column (place_at table other) found.stamped
      twin = old_kept schema op t b table i.declaration column i.declared named never (place_at table other) found.stamped refl found.at

      was : (r : Row) → IsKept (bare t) table key r → r.present ≡ true → IsAlone (bare t) table column key r
      was r kept p = subst (λ z. Holds schema (bare t) table z key r) rule (asks.valid.invariants table inv key r i kept) p

  -- references
  refers : (table : ℕ) (inv : Invariant) (column parent target : Ident) (i : IsInvariant schema table inv) → inv.rule ≡ Refers column parent target → (key : Key) (row : StampedRow)
      → get after (place_at table key) ≡ Some row → Holds schema (bare after) table (Refers column parent target) key (bare_row row)
  refers table inv column parent target i rule key row at binds = by (slice_get schema parent.num) refl binds
    where
      named : IsNoCounter i.declaration column
      named = subst (RuleIs i.declaration) rule (rules table inv i)

      to_grown : (d : Declaration) → slice_get schema parent.num ≡ Some d → is_grow_only d.kind ≡ true → IsPresent (bare after) parent.num (key_by (valid.value_of (bare_row row) column))
      to_grown d declared grown = referred schema op t table (record {
        base = b;
        holds = asks.valid;
        needs_are = needs_are;
        has = asks.has;
        inv = inv;
        i = i;
        column = column;
        parent = parent;
        target = target;
        rule = rule;
        above = d;
        above_is = declared;
        grown = grown;
        named = named;
      }) (place_at table key) row refl at

      to_other : (d : Declaration) → slice_get schema parent.num ≡ Some d → is_grow_only d.kind ≡ false → row.mark.value ≡ true → IsPresent (bare after) parent.num (key_by (valid.value_of (bare_row row) column))
      to_other d declared small present = subst (λ g. IsPresent (bare after) parent.num (key_by g)) (sym old.value) (present_stays schema op t b parent.num d (key_by (valid.value_of (bare_row old.before) column)) declared stays before)
        where
          untouched : (n : ℕ) (e : RowEffect) → slice_get op.effects n ≡ Some e → touches (effect_of e) table column ≡ true → ⊥
          untouched n e stands touched = free n (effect_of e) (reasons.Child inv.number) (effect_at op n e stands)
              (record { table = table; inv = inv; among = i; numbered = refl; by = subst (ByChild schema (effect_of e) table i.declaration) (sym rule) (ap grows declared ∙ small, touched) })

          stays : (n : ℕ) (e : RowEffect) → slice_get op.effects n ≡ Some e → ChangeFits d e → e.table ≡ parent.num → is_remove e.act ≡ false
          stays n e stands fits here = split (is_remove e.act) refl
            where
              split : (r : Bool) → is_remove e.act ≡ r → r ≡ false
              split false is = refl
              split true is = absurd (free n (effect_of e) (reasons.Parent inv.number) (effect_at op n e stands)
                  (record { table = table; inv = inv; among = i; numbered = refl; by = subst (ByParent (effect_of e) table i.declaration) (sym rule) (λ j. same_test e.table parent.num here j && is j) }))

          old : IsOld t column (place_at table key) row
          old = old_kept schema op t b table i.declaration column i.declared named untouched (place_at table key) row refl at

          before : IsPresent (bare t) parent.num (key_by (valid.value_of (bare_row old.before) column))
          before = subst (λ z. Holds schema (bare t) table z key (bare_row old.before)) rule (asks.valid.invariants table inv key (bare_row old.before) i (to_bare t (place_at table key) old.before old.at))
              (subst (λ o. Binds o old.before.mark.value) (sym declared) (inr (old.present present)))

      by : (o : Option Declaration) → slice_get schema parent.num ≡ o → Binds o row.mark.value → IsPresent (bare after) parent.num (key_by (valid.value_of (bare_row row) column))
      by None declared binds = absurd binds
      by (Some d) declared (inl grown) = to_grown d declared grown
      by (Some d) declared (inr present) = kind (is_grow_only d.kind) refl
        where
          kind : (g : Bool) → is_grow_only d.kind ≡ g → IsPresent (bare after) parent.num (key_by (valid.value_of (bare_row row) column))
          kind true is = to_grown d declared is
          kind false is = to_other d declared is present

  holds_after : (table : ℕ) (inv : Invariant) (i : IsInvariant schema table inv) (key : Key) (row : StampedRow) → get after (place_at table key) ≡ Some row → (rule : Rule) → inv.rule ≡ rule
      → Holds schema (bare after) table rule key (bare_row row)
  holds_after table inv i key row at (Bound check) is = checks_kept schema op t b rules free asks.valid table inv check i is (place_at table key) row refl at
  holds_after table inv i key row at (OneOf column texts) is = lists_kept schema op t b rules free asks.valid table inv column texts i is (place_at table key) row refl at
  holds_after table inv i key row at (Different column) is = alone table inv column i is key row at
  holds_after table inv i key row at (Refers column parent target) is = refers table inv column parent target i is key row at

  pub left_valid : Valid schema (bare after)
  left_valid = record {
    invariants = λ table inv key row i kept. let f : BareAt after (place_at table key) row = from_bare after (place_at table key) row kept in
        subst (Holds schema (bare after) table inv.rule key) f.is (holds_after table inv i key f.stamped f.at inv.rule refl);
    grown = λ table d key row declared grown kept. let f : BareAt after (place_at table key) row = from_bare after (place_at table key) row kept in
        sym (ap (λ (r : Row). r.present) f.is) ∙ grown_kept schema op t b asks.valid table d declared grown (place_at table key) f.stamped refl f.at;
  }

pub safe : (schema : List Declaration) (op : Op) → AcceptedSchema schema → IsMade schema op → Unthreatened schema (effects_of op) → Safe schema op
safe schema op accepted made free t asks =
    left_valid schema op t (record { none_lists = none_lists schema accepted; fits = made.fits; tables = asks.rows; found = finds schema op t made asks.has asks.unmade }) (rules_are schema accepted) free asks made.needs

-- no change is threatened by `plain`
not_plain : (schema : List Declaration) (es : List RowEffect) → Unthreatened schema (map effect_of es) → any_threatened schema es ≡ false
not_plain schema [] free = refl
not_plain schema (e ∷ es) free = by (threatened_by_plain schema e) refl (not_plain schema es (λ n x reason at. free (suc n) x reason at))
  where
    by : (b : Bool) → threatened_by_plain schema e ≡ b → any_threatened schema es ≡ false → (b || any_threatened schema es) ≡ false
    by true is rest = absurd (free 0 (effect_of e) reasons.Plain refl is)
    by false is rest = rest

pub blue_is_safe : BlueIsSafe
blue_is_safe schema op accepted made free = record {
  safe = safe schema op accepted made free;
  commutes = unthreatened schema op (not_plain schema op.effects free);
}

-- What an operation that no reason threatens leaves, by kind of invariant.
use Rattle.std.proofs.Common.{◌≡◌, ◌≢◌, ◌⊎◌, inl, inr, ℕ, zero, suc, ◌&&◌, ◌||◌, Bool, true, false, List, Some, slice_get, refl, sym, ap, subst, ◌∙◌}
use Rattle.std.specs.FinMap.{get}
use Rattle.std.specs.List.{Contains}
use Rattle.std.specs.Option.{option_map}
use Rattle.std.proofs.lemmas.Option.{slice_get-map}
use Rattle.sv_value.specs.declared.values.Key.{Key}
use Rattle.sv_app.specs.declared.apps.Ident.{Ident}
use Rattle.sv_app.specs.declared.places.Place.{Place}
use Rattle.sv_app.specs.declared.reasons.Reason.TheVariants as reasons
use Rattle.sv_app.specs.declared.schemas.Check.{Check}
use Rattle.sv_app.specs.declared.schemas.Column.{Column}
use Rattle.sv_app.specs.declared.schemas.Merge.TheVariants as merges
use Rattle.sv_app.specs.Kinds.{is_grow_only}
use Rattle.sv_app.specs.Satisfiable.{check_in, checks_of}
use Rattle.sv_app.specs.Schema.{Rule, Bound, OneOf, Different, Refers, Invariant, Declaration}
use Rattle.sv_app.specs.Tables.{Row}
use Rattle.sv_app.specs.Valid.{Meets, IsListed, place_at, IsPresent, Holds, IsInvariant, Valid}
use Rattle.sv_app.specs.Valid as valid
use Rattle.sv_app.proofs.ListLaws.{Stands, contained, contains_at, StandsIn, stands_in, flat_stands, same_some}
use Rattle.sv_app.proofs.TestLaws.{same_test, or_left, or_right}
use Rattle.sv_effect.specs.declared.ops.Op.{Op}
use Rattle.sv_effect.specs.declared.ops.RowEffect.{RowEffect}
use Rattle.sv_effect.specs.Acts.{is_insert}
use Rattle.sv_effect.specs.Applied.{changes_of, applied}
use Rattle.sv_effect.specs.BareTables.{bare_row, bare}
use Rattle.sv_effect.specs.Fits.{ChangeFits, is_key_column}
use Rattle.sv_effect.specs.Has.{effects_of}
use Rattle.sv_effect.specs.RunChanges.{Effect, effect_of}
use Rattle.sv_effect.specs.StampedTables.{StampedRow, StampedTables}
use Rattle.sv_effect.specs.Threatened.{is_remove, BreaksRow, BreaksZeros, SetsUnlisted, write_to, is_set, touches, ByCheck, ByList, Unthreatened}
use Rattle.sv_safety.proofs.CheckSteps.{SideIs, AreMet, check_found, check_made}
use Rattle.sv_safety.proofs.Finds.{KeptAt, kept_on}
use Rattle.sv_safety.proofs.MarkSteps.{present_found, present_made, present_before, value_stays, grown_stays}
use Rattle.sv_safety.proofs.RowSteps.{list_found, list_made}
use Rattle.sv_safety.proofs.Stamps.{stamp_of}
use Rattle.sv_safety.proofs.TableWalk.{Base, RowStep, still_walk, BareAt, from_bare, to_bare}

-- a declared column that is no counter
pub record IsNoCounter (d : Declaration) (column : Ident) : Type 0 where
  pub col : Column
  pub declared : slice_get d.columns column.num ≡ Some col
  pub apart : col.merge ≢ merges.NumDelta

-- one outside the key
pub record IsOutside (d : Declaration) (column : Ident) : Type 0 where
  pub plain : IsNoCounter d column
  pub outside : is_key_column d.key column.num ≡ false

-- what acceptance says of the columns that a rule names
abbrev pub RuleIs : Declaration → Rule → Type 0
RuleIs d (Bound check) = SideIs d check.hi × SideIs d check.lo
RuleIs d (OneOf column texts) = IsOutside d column
RuleIs d (Different column) = IsNoCounter d column
RuleIs d (Refers column parent target) = IsNoCounter d column

abbrev pub RulesAre : List Declaration → Type 0
RulesAre schema = (table : ℕ) (inv : Invariant) → (i : IsInvariant schema table inv) → RuleIs i.declaration inv.rule

pub effect_at : (op : Op) (n : ℕ) (e : RowEffect) → slice_get op.effects n ≡ Some e → slice_get (effects_of op) n ≡ Some (effect_of e)
effect_at op n e at = slice_get-map effect_of op.effects n ∙ ap (option_map effect_of) at

pub holds_before : (schema : List Declaration) (t : StampedTables) → Valid schema (bare t) → (table : ℕ) (inv : Invariant) → IsInvariant schema table inv → (q : Place) (row : StampedRow) → q.table ≡ table
    → get t q ≡ Some row → Holds schema (bare t) table inv.rule q.key (bare_row row)
holds_before schema t holds table inv i q row is at = holds.invariants table inv q.key (bare_row row) i (ap (get (bare t)) (ap (λ n. place_at n q.key) (sym is)) ∙ to_bare t q row at)

-- ---- checks

check_among : (rule : Rule) (check : Check) (k : ℕ) → slice_get (check_in rule) k ≡ Some check → rule ≡ Bound check
check_among (Bound c) check zero at = let same : c ≡ check = cc in ap (λ x. Bound x) same
check_among (Bound c) check (suc k) at = absurd cc
check_among (OneOf column texts) check k at = absurd cc
check_among (Different column) check k at = absurd cc
check_among (Refers column parent target) check k at = absurd cc

check_named : (d : Declaration) (inv : Invariant) (check : Check) → Contains d.invs inv → inv.rule ≡ Bound check → Stands (checks_of d) check
check_named d inv check among rule =
    let s : Stands d.invs inv = contained d.invs inv among in
    flat_stands (λ (i : Invariant). check_in i.rule) d.invs s.number inv check s.at (record { number = 0; at = ap (λ r. slice_get (check_in r) 0) rule })

pub checks_kept : (schema : List Declaration) (op : Op) (t : StampedTables) → Base schema op t → RulesAre schema → Unthreatened schema (effects_of op) → Valid schema (bare t)
    → (table : ℕ) (inv : Invariant) (check : Check) → IsInvariant schema table inv → inv.rule ≡ Bound check → (q : Place) (row : StampedRow) → q.table ≡ table → get (applied schema op t) q ≡ Some row
    → Meets (bare_row row) check
checks_kept schema op t b rules free holds table inv check i rule q row is at =
    let s : Stands (checks_of d) check = check_named d inv check i.among rule in
    still_walk schema op t b table d (λ p. AreMet d) i.declared step start q row is at s.number check s.at
  where
    d : Declaration
    d = i.declaration

    of : (k : ℕ) (c : Check) → slice_get (checks_of d) k ≡ Some c → StandsIn (λ (j : Invariant). check_in j.rule) d.invs c
    of k c at = stands_in (λ (j : Invariant). check_in j.rule) d.invs k c at

    start : (p : Place) (r : StampedRow) → p.table ≡ table → get t p ≡ Some r → AreMet d r
    start p r here at k c stands =
        let x : StandsIn (λ (j : Invariant). check_in j.rule) d.invs c = of k c stands in
        subst (λ z. Holds schema (bare t) table z p.key (bare_row r)) (check_among x.x.rule c x.here.number x.here.at)
        (holds_before schema t holds table x.x (record { declaration = d; declared = i.declared; among = contains_at d.invs x.number x.x x.at }) p r here at)

    step : (n : ℕ) (e : RowEffect) → slice_get op.effects n ≡ Some e → ChangeFits d e → e.table ≡ table → RowStep d op (λ m p. AreMet d) n e
    step n e stands fits here = record {
      found = λ a r finds cells met k c at. check_found d c a (stamp_of op n) e r finds (sides k c at).0 (sides k c at).1 fits cells (λ breaks. threat k c at (inl breaks)) met;
      made = λ a inserts k c at. check_made d c a (stamp_of op n) e (sides k c at).0 (sides k c at).1 fits inserts b.fits.time (λ breaks. threat k c at (inr breaks));
    }
      where
        sides : (k : ℕ) (c : Check) → slice_get (checks_of d) k ≡ Some c → SideIs d c.hi × SideIs d c.lo
        sides k c at = let x : StandsIn (λ (j : Invariant). check_in j.rule) d.invs c = of k c at in
            subst (RuleIs d) (check_among x.x.rule c x.here.number x.here.at) (rules table x.x (record { declaration = d; declared = i.declared; among = contains_at d.invs x.number x.x x.at }))

        threat : (k : ℕ) (c : Check) → slice_get (checks_of d) k ≡ Some c → BreaksRow d (effect_of e) c ⊎ BreaksZeros (effect_of e) c → ⊥
        threat k c at how = let x : StandsIn (λ (j : Invariant). check_in j.rule) d.invs c = of k c at in
            free n (effect_of e) (reasons.Check x.x.number) (effect_at op n e stands) (record {
              table = table;
              inv = x.x;
              among = record { declaration = d; declared = i.declared; among = contains_at d.invs x.number x.x x.at };
              numbered = refl;
              by = subst (ByCheck (effect_of e) table d) (sym (check_among x.x.rule c x.here.number x.here.at)) (here, how);
            })

-- ---- lists

pub lists_kept : (schema : List Declaration) (op : Op) (t : StampedTables) → Base schema op t → RulesAre schema → Unthreatened schema (effects_of op) → Valid schema (bare t)
    → (table : ℕ) (inv : Invariant) (column : Ident) (texts : List (List ℕ)) → IsInvariant schema table inv → inv.rule ≡ OneOf column texts → (q : Place) (row : StampedRow) → q.table ≡ table
    → get (applied schema op t) q ≡ Some row → IsListed (valid.value_of (bare_row row) column) texts
lists_kept schema op t b rules free holds table inv column texts i rule q row is at =
    still_walk schema op t b table i.declaration (λ p r. IsListed (valid.value_of (bare_row r) column) texts) i.declared step start q row is at
  where
    named : IsOutside i.declaration column
    named = subst (RuleIs i.declaration) rule (rules table inv i)

    start : (p : Place) (r : StampedRow) → p.table ≡ table → get t p ≡ Some r → IsListed (valid.value_of (bare_row r) column) texts
    start p r here at = subst (λ z. Holds schema (bare t) table z p.key (bare_row r)) rule (holds_before schema t holds table inv i p r here at)

    step : (n : ℕ) (e : RowEffect) → slice_get op.effects n ≡ Some e → ChangeFits i.declaration e → e.table ≡ table → RowStep i.declaration op (λ m p r. IsListed (valid.value_of (bare_row r) column) texts) n e
    step n e stands fits here = record {
      found = λ a r finds cells old. list_found i.declaration column texts named.plain.col a (stamp_of op n) e r named.plain.declared fits cells threat old;
      made = λ a inserts. list_made i.declaration column texts named.plain.col a (stamp_of op n) e named.plain.declared named.outside named.plain.apart fits inserts b.fits.time threat;
    }
      where
        threat : SetsUnlisted (effect_of e) column texts → ⊥
        threat sets = free n (effect_of e) (reasons.List inv.number) (effect_at op n e stands)
            (record { table = table; inv = inv; among = i; numbered = refl; by = subst (ByList (effect_of e) table i.declaration) (sym rule) (here, sets) })

-- ---- rows of grow-only tables

pub grown_kept : (schema : List Declaration) (op : Op) (t : StampedTables) → Base schema op t → Valid schema (bare t) → (table : ℕ) (d : Declaration) → slice_get schema table ≡ Some d
    → is_grow_only d.kind ≡ true → (q : Place) (row : StampedRow) → q.table ≡ table → get (applied schema op t) q ≡ Some row → row.mark.value ≡ true
grown_kept schema op t b holds table d declared grown q row is at =
    still_walk schema op t b table d (λ p r. r.mark.value ≡ true) declared
    (λ n e stands fits here. record {
      found = λ a r finds cells old. present_found a (stamp_of op n) e r (grown_stays d e.act grown fits.allowed) old;
      made = λ a inserts. present_made d a (stamp_of op n) e inserts b.fits.time;
    })
    (λ p r here at. holds.grown table d p.key (bare_row r) declared grown (ap (get (bare t)) (ap (λ n. place_at n p.key) (sym here)) ∙ to_bare t p r at)) q row is at

-- ---- a row that is present stays so, if nothing is removed from its table

pub present_stays : (schema : List Declaration) (op : Op) (t : StampedTables) → Base schema op t → (table : ℕ) (d : Declaration) (key : Key) → slice_get schema table ≡ Some d
    → ((n : ℕ) (e : RowEffect) → slice_get op.effects n ≡ Some e → ChangeFits d e → e.table ≡ table → is_remove e.act ≡ false) → IsPresent (bare t) table key → IsPresent (bare (applied schema op t)) table key
present_stays schema op t b table d key declared stays p =
    record { row = bare_row after.row; kept = to_bare (applied schema op t) place after.row after.at; present = still_walk schema op t b table d (λ q r. q ≡ place → r.mark.value ≡ true) declared step start place after.row refl after.at refl }
  where
    place : Place
    place = place_at table key

    before : BareAt t place p.row
    before = from_bare t place p.row p.kept

    after : KeptAt (applied schema op t) place
    after = kept_on schema (changes_of op) t place (record { row = before.stamped; at = before.at })

    start : (q : Place) (r : StampedRow) → q.table ≡ table → get t q ≡ Some r → q ≡ place → r.mark.value ≡ true
    start q r here at is = ap (λ (x : StampedRow). x.mark.value) (same_some (get t place) r before.stamped (ap (get t) (sym is) ∙ at) before.at) ∙ ap (λ (x : Row). x.present) before.is ∙ p.present

    step : (n : ℕ) (e : RowEffect) → slice_get op.effects n ≡ Some e → ChangeFits d e → e.table ≡ table → RowStep d op (λ m q r. q ≡ place → r.mark.value ≡ true) n e
    step n e stands fits here = record {
      found = λ a r finds cells old is. present_found a (stamp_of op n) e r (stays n e stands fits here) (old is);
      made = λ a inserts is. present_made d a (stamp_of op n) e inserts b.fits.time;
    }

-- ---- rows that have a value of before

pub record IsOld (t : StampedTables) (column : Ident) (q : Place) (row : StampedRow) : Type 0 where
  pub before : StampedRow
  pub at : get t q ≡ Some before
  pub value : valid.value_of (bare_row row) column ≡ valid.value_of (bare_row before) column
  pub present : row.mark.value ≡ true → before.mark.value ≡ true

untouched : (e : Effect) (table : ℕ) (column : Ident) → (touches e table column ≡ true → ⊥) → e.place.table ≡ table → (is_insert e.act || is_set (write_to column.num e.writes)) ≡ false
untouched e table column never is = by (is_insert e.act || is_set (write_to column.num e.writes)) refl
  where
    by : (b : Bool) → (is_insert e.act || is_set (write_to column.num e.writes)) ≡ b → b ≡ false
    by false at = refl
    by true at = absurd (never ((λ i. same_test e.place.table table is i && at i)))

pub old_kept : (schema : List Declaration) (op : Op) (t : StampedTables) → Base schema op t → (table : ℕ) (d : Declaration) (column : Ident) → slice_get schema table ≡ Some d → IsNoCounter d column
    → ((n : ℕ) (e : RowEffect) → slice_get op.effects n ≡ Some e → touches (effect_of e) table column ≡ true → ⊥)
    → (q : Place) (row : StampedRow) → q.table ≡ table → get (applied schema op t) q ≡ Some row → IsOld t column q row
old_kept schema op t b table d column declared named never q row is at =
    still_walk schema op t b table d (IsOld t column) declared step (λ p r here at. record { before = r; at = at; value = refl; present = λ x. x }) q row is at
  where
    step : (n : ℕ) (e : RowEffect) → slice_get op.effects n ≡ Some e → ChangeFits d e → e.table ≡ table → RowStep d op (λ m. IsOld t column) n e
    step n e stands fits here = record {
      found = λ a r finds cells old. record {
        before = old.before;
        at = old.at;
        value = value_stays d column named.col a (stamp_of op n) e r named.declared named.apart fits cells (or_right (is_insert e.act) (is_set (write_to column.num e.writes.items)) still) ∙ old.value;
        present = λ p. old.present (present_before a (stamp_of op n) e r (or_left (is_insert e.act) (is_set (write_to column.num e.writes.items)) still) p);
      };
      made = λ a inserts. absurd (let none_made : is_insert e.act ≡ false = or_left (is_insert e.act) (is_set (write_to column.num e.writes.items)) still in cc);
    }
      where
        still : (is_insert e.act || is_set (write_to column.num e.writes.items)) ≡ false
        still = untouched (effect_of e) table column (never n e stands) here

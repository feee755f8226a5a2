-- From what is said of each invariant to the verdict.
use Rattle.std.proofs.Common.{◌≡◌, ◌⊎◌, inl, inr, ℕ, zero, suc, ◌+◌, ◌<◌, ◌≤◌, Bool, true, false, cond, List, [], ◌∷◌, map, get_or, length, Option, Some, None, slice_get, refl, sym, ap, subst, ◌∙◌, arith}
use Rattle.std.specs.Prelude.{◌&&◌, unwrap_or}
use Rattle.std.specs.List.{flat_map}
use Rattle.std.specs.Ordering.{is_lt, is_eq}
use Rattle.std.specs.FinMap.{get, get-insert}
use Rattle.std.proofs.lemmas.Bool.{cases_eq}
use Rattle.std.proofs.lemmas.Map.Views.{tells_apart}
use Rattle.std.proofs.lemmas.Option.{slice_get_within}
use Rattle.sv_value.specs.declared.values.Key.{Key}
use Rattle.sv_value.specs.Orders.{key_cmp}
use Rattle.sv_value.proofs.OrderLaws.{exact_keys}
use Rattle.sv_app.specs.declared.acts.Act.{Act}
use Rattle.sv_app.specs.declared.acts.Act.TheVariants.{Insert, Fresh, Update, Remove}
use Rattle.sv_app.specs.declared.places.Place.{Place}
use Rattle.sv_app.specs.declared.schemas.Inv.{Inv}
use Rattle.sv_app.specs.declared.schemas.Kind.{Kind}
use Rattle.sv_app.specs.declared.schemas.Kind.TheVariants.{Plain, Aoset, Uoset, Auset, Arset}
use Rattle.sv_app.specs.Accepted.{AcceptedSchema}
use Rattle.sv_app.specs.Conditions.{AreNumberedFrom}
use Rattle.sv_app.specs.Kinds.{kind_allows, keys_allow, is_fresh, is_grow_only}
use Rattle.sv_app.specs.Schema.{Rule, Bound, OneOf, Different, Refers, Invariant, Declaration, rule_of, invariant_of}
use Rattle.sv_app.specs.Tables.{Row, Tables}
use Rattle.sv_app.specs.Valid.{value_of, key_by, place_at, IsKept, IsPresent, Binds, Holds, IsInvariant, Valid, IsBroken, IsFirstBroken}
use Rattle.sv_app.proofs.PlaceLaws.{place_total, exact_places}
use Rattle.sv_effect.specs.declared.ops.RowEffect.{RowEffect}
use Rattle.sv_effect.specs.declared.left.LeftRow.{LeftRow}
use Rattle.sv_effect.specs.Agrees.{is_present}
use Rattle.sv_effect.specs.Fits.{FitsSchema, AllFit}
use Rattle.sv_effect.specs.Faces.{Face}
use Rattle.sv_effect.specs.Follows.{Follows}
use Rattle.sv_effect.specs.Reads.{ReadValue}
use Rattle.sv_effect.specs.RowChange.{turn_of}
use Rattle.sv_effect.specs.RunChanges.{effect_of, stands}
use Rattle.sv_effect.specs.Acts.{IsFound}
use Rattle.sv_effect.specs.Effects.{row_after, with_effect, with_effects, FindsAll}
use Rattle.sv_effect.specs.Overlays.{over}
use Rattle.sv_effect.specs.TablesOfCut.{is_place}
use Rattle.sv_effect.proofs.FollowLaws.{quiet, so, next_to}
use Rattle.sv_check.specs.declared.verdicts.Verdict.{Verdict}
use Rattle.sv_check.specs.declared.verdicts.Verdict.TheVariants.{Keeps, Breaks}
use Rattle.sv_check.specs.Least.{IsLeast, BrokenAt, IsAfter, LeastBroken}
use Rattle.sv_check.specs.Rules.{is_met, is_listed}
use Rattle.sv_check.specs.Tests.{rules_of}
use Rattle.sv_check.specs.Verdicts.{IsVerdict, Judges, NoneIn, TableSays, IsFirstOfAll, AllSay}
use Rattle.sv_check.proofs.AnswerLaws.{cases_below, numbers_from, numbered_front, numbered_back}
use Rattle.sv_check.proofs.FailLaws.{invariants_in}
use Rattle.sv_check.proofs.LeastBrokenLaws.{key_itself}
use Rattle.sv_check.proofs.BrokenLaws.{present_from, from_present}
use Rattle.sv_app.proofs.ListLaws.{Stands, contains_at, same_some}
use Rattle.sv_check.proofs.RuleLaws.{clash, meets, met, listed, in_list}

-- ---- a table's invariants, one after the other

abbrev pub PassedIn : List Declaration → List (Place × LeftRow) → ℕ → ℕ → Tables → Type 0
PassedIn schema left table i t = IsAfter schema left t → (place : ℕ) (inv : Invariant) → place < i → slice_get (rules_of (slice_get schema table)) place ≡ Some inv
    → (key : Key) → BrokenAt schema (over left t) table inv.rule key → ⊥

pub none_passed : (o n : Face) (a b : Option (List ReadValue)) (schema : List Declaration) (left : List (Place × LeftRow)) (table : ℕ) → n ≡ o → b ≡ a → Follows o n a b (PassedIn schema left table 0)
none_passed o n a b schema left table same stands = quiet o n a b _ same stands (λ t after place inv less. absurd (omega (arith, less)))

rule_at : (invs : List Inv) (i : ℕ) (inv : Inv) → i < length invs → inv ≡ get_or invs i inv → slice_get (map invariant_of invs) i ≡ Some (invariant_of inv)
rule_at [] i inv less is = absurd (omega (arith, less))
rule_at (x ∷ invs) zero inv less is = ap (λ y. Some (invariant_of y)) (sym is)
rule_at (x ∷ invs) (suc i) inv less is = rule_at invs i inv (omega (arith, less)) is

pub rule_here : (schema : List Declaration) (table : ℕ) (invs : List Inv) (i : ℕ) (inv : Inv) → map invariant_of invs ≡ rules_of (slice_get schema table) → i < length invs → inv ≡ get_or invs i inv
    → slice_get (rules_of (slice_get schema table)) i ≡ Some (invariant_of inv)
rule_here schema table invs i inv are less is = ap (λ l. slice_get l i) (sym are) ∙ rule_at invs i inv less is

pub invariant_at : (schema : List Declaration) (table place : ℕ) (inv : Invariant) → slice_get (rules_of (slice_get schema table)) place ≡ Some inv → IsInvariant schema table inv
invariant_at schema table place inv at = by (slice_get schema table) refl
  where
    by : (o : Option Declaration) → slice_get schema table ≡ o → IsInvariant schema table inv
    by None e = let none_there : slice_get (rules_of None) place ≡ Some inv = ap (λ o. slice_get (rules_of o) place) (sym e) ∙ at in absurd cc
    by (Some declaration) e = record { declaration = declaration; declared = e; among = contains_at declaration.invs place inv (ap (λ o. slice_get (rules_of o) place) (sym e) ∙ at) }

pub inv_declared : (schema : List Declaration) (table : ℕ) (invs : List Inv) (i : ℕ) (inv : Inv) → map invariant_of invs ≡ rules_of (slice_get schema table) → i < length invs → inv ≡ get_or invs i inv
    → IsInvariant schema table (invariant_of inv)
inv_declared schema table invs i inv are less is = invariant_at schema table i (invariant_of inv) (rule_here schema table invs i inv are less is)

pub one_passed : (o m n : Face) (a b c : Option (List ReadValue)) (schema : List Declaration) (left : List (Place × LeftRow)) (table : ℕ) (invs : List Inv) (i : ℕ) (inv : Inv) (found : Option Key)
    → map invariant_of invs ≡ rules_of (slice_get schema table) → i < length invs → inv ≡ get_or invs i inv
    → Follows o m a b (PassedIn schema left table i) → Follows m n b c (LeastBroken schema left table (rule_of inv.body) found) → found ≡ None → Follows o n a c (PassedIn schema left table (i + 1))
one_passed o m n a b c schema left table invs i inv found are less is f g none_found =
    next_to o m n a b c _ _ _ f g (λ t before least after place other below at. by t before least after place other below at (cases_eq place i))
  where
    by : (t : Tables) → PassedIn schema left table i t → LeastBroken schema left table (rule_of inv.body) found t → IsAfter schema left t → (place : ℕ) (other : Invariant) → place < i + 1
        → slice_get (rules_of (slice_get schema table)) place ≡ Some other → (place ≡ i) ⊎ (place ≡ i → ⊥) → (key : Key) → BrokenAt schema (over left t) table other.rule key → ⊥
    by t before least after place other below at (inl e) =
        let same : other ≡ invariant_of inv = same_some (slice_get (rules_of (slice_get schema table)) i) other (invariant_of inv) (ap (slice_get (rules_of (slice_get schema table))) (sym e) ∙ at) (rule_here schema table invs i inv are less is) in
        λ key broken. subst (λ r. IsLeast (BrokenAt schema (over left t) table (rule_of inv.body)) r) none_found (least after) key (subst (λ x. BrokenAt schema (over left t) table x.rule key) same broken)
    by t before least after place other below at (inr apart) = before after place other (omega (arith, below, apart)) at

pub first_found : (o m n : Face) (a b c : Option (List ReadValue)) (schema : List Declaration) (left : List (Place × LeftRow)) (table : ℕ) (invs : List Inv) (i : ℕ) (inv : Inv) (found : Option Key) (key : Key)
    → map invariant_of invs ≡ rules_of (slice_get schema table) → i < length invs → inv ≡ get_or invs i inv
    → Follows o m a b (PassedIn schema left table i) → Follows m n b c (LeastBroken schema left table (rule_of inv.body) found) → found ≡ Some key
    → Follows o n a c (TableSays schema left table (Breaks inv.number key))
first_found o m n a b c schema left table invs i inv found key are less is f g is_found =
    next_to o m n a b c _ _ _ f g (λ t before least after. record {
      place = i;
      inv = invariant_of inv;
      at = rule_here schema table invs i inv are less is;
      named = refl;
      least = subst (IsLeast (BrokenAt schema (over left t) table (rule_of inv.body))) is_found (least after);
      before = λ earlier other below at k broken. before after earlier other below at k broken;
    })

pub none_in : (o n : Face) (a b : Option (List ReadValue)) (schema : List Declaration) (left : List (Place × LeftRow)) (table : ℕ) (invs : List Inv) (i : ℕ)
    → map invariant_of invs ≡ rules_of (slice_get schema table) → length invs ≤ i → Follows o n a b (PassedIn schema left table i) → Follows o n a b (TableSays schema left table Keeps)
none_in o n a b schema left table invs i are le f =
    so o n a b _ _ f (λ t passed after place inv at. passed after place inv (below place inv at) at)
  where
    map_long : (xs : List Inv) → length (map invariant_of xs) ≡ length xs
    map_long [] = refl
    map_long (x ∷ xs) = let ih : length (map invariant_of xs) ≡ length xs = map_long xs in omega (arith, ih)

    below : (place : ℕ) (inv : Invariant) → slice_get (rules_of (slice_get schema table)) place ≡ Some inv → place < i
    below place inv at =
        let within : place < length (map invariant_of invs) = slice_get_within (map invariant_of invs) place inv (ap (λ l. slice_get l place) are ∙ at) in
        omega (arith, within, map_long invs, le)

-- ---- the tables, one after the other

abbrev pub PassedTables : List Declaration → List (Place × LeftRow) → ℕ → Tables → Type 0
PassedTables schema left n t = IsAfter schema left t → (table : ℕ) → table < n → NoneIn schema (over left t) table

pub no_table : (o n : Face) (a b : Option (List ReadValue)) (schema : List Declaration) (left : List (Place × LeftRow)) → n ≡ o → b ≡ a → Follows o n a b (PassedTables schema left 0)
no_table o n a b schema left same stands = quiet o n a b _ same stands (λ t after table less. absurd (omega (arith, less)))

pub one_table : (o m n : Face) (a b c : Option (List ReadValue)) (schema : List Declaration) (left : List (Place × LeftRow)) (table : ℕ) (verdict : Verdict) → Follows o m a b (PassedTables schema left table)
    → Follows m n b c (TableSays schema left table verdict) → verdict ≡ Keeps → Follows o n a c (PassedTables schema left (table + 1))
one_table o m n a b c schema left table verdict f g is =
    next_to o m n a b c _ _ _ f g (λ t before says after earlier below. by t before (subst (λ v. TableSays schema left table v t) is says) after earlier below (cases_eq earlier table))
  where
    by : (t : Tables) → PassedTables schema left table t → TableSays schema left table Keeps t → IsAfter schema left t → (earlier : ℕ) → earlier < table + 1 → (earlier ≡ table) ⊎ (earlier ≡ table → ⊥)
        → NoneIn schema (over left t) earlier
    by t before says after earlier below (inl e) = subst (NoneIn schema (over left t)) (sym e) (says after)
    by t before says after earlier below (inr apart) = before after earlier (omega (arith, below, apart))

pub first_table : (o m n : Face) (a b c : Option (List ReadValue)) (schema : List Declaration) (left : List (Place × LeftRow)) (table : ℕ) (verdict : Verdict) (number : ℕ) (key : Key)
    → Follows o m a b (PassedTables schema left table) → Follows m n b c (TableSays schema left table verdict) → verdict ≡ Breaks number key → Follows o n a c (AllSay schema left (Breaks number key))
first_table o m n a b c schema left table verdict number key f g is =
    next_to o m n a b c _ _ _ f g (λ t before says after. record { table = table; first = subst (λ v. TableSays schema left table v t) is says after; before = before after })

pub no_table_breaks : (o n : Face) (a b : Option (List ReadValue)) (schema : List Declaration) (left : List (Place × LeftRow)) (i : ℕ) → length schema ≤ i → Follows o n a b (PassedTables schema left i)
    → Follows o n a b (AllSay schema left Keeps)
no_table_breaks o n a b schema left i le f =
    so o n a b _ _ f (λ t passed after table place inv at. passed after table (below table place inv (invariant_at schema table place inv at)) place inv at)
  where
    below : (table place : ℕ) (inv : Invariant) → IsInvariant schema table inv → table < i
    below table place inv is = let within : table < length schema = slice_get_within schema table is.declaration is.declared in omega (arith, within, le)

-- ---- the verdict

-- a rule that can't be broken holds
stable : (schema : List Declaration) (t : Tables) (table : ℕ) (rule : Rule) (key : Key) (row : Row) → ((Holds schema t table rule key row → ⊥) → ⊥) → Holds schema t table rule key row
stable schema t table (Bound check) key row not_broken = by (is_met row check) refl
  where
    by : (b : Bool) → is_met row check ≡ b → Holds schema t table (Bound check) key row
    by true e = meets row check e
    by false e = absurd (not_broken (λ holds. clash (is_met row check) (met row check holds) e))
stable schema t table (OneOf column texts) key row not_broken = by (is_listed (value_of row column) texts) refl
  where
    by : (b : Bool) → is_listed (value_of row column) texts ≡ b → Holds schema t table (OneOf column texts) key row
    by true e = listed (value_of row column) texts e
    by false e = absurd (not_broken (λ holds. clash (is_listed (value_of row column) texts) (in_list (value_of row column) texts holds) e))
stable schema t table (Different column) key row not_broken = λ present other with_it kept there equal. by present other with_it kept there equal (is_eq (key_cmp other key)) refl
  where
    by : row.present ≡ true → (other : Key) (with_it : Row) → IsKept t table other with_it → with_it.present ≡ true → value_of with_it column ≡ value_of row column → (b : Bool) → is_eq (key_cmp other key) ≡ b → other ≡ key
    by present other with_it kept there equal true e = tells_apart exact_keys other key e
    by present other with_it kept there equal false e =
        absurd (not_broken (λ holds. clash (is_eq (key_cmp other key)) (ap (λ x. is_eq (key_cmp x key)) (holds present other with_it kept there equal) ∙ key_itself key) e))
stable schema t table (Refers column parent target) key row not_broken = λ binds. by binds (is_present t parent.num (key_by (value_of row column))) refl
  where
    by : Binds (slice_get schema parent.num) row.present → (b : Bool) → is_present t parent.num (key_by (value_of row column)) ≡ b → IsPresent t parent.num (key_by (value_of row column))
    by binds true e = present_from t parent.num (key_by (value_of row column)) e
    by binds false e = absurd (not_broken (λ holds. clash (is_present t parent.num (key_by (value_of row column))) (from_present t parent.num (key_by (value_of row column)) (holds binds)) e))

-- how many invariants the tables before one have
offset : List Declaration → ℕ → ℕ
offset [] table = 0
offset (t ∷ schema) zero = 0
offset (t ∷ schema) (suc table) = length t.invs + offset schema table

number_at : (first : ℕ) (schema : List Declaration) (table place : ℕ) (inv : Invariant) → AreNumberedFrom first (flat_map (λ t. t.invs) schema) → slice_get (rules_of (slice_get schema table)) place ≡ Some inv
    → inv.number ≡ first + (offset schema table + place)
unfolding offset
number_at first [] table place inv numbered at = absurd cc
number_at first (t ∷ schema) zero place inv numbered at = numbers_from first t.invs place inv (numbered_front first t.invs (flat_map (λ t. t.invs) schema) numbered) at ∙ plain first place
  where
    plain : (a b : ℕ) → a + b ≡ a + (0 + b)
    plain a b = omega arith
number_at first (t ∷ schema) (suc table) place inv numbered at =
    number_at (first + length t.invs) schema table place inv (numbered_back first t.invs (flat_map (λ t. t.invs) schema) numbered) at ∙ moved first (length t.invs) (offset schema table) place
  where
    moved : (a b c d : ℕ) → (a + b) + (c + d) ≡ a + ((b + c) + d)
    moved a b c d = omega arith

offset_above : (schema : List Declaration) (table later place : ℕ) (inv : Invariant) → table < later → slice_get (rules_of (slice_get schema table)) place ≡ Some inv → offset schema table + place < offset schema later
unfolding offset
offset_above [] table later place inv less at = absurd cc
offset_above (t ∷ schema) zero zero place inv less at = absurd (omega (arith, less))
offset_above (t ∷ schema) zero (suc later) place inv less at = let within : place < length t.invs = slice_get_within t.invs place inv at in above place (length t.invs) (offset schema later) within
  where
    above : (p n m : ℕ) → p < n → 0 + p < n + m
    above p n m h = omega (arith, h)
offset_above (t ∷ schema) (suc table) zero place inv less at = absurd (omega (arith, less))
offset_above (t ∷ schema) (suc table) (suc later) place inv less at = both (length t.invs) (offset schema table) place (offset schema later) (offset_above schema table later place inv (omega (arith, less)) at)
  where
    both : (a b c d : ℕ) → b + c < d → (a + b) + c < a + d
    both a b c d h = omega (arith, h)

-- where it is said of all invariants, the verdict is right
pub all_kept : (schema : List Declaration) (left : List (Place × LeftRow)) (t : Tables) → IsAfter schema left t → ((table : ℕ) → NoneIn schema (over left t) table) → Valid schema (over left t)
all_kept schema left t after none_broken = record {
  invariants = λ table inv key row is kept.
      let among : Stands (rules_of (slice_get schema table)) inv = invariants_in schema table inv is in
      stable schema (over left t) table inv.rule key row (λ breaks. none_broken table among.number inv among.at key (record { row = row; kept = kept; breaks = breaks }));
  grown = after.grown;
}

pub first_is : (schema : List Declaration) (t : Tables) (number : ℕ) (key : Key) → AcceptedSchema schema → IsFirstOfAll schema t number key → IsFirstBroken schema t number key
first_is schema t number key accepted found = record {
  broken = record {
    table = found.table;
    inv = found.first.inv;
    row = found.first.least.0.row;
    declared = invariant_at schema found.table found.first.place found.first.inv found.first.at;
    named = found.first.named;
    kept = found.first.least.0.kept;
    breaks = found.first.least.0.breaks;
  };
  first = λ other k broken. by other k broken (invariants_in schema broken.table broken.inv broken.declared) (cases_below found.table broken.table);
}
  where
    mine : number ≡ 1 + (offset schema found.table + found.first.place)
    mine = sym found.first.named ∙ number_at 1 schema found.table found.first.place found.first.inv accepted.invariants found.first.at

    its : (other : ℕ) (k : Key) (broken : IsBroken schema t other k) (among : Stands (rules_of (slice_get schema broken.table)) broken.inv) → other ≡ 1 + (offset schema broken.table + among.number)
    its other k broken among = sym broken.named ∙ number_at 1 schema broken.table among.number broken.inv accepted.invariants among.at

    at_key : (other : ℕ) (k : Key) (broken : IsBroken schema t other k) → BrokenAt schema t broken.table broken.inv.rule k
    at_key other k broken = record { row = broken.row; kept = broken.kept; breaks = broken.breaks }

    by : (other : ℕ) (k : Key) (broken : IsBroken schema t other k) (among : Stands (rules_of (slice_get schema broken.table)) broken.inv) → (found.table < broken.table) ⊎ ((found.table ≡ broken.table) ⊎ (broken.table < found.table))
        → (number < other) ⊎ ((number ≡ other) × (is_lt (key_cmp k key) ≡ false))
    by other k broken among (inl less) =
        let above : offset schema found.table + found.first.place < offset schema broken.table = offset_above schema found.table broken.table found.first.place found.first.inv less found.first.at in
        inl (omega (arith, mine, its other k broken among, above))
    by other k broken among (inr (inr less)) = absurd (found.before broken.table less among.number broken.inv among.at k (at_key other k broken))
    by other k broken among (inr (inl same)) = within (cases_below found.first.place among.number)
      where
        at_mine : slice_get (rules_of (slice_get schema found.table)) among.number ≡ Some broken.inv
        at_mine = ap (λ n. slice_get (rules_of (slice_get schema n)) among.number) same ∙ among.at

        here : BrokenAt schema t found.table broken.inv.rule k
        here = subst (λ n. BrokenAt schema t n broken.inv.rule k) (sym same) (at_key other k broken)

        within : (found.first.place < among.number) ⊎ ((found.first.place ≡ among.number) ⊎ (among.number < found.first.place)) → (number < other) ⊎ ((number ≡ other) × (is_lt (key_cmp k key) ≡ false))
        within (inl less) = inl (omega (arith, mine, its other k broken among, ap (offset schema) same, less))
        within (inr (inr less)) = absurd (found.first.before among.number broken.inv less at_mine k here)
        within (inr (inl e)) =
            let one : found.first.inv ≡ broken.inv = same_some (slice_get (rules_of (slice_get schema found.table)) among.number) found.first.inv broken.inv (ap (slice_get (rules_of (slice_get schema found.table))) (sym e) ∙ found.first.at) at_mine in
            inr (sym found.first.named ∙ ap (λ x. x.number) one ∙ broken.named, found.first.least.1 k (subst (λ x. BrokenAt schema t found.table x.rule k) (sym one) here))

-- ---- grow-only tables stay so

abbrev AreGrown : List Declaration → Tables → Type 0
AreGrown schema t = (table : ℕ) (declaration : Declaration) (key : Key) (row : Row) → slice_get schema table ≡ Some declaration → is_grow_only declaration.kind ≡ true → IsKept t table key row → row.present ≡ true

and_left : (a b : Bool) → (a && b) ≡ true → a ≡ true
and_left true b e = refl
and_left false b e = absurd cc

removes_none : (kind : Kind) → is_grow_only kind ≡ true → kind_allows kind Remove ≡ true → ⊥
removes_none Plain g a = cc
removes_none Aoset g a = cc
removes_none Uoset g a = cc
removes_none Auset g a = cc
removes_none Arset g a = cc

turned_present : (act : Act) (kind : Kind) (o : Option Row) → is_grow_only kind ≡ true → kind_allows kind act ≡ true → IsFound act o → ((row : Row) → o ≡ Some row → row.present ≡ true)
    → unwrap_or (turn_of act) (stands o) ≡ true
turned_present Insert kind o grows allowed found before = refl
turned_present Fresh kind o grows allowed found before = refl
turned_present Update kind None grows allowed found before = absurd found
turned_present Update kind (Some row) grows allowed found before = before row refl
turned_present Remove kind o grows allowed found before = absurd (removes_none kind grows allowed)

one_grown : (schema : List Declaration) (e : RowEffect) (t : Tables) → FitsSchema schema e → IsFound (effect_of e).act (get t (effect_of e).place) → AreGrown schema t → AreGrown schema (with_effect schema (effect_of e) t)
one_grown schema e t fits found grown table declaration key row declared grows kept =
    by (is_place (place_at table key) (effect_of e).place) refl (sym (get-insert place_total t (effect_of e).place (row_after schema (effect_of e) (get t (effect_of e).place)) (place_at table key)) ∙ kept)
  where
    same_row : (x y : Row) → Some x ≡ Some y → x ≡ y
    same_row x y h = cc

    by : (b : Bool) → is_place (place_at table key) (effect_of e).place ≡ b → cond b (Some (row_after schema (effect_of e) (get t (effect_of e).place))) (get t (place_at table key)) ≡ Some row → row.present ≡ true
    by false h is = grown table declaration key row declared grows is
    by true h is =
        let here : place_at table key ≡ (effect_of e).place = tells_apart exact_places (place_at table key) (effect_of e).place h in
        let kind : fits.table ≡ declaration = same_some (slice_get schema table) fits.table declaration (ap (λ p. slice_get schema p.table) here ∙ fits.declared) declared in
        ap (λ r. r.present) (sym (same_row (row_after schema (effect_of e) (get t (effect_of e).place)) row is))
        ∙ turned_present e.act declaration.kind (get t (effect_of e).place) grows (subst (λ d. kind_allows d.kind e.act ≡ true) kind (and_left (kind_allows fits.table.kind e.act) (keys_allow (is_fresh fits.table) e.act) fits.fits.allowed)) found
        (λ old at. grown table declaration key old declared grows (ap (get t) here ∙ at))

pub still_grown : (schema : List Declaration) (es : List RowEffect) (t : Tables) → AllFit schema es → FindsAll schema (map effect_of es) t → AreGrown schema t → AreGrown schema (with_effects schema (map effect_of es) t)
still_grown schema [] t fits found grown = grown
still_grown schema (e ∷ es) t fits found grown = still_grown schema es (with_effect schema (effect_of e) t) fits.1 found.1 (one_grown schema e t fits.0 found.0 grown)

pub judged : (o m n : Face) (a b c : Option (List ReadValue)) (schema : List Declaration) (es : List RowEffect) (left : List (Place × LeftRow)) (verdict : Verdict) → AcceptedSchema schema → AllFit schema es
    → Follows o m a b (λ t. over left t ≡ with_effects schema (map effect_of es) t) → Follows m n b c (AllSay schema left verdict) → Follows o n a c (Judges schema (map effect_of es) verdict)
judged o m n a b c schema es left verdict accepted fits f g = next_to o m n a b c _ _ _ f g (λ t made says valid found.
    by t verdict made says (record { valid = valid; grown = subst (AreGrown schema) (sym made) (still_grown schema es t fits found valid.grown) }))
  where
    by : (t : Tables) (v : Verdict) → over left t ≡ with_effects schema (map effect_of es) t → AllSay schema left v t → IsAfter schema left t → IsVerdict schema (map effect_of es) t v
    by t Keeps made says after = subst (Valid schema) made (all_kept schema left t after (says after))
    by t (Breaks number key) made says after = subst (λ x. IsFirstBroken schema x number key) made (first_is schema (over left t) number key accepted (says after))

pub ruleset judging = (judged)

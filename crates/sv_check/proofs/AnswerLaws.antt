-- The first initial row that breaks an invariant, and that the tables are valid where there is none.
use Rattle.std.proofs.Common.{◌≡◌, ◌⊎◌, inl, inr, ℕ, zero, suc, ◌+◌, ◌<◌, ◌≤◌, ◌||◌, Bool, true, false, List, [], ◌∷◌, ◌++◌, length, Option, Some, None, slice_get, refl, sym, ap, subst, ◌∙◌, arith}
use Rattle.std.specs.List.{flat_map, find}
use Rattle.std.specs.FinMap.{get}
use Rattle.std.proofs.lemmas.Bool.{cases_eq, cases_lt}
use Rattle.std.proofs.lemmas.Option.{slice_get_within, get_or_from_slice_get}
use Rattle.sv_value.specs.declared.values.Key.{Key}
use Rattle.sv_app.specs.declared.apps.Ident.{Ident}
use Rattle.sv_app.specs.declared.places.Place.{Place}
use Rattle.sv_app.specs.declared.requests.InitRow.{InitRow}
use Rattle.sv_app.specs.Accepted.{AcceptedSchema}
use Rattle.sv_app.specs.Conditions.{AreNumberedFrom}
use Rattle.sv_app.specs.Schema.{Rule, Bound, OneOf, Different, Refers, Invariant, Declaration}
use Rattle.sv_app.specs.Tables.{Row}
use Rattle.sv_app.specs.Valid.{value_of, place_at, IsKept, Holds, IsInvariant, Valid}
use Rattle.sv_effect.specs.Initial.{AreDistinct}
use Rattle.sv_check.specs.declared.initial.Held.{Held}
use Rattle.sv_check.specs.Initial.{initial_row, initial_tables, HasEarlier, Fails, BreaksAt, IsFirst}
use Rattle.sv_check.specs.Tests.{held_cmp, rules_of, held_by, is_held, is_there, fails, first_failed}
use Rattle.sv_check.proofs.FailLaws.{held_before, breaks, keeps, seen_before, unbroken, invariants_in}
use Rattle.sv_check.proofs.InitialLaws.{IsInitial, kept_from, kept_at, one_place}
use Rattle.sv_app.proofs.ListLaws.{Stands, contains_at, find_none, IsFound, find_some, map_none, IsSomeBy, map_some, same_some}
use Rattle.sv_check.proofs.RuleLaws.{clash}
use Rattle.sv_check.proofs.SetLaws.{noted_more}

-- what the i-th row breaks first
abbrev pub first_of : List Declaration → List InitRow → ℕ → InitRow → Option ℕ
first_of schema init i row = first_failed schema (λ p. is_there p init) (held_before schema init i) row (rules_of (slice_get schema row.table))

-- no row before the i-th breaks an invariant
abbrev pub Passed : List Declaration → List InitRow → ℕ → Type 0
Passed schema init i = (j : ℕ) (row : InitRow) → j < i → slice_get init j ≡ Some row → first_of schema init j row ≡ None

pub one_passed : (schema : List Declaration) (init : List InitRow) (i : ℕ) (row : InitRow) → Passed schema init i → slice_get init i ≡ Some row → first_of schema init i row ≡ None
    → Passed schema init (i + 1)
one_passed schema init i row passed at is j other less at_other = split (cases_eq j i)
  where
    split : (j ≡ i) ⊎ (j ≡ i → ⊥) → first_of schema init j other ≡ None
    split (inl same) =
        let row_same : other ≡ row = same_some (slice_get init i) other row (ap (slice_get init) (sym same) ∙ at_other) at in
        (λ k. first_of schema init (same k) (row_same k)) ∙ is
    split (inr apart) = passed j other (omega (arith, less, apart)) at_other

-- where the places and the values are told by sets
pub as_told : (schema : List Declaration) (init : List InitRow) (i : ℕ) (row : InitRow) (there : Place → Bool) (held : Held → Bool) (found : Option ℕ)
    → ((p : Place) → there p ≡ is_there p init) → ((h : Held) → held h ≡ held_before schema init i h)
    → found ≡ first_failed schema there held row (rules_of (slice_get schema row.table)) → first_of schema init i row ≡ found
as_told schema init i row there held found places values is = sym (is ∙ (λ k. first_failed schema (λ p. places p k) (λ h. values h k) row (rules_of (slice_get schema row.table))))

-- the test of a rule that a row without a broken invariant has
test_false : (schema : List Declaration) (init : List InitRow) (i : ℕ) (row : InitRow) (inv : Invariant) → first_of schema init i row ≡ None → IsInvariant schema row.table inv
    → fails schema (λ p. is_there p init) (held_before schema init i) row inv.rule ≡ false
test_false schema init i row inv none_found is =
    let among : Stands (rules_of (slice_get schema row.table)) inv = invariants_in schema row.table inv is in
    find_none (λ inv. fails schema (λ p. is_there p init) (held_before schema init i) row inv.rule) (rules_of (slice_get schema row.table)) among.number inv
    (map_none (λ inv. inv.number) (find (λ inv. fails schema (λ p. is_there p init) (held_before schema init i) row inv.rule) (rules_of (slice_get schema row.table))) none_found) among.at

pub cases_below : (j k : ℕ) → (j < k) ⊎ ((j ≡ k) ⊎ (k < j))
cases_below j k = split (cases_eq j k) (cases_lt k j)
  where
    split : (j ≡ k) ⊎ (j ≡ k → ⊥) → (k < j) ⊎ (j ≤ k) → (j < k) ⊎ ((j ≡ k) ⊎ (k < j))
    split (inl same) order = inr (inl same)
    split (inr apart) (inl less) = inr (inr less)
    split (inr apart) (inr le) = inl (omega (arith, le, apart))

-- two initial rows of one table, both of which pass, have different values in a unique column
two_differ : (schema : List Declaration) (init : List InitRow) (j k : ℕ) (x y : InitRow) (inv : Invariant) (column : Ident) → IsInvariant schema x.table inv → inv.rule ≡ Different column
    → slice_get init j ≡ Some x → slice_get init k ≡ Some y → first_of schema init j x ≡ None → first_of schema init k y ≡ None → y.table ≡ x.table
    → value_of (initial_row y) column ≡ value_of (initial_row x) column → y.key ≡ x.key
two_differ schema init j k x y inv column is rule at_x at_y none_x none_y beside equal = split (cases_below j k)
  where
    of_y : IsInvariant schema y.table inv
    of_y = subst (λ n. IsInvariant schema n inv) (sym beside) is

    split : (j < k) ⊎ ((j ≡ k) ⊎ (k < j)) → y.key ≡ x.key
    split (inl less) =
        let earlier : HasEarlier init k y column = record { earlier = j; other = x; before = less; stands = at_x; beside = sym beside; equal = sym equal } in
        clash _ (seen_before schema init k y inv column of_y rule earlier) (ap (fails schema (λ p. is_there p init) (held_before schema init k) y) (sym rule) ∙ test_false schema init k y inv none_y of_y)
    split (inr (inl same)) = ap (λ z. z.key) (same_some (slice_get init j) y x (ap (slice_get init) same ∙ at_y) at_x)
    split (inr (inr less)) =
        let earlier : HasEarlier init j x column = record { earlier = k; other = y; before = less; stands = at_y; beside = beside; equal = equal } in
        clash _ (seen_before schema init j x inv column is rule earlier) (ap (fails schema (λ p. is_there p init) (held_before schema init j) x) (sym rule) ∙ test_false schema init j x inv none_x is)

-- each rule holds where all rows pass
rule_holds : (schema : List Declaration) (init : List InitRow) (table : ℕ) (inv : Invariant) (rule : Rule) (key : Key) (row : Row) (from : IsInitial init (place_at table key) row) → IsInvariant schema from.from.table inv
    → inv.rule ≡ rule → Passed schema init (length init) → Holds schema (initial_tables init) from.from.table rule from.from.key (initial_row from.from)
rule_holds schema init table inv rule key row from is same passed = split rule same
  where
    none_here : first_of schema init from.number from.from ≡ None
    none_here = passed from.number from.from (slice_get_within init from.number from.from from.at) from.at

    test : (r : Rule) → inv.rule ≡ r → fails schema (λ p. is_there p init) (held_before schema init from.number) from.from r ≡ false
    test r e = ap (fails schema (λ p. is_there p init) (held_before schema init from.number) from.from) (sym e) ∙ test_false schema init from.number from.from inv none_here is

    split : (r : Rule) → inv.rule ≡ r → Holds schema (initial_tables init) from.from.table r from.from.key (initial_row from.from)
    split (Bound check) e = keeps schema init from.number from.from (Bound check) tt (test (Bound check) e)
    split (OneOf column texts) e = keeps schema init from.number from.from (OneOf column texts) tt (test (OneOf column texts) e)
    split (Refers column parent target) e = keeps schema init from.number from.from (Refers column parent target) tt (test (Refers column parent target) e)
    split (Different column) e = λ present other with_it kept there equal.
        let second : IsInitial init (place_at from.from.table other) with_it = kept_from init (place_at from.from.table other) with_it kept in
        sym (ap (λ p. p.key) second.place)
        ∙ two_differ schema init from.number second.number from.from second.from inv column is e from.at second.at none_here
        (passed second.number second.from (slice_get_within init second.number second.from second.at) second.at) (ap (λ p. p.table) second.place)
        (ap (λ r. value_of r column) (sym second.is) ∙ equal)

pub all_valid : (schema : List Declaration) (init : List InitRow) → Passed schema init (length init) → Valid schema (initial_tables init)
all_valid schema init passed = record {
  invariants = λ table inv key row is kept.
      let from : IsInitial init (place_at table key) row = kept_from init (place_at table key) row kept in
      let at_table : from.from.table ≡ table = ap (λ p. p.table) from.place in
      let held = rule_holds schema init table inv inv.rule key row from (subst (λ n. IsInvariant schema n inv) (sym at_table) is) refl passed in
      subst (λ r. Holds schema (initial_tables init) table inv.rule key r) (sym from.is)
      (subst (λ k. Holds schema (initial_tables init) table inv.rule k (initial_row from.from)) (ap (λ p. p.key) from.place)
      (subst (λ n. Holds schema (initial_tables init) n inv.rule from.from.key (initial_row from.from)) at_table held));
  grown = λ table declaration key row declared grows kept. ap (λ r. r.present) (kept_from init (place_at table key) row kept).is;
}

pub numbers_from : (first : ℕ) (invs : List Invariant) (k : ℕ) (inv : Invariant) → AreNumberedFrom first invs → slice_get invs k ≡ Some inv → inv.number ≡ first + k
numbers_from first [] k inv numbered at = absurd cc
numbers_from first (x ∷ invs) zero inv numbered at = let same : x ≡ inv = cc in ap (λ z. z.number) (sym same) ∙ numbered.0 ∙ more first
  where
    more : (n : ℕ) → n ≡ n + 0
    more n = omega arith
numbers_from first (x ∷ invs) (suc k) inv numbered at = numbers_from (suc first) invs k inv numbered.1 at ∙ more first k
  where
    more : (n m : ℕ) → suc n + m ≡ n + suc m
    more n m = omega arith

pub numbered_front : (first : ℕ) (xs ys : List Invariant) → AreNumberedFrom first (xs ++ ys) → AreNumberedFrom first xs
numbered_front first [] ys numbered = tt
numbered_front first (x ∷ xs) ys numbered = (numbered.0, numbered_front (suc first) xs ys numbered.1)

pub numbered_back : (first : ℕ) (xs ys : List Invariant) → AreNumberedFrom first (xs ++ ys) → AreNumberedFrom (first + length xs) ys
numbered_back first [] ys numbered = subst (λ n. AreNumberedFrom n ys) (omega arith) numbered
numbered_back first (x ∷ xs) ys numbered = subst (λ n. AreNumberedFrom n ys) (omega arith) (numbered_back (suc first) xs ys numbered.1)

-- the invariants of a table are numbered one after the other
pub record AreInOrder (invs : List Invariant) : Type 0 where
  pub from : ℕ
  pub numbered : AreNumberedFrom from invs

table_order : (first : ℕ) (schema : List Declaration) (table : ℕ) → AreNumberedFrom first (flat_map (λ t. t.invs) schema) → AreInOrder (rules_of (slice_get schema table))
table_order first [] table numbered = record { from = first; numbered = tt }
table_order first (t ∷ schema) zero numbered = record { from = first; numbered = numbered_front first t.invs (flat_map (λ t. t.invs) schema) numbered }
table_order first (t ∷ schema) (suc table) numbered = table_order (first + length t.invs) schema table (numbered_back first t.invs (flat_map (λ t. t.invs) schema) numbered)

-- the first row that breaks one, after rows that break none
pub is_first : (schema : List Declaration) (init : List InitRow) (i : ℕ) (row : InitRow) (number : ℕ) → AcceptedSchema schema → Passed schema init i → slice_get init i ≡ Some row
    → first_of schema init i row ≡ Some number → IsFirst schema init i number
is_first schema init i row number accepted passed at is = record {
  breaks = record {
    row = row;
    inv = found.x;
    stands = at;
    declared = invariant found.x which.number which.at;
    named = found.gives;
    fails = breaks schema init i row found.x.rule which.is;
  };
  first = λ other n broken. order other n broken (cases_below i other);
}
  where
    invs : List Invariant
    invs = rules_of (slice_get schema row.table)

    test : Invariant → Bool
    test inv = fails schema (λ p. is_there p init) (held_before schema init i) row inv.rule

    found : IsSomeBy (λ inv. inv.number) (find test invs) number
    found = map_some (λ inv. inv.number) (find test invs) number is

    which : IsFound test invs found.x
    which = find_some test invs found.x found.is

    invariant : (inv : Invariant) (k : ℕ) → slice_get invs k ≡ Some inv → IsInvariant schema row.table inv
    invariant inv k at_k = of_option (slice_get schema row.table) refl
      where
        of_option : (o : Option Declaration) → slice_get schema row.table ≡ o → IsInvariant schema row.table inv
        of_option None e = let none_there : slice_get (rules_of None) k ≡ Some inv = ap (λ o. slice_get (rules_of o) k) (sym e) ∙ at_k in absurd cc
        of_option (Some declaration) e = record { declaration = declaration; declared = e; among = contains_at declaration.invs k inv (ap (λ o. slice_get (rules_of o) k) (sym e) ∙ at_k) }

    lowest : (n : ℕ) → BreaksAt schema init i n → number ≤ n
    lowest n broken =
        let same : broken.row ≡ row = same_some (slice_get init i) broken.row row broken.stands at in
        let declared : IsInvariant schema row.table broken.inv = subst (λ r. IsInvariant schema r.table broken.inv) same broken.declared in
        let failed : Fails schema init i row broken.inv.rule = subst (λ r. Fails schema init i r broken.inv.rule) same broken.fails in
        let among : Stands invs broken.inv = invariants_in schema row.table broken.inv declared in
        let passes : test broken.inv ≡ true = not_false' (test broken.inv) (λ e. unbroken schema init i row broken.inv broken.inv.rule declared refl e failed) in
        let later : which.number ≤ among.number = which.first among.number broken.inv among.at passes in
        let order : AreInOrder invs = table_order 1 schema row.table accepted.invariants in
        let a = numbers_from order.from invs which.number found.x order.numbered which.at in
        let b = numbers_from order.from invs among.number broken.inv order.numbered among.at in
        omega (arith, later, a, b, found.gives, broken.named)
      where
        not_false' : (b : Bool) → (b ≡ false → ⊥) → b ≡ true
        not_false' true h = refl
        not_false' false h = absurd (h refl)

    order : (other n : ℕ) → BreaksAt schema init other n → (i < other) ⊎ ((i ≡ other) ⊎ (other < i)) → (i < other) ⊎ ((i ≡ other) × (number ≤ n))
    order other n broken (inl less) = inl less
    order other n broken (inr (inl same)) = inr (same, lowest n (subst (λ k. BreaksAt schema init k n) (sym same) broken))
    order other n broken (inr (inr less)) =
        absurd (unbroken schema init other broken.row broken.inv broken.inv.rule broken.declared refl
        (test_false schema init other broken.row broken.inv (passed other broken.row less broken.stands) broken.declared) broken.fails)

-- tables in which a row breaks an invariant aren't valid
pub not_valid : (schema : List Declaration) (init : List InitRow) (i number : ℕ) → AreDistinct init → BreaksAt schema init i number → Valid schema (initial_tables init) → ⊥
not_valid schema init i number distinct broken valid = split broken.inv.rule broken.fails (valid.invariants broken.row.table broken.inv broken.row.key (initial_row broken.row) broken.declared (kept_at init i broken.row distinct broken.stands))
  where
    split : (rule : Rule) → Fails schema init i broken.row rule → Holds schema (initial_tables init) broken.row.table rule broken.row.key (initial_row broken.row) → ⊥
    split (Bound check) failed holds = failed holds
    split (OneOf column texts) failed holds = failed holds
    split (Refers column parent target) failed holds = failed holds
    split (Different column) failed holds =
        let kept : IsKept (initial_tables init) broken.row.table failed.other.key (initial_row failed.other) =
        ap (λ n. get (initial_tables init) (place_at n failed.other.key)) (sym failed.beside) ∙ kept_at init failed.earlier failed.other distinct failed.stands in
        let same : failed.other.key ≡ broken.row.key = holds refl failed.other.key (initial_row failed.other) kept refl failed.equal in
        one_place init failed.earlier i failed.other broken.row distinct failed.stands broken.stands failed.before (λ k. place_at (failed.beside k) (same k))

-- one row more is held, where its values are noted
pub held_more : (schema : List Declaration) (init : List InitRow) (i : ℕ) (row : InitRow) (old new : Held → Bool) → i < length init → slice_get init i ≡ Some row
    → ((h : Held) → old h ≡ held_before schema init i h) → ((h : Held) → new h ≡ (old h || is_held h (held_by schema row))) → (h : Held) → new h ≡ held_before schema init (i + 1) h
held_more schema init i row old new less at before noted h =
    noted_more held_cmp (held_by schema) init i row false (old h) (new h) h less (sym (get_or_from_slice_get init i row row at)) (before h) (noted h)

-- The tests of initial rows answer as it is meant that a row breaks a rule.
use Rattle.std.proofs.Common.{◌≡◌, ◌⊎◌, inl, inr, ℕ, zero, suc, ◌<◌, ◌||◌, ◌&&◌, not, Bool, true, false, List, [], ◌∷◌, take, length, Option, Some, None, slice_get, nat_lt, refl, sym, ap, subst, ◌∙◌, arith}
use Rattle.std.specs.List.{Contains, flat_map}
use Rattle.std.specs.Option.{is_some}
use Rattle.std.specs.Ordering.{eq_by_cmp}
use Rattle.std.specs.FinMap.{get}
use Rattle.std.proofs.lemmas.Bool.Decides.{nat_tests}
use Rattle.std.proofs.lemmas.Cmp.{eq_by_cmp_equiv}
use Rattle.std.proofs.lemmas.List.Folds.{list_any-append}
use Rattle.std.proofs.lemmas.Map.Views.{tells_apart}
use Rattle.sv_value.specs.declared.values.Val.{Val}
use Rattle.sv_value.specs.declared.values.Val.TheVariants.{Int, Text as IsText}
use Rattle.sv_app.specs.declared.apps.Ident.{Ident}
use Rattle.sv_app.specs.declared.places.Place.{Place}
use Rattle.sv_app.specs.declared.requests.InitRow.{InitRow}
use Rattle.sv_app.specs.Schema.{Rule, Bound, OneOf, Different, Refers, Invariant, Declaration}
use Rattle.sv_app.specs.Tables.{Row}
use Rattle.sv_app.specs.Valid.{value_of, as_val, key_by, place_at, IsPresent, Binds, Holds, IsInvariant}
use Rattle.sv_effect.specs.BareTables.{got_of}
use Rattle.sv_check.specs.declared.initial.Held.{Held}
use Rattle.sv_check.specs.Initial.{initial_row, initial_tables, HasEarlier, Fails}
use Rattle.sv_check.specs.Least.{IsOwn}
use Rattle.sv_check.specs.Rules.{is_met, is_listed}
use Rattle.sv_check.specs.Tests.{val_in, held_cmp, held_of, rules_of, held_by, is_held, is_there, referred, fails}
use Rattle.sv_check.proofs.InitialLaws.{initial_at, get-initial, IsInitial, initial_from, there-initial}
use Rattle.sv_app.proofs.ListLaws.{Stands, contained, either_true}
use Rattle.sv_check.proofs.RuleLaws.{clash, meets, met, listed, in_list}
use Rattle.sv_check.proofs.ValueLaws.{value-in, held_total, exact_held}

-- what is held of the rows before the i-th
abbrev pub held_before : List Declaration → List InitRow → ℕ → Held → Bool
held_before schema init i h = is_held h (flat_map (held_by schema) (take i init))

abbrev pub held_in : InitRow → Ident → Held
held_in row column = record { table = row.table; column = column.num; val = val_in row.values column.num }

record HeldAt (schema : List Declaration) (init : List InitRow) (i : ℕ) (h : Held) : Type 0 where
  pub number : ℕ
  pub row : InitRow
  pub before : number < i
  pub at : slice_get init number ≡ Some row
  pub held : is_held h (held_by schema row) ≡ true

held_at : (schema : List Declaration) (init : List InitRow) (i : ℕ) (h : Held) → held_before schema init i h ≡ true → HeldAt schema init i h
held_at schema init zero h is = absurd cc
held_at schema [] (suc i) h is = absurd cc
held_at schema (x ∷ init) (suc i) h is =
    split (either_true (is_held h (held_by schema x)) (held_before schema init i h) (sym (list_any-append (eq_by_cmp held_cmp h) (held_by schema x) (flat_map (held_by schema) (take i init))) ∙ is))
    (held_at schema init i h)
  where
    split : (is_held h (held_by schema x) ≡ true) ⊎ (held_before schema init i h ≡ true) → (held_before schema init i h ≡ true → HeldAt schema init i h) → HeldAt schema (x ∷ init) (suc i) h
    split (inl here) ih = record { number = 0; row = x; before = omega arith; at = refl; held = here }
    split (inr there) ih =
        let later : HeldAt schema init i h = ih there in
        record { number = suc later.number; row = later.row; before = omega (arith, later.before); at = later.at; held = later.held }

or_true_left : (a b : Bool) → a ≡ true → (a || b) ≡ true
or_true_left true b e = refl
or_true_left false b e = absurd cc

or_true_right : (a b : Bool) → b ≡ true → (a || b) ≡ true
or_true_right true b e = refl
or_true_right false b e = e

at_held : (schema : List Declaration) (init : List InitRow) (i k : ℕ) (x : InitRow) (h : Held) → k < i → slice_get init k ≡ Some x → is_held h (held_by schema x) ≡ true → held_before schema init i h ≡ true
at_held schema init zero k x h less at held = absurd (omega (arith, less))
at_held schema [] (suc i) k x h less at held = absurd cc
at_held schema (y ∷ init) (suc i) zero x h less at held =
    let same : y ≡ x = cc in
    list_any-append (eq_by_cmp held_cmp h) (held_by schema y) (flat_map (held_by schema) (take i init))
    ∙ or_true_left (is_held h (held_by schema y)) (held_before schema init i h) (ap (λ z. is_held h (held_by schema z)) same ∙ held)
at_held schema (y ∷ init) (suc i) (suc k) x h less at held =
    list_any-append (eq_by_cmp held_cmp h) (held_by schema y) (flat_map (held_by schema) (take i init))
    ∙ or_true_right (is_held h (held_by schema y)) (held_before schema init i h) (at_held schema init i k x h (omega (arith, less)) at held)

-- what is held of a row is its value in a unique column
record IsOf (row : InitRow) (h : Held) : Type 0 where
  pub table : h.table ≡ row.table
  pub val : h.val ≡ val_in row.values h.column

of_row : (row : InitRow) (invs : List Invariant) (h : Held) → is_held h (flat_map (λ inv. held_of row inv.rule) invs) ≡ true → IsOf row h
of_row row [] h is = absurd cc
of_row row (inv ∷ invs) h is =
    split (either_true (is_held h (held_of row inv.rule)) (is_held h (flat_map (λ inv. held_of row inv.rule) invs))
    (sym (list_any-append (eq_by_cmp held_cmp h) (held_of row inv.rule) (flat_map (λ inv. held_of row inv.rule) invs)) ∙ is))
    (of_row row invs h)
  where
    first : (rule : Rule) → is_held h (held_of row rule) ≡ true → IsOf row h
    first (Bound check) e = absurd cc
    first (OneOf column texts) e = absurd cc
    first (Refers column parent target) e = absurd cc
    first (Different column) e = named (same (eq_by_cmp held_cmp h (held_in row column)) refl e)
      where
        same : (b : Bool) → eq_by_cmp held_cmp h (held_in row column) ≡ b → (b || false) ≡ true → h ≡ held_in row column
        same true is e = tells_apart exact_held h (held_in row column) is
        same false is e = absurd cc

        named : h ≡ held_in row column → IsOf row h
        named e = record { table = ap (λ k. k.table) e; val = ap (λ k. k.val) e ∙ sym (ap (λ k. val_in row.values k.column) e) }

    split : (is_held h (held_of row inv.rule) ≡ true) ⊎ (is_held h (flat_map (λ inv. held_of row inv.rule) invs) ≡ true)
        → (is_held h (flat_map (λ inv. held_of row inv.rule) invs) ≡ true → IsOf row h) → IsOf row h
    split (inl here) ih = first inv.rule here
    split (inr there) ih = ih there

self_held : (h : Held) → eq_by_cmp held_cmp h h ≡ true
self_held h = (eq_by_cmp_equiv held_total).refl h

row_holds : (row : InitRow) (invs : List Invariant) (k : ℕ) (inv : Invariant) (column : Ident) → slice_get invs k ≡ Some inv → inv.rule ≡ Different column
    → is_held (held_in row column) (flat_map (λ inv. held_of row inv.rule) invs) ≡ true
row_holds row [] k inv column at is = absurd cc
row_holds row (x ∷ invs) zero inv column at is =
    let same : x ≡ inv = cc in
    list_any-append (eq_by_cmp held_cmp (held_in row column)) (held_of row x.rule) (flat_map (λ inv. held_of row inv.rule) invs)
    ∙ or_true_left (is_held (held_in row column) (held_of row x.rule)) (is_held (held_in row column) (flat_map (λ inv. held_of row inv.rule) invs))
    (ap (λ r. is_held (held_in row column) (held_of row r)) (ap (λ z. z.rule) same ∙ is) ∙ or_true_left (eq_by_cmp held_cmp (held_in row column) (held_in row column)) false (self_held (held_in row column)))
row_holds row (x ∷ invs) (suc k) inv column at is =
    list_any-append (eq_by_cmp held_cmp (held_in row column)) (held_of row x.rule) (flat_map (λ inv. held_of row inv.rule) invs)
    ∙ or_true_right (is_held (held_in row column) (held_of row x.rule)) (is_held (held_in row column) (flat_map (λ inv. held_of row inv.rule) invs)) (row_holds row invs k inv column at is)

got_injective : (v w : Val) → got_of v ≡ got_of w → v ≡ w
got_injective (Int n) (Int m) e = cc
got_injective (Int n) (IsText t) e = absurd cc
got_injective (IsText s) (Int m) e = absurd cc
got_injective (IsText s) (IsText t) e = cc

as-got : (v : Val) → as_val (got_of v) ≡ v
as-got (Int n) = refl
as-got (IsText t) = refl

-- the place to which a column of a row refers
refers_to : (row : InitRow) (column : Ident) (parent : ℕ) → place_at parent (key_by (value_of (initial_row row) column)) ≡ referred row column.num parent
refers_to row column parent = ap (λ v. referred' parent (as_val v)) (value-in row.values column.num) ∙ ap (referred' parent) (as-got (val_in row.values column.num))
  where
    referred' : ℕ → Val → Place
    referred' table v = record { table = table; key = record { first = v; second = None } }

not_true : (b : Bool) → not b ≡ true → b ≡ false
not_true true e = absurd cc
not_true false e = refl

not_false : (b : Bool) → not b ≡ false → b ≡ true
not_false true e = refl
not_false false e = absurd cc

both_true : (a b : Bool) → (a && b) ≡ true → (a ≡ true) × (b ≡ true)
both_true true true e = (refl, refl)
both_true true false e = absurd cc
both_true false b e = absurd cc

below_from : (a b : ℕ) → nat_lt a b ≡ true → a < b
below_from a b e = grind (arith, nat_tests)

below_true : (a b : ℕ) → a < b → nat_lt a b ≡ true
below_true a b less = grind (arith, nat_tests)

-- the parent is there
there_present : (init : List InitRow) (row : InitRow) (column : Ident) (parent : ℕ) → is_there (referred row column.num parent) init ≡ true
    → IsPresent (initial_tables init) parent (key_by (value_of (initial_row row) column))
there_present init row column parent there = of_option (initial_at (referred row column.num parent) init) refl (sym (there-initial init (referred row column.num parent)) ∙ there)
  where
    of_option : (o : Option Row) → initial_at (referred row column.num parent) init ≡ o → is_some o ≡ true → IsPresent (initial_tables init) parent (key_by (value_of (initial_row row) column))
    of_option None is e = absurd cc
    of_option (Some found) is e =
        let from : IsInitial init (referred row column.num parent) found = initial_from init (referred row column.num parent) found is in
        record {
          row = found;
          kept = ap (λ p. get (initial_tables init) p) (refers_to row column parent) ∙ get-initial init (referred row column.num parent) ∙ is;
          present = ap (λ r. r.present) from.is;
        }

present_there : (init : List InitRow) (row : InitRow) (column : Ident) (parent : ℕ) → IsPresent (initial_tables init) parent (key_by (value_of (initial_row row) column))
    → is_there (referred row column.num parent) init ≡ true
present_there init row column parent present =
    there-initial init (referred row column.num parent)
    ∙ ap is_some (sym (get-initial init (referred row column.num parent)) ∙ ap (λ p. get (initial_tables init) p) (sym (refers_to row column parent)) ∙ present.kept)

declared_binds : (schema : List Declaration) (n : ℕ) → n < length schema → Binds (slice_get schema n) true
declared_binds [] n less = absurd (omega (arith, less))
declared_binds (t ∷ schema) zero less = inr refl
declared_binds (t ∷ schema) (suc n) less = declared_binds schema n (omega (arith, less))

binds_declared : (schema : List Declaration) (n : ℕ) (present : Bool) → Binds (slice_get schema n) present → n < length schema
binds_declared [] n present binds = absurd binds
binds_declared (t ∷ schema) zero present binds = omega arith
binds_declared (t ∷ schema) (suc n) present binds = omega (arith, binds_declared schema n present binds)

-- a row that fails the test breaks the rule
pub breaks : (schema : List Declaration) (init : List InitRow) (i : ℕ) (row : InitRow) (rule : Rule)
    → fails schema (λ p. is_there p init) (held_before schema init i) row rule ≡ true → Fails schema init i row rule
breaks schema init i row (Bound check) e = λ holds. clash (is_met (initial_row row) check) (met (initial_row row) check holds) (not_true (is_met (initial_row row) check) e)
breaks schema init i row (OneOf column texts) e =
    λ holds. clash (is_listed (value_of (initial_row row) column) texts) (in_list (value_of (initial_row row) column) texts holds) (not_true (is_listed (value_of (initial_row row) column) texts) e)
breaks schema init i row (Different column) e =
    let from : HeldAt schema init i (held_in row column) = held_at schema init i (held_in row column) e in
    let of : IsOf from.row (held_in row column) = of_row from.row (rules_of (slice_get schema from.row.table)) (held_in row column) from.held in
    record {
      earlier = from.number;
      other = from.row;
      before = from.before;
      stands = from.at;
      beside = sym of.table;
      equal = value-in from.row.values column.num ∙ ap got_of (sym of.val) ∙ sym (value-in row.values column.num);
    }
breaks schema init i row (Refers column parent target) e =
    let parts = both_true (nat_lt parent.num (length schema)) (not (is_there (referred row column.num parent.num) init)) e in
    λ holds. clash (is_there (referred row column.num parent.num) init)
    (present_there init row column parent.num (holds (declared_binds schema parent.num (below_from parent.num (length schema) parts.0))))
    (not_true (is_there (referred row column.num parent.num) init) parts.1)

and_not : (a b : Bool) → (a && not b) ≡ false → a ≡ true → b ≡ true
and_not true true e h = refl
and_not true false e h = absurd cc
and_not false b e h = absurd cc

-- a row that passes the test keeps the rule
pub keeps : (schema : List Declaration) (init : List InitRow) (i : ℕ) (row : InitRow) (rule : Rule) → IsOwn rule
    → fails schema (λ p. is_there p init) (held_before schema init i) row rule ≡ false → Holds schema (initial_tables init) row.table rule row.key (initial_row row)
keeps schema init i row (Bound check) own e = meets (initial_row row) check (not_false (is_met (initial_row row) check) e)
keeps schema init i row (OneOf column texts) own e = listed (value_of (initial_row row) column) texts (not_false (is_listed (value_of (initial_row row) column) texts) e)
keeps schema init i row (Different column) own e = absurd own
keeps schema init i row (Refers column parent target) own e = λ binds.
    there_present init row column parent.num
    (and_not (nat_lt parent.num (length schema)) (is_there (referred row column.num parent.num) init) e
    (below_true parent.num (length schema) (binds_declared schema parent.num true binds)))

pub invariants_in : (schema : List Declaration) (table : ℕ) (inv : Invariant) → IsInvariant schema table inv → Stands (rules_of (slice_get schema table)) inv
invariants_in schema table inv is = contained (rules_of (slice_get schema table)) inv (subst (λ o. Contains (rules_of o) inv) (sym is.declared) is.among)

-- an earlier row with the value is held
pub seen_before : (schema : List Declaration) (init : List InitRow) (i : ℕ) (row : InitRow) (inv : Invariant) (column : Ident) → IsInvariant schema row.table inv → inv.rule ≡ Different column
    → HasEarlier init i row column → fails schema (λ p. is_there p init) (held_before schema init i) row (Different column) ≡ true
seen_before schema init i row inv column is rule earlier =
    let among : Stands (rules_of (slice_get schema row.table)) inv = invariants_in schema row.table inv is in
    let other_held : is_held (held_in earlier.other column) (held_by schema earlier.other) ≡ true =
    row_holds earlier.other (rules_of (slice_get schema earlier.other.table)) among.number inv column
    (ap (λ n. slice_get (rules_of (slice_get schema n)) among.number) earlier.beside ∙ among.at) rule in
    let value : val_in earlier.other.values column.num ≡ val_in row.values column.num =
    got_injective _ _ (sym (value-in earlier.other.values column.num) ∙ earlier.equal ∙ value-in row.values column.num) in
    at_held schema init i earlier.earlier earlier.other (held_in row column) earlier.before earlier.stands
    (subst (λ h. is_held h (held_by schema earlier.other) ≡ true) (λ j. record { table = earlier.beside j; column = column.num; val = value j }) other_held)

-- a row that passes the test doesn't break the rule
pub unbroken : (schema : List Declaration) (init : List InitRow) (i : ℕ) (row : InitRow) (inv : Invariant) (rule : Rule) → IsInvariant schema row.table inv → inv.rule ≡ rule
    → fails schema (λ p. is_there p init) (held_before schema init i) row rule ≡ false → Fails schema init i row rule → ⊥
unbroken schema init i row inv (Bound check) is same e = λ broken. broken (keeps schema init i row (Bound check) tt e)
unbroken schema init i row inv (OneOf column texts) is same e = λ broken. broken (keeps schema init i row (OneOf column texts) tt e)
unbroken schema init i row inv (Refers column parent target) is same e = λ broken. broken (keeps schema init i row (Refers column parent target) tt e)
unbroken schema init i row inv (Different column) is same e = λ earlier. clash _ (seen_before schema init i row inv column is same earlier) e

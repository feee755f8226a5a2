-- The tests of a change's atoms are over the symbols of its path: integers in forms, and a text in the list of an invariant.
use Rattle.std.proofs.Common.{◌≡◌, ◌+◌, ℕ, suc, Bool, true, false, List, [], ◌∷◌, ◌++◌, map, get_or, Option, Some, None, slice_get, ℤ, pos, neg_ℤ, ◌+ℤ◌, refl, sym, ap, subst, ◌∙◌, arith, All}
use Rattle.std.specs.Prelude.{◌==◌, ◌&&◌, ◌-ℤ◌, nat_lt, int_le, if◌then◌else◌, bytes_eq}
use Rattle.std.specs.List.{Contains, list_any, flat_map}
use Rattle.std.specs.Ordering.{int_eq}
use Rattle.std.proofs.lemmas.Bool.{and_from}
use Rattle.std.proofs.lemmas.List.Elements.{All-nil, All-cons, All-head, All-tail, All-append, All-weaker}
use Rattle.sv_app.specs.declared.schemas.Ty.{Ty}
use Rattle.sv_app.specs.declared.schemas.Ty.TheVariants as types
use Rattle.sv_app.specs.Schema.{Rule, Bound, OneOf, Different, Refers, Invariant, Declaration}
use Rattle.sv_app.proofs.ListLaws.{Stands, contained, any_at}
use Rattle.sv_label.specs.Covers.{type_at, is_list, names_list, IsTestOver}
use Rattle.sv_linear.specs.Atoms.{Gain, Case, Asked, ByCase, ByTest, asked_tests, tests_by, terms_at_most, cases_of, never_where, write_to, by_unique, by_child, by_parent, by_check, by_list, list_tests, for_each, Group, group_atoms, groups, atoms}
use Rattle.sv_linear.specs.Effects.{SymValue, Number, TextIs, TextSymbol, SymWrite, Delta, Set, SymEffect, linear}
use Rattle.sv_linear.specs.Forms.{Form, sub, with_term, put, put_all, negated_terms}
use Rattle.sv_linear.specs.Tests.{Test, AtMost, InList, Never, Atom}
use Rattle.sv_symbolic.specs.Typed.{IsOfType, TermsAreOver, WriteIsOver, WritesAreOver}
use Rattle.sv_wp.specs.declared.questions.Question.{Question}
use Rattle.sv_wp.specs.declared.questions.Question.TheVariants.{Unique, Child, Parent, Check as Checked, List as Listed}
use Rattle.sv_wp.specs.Listing.{asked_by, group_by, groups_by, in_order}
use Rattle.sv_wp.proofs.DecideLaws.{plain_group, groups_are, all_flat, all_each}
use Rattle.sv_wp.proofs.GroupLaws.{once_in, mapped, of_groups}
use Rattle.sv_wp.proofs.KeptLaws.{Keeps, kept_atoms}
use Rattle.sv_right.proofs.PathLaws.{all_cut}

-- ---- symbols of sums

module _ (Is : ℕ → Type 0) where
  abbrev OfTerm : ℕ × ℤ → Type 0
  OfTerm t = Is t.0

  term_all : (k : ℕ) (c : ℤ) (ts : List (ℕ × ℤ)) → Is k → All OfTerm ts → All OfTerm (with_term k c ts)
  term_all k c ts here all = by (int_eq c (pos 0))
    where
      by : (b : Bool) → All OfTerm (if b then ts else (k, c) ∷ ts)
      by true = all
      by false = All-cons OfTerm (k, c) ts here all

  put_all_of : (k : ℕ) (c : ℤ) (ts : List (ℕ × ℤ)) → Is k → All OfTerm ts → All OfTerm (put k c ts)
  put_all_of k c [] here all = term_all k c [] here all
  put_all_of k c (t ∷ ts) here all = by (nat_lt k t.0) (k == t.0) (put_all_of k c ts here rest)
    where
      rest : All OfTerm ts
      rest = All-tail OfTerm t ts all

      by : (a b : Bool) → All OfTerm (put k c ts) → All OfTerm (if a then with_term k c (t ∷ ts) else if b then with_term k (c +ℤ t.1) ts else t ∷ put k c ts)
      by true b later = term_all k c (t ∷ ts) here all
      by false true later = term_all k (c +ℤ t.1) ts here rest
      by false false later = All-cons OfTerm t (put k c ts) (All-head OfTerm t ts all) later

  sum_all : (ts us : List (ℕ × ℤ)) → All OfTerm ts → All OfTerm us → All OfTerm (put_all ts us)
  sum_all [] us p q = q
  sum_all (t ∷ ts) us p q = put_all_of t.0 t.1 (put_all ts us) (All-head OfTerm t ts p) (sum_all ts us (All-tail OfTerm t ts p) q)

  negated_all : (ts : List (ℕ × ℤ)) → All OfTerm ts → All OfTerm (negated_terms ts)
  negated_all [] p = All-nil OfTerm
  negated_all (t ∷ ts) p = All-cons OfTerm (t.0, neg_ℤ t.1) (negated_terms ts) (All-head OfTerm t ts p) (negated_all ts (All-tail OfTerm t ts p))

-- ---- types of symbols

has_type : (tys : List Ty) (symbol : ℕ) (ty : Ty) → IsOfType tys symbol ty → type_at tys symbol ≡ Some ty
has_type tys symbol ty is = ap (type_at tys) is.is ∙ is.has

module _ (tys : List Ty) where
  abbrev IsInt : ℕ → Type 0
  IsInt symbol = IsOfType tys symbol types.Int

  -- as tests are over symbols, whatever lists there are
  abbrev Typed : Test → Type 0
  Typed (AtMost f most) = All (λ t. type_at tys t.0 ≡ Some types.Int) f.terms
  Typed (InList symbol number) = type_at tys symbol ≡ Some types.Text
  Typed Never = Unit {0}

  abbrev Side : Form → Type 0
  Side f = TermsAreOver tys f.terms

  terms_typed : (ts : List (ℕ × ℤ)) (most : ℤ) → TermsAreOver tys ts → All Typed (terms_at_most ts most)
  terms_typed [] most p = by (int_le (pos 0) most)
    where
      by : (b : Bool) → All Typed (if b then [] else Never ∷ [])
      by true = All-nil Typed
      by false = All-cons Typed Never [] tt (All-nil Typed)
  terms_typed (t ∷ ts) most p =
      All-cons Typed (AtMost (record { terms = t ∷ ts; plus = pos 0 }) most) []
      (All-weaker (λ (t : ℕ × ℤ). IsInt t.0) (λ (t : ℕ × ℤ). type_at tys t.0 ≡ Some types.Int) (λ t is. has_type tys t.0 types.Int is) (t ∷ ts) p) (All-nil Typed)

  tests_typed : (f g : Form) (most : Option ℤ) → Side f → Side g → All Typed (tests_by (sub f g) most)
  tests_typed f g None p q = All-cons Typed Never [] tt (All-nil Typed)
  tests_typed f g (Some most) p q = terms_typed (sub f g).terms (most -ℤ (sub f g).plus) (sum_all IsInt f.terms (negated_terms g.terms) p (negated_all IsInt g.terms q))

  value_typed : (v : SymValue) → WriteIsOver tys (Set v) → Side (linear v)
  value_typed (Number f) p = p
  value_typed (TextIs t) p = All-nil (λ (t : ℕ × ℤ). IsInt t.0)
  value_typed (TextSymbol n) p = All-nil (λ (t : ℕ × ℤ). IsInt t.0)

  types_kept : Keeps Typed (WriteIsOver tys) Side
  types_kept = record {
    never = tt;
    zero_side = All-nil (λ (t : ℕ × ℤ). IsInt t.0);
    delta = λ f p. p;
    set = value_typed;
    at_most = tests_typed;
    listed = λ symbol number p. has_type tys symbol types.Text p;
  }

-- ---- lists of invariants

-- its number is one of a list
abbrev Named : List Declaration → Test → Type 0
Named schema (AtMost f most) = Unit {0}
Named schema (InList symbol number) = names_list schema number ≡ true
Named schema Never = Unit {0}

module _ (schema : List Declaration) where
  abbrev Ok : List Asked → Type 0
  Ok asked = All (Named schema) (flat_map asked_tests asked)

  ok_never : (b : Bool) → Ok (never_where b)
  ok_never true = All-cons (Named schema) Never [] tt (All-nil (Named schema))
  ok_never false = All-nil (Named schema)

  ok_terms : (ts : List (ℕ × ℤ)) (most : ℤ) → All (Named schema) (terms_at_most ts most)
  ok_terms [] most = by (int_le (pos 0) most)
    where
      by : (b : Bool) → All (Named schema) (if b then [] else Never ∷ [])
      by true = All-nil (Named schema)
      by false = All-cons (Named schema) Never [] tt (All-nil (Named schema))
  ok_terms (t ∷ ts) most = All-cons (Named schema) (AtMost (record { terms = t ∷ ts; plus = pos 0 }) most) [] tt (All-nil (Named schema))

  ok_test : (f : Form) (most : Option ℤ) → All (Named schema) (tests_by f most)
  ok_test f None = All-cons (Named schema) Never [] tt (All-nil (Named schema))
  ok_test f (Some most) = ok_terms f.terms (most -ℤ f.plus)

  ok_cases : (cases : List Case) → Ok (map ByCase cases)
  ok_cases [] = All-nil (Named schema)
  ok_cases (q ∷ cases) = All-append (Named schema) (tests_by q.left q.most) (flat_map asked_tests (map ByCase cases)) (ok_test q.left q.most) (ok_cases cases)

  ok_list : (number : ℕ) (texts : List (List ℕ)) (w : Option SymWrite) → names_list schema number ≡ true → Ok (map ByTest (list_tests number texts w))
  ok_list number texts None named = All-nil (Named schema)
  ok_list number texts (Some (Delta f)) named = All-nil (Named schema)
  ok_list number texts (Some (Set (Number f))) named = ok_never true
  ok_list number texts (Some (Set (TextIs t))) named = by (list_any (bytes_eq t) texts)
    where
      by : (b : Bool) → Ok (map ByTest (if b then [] else Never ∷ []))
      by true = All-nil (Named schema)
      by false = ok_never true
  ok_list number texts (Some (Set (TextSymbol n))) named = All-cons (Named schema) (InList n number) [] named (All-nil (Named schema))

  -- an invariant of the schema, which has this rule
  record HasRule (number : ℕ) (rule : Rule) : Type 0 where
    table : ℕ
    declaration : Declaration
    inv : Invariant
    declared : slice_get schema table ≡ Some declaration
    among : Contains declaration.invs inv
    number_is : inv.number ≡ number
    rule_is : inv.rule ≡ rule

  is_named : (number : ℕ) (rule : Rule) → HasRule number rule → is_list rule ≡ true → names_list schema number ≡ true
  is_named number rule has lists =
      let stands : Stands has.declaration.invs has.inv = contained has.declaration.invs has.inv has.among in
      any_at (λ (d : Declaration). list_any own d.invs) schema has.table has.declaration has.declared (any_at own has.declaration.invs stands.number has.inv stands.at (and_from (has.inv.number == number) (is_list has.inv.rule) same (ap is_list has.rule_is ∙ lists)))
    where
      own : Invariant → Bool
      own inv = inv.number == number && is_list inv.rule

      same : (has.inv.number == number) ≡ true
      same = grind (arith, has.number_is)

  module _ (told : Gain) (e : SymEffect) where
    ok_check : (table : ℕ) (rule : Rule) → Ok (by_check told e table rule)
    ok_check table (Bound check) = by (e.table == table)
      where
        by : (b : Bool) → Ok (if b then map ByCase (cases_of (told table) e.act e.writes check) else [])
        by true = ok_cases (cases_of (told table) e.act e.writes check)
        by false = All-nil (Named schema)
    ok_check table (OneOf column texts) = All-nil (Named schema)
    ok_check table (Different column) = All-nil (Named schema)
    ok_check table (Refers column parent target) = All-nil (Named schema)

    ok_listed : (number table : ℕ) (rule : Rule) → HasRule number rule → Ok (by_list e number table rule)
    ok_listed number table (OneOf column texts) has = by (e.table == table)
      where
        by : (b : Bool) → Ok (if b then map ByTest (list_tests number texts (write_to column.num e.writes)) else [])
        by true = ok_list number texts (write_to column.num e.writes) (is_named number (OneOf column texts) has refl)
        by false = All-nil (Named schema)
    ok_listed number table (Bound check) has = All-nil (Named schema)
    ok_listed number table (Different column) has = All-nil (Named schema)
    ok_listed number table (Refers column parent target) has = All-nil (Named schema)

    ok_unique : (table : ℕ) (rule : Rule) → Ok (by_unique e table rule)
    ok_unique table (Different column) = ok_never _
    ok_unique table (Bound check) = All-nil (Named schema)
    ok_unique table (OneOf column texts) = All-nil (Named schema)
    ok_unique table (Refers column parent target) = All-nil (Named schema)

    ok_child : (table : ℕ) (rule : Rule) → Ok (by_child schema e table rule)
    ok_child table (Refers column parent target) = ok_never _
    ok_child table (Bound check) = All-nil (Named schema)
    ok_child table (OneOf column texts) = All-nil (Named schema)
    ok_child table (Different column) = All-nil (Named schema)

    ok_parent : (rule : Rule) → Ok (by_parent e rule)
    ok_parent (Refers column parent target) = ok_never _
    ok_parent (Bound check) = All-nil (Named schema)
    ok_parent (OneOf column texts) = All-nil (Named schema)
    ok_parent (Different column) = All-nil (Named schema)

    ok_by : (q : Question) (table : ℕ) (inv : Invariant) → HasRule inv.number inv.rule → Ok (asked_by q told schema e table inv)
    ok_by Unique table inv has = ok_unique table inv.rule
    ok_by Child table inv has = ok_child table inv.rule
    ok_by Parent table inv has = ok_parent inv.rule
    ok_by Checked table inv has = ok_check table inv.rule
    ok_by Listed table inv has = ok_listed inv.number table inv.rule has

    abbrev OkGroup : Group → Type 0
    OkGroup g = Ok g.asked

    ok_groups : All OkGroup (groups told schema e)
    ok_groups = subst (All OkGroup) (sym (groups_are told schema e))
        (All-cons OkGroup (plain_group schema e) (groups_by in_order told schema e) (ok_never _)
        (all_flat OkGroup (λ q. for_each (group_by q told schema e) 0 schema) in_order
        (λ q. all_each OkGroup (group_by q told schema e) 0 schema
        (λ n d inv at among. ok_by q (0 + n) inv (record { table = n; declaration = d; inv = inv; declared = at; among = among; number_is = refl; rule_is = refl })))))

    named_atoms : (place : ℕ) → All (λ (a : Atom). Named schema a.test) (atoms told schema e place)
    named_atoms place = all_cut (λ (a : Atom). Named schema a.test) (flat_map (group_atoms place) (groups told schema e))
        (of_groups place (λ (a : Atom). Named schema a.test) (groups told schema e)
        (λ k d less. mapped place _ (λ (a : Atom). Named schema a.test) _ (once_in (Named schema) [] (flat_map asked_tests (get_or (groups told schema e) k d).asked) (ok_groups k d less))))

-- ---- both

test_over : (schema : List Declaration) (tys : List Ty) (t : Test) → Typed tys t → Named schema t → IsTestOver schema tys t
test_over schema tys (AtMost f most) typed named = typed
test_over schema tys (InList symbol number) typed named = (typed, named)
test_over schema tys Never typed named = tt

pub atoms_over : (told : Gain) (schema : List Declaration) (tys : List Ty) (e : SymEffect) (place : ℕ) → WritesAreOver tys e.writes → All (λ (a : Atom). IsTestOver schema tys a.test) (atoms told schema e place)
atoms_over told schema tys e place all k d less =
    test_over schema tys _ (kept_atoms (Typed tys) (WriteIsOver tys) (Side tys) (types_kept tys) told schema e all place k d less) (named_atoms schema told e place k d less)

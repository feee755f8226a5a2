-- What holds of the tests of all that is asked of a change holds of its atoms.
use Rattle.std.proofs.Common.{ℕ, Bool, true, false, List, [], ◌∷◌, ◌+◌, ◌++◌, map, get_or, Option, Some, None, ℤ, pos, sym, subst, All}
use Rattle.std.specs.Prelude.{◌==◌, if◌then◌else◌, IfSome, bytes_eq}
use Rattle.std.specs.List.{list_any, flat_map}
use Rattle.std.proofs.lemmas.List.Elements.{All-nil, All-cons, All-head, All-tail, All-append}
use Rattle.sv_app.specs.declared.schemas.Check.{Check}
use Rattle.sv_app.specs.Satisfiable.{number_of}
use Rattle.sv_app.specs.Schema.{Rule, Bound, OneOf, Different, Refers, Invariant, Declaration}
use Rattle.sv_linear.specs.Atoms.{Gain, Asked, ByCase, ByTest, asked_tests, tests_by, cases_of, never_where, write_to, write_at, added_by, made_by, Group, group_atoms, groups, is_never, to_never, atoms, by_unique, by_child, by_parent, by_check, by_list, for_each, list_tests}
use Rattle.sv_linear.specs.Effects.{SymWrite, Delta, Set, Number, TextIs, TextSymbol, SymValue, SymEffect, linear}
use Rattle.sv_linear.specs.Forms.{Form, number, sub}
use Rattle.sv_linear.specs.Tests.{Test, InList, Never, Atom}
use Rattle.sv_threat.specs.declared.moves.Case.{Case}
use Rattle.sv_threat.specs.declared.moves.Case.TheVariants.{BothLose, HiWins, LoWins, BothWin, FromNothing}
use Rattle.sv_threat.specs.Tests.{all_cases}
use Rattle.sv_wp.specs.declared.questions.Question.{Question}
use Rattle.sv_wp.specs.declared.questions.Question.TheVariants.{Unique, Child, Parent, Check as Checked, List as Listed}
use Rattle.sv_wp.specs.Cases.{asked_if, asked_in}
use Rattle.sv_wp.specs.Listing.{asked_by, group_by, groups_by, in_order}
use Rattle.sv_wp.proofs.CaseOrder.{cases_are}
use Rattle.sv_wp.proofs.DecideLaws.{plain_group, groups_are, all_flat, all_each}
use Rattle.sv_wp.proofs.GroupLaws.{once_in, mapped, of_groups}

-- what holds of sides of a check, from what holds of writes, and what holds of all that is asked from it
pub record KeepsAsked (R : Asked → Type 0) (Q : SymWrite → Type 0) (S : Form → Type 0) : Type 0 where
  pub never : R (ByTest Never)
  pub zero_side : S (number (pos 0))
  pub delta : (f : Form) → Q (Delta f) → S f
  pub set : (v : SymValue) → Q (Set v) → S (linear v)
  pub at_most : (f g : Form) (most : Option ℤ) → S f → S g → R (ByCase (record { left = sub f g; most = most }))
  pub listed : (symbol number : ℕ) → Q (Set (TextSymbol symbol)) → R (ByTest (InList symbol number))

module _ (R : Asked → Type 0) (Q : SymWrite → Type 0) (S : Form → Type 0) (keeps : KeepsAsked R Q S) where
  abbrev Ok : List Asked → Type 0
  Ok asked = All R asked

  ok_both : (xs ys : List Asked) → Ok xs → Ok ys → Ok (xs ++ ys)
  ok_both xs ys p q = All-append R xs ys p q

  one_test : (t : Test) → R (ByTest t) → Ok (ByTest t ∷ [])
  one_test t p = All-cons R (ByTest t) [] p (All-nil R)

  ok_never : (b : Bool) → Ok (never_where b)
  ok_never true = one_test Never keeps.never
  ok_never false = All-nil R

  ok_case : (b : Bool) (f g : Form) (most : Option ℤ) → S f → S g → Ok (asked_if b (sub f g) most)
  ok_case true f g most p q = All-cons R (ByCase (record { left = sub f g; most = most })) [] (keeps.at_most f g most p q) (All-nil R)
  ok_case false f g most p q = All-nil R

  written : (c : ℕ) (ws : List (ℕ × SymWrite)) → All (λ w. Q w.1) ws → IfSome (write_to c ws) Q
  written c [] all = tt
  written c (w ∷ ws) all = by (w.0 == c) (written c ws (All-tail (λ v. Q v.1) w ws all))
    where
      by : (b : Bool) → IfSome (write_to c ws) Q → IfSome (if b then Some w.1 else write_to c ws) Q
      by true later = All-head (λ v. Q v.1) w ws all
      by false later = later

  written_at : (side : Option ℕ) (ws : List (ℕ × SymWrite)) → All (λ w. Q w.1) ws → IfSome (write_at side ws) Q
  written_at None ws all = tt
  written_at (Some c) ws all = written c ws all

  added_side : (x : Option SymWrite) → IfSome x Q → S (added_by x)
  added_side None q = keeps.zero_side
  added_side (Some (Delta f)) q = keeps.delta f q
  added_side (Some (Set v)) q = keeps.zero_side

  made_side : (x : Option SymWrite) → IfSome x Q → S (made_by x)
  made_side None q = keeps.zero_side
  made_side (Some (Delta f)) q = keeps.delta f q
  made_side (Some (Set v)) q = keeps.set v q

  ok_list : (number : ℕ) (texts : List (List ℕ)) (x : Option SymWrite) → IfSome x Q → Ok (map ByTest (list_tests number texts x))
  ok_list number texts None q = All-nil R
  ok_list number texts (Some (Delta f)) q = All-nil R
  ok_list number texts (Some (Set (Number f))) q = one_test Never keeps.never
  ok_list number texts (Some (Set (TextIs t))) q = by (list_any (bytes_eq t) texts)
    where
      by : (b : Bool) → Ok (map ByTest (if b then [] else Never ∷ []))
      by true = All-nil R
      by false = one_test Never keeps.never
  ok_list number texts (Some (Set (TextSymbol n))) q = one_test (InList n number) (keeps.listed n number q)

  module _ (told : Gain) (schema : List Declaration) (e : SymEffect) (all : All (λ w. Q w.1) e.writes) where
    ok_asked : (table : ℕ) (check : Check) (kase : Case) → Ok (asked_in (told table) e check kase)
    ok_asked table check kase = by (written_at (number_of check.hi) e.writes all) (written_at (number_of check.lo) e.writes all) kase
      where
        by : IfSome (write_at (number_of check.hi) e.writes) Q → IfSome (write_at (number_of check.lo) e.writes) Q → (kase : Case) → Ok (asked_in (told table) e check kase)
        by p q BothLose = ok_case _ _ _ _ (added_side (write_at (number_of check.hi) e.writes) p) (added_side (write_at (number_of check.lo) e.writes) q)
        by p q HiWins = ok_case _ _ _ _ (made_side (write_at (number_of check.hi) e.writes) p) (added_side (write_at (number_of check.lo) e.writes) q)
        by p q LoWins = ok_case _ _ _ _ (added_side (write_at (number_of check.hi) e.writes) p) (made_side (write_at (number_of check.lo) e.writes) q)
        by p q BothWin = ok_case _ _ _ _ (made_side (write_at (number_of check.hi) e.writes) p) (made_side (write_at (number_of check.lo) e.writes) q)
        by p q FromNothing = ok_case _ _ _ _ (made_side (write_at (number_of check.hi) e.writes) p) (made_side (write_at (number_of check.lo) e.writes) q)

    each_case : (table : ℕ) (check : Check) (kases : List Case) → Ok (flat_map (asked_in (told table) e check) kases)
    each_case table check [] = All-nil R
    each_case table check (kase ∷ kases) = ok_both (asked_in (told table) e check kase) (flat_map (asked_in (told table) e check) kases) (ok_asked table check kase) (each_case table check kases)

    ok_cases : (table : ℕ) (check : Check) → Ok (map ByCase (cases_of (told table) e.act e.writes check))
    ok_cases table check = subst Ok (sym (cases_are (told table) e check)) (each_case table check all_cases)

    ok_check : (table : ℕ) (rule : Rule) → Ok (by_check told e table rule)
    ok_check table (Bound check) = by (e.table == table)
      where
        by : (b : Bool) → Ok (if b then map ByCase (cases_of (told table) e.act e.writes check) else [])
        by true = ok_cases table check
        by false = All-nil R
    ok_check table (OneOf column texts) = All-nil R
    ok_check table (Different column) = All-nil R
    ok_check table (Refers column parent target) = All-nil R

    ok_listed : (number table : ℕ) (rule : Rule) → Ok (by_list e number table rule)
    ok_listed number table (OneOf column texts) = by (e.table == table)
      where
        by : (b : Bool) → Ok (if b then map ByTest (list_tests number texts (write_to column.num e.writes)) else [])
        by true = ok_list number texts (write_to column.num e.writes) (written column.num e.writes all)
        by false = All-nil R
    ok_listed number table (Bound check) = All-nil R
    ok_listed number table (Different column) = All-nil R
    ok_listed number table (Refers column parent target) = All-nil R

    ok_unique : (table : ℕ) (rule : Rule) → Ok (by_unique e table rule)
    ok_unique table (Different column) = ok_never _
    ok_unique table (Bound check) = All-nil R
    ok_unique table (OneOf column texts) = All-nil R
    ok_unique table (Refers column parent target) = All-nil R

    ok_child : (table : ℕ) (rule : Rule) → Ok (by_child schema e table rule)
    ok_child table (Refers column parent target) = ok_never _
    ok_child table (Bound check) = All-nil R
    ok_child table (OneOf column texts) = All-nil R
    ok_child table (Different column) = All-nil R

    ok_parent : (rule : Rule) → Ok (by_parent e rule)
    ok_parent (Refers column parent target) = ok_never _
    ok_parent (Bound check) = All-nil R
    ok_parent (OneOf column texts) = All-nil R
    ok_parent (Different column) = All-nil R

    ok_by : (q : Question) (table : ℕ) (inv : Invariant) → Ok (asked_by q told schema e table inv)
    ok_by Unique table inv = ok_unique table inv.rule
    ok_by Child table inv = ok_child table inv.rule
    ok_by Parent table inv = ok_parent inv.rule
    ok_by Checked table inv = ok_check table inv.rule
    ok_by Listed table inv = ok_listed inv.number table inv.rule

    pub kept_asked : All (λ (g : Group). Ok g.asked) (groups told schema e)
    kept_asked = subst (All (λ (g : Group). Ok g.asked)) (sym (groups_are told schema e))
        (All-cons (λ (g : Group). Ok g.asked) (plain_group schema e) (groups_by in_order told schema e) (ok_never _)
        (all_flat (λ (g : Group). Ok g.asked) (λ q. for_each (group_by q told schema e) 0 schema) in_order
        (λ q. all_each (λ (g : Group). Ok g.asked) (group_by q told schema e) 0 schema (λ n d inv at among. ok_by q (0 + n) inv))))

-- ---- the atoms

pub record Keeps (P : Test → Type 0) (Q : SymWrite → Type 0) (S : Form → Type 0) : Type 0 where
  pub never : P Never
  pub zero_side : S (number (pos 0))
  pub delta : (f : Form) → Q (Delta f) → S f
  pub set : (v : SymValue) → Q (Set v) → S (linear v)
  pub at_most : (f g : Form) (most : Option ℤ) → S f → S g → All P (tests_by (sub f g) most)
  pub listed : (symbol number : ℕ) → Q (Set (TextSymbol symbol)) → P (InList symbol number)

module _ (P : Test → Type 0) (Q : SymWrite → Type 0) (S : Form → Type 0) (keeps : Keeps P Q S) where
  abbrev Tests : Asked → Type 0
  Tests asked = All P (asked_tests asked)

  one : (t : Test) → P t → Tests (ByTest t)
  one t p = All-cons P t [] p (All-nil P)

  of_tests : KeepsAsked Tests Q S
  of_tests = record {
    never = one Never keeps.never;
    zero_side = keeps.zero_side;
    delta = keeps.delta;
    set = keeps.set;
    at_most = keeps.at_most;
    listed = λ symbol number q. one (InList symbol number) (keeps.listed symbol number q);
  }

  all_tests : (asked : List Asked) → All Tests asked → All P (flat_map asked_tests asked)
  all_tests [] all = All-nil P
  all_tests (q ∷ asked) all = All-append P (asked_tests q) (flat_map asked_tests asked) (All-head Tests q asked all) (all_tests asked (All-tail Tests q asked all))

  kept_cut : (xs : List Atom) → All (λ (a : Atom). P a.test) xs → All (λ (a : Atom). P a.test) (to_never xs)
  kept_cut [] p = p
  kept_cut (x ∷ xs) p = by (is_never x.test) (kept_cut xs (All-tail (λ (a : Atom). P a.test) x xs p))
    where
      by : (b : Bool) → All (λ (a : Atom). P a.test) (to_never xs) → All (λ (a : Atom). P a.test) (if b then x ∷ [] else x ∷ to_never xs)
      by true later = All-cons (λ (a : Atom). P a.test) x [] (All-head (λ (a : Atom). P a.test) x xs p) (All-nil (λ (a : Atom). P a.test))
      by false later = All-cons (λ (a : Atom). P a.test) x (to_never xs) (All-head (λ (a : Atom). P a.test) x xs p) later

  pub kept_atoms : (told : Gain) (schema : List Declaration) (e : SymEffect) → All (λ w. Q w.1) e.writes → (place : ℕ) → All (λ (a : Atom). P a.test) (atoms told schema e place)
  kept_atoms told schema e all place = kept_cut (flat_map (group_atoms place) (groups told schema e))
      (of_groups place (λ (a : Atom). P a.test) (groups told schema e)
      (λ k d less. mapped place _ (λ (a : Atom). P a.test) _
      (once_in P [] (flat_map asked_tests (get_or (groups told schema e) k d).asked) (all_tests _ (kept_asked Tests Q S of_tests told schema e all k d less)))))

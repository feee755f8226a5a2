-- From what is asked for each reason to its atoms: they stand in the order of reasons, and each test stands once.
use Rattle.std.proofs.Common.{◌≡◌, ◌∙◌, ◌⊎◌, inl, inr, ℕ, Bool, true, false, List, [], ◌∷◌, ◌++◌, map, get_or, refl, sym, subst, arith, All, ℤ}
use Rattle.std.specs.Prelude.{◌&&◌, ◌||◌, ◌≤ℤ◌, if◌then◌else◌, int_le, nat_eq}
use Rattle.std.specs.List.{Contains, list_any, flat_map}
use Rattle.std.specs.Ordering.{int_eq}
use Rattle.std.proofs.lemmas.Bool.Decides.{nat_tests}
use Rattle.std.proofs.lemmas.Int.{ints}
use Rattle.std.proofs.lemmas.List.Elements.{All-nil, All-cons, All-head, All-tail, All-append, Contains-append_left, Contains-append_right, Contains-append_cases}
use Rattle.sv_value.specs.declared.values.Val.{Val}
use Rattle.sv_app.specs.declared.reasons.Reason.{Reason}
use Rattle.sv_app.specs.Schema.{Declaration}
use Rattle.sv_effect.specs.RunChanges.{Effect}
use Rattle.sv_effect.specs.Threatened.{Threatened}
use Rattle.sv_linear.specs.Atoms.{Group, group_atoms, asked_tests, each_once, same_terms, same_test}
use Rattle.sv_linear.specs.Effects.{text_in}
use Rattle.sv_linear.specs.Forms.{value, symbol_at}
use Rattle.sv_linear.specs.Tests.{Test, AtMost, InList, Never, Atom, is_listed}
use Rattle.sv_threat.specs.FirstThreat.{IsBefore}
use Rattle.sv_wp.specs.Gives.{IsMetOn, AreMet}
use Rattle.sv_wp.specs.Listing.{atom_by}
use Rattle.sv_wp.proofs.OrderLaws.{all_in, here, alone, nowhere, not_itself, NoneBefore, IsOrdered, ordered_both, IsUnmet, Judge}

-- ---- equal tests

terms_same : (ts us : List (ℕ × ℤ)) → same_terms ts us ≡ true → ts ≡ us
terms_same [] [] e = refl
terms_same [] (u ∷ us) e = absurd cc
terms_same (t ∷ ts) [] e = absurd cc
terms_same (t ∷ ts) (u ∷ us) e = by (nat_eq t.0 u.0) refl (int_eq t.1 u.1) refl (terms_same ts us) e
  where
    by : (a : Bool) → nat_eq t.0 u.0 ≡ a → (b : Bool) → int_eq t.1 u.1 ≡ b → (same_terms ts us ≡ true → ts ≡ us) → ((a && b) && same_terms ts us) ≡ true → t ∷ ts ≡ u ∷ us
    by true p true q ih e =
        let first : t.0 ≡ u.0 = grind (arith, nat_tests, p) in
        let second : t.1 ≡ u.1 = grind (arith, ints, q) in
        λ i. (first i, second i) ∷ ih e i
    by true p false q ih e = absurd cc
    by false p b q ih e = absurd cc

tests_same : (t u : Test) → same_test t u ≡ true → t ≡ u
tests_same (AtMost f m) (AtMost g n) e = by (same_terms f.terms g.terms) refl (int_eq f.plus g.plus) refl (int_eq m n) refl e
  where
    by : (a : Bool) → same_terms f.terms g.terms ≡ a → (b : Bool) → int_eq f.plus g.plus ≡ b → (c : Bool) → int_eq m n ≡ c → ((a && b) && c) ≡ true → AtMost f m ≡ AtMost g n
    by true p true q true r e =
        let terms : f.terms ≡ g.terms = terms_same f.terms g.terms p in
        let plus : f.plus ≡ g.plus = grind (arith, ints, q) in
        let most : m ≡ n = grind (arith, ints, r) in
        λ i. AtMost (record { terms = terms i; plus = plus i }) (most i)
    by true p true q false r e = absurd cc
    by true p false q c r e = absurd cc
    by false p b q c r e = absurd cc
tests_same (AtMost f m) (InList s i) e = absurd cc
tests_same (AtMost f m) Never e = absurd cc
tests_same (InList s i) (InList t j) e = by (nat_eq s t) refl (nat_eq i j) refl e
  where
    by : (a : Bool) → nat_eq s t ≡ a → (b : Bool) → nat_eq i j ≡ b → (a && b) ≡ true → InList s i ≡ InList t j
    by true p true q e =
        let first : s ≡ t = grind (arith, nat_tests, p) in
        let second : i ≡ j = grind (arith, nat_tests, q) in
        λ k. InList (first k) (second k)
    by true p false q e = absurd cc
    by false p b q e = absurd cc
tests_same (InList s i) (AtMost f m) e = absurd cc
tests_same (InList s i) Never e = absurd cc
tests_same Never Never e = refl
tests_same Never (AtMost f m) e = absurd cc
tests_same Never (InList s i) e = absurd cc

-- ---- tests that are listed once

pub once_in : (P : Test → Type 0) (held ts : List Test) → All P ts → All P (each_once held ts)
once_in P held [] all = All-nil P
once_in P held (t ∷ ts) all = by (list_any (same_test t) held) (once_in P held ts (All-tail P t ts all)) (once_in P (held ++ t ∷ []) ts (All-tail P t ts all))
  where
    by : (b : Bool) → All P (each_once held ts) → All P (each_once (held ++ t ∷ []) ts) → All P (if b then each_once held ts else t ∷ each_once (held ++ t ∷ []) ts)
    by true same other = same
    by false same other = All-cons P t (each_once (held ++ t ∷ []) ts) (All-head P t ts all) other

held_has : (P : Test → Type 0) (t : Test) (held : List Test) → All P held → list_any (same_test t) held ≡ true → P t
held_has P t [] all any = absurd cc
held_has P t (u ∷ held) all any = by (same_test t u) refl any (held_has P t held (All-tail P u held all))
  where
    by : (b : Bool) → same_test t u ≡ b → (b || list_any (same_test t) held) ≡ true → (list_any (same_test t) held ≡ true → P t) → P t
    by true e any ih = subst P (sym (tests_same t u e)) (All-head P u held all)
    by false e any ih = ih any

pub in_once : (P : Test → Type 0) (held ts : List Test) → All P held → All P (each_once held ts) → All P ts
in_once P held [] before all = All-nil P
in_once P held (t ∷ ts) before all = by (list_any (same_test t) held) refl all (in_once P held ts before)
    (λ one later. in_once P (held ++ t ∷ []) ts (All-append P held (t ∷ []) before (All-cons P t [] one (All-nil P))) later)
  where
    by : (b : Bool) → list_any (same_test t) held ≡ b → All P (if b then each_once held ts else t ∷ each_once (held ++ t ∷ []) ts) → (All P (each_once held ts) → All P ts)
        → (P t → All P (each_once (held ++ t ∷ []) ts) → All P ts) → All P (t ∷ ts)
    by true e all same more = All-cons P t ts (held_has P t held before e) (same all)
    by false e all same more =
        let one : P t = All-head P t (each_once (held ++ t ∷ []) ts) all in
        All-cons P t ts one (more one (All-tail P t (each_once (held ++ t ∷ []) ts) all))

-- ---- the atoms of a group

pub mapped : (place : ℕ) (reason : Reason) (P : Atom → Type 0) (ts : List Test) → All (λ t. P (atom_by place reason t)) ts → All P (map (atom_by place reason) ts)
mapped place reason P [] all = All-nil P
mapped place reason P (t ∷ ts) all = All-cons P (atom_by place reason t) (map (atom_by place reason) ts) (All-head (λ t. P (atom_by place reason t)) t ts all)
    (mapped place reason P ts (All-tail (λ t. P (atom_by place reason t)) t ts all))

any_test : (ts : List Test) → All (λ (t : Test). Unit {0}) ts
any_test ts = λ k d less. tt

of_group : (place : ℕ) (g : Group) (P : Atom → Type 0) → ((t : Test) → P (atom_by place g.reason t)) → All P (group_atoms place g)
of_group place g P each = mapped place g.reason P (each_once [] (flat_map asked_tests g.asked)) (λ k d less. each _)

group_ordered : (place : ℕ) (reason : Reason) (ts : List Test) → IsOrdered (map (atom_by place reason) ts)
group_ordered place reason [] = tt
group_ordered place reason (t ∷ ts) = (mapped place reason (λ (b : Atom). IsBefore b.reason reason → ⊥) ts (λ k d less. not_itself reason), group_ordered place reason ts)

-- ---- groups in the order of their reasons

abbrev pub GroupsBehind : Reason → List Group → Type 0
GroupsBehind r gs = All (λ (h : Group). IsBefore h.reason r → ⊥) gs

abbrev pub AreOrdered : List Group → Type 0
AreOrdered [] = Unit {0}
AreOrdered (g ∷ gs) = GroupsBehind g.reason gs × AreOrdered gs

none_before : (place : ℕ) (r : Reason) (gs : List Group) → GroupsBehind r gs → NoneBefore r (flat_map (group_atoms place) gs)
none_before place r [] all = All-nil _
none_before place r (g ∷ gs) all =
    All-append (λ (b : Atom). IsBefore b.reason r → ⊥) (group_atoms place g) (flat_map (group_atoms place) gs)
    (of_group place g (λ (b : Atom). IsBefore b.reason r → ⊥) (λ t. All-head (λ (h : Group). IsBefore h.reason r → ⊥) g gs all))
    (none_before place r gs (All-tail (λ (h : Group). IsBefore h.reason r → ⊥) g gs all))

reason_of : (place : ℕ) (g : Group) (x : Atom) → Contains (group_atoms place g) x → x.reason ≡ g.reason
reason_of place g x among = all_in (λ (a : Atom). a.reason ≡ g.reason) (group_atoms place g) x (of_group place g (λ (a : Atom). a.reason ≡ g.reason) (λ t. refl)) among

atoms_ordered : (place : ℕ) (gs : List Group) → AreOrdered gs → IsOrdered (flat_map (group_atoms place) gs)
atoms_ordered place [] order = tt
atoms_ordered place (g ∷ gs) order =
    ordered_both (group_atoms place g) (flat_map (group_atoms place) gs) (group_ordered place g.reason (each_once [] (flat_map asked_tests g.asked))) (atoms_ordered place gs order.1)
    (λ x among. subst (λ (r : Reason). NoneBefore r (flat_map (group_atoms place) gs)) (sym (reason_of place g x among)) (none_before place g.reason gs order.0))

pub of_groups : (place : ℕ) (P : Atom → Type 0) (gs : List Group) → All (λ (g : Group). All P (group_atoms place g)) gs → All P (flat_map (group_atoms place) gs)
of_groups place P [] all = All-nil P
of_groups place P (g ∷ gs) all = All-append P (group_atoms place g) (flat_map (group_atoms place) gs) (All-head (λ (g : Group). All P (group_atoms place g)) g gs all)
    (of_groups place P gs (All-tail (λ (g : Group). All P (group_atoms place g)) g gs all))

in_groups : (place : ℕ) (gs : List Group) (g : Group) (a : Atom) → Contains gs g → Contains (group_atoms place g) a → Contains (flat_map (group_atoms place) gs) a
in_groups place [] g a among inside = absurd (nowhere g among)
in_groups place (h ∷ gs) g a among inside = by (Contains-append_cases (h ∷ []) gs g among) (λ later. in_groups place gs g a later inside)
  where
    by : Contains (h ∷ []) g ⊎ Contains gs g → (Contains gs g → Contains (flat_map (group_atoms place) gs) a) → Contains (flat_map (group_atoms place) (h ∷ gs)) a
    by (inl first) ih = Contains-append_left (group_atoms place h) (flat_map (group_atoms place) gs) a (subst (λ (x : Group). Contains (group_atoms place x) a) (sym (alone h g first)) inside)
    by (inr later) ih = Contains-append_right (group_atoms place h) (flat_map (group_atoms place) gs) a (ih later)

-- ---- whether a test is met

module _ (schema : List Declaration) (tape : List Val) where
  at_most_or : (n m : ℤ) → (n ≤ℤ m) ⊎ (n ≤ℤ m → ⊥)
  at_most_or n m = by (int_le n m) refl
    where
      by : (b : Bool) → int_le n m ≡ b → (n ≤ℤ m) ⊎ (n ≤ℤ m → ⊥)
      by true e = inl (grind (arith, ints, e))
      by false e = inr (λ h. grind (arith, ints, e, h))

  pub met_or : (t : Test) → IsMetOn schema tape t ⊎ (IsMetOn schema tape t → ⊥)
  met_or (AtMost f m) = at_most_or (value f tape) m
  met_or (InList s n) = by (is_listed schema n (text_in (symbol_at tape s))) refl
    where
      by : (b : Bool) → is_listed schema n (text_in (symbol_at tape s)) ≡ b → IsMetOn schema tape (InList s n) ⊎ (IsMetOn schema tape (InList s n) → ⊥)
      by true e = inl e
      by false e = inr (λ h. let p : true ≡ false = sym h ∙ e in absurd cc)
  met_or Never = inr (λ h. h)

  abbrev Met : Test → Type 0
  Met t = IsMetOn schema tape t

  -- one of them isn't
  record Unmet (ts : List Test) : Type 0 where
    test : Test
    among : Contains ts test
    fails : Met test → ⊥

  all_or : (ts : List Test) → All Met ts ⊎ Unmet ts
  all_or [] = inl (All-nil Met)
  all_or (t ∷ ts) = by (met_or t) (all_or ts)
    where
      by : Met t ⊎ (Met t → ⊥) → All Met ts ⊎ Unmet ts → All Met (t ∷ ts) ⊎ Unmet (t ∷ ts)
      by (inr fails) later = inr (record { test = t; among = here t ts; fails = fails })
      by (inl met) (inl all) = inl (All-cons Met t ts met all)
      by (inl met) (inr u) = inr (record { test = u.test; among = Contains-append_right (t ∷ []) ts u.test u.among; fails = u.fails })

  in_mapped : (place : ℕ) (reason : Reason) (ts : List Test) (t : Test) → Contains ts t → Contains (map (atom_by place reason) ts) (atom_by place reason t)
  in_mapped place reason [] t among = absurd (nowhere t among)
  in_mapped place reason (u ∷ ts) t among = by (Contains-append_cases (u ∷ []) ts t among) (in_mapped place reason ts t)
    where
      by : Contains (u ∷ []) t ⊎ Contains ts t → (Contains ts t → Contains (map (atom_by place reason) ts) (atom_by place reason t)) → Contains (map (atom_by place reason) (u ∷ ts)) (atom_by place reason t)
      by (inl first) ih = subst (λ (x : Test). Contains (map (atom_by place reason) (u ∷ ts)) (atom_by place reason x)) (alone u t first) (here (atom_by place reason u) (map (atom_by place reason) ts))
      by (inr later) ih = Contains-append_right (atom_by place reason u ∷ []) (map (atom_by place reason) ts) (atom_by place reason t) (ih later)

  module _ (change : Effect) where
    -- what is asked for a reason isn't met
    pub record AsksUnmet (reason : Reason) (gs : List Group) : Type 0 where
      pub group : Group
      pub among : Contains gs group
      pub reason_is : group.reason ≡ reason
      pub fails : AreMet schema tape group.asked → ⊥

    -- groups in order, of which those of a reason are met where it doesn't threaten the change
    pub record JudgeGroups (gs : List Group) : Type 0 where
      pub ordered : AreOrdered gs
      pub means : All (λ (g : Group). (AreMet schema tape g.asked → ⊥) → Threatened schema change g.reason) gs
      pub found : (reason : Reason) → Threatened schema change reason → AsksUnmet reason gs

    group_means : (place : ℕ) (g : Group) → ((AreMet schema tape g.asked → ⊥) → Threatened schema change g.reason) → All (λ (a : Atom). (Met a.test → ⊥) → Threatened schema change a.reason) (group_atoms place g)
    group_means place g means =
        mapped place g.reason (λ (a : Atom). (Met a.test → ⊥) → Threatened schema change a.reason) (each_once [] (flat_map asked_tests g.asked))
        (λ k d less fails. means (λ met. fails (once_in Met [] (flat_map asked_tests g.asked) met k d less)))

    unmet_atom : (place : ℕ) (reason : Reason) (gs : List Group) → AsksUnmet reason gs → IsUnmet schema change tape reason (flat_map (group_atoms place) gs)
    unmet_atom place reason gs u = by (all_or (each_once [] (flat_map asked_tests u.group.asked)))
      where
        by : All Met (each_once [] (flat_map asked_tests u.group.asked)) ⊎ Unmet (each_once [] (flat_map asked_tests u.group.asked)) → IsUnmet schema change tape reason (flat_map (group_atoms place) gs)
        by (inl all) = absurd (u.fails (in_once Met [] (flat_map asked_tests u.group.asked) (All-nil Met) all))
        by (inr found) = record {
          atom = atom_by place u.group.reason found.test;
          among = in_groups place gs u.group (atom_by place u.group.reason found.test) u.among
              (in_mapped place u.group.reason (each_once [] (flat_map asked_tests u.group.asked)) found.test found.among);
          reason_is = u.reason_is;
          fails = found.fails;
        }

    pub judged_groups : (place : ℕ) (gs : List Group) → JudgeGroups gs → Judge schema change tape (flat_map (group_atoms place) gs)
    judged_groups place gs j = record {
      ordered = atoms_ordered place gs j.ordered;
      means = of_groups place (λ (a : Atom). (Met a.test → ⊥) → Threatened schema change a.reason) gs (λ k d less. group_means place (get_or gs k d) (j.means k d less));
      found = λ reason threatened. unmet_atom place reason gs (j.found reason threatened);
      either = λ k d less. met_or _;
    }

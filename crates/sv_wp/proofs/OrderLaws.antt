-- Atoms in the order of their reasons, cut behind the first that nothing meets, decide by which reason a change is threatened first.
use Rattle.std.proofs.Common.{◌≡◌, ◌∙◌, ◌⊎◌, inl, inr, ℕ, zero, suc, ◌<◌, Bool, true, false, List, [], ◌∷◌, ◌++◌, length, get_or, refl, sym, ap, subst, arith, All, append_assoc}
use Rattle.std.specs.Prelude.{if◌then◌else◌}
use Rattle.std.specs.List.{Contains}
use Rattle.std.proofs.lemmas.List.Elements.{All-tail, All-append, Contains-append_left, Contains-append_right, Contains-append_cases}
use Rattle.sv_value.specs.declared.values.Val.{Val}
use Rattle.sv_app.specs.declared.reasons.Reason.{Reason}
use Rattle.sv_app.specs.declared.reasons.Reason.TheVariants as reasons
use Rattle.sv_app.specs.Schema.{Declaration}
use Rattle.sv_effect.specs.RunChanges.{Effect}
use Rattle.sv_effect.specs.Threatened.{Threatened}
use Rattle.sv_linear.specs.Atoms.{is_never, to_never}
use Rattle.sv_linear.specs.Tests.{Test, AtMost, InList, Never, Atom}
use Rattle.sv_threat.specs.First.{IsReason}
use Rattle.sv_threat.specs.FirstThreat.{rank, invariant_in, IsBefore}
use Rattle.sv_wp.specs.Gives.{IsMetOn}
use Rattle.sv_wp.specs.Decides.{AllMet, IsUpTo, Decide}

-- ---- lists

pub all_in : {A : Type 0} (P : A → Type 0) (xs : List A) (x : A) → All P xs → Contains xs x → P x
all_in P xs x all (k, less, is) = subst P is (all k x less)

pub here : {A : Type 0} (x : A) (xs : List A) → Contains (x ∷ xs) x
here x xs = (0, omega arith, refl)

pub alone : {A : Type 0} (x y : A) → Contains (x ∷ []) y → x ≡ y
alone x y (zero, less, is) = is
alone x y (suc k, less, is) = absurd (omega (arith, less))

pub nowhere : {A : Type 0} (x : A) → Contains [] x → ⊥
nowhere x (k, less, is) = omega (arith, less)

-- ---- the order of reasons

equal_numbers : (m n : ℕ) → (m < n → ⊥) → (n < m → ⊥) → m ≡ n
equal_numbers zero zero p q = refl
equal_numbers zero (suc n) p q = absurd (p (omega arith))
equal_numbers (suc m) zero p q = absurd (q (omega arith))
equal_numbers (suc m) (suc n) p q = ap suc (equal_numbers m n (λ l. p (omega (arith, l))) (λ l. q (omega (arith, l))))

abbrev reason_from : ℕ → ℕ → Reason
reason_from zero i = reasons.Plain
reason_from (suc zero) i = reasons.Unique i
reason_from (suc (suc zero)) i = reasons.Child i
reason_from (suc (suc (suc zero))) i = reasons.Parent i
reason_from (suc (suc (suc (suc zero)))) i = reasons.Check i
reason_from (suc (suc (suc (suc (suc n))))) i = reasons.List i

from_rank : (r : Reason) → reason_from (rank r) (invariant_in r) ≡ r
from_rank reasons.Plain = refl
from_rank (reasons.Unique i) = refl
from_rank (reasons.Child i) = refl
from_rank (reasons.Parent i) = refl
from_rank (reasons.Check i) = refl
from_rank (reasons.List i) = refl

-- neither stands before the other
pub equal_reasons : (a b : Reason) → (IsBefore a b → ⊥) → (IsBefore b a → ⊥) → a ≡ b
equal_reasons a b p q =
    let ranks : rank a ≡ rank b = equal_numbers (rank a) (rank b) (λ l. p (inl l)) (λ l. q (inl l)) in
    let invs : invariant_in a ≡ invariant_in b = equal_numbers (invariant_in a) (invariant_in b) (λ l. p (inr (ranks, l))) (λ l. q (inr (sym ranks, l))) in
    sym (from_rank a) ∙ (λ i. reason_from (ranks i) (invs i)) ∙ from_rank b

pub not_itself : (a : Reason) → IsBefore a a → ⊥
not_itself a (inl less) = omega (arith, less)
not_itself a (inr (same, less)) = omega (arith, less)

-- ---- ordered atoms

abbrev pub NoneBefore : Reason → List Atom → Type 0
NoneBefore r list = All (λ b. IsBefore b.reason r → ⊥) list

abbrev pub IsOrdered : List Atom → Type 0
IsOrdered [] = Unit {0}
IsOrdered (a ∷ list) = NoneBefore a.reason list × IsOrdered list

pub ordered_both : (xs ys : List Atom) → IsOrdered xs → IsOrdered ys → ((x : Atom) → Contains xs x → NoneBefore x.reason ys) → IsOrdered (xs ++ ys)
ordered_both [] ys p q across = q
ordered_both (x ∷ xs) ys p q across = (
  All-append (λ (b : Atom). IsBefore b.reason x.reason → ⊥) xs ys p.0 (across x (here x xs)),
  ordered_both xs ys p.1 q (λ z among. across z (Contains-append_right (x ∷ []) xs z among)),
)

later_all : {A : Type 0} (P : A → Type 0) (xs ys : List A) → All P (xs ++ ys) → All P ys
later_all P [] ys all = all
later_all P (x ∷ xs) ys all = later_all P xs ys (All-tail P x (xs ++ ys) all)

ordered_behind : (xs ys : List Atom) (a : Atom) → IsOrdered (xs ++ a ∷ ys) → NoneBefore a.reason ys
ordered_behind [] ys a p = p.0
ordered_behind (x ∷ xs) ys a p = ordered_behind xs ys a p.1

ordered_across : (xs ys : List Atom) (n u : Atom) → IsOrdered (xs ++ ys) → Contains xs n → Contains ys u → IsBefore u.reason n.reason → ⊥
ordered_across [] ys n u p among other = absurd (nowhere n among)
ordered_across (x ∷ xs) ys n u p among other = by (Contains-append_cases (x ∷ []) xs n among) (λ later. ordered_across xs ys n u p.1 later other)
  where
    by : Contains (x ∷ []) n ⊎ Contains xs n → (Contains xs n → IsBefore u.reason n.reason → ⊥) → IsBefore u.reason n.reason → ⊥
    by (inl first) ih = subst (λ (z : Atom). IsBefore u.reason z.reason → ⊥) (alone x n first) (all_in (λ (b : Atom). IsBefore b.reason x.reason → ⊥) ys u (later_all (λ (b : Atom). IsBefore b.reason x.reason → ⊥) xs ys p.0) other)
    by (inr later) ih = ih later

-- ---- cut lists

-- what is cut off stands behind something that nothing meets
record IsCut (list : List Atom) : Type 0 where
  rest : List Atom
  whole : list ≡ to_never list ++ rest
  behind : (u : Atom) → Contains rest u → (n : Atom) × Contains (to_never list) n × (is_never n.test ≡ true)

is_cut : (list : List Atom) → IsCut list
is_cut [] = record { rest = []; whole = refl; behind = λ u among. absurd (nowhere u among) }
is_cut (a ∷ list) = by (is_never a.test) refl (is_cut list)
  where
    by : (b : Bool) → is_never a.test ≡ b → IsCut list → IsCut (a ∷ list)
    by true never cut = record {
      rest = list;
      whole = ap (λ (b : Bool). (if b then a ∷ [] else a ∷ to_never list) ++ list) (sym never);
      behind = λ u among. (a, subst (λ (b : Bool). Contains (if b then a ∷ [] else a ∷ to_never list) a) (sym never) (here a []), never);
    }
    by false never cut = record {
      rest = cut.rest;
      whole = ap (λ zs. a ∷ zs) cut.whole ∙ ap (λ (b : Bool). (if b then a ∷ [] else a ∷ to_never list) ++ cut.rest) (sym never);
      behind = λ u among.
          let found : (n : Atom) × Contains (to_never list) n × (is_never n.test ≡ true) = cut.behind u among in
          (found.0, subst (λ (b : Bool). Contains (if b then a ∷ [] else a ∷ to_never list) found.0) (sym never) (Contains-append_right (a ∷ []) (to_never list) found.0 found.1), found.2);
    }

-- ---- the decision

module _ (schema : List Declaration) (change : Effect) (tape : List Val) where
  -- an atom of this reason that isn't met
  pub record IsUnmet (reason : Reason) (list : List Atom) : Type 0 where
    pub atom : Atom
    pub among : Contains list atom
    pub reason_is : atom.reason ≡ reason
    pub fails : IsMetOn schema tape atom.test → ⊥

  -- ordered atoms, of which those of a reason are met where it doesn't threaten the change
  pub record Judge (list : List Atom) : Type 0 where
    pub ordered : IsOrdered list
    pub means : All (λ a. (IsMetOn schema tape a.test → ⊥) → Threatened schema change a.reason) list
    pub found : (reason : Reason) → Threatened schema change reason → IsUnmet reason list
    pub either : All (λ a. IsMetOn schema tape a.test ⊎ (IsMetOn schema tape a.test → ⊥)) list

  never_unmet : (t : Test) → is_never t ≡ true → IsMetOn schema tape t → ⊥
  never_unmet Never e h = h
  never_unmet (AtMost f m) e h = absurd cc
  never_unmet (InList s n) e h = absurd cc

  module _ (all : List Atom) (judge : Judge all) where
    abbrev kept : List Atom
    kept = to_never all

    inside : (a : Atom) → Contains kept a → Contains all a
    inside a among = subst (λ zs. Contains zs a) (sym (is_cut all).whole) (Contains-append_left kept (is_cut all).rest a among)

    safe : AllMet schema tape kept → (reason : Reason) → Threatened schema change reason → ⊥
    safe met reason threatened =
        let u : IsUnmet reason all = judge.found reason threatened in
        by u (Contains-append_cases kept (is_cut all).rest u.atom (subst (λ zs. Contains zs u.atom) (is_cut all).whole u.among))
      where
        by : (u : IsUnmet reason all) → Contains kept u.atom ⊎ Contains (is_cut all).rest u.atom → ⊥
        by u (inl among) = u.fails (all_in (λ (a : Atom). IsMetOn schema tape a.test) kept u.atom met among)
        by u (inr among) =
            let found : (n : Atom) × Contains kept n × (is_never n.test ≡ true) = (is_cut all).behind u.atom among in
            never_unmet found.0.test found.2 (all_in (λ (a : Atom). IsMetOn schema tape a.test) kept found.0 met found.1)

    first : (before after : List Atom) (a : Atom) → kept ≡ before ++ a ∷ after → AllMet schema tape before → (IsMetOn schema tape a.test → ⊥) → IsReason schema change a.reason
    first before after a is met fails = record {
      threatened = all_in (λ (x : Atom). (IsMetOn schema tape x.test → ⊥) → Threatened schema change x.reason) all a judge.means
          (inside a (subst (λ zs. Contains zs a) (sym is) (Contains-append_right before (a ∷ after) a (here a after)))) fails;
      first = λ other threatened sooner.
          let u : IsUnmet other all = judge.found other threatened in
          by other sooner u (Contains-append_cases before (a ∷ (after ++ (is_cut all).rest)) u.atom (subst (λ zs. Contains zs u.atom) parts u.among));
    }
      where
        parts : all ≡ before ++ a ∷ (after ++ (is_cut all).rest)
        parts = (is_cut all).whole ∙ ap (λ zs. zs ++ (is_cut all).rest) is ∙ append_assoc before (a ∷ after) (is_cut all).rest

        later : (other : Reason) → IsBefore other a.reason → (u : IsUnmet other all) → Contains (a ∷ []) u.atom ⊎ Contains (after ++ (is_cut all).rest) u.atom → ⊥
        later other sooner u (inl among) =
            not_itself a.reason (subst (λ (r : Reason). IsBefore r a.reason) (sym u.reason_is ∙ ap (λ (x : Atom). x.reason) (sym (alone a u.atom among))) sooner)
        later other sooner u (inr among) =
            all_in (λ (b : Atom). IsBefore b.reason a.reason → ⊥) (after ++ (is_cut all).rest) u.atom (ordered_behind before (after ++ (is_cut all).rest) a (subst IsOrdered parts judge.ordered)) among
            (subst (λ (r : Reason). IsBefore r a.reason) (sym u.reason_is) sooner)

        by : (other : Reason) → IsBefore other a.reason → (u : IsUnmet other all) → Contains before u.atom ⊎ Contains (a ∷ (after ++ (is_cut all).rest)) u.atom → ⊥
        by other sooner u (inl among) = u.fails (all_in (λ (x : Atom). IsMetOn schema tape x.test) before u.atom met among)
        by other sooner u (inr among) = later other sooner u (Contains-append_cases (a ∷ []) (after ++ (is_cut all).rest) u.atom among)

    unthreatened : (reason : Reason) → IsUpTo reason kept → All (λ (a : Atom). a.reason ≡ reason → IsMetOn schema tape a.test) kept → Threatened schema change reason → ⊥
    unthreatened reason upto met threatened =
        let u : IsUnmet reason all = judge.found reason threatened in
        by u (Contains-append_cases kept (is_cut all).rest u.atom (subst (λ zs. Contains zs u.atom) (is_cut all).whole u.among))
      where
        by : (u : IsUnmet reason all) → Contains kept u.atom ⊎ Contains (is_cut all).rest u.atom → ⊥
        by u (inl among) = u.fails (all_in (λ (a : Atom). a.reason ≡ reason → IsMetOn schema tape a.test) kept u.atom met among u.reason_is)
        by u (inr among) =
            let found : (n : Atom) × Contains kept n × (is_never n.test ≡ true) = (is_cut all).behind u.atom among in
            let same : found.0.reason ≡ reason =
            equal_reasons found.0.reason reason (all_in (λ (a : Atom). is_never a.test ≡ true → IsBefore a.reason reason → ⊥) kept found.0 upto found.1 found.2)
            (λ sooner. ordered_across kept (is_cut all).rest found.0 u.atom (subst IsOrdered (is_cut all).whole judge.ordered) found.1 among (subst (λ (r : Reason). IsBefore r found.0.reason) (sym u.reason_is) sooner)) in
            never_unmet found.0.test found.2 (all_in (λ (a : Atom). a.reason ≡ reason → IsMetOn schema tape a.test) kept found.0 met found.1 same)

    met_of : (reason : Reason) → (Threatened schema change reason → ⊥) → (a : Atom) → Contains all a → a.reason ≡ reason → IsMetOn schema tape a.test
    met_of reason unthreatened a among is = by (all_in (λ (x : Atom). IsMetOn schema tape x.test ⊎ (IsMetOn schema tape x.test → ⊥)) all a judge.either among)
      where
        by : IsMetOn schema tape a.test ⊎ (IsMetOn schema tape a.test → ⊥) → IsMetOn schema tape a.test
        by (inl met) = met
        by (inr fails) = absurd (unthreatened (subst (Threatened schema change) is (all_in (λ (x : Atom). (IsMetOn schema tape x.test → ⊥) → Threatened schema change x.reason) all a judge.means among fails)))

    pub judged : Decide schema change tape kept
    judged = record {
      each = λ reason upto. (unthreatened reason upto, λ un k d less. met_of reason un (get_or kept k d) (inside (get_or kept k d) (k, less, get_same kept k d (get_or kept k d) less)));
      safe = safe;
      first = first;
    }
      where
        get_same : (xs : List Atom) (k : ℕ) (d e : Atom) → k < length xs → get_or xs k e ≡ get_or xs k d
        get_same [] k d e less = absurd (omega (arith, less))
        get_same (x ∷ xs) zero d e less = refl
        get_same (x ∷ xs) (suc k) d e less = get_same xs k d e (omega (arith, less))

-- A dictionary decides one label for a trace, and changes have one first threat.
use Rattle.std.proofs.Common.{◌≡◌, ◌∙◌, ◌⊎◌, inl, inr, ℕ, zero, suc, ◌<◌, ◌≤◌, List, Some, slice_get, refl, sym, ap, arith}
use Rattle.std.proofs.lemmas.Bool.{cases_lt}
use Rattle.sv_app.specs.declared.instances.Instance.{Instance}
use Rattle.sv_app.specs.declared.reasons.Reason.{Reason}
use Rattle.sv_app.specs.declared.reasons.Reason.TheVariants.{Plain, Unique, Child, Parent, Check, List as Listed}
use Rattle.sv_app.specs.Schema.{Declaration}
use Rattle.sv_app.proofs.ListLaws.{same_some}
use Rattle.sv_effect.specs.RunChanges.{Effect}
use Rattle.sv_linear.specs.declared.tests.Atom.{Atom}
use Rattle.sv_threat.specs.declared.label.Label.{Label}
use Rattle.sv_threat.specs.declared.label.Label.TheVariants.{Nothing, Blue, Red}
use Rattle.sv_threat.specs.FirstThreat.{rank, invariant_in, IsBefore, place_of}
use Rattle.sv_threat.specs.Labels as threats
use Rattle.sv_label.specs.Decided.{asked, Failure, IsRed}
use Rattle.sv_label.specs.Groups.{Group, found}
use Rattle.sv_right.specs.Once.{DecidedOnce, FirstThreatOnce}

-- neither of two numbers is less
level : (a b : ℕ) → (a < b → ⊥) → (b < a → ⊥) → a ≡ b
level a b up down = by (cases_lt a b) (cases_lt b a)
  where
    by : (a < b) ⊎ (b ≤ a) → (b < a) ⊎ (a ≤ b) → a ≡ b
    by (inl lt) _ = absurd (up lt)
    by (inr le) (inl lt) = absurd (down lt)
    by (inr le) (inr ge) = omega (arith, le, ge)

-- ---- what a dictionary decides

module _ (schema : List Declaration) (groups : List Group) (txn : ℕ) (trace : List Instance) where
  one_failure : (i p j q : ℕ) (r s : Reason) → IsRed schema groups txn trace i p r → IsRed schema groups txn trace j q s → Red i p r ≡ Red j q s
  one_failure i p j q r s x y = λ k. Red (instance k) (place k) (reason k)
    where
      instances : x.failure.instance ≡ y.failure.instance
      instances = level x.failure.instance y.failure.instance (λ lt. y.first x.failure (inl lt)) (λ lt. x.first y.failure (inl lt))

      places : x.failure.atom.place ≡ y.failure.atom.place
      places = level x.failure.atom.place y.failure.atom.place (λ lt. y.first x.failure (inr (instances, inl lt))) (λ lt. x.first y.failure (inr (sym instances, inl lt)))

      numbers : x.failure.number ≡ y.failure.number
      numbers = level x.failure.number y.failure.number (λ lt. y.first x.failure (inr (instances, inr (places, lt)))) (λ lt. x.first y.failure (inr (sym instances, inr (sym places, lt))))

      entries : x.failure.ran ≡ y.failure.ran
      entries = same_some (slice_get trace y.failure.instance) x.failure.ran y.failure.ran (ap (slice_get trace) (sym instances) ∙ x.failure.at) y.failure.at

      templates : x.failure.template ≡ y.failure.template
      templates = same_some (found groups txn y.failure.ran.unit y.failure.ran.choices) x.failure.template y.failure.template
          (ap (λ (e : Instance). found groups txn e.unit e.choices) (sym entries) ∙ x.failure.stands) y.failure.stands

      atoms : x.failure.atom ≡ y.failure.atom
      atoms = same_some (slice_get (asked y.failure.template) y.failure.number) x.failure.atom y.failure.atom
          ((λ k. slice_get (asked (sym templates k)) (sym numbers k)) ∙ x.failure.listed) y.failure.listed

      instance : i ≡ j
      instance = sym x.instance_is ∙ instances ∙ y.instance_is

      place : p ≡ q
      place = sym x.place_is ∙ places ∙ y.place_is

      reason : r ≡ s
      reason = sym x.reason_is ∙ ap (λ (a : Atom). a.reason) atoms ∙ y.reason_is

pub decided_once : DecidedOnce
decided_once schema groups txn trace Nothing other x y = absurd x
decided_once schema groups txn trace Blue Nothing x y = absurd y
decided_once schema groups txn trace Blue Blue x y = refl
decided_once schema groups txn trace Blue (Red j q s) x y = absurd (x y.failure)
decided_once schema groups txn trace (Red i p r) Nothing x y = absurd y
decided_once schema groups txn trace (Red i p r) Blue x y = absurd (y x.failure)
decided_once schema groups txn trace (Red i p r) (Red j q s) x y = one_failure schema groups txn trace i p j q r s x y

-- ---- the first threat

-- a reason is told by its kind and its invariant
abbrev reason_of : ℕ → ℕ → Reason
reason_of zero i = Plain
reason_of (suc zero) i = Unique i
reason_of (suc (suc zero)) i = Child i
reason_of (suc (suc (suc zero))) i = Parent i
reason_of (suc (suc (suc (suc zero)))) i = Check i
reason_of (suc (suc (suc (suc (suc n))))) i = Listed i

told : (r : Reason) → reason_of (rank r) (invariant_in r) ≡ r
told Plain = refl
told (Unique i) = refl
told (Child i) = refl
told (Parent i) = refl
told (Check i) = refl
told (Listed i) = refl

one_reason : (a b : Reason) → (IsBefore a b → ⊥) → (IsBefore b a → ⊥) → a ≡ b
one_reason a b up down =
    let ranks : rank a ≡ rank b = level (rank a) (rank b) (λ lt. up (inl lt)) (λ lt. down (inl lt)) in
    let invs : invariant_in a ≡ invariant_in b = level (invariant_in a) (invariant_in b) (λ lt. up (inr (ranks, lt))) (λ lt. down (inr (sym ranks, lt))) in
    sym (told a) ∙ (λ i. reason_of (ranks i) (invs i)) ∙ told b

one_threat : (schema : List Declaration) (es : List Effect) (i p j q : ℕ) (r s : Reason) → threats.IsRed schema es i p r → threats.IsRed schema es j q s → Red i p r ≡ Red j q s
one_threat schema es i p j q r s x y = λ k. Red (instance k) (place k) (reason k)
  where
    instances : x.threat.e.instance ≡ y.threat.e.instance
    instances = level x.threat.e.instance y.threat.e.instance (λ lt. y.first x.threat (inl lt)) (λ lt. x.first y.threat (inl lt))

    numbers : x.threat.number ≡ y.threat.number
    numbers = level x.threat.number y.threat.number (λ lt. y.first x.threat (inr (instances, inl lt))) (λ lt. x.first y.threat (inr (sym instances, inl lt)))

    reasons : x.threat.reason ≡ y.threat.reason
    reasons = one_reason x.threat.reason y.threat.reason (λ lt. y.first x.threat (inr (instances, inr (numbers, lt)))) (λ lt. x.first y.threat (inr (sym instances, inr (sym numbers, lt))))

    changes : x.threat.e ≡ y.threat.e
    changes = same_some (slice_get es y.threat.number) x.threat.e y.threat.e (ap (slice_get es) (sym numbers) ∙ x.threat.at) y.threat.at

    instance : i ≡ j
    instance = sym x.instance_is ∙ instances ∙ y.instance_is

    place : p ≡ q
    place = sym x.place_is ∙ (λ k. place_of es (numbers k) (changes k)) ∙ y.place_is

    reason : r ≡ s
    reason = sym x.reason_is ∙ reasons ∙ y.reason_is

pub first_threat_once : FirstThreatOnce
first_threat_once schema es Nothing other x y = absurd x
first_threat_once schema es Blue Nothing x y = absurd y
first_threat_once schema es Blue Blue x y = refl
first_threat_once schema es Blue (Red j q s) x y = absurd (x y.threat.number y.threat.e y.threat.reason y.threat.at y.threat.threatened)
first_threat_once schema es (Red i p r) Nothing x y = absurd y
first_threat_once schema es (Red i p r) Blue x y = absurd (y x.threat.number x.threat.e x.threat.reason x.threat.at x.threat.threatened)
first_threat_once schema es (Red i p r) (Red j q s) x y = one_threat schema es i p j q r s x y

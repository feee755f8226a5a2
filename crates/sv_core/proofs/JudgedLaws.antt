-- A request is answered in one way on given tables, and has one label.
use Rattle.std.proofs.Common.{◌≡◌, ◌⊎◌, inl, inr, ℕ, ◌<◌, ◌≤◌, List, [], Some, slice_get, refl, sym, ap, subst, ◌∙◌, arith}
use Rattle.std.specs.Prelude.{zero, suc, false}
use Rattle.std.specs.Ordering.{is_lt}
use Rattle.sv_value.specs.Orders.{key_cmp}
use Rattle.sv_value.specs.declared.values.Key.{Key}
use Rattle.sv_app.specs.declared.reasons.Reason.{Reason}
use Rattle.sv_app.specs.declared.reasons.Reason.TheVariants.{Plain, Unique, Child, Parent, Check, List as Listed}
use Rattle.sv_app.specs.Schema.{Declaration}
use Rattle.sv_app.specs.Tables.{Tables}
use Rattle.sv_app.specs.Valid.{Valid, IsFirstBroken}
use Rattle.sv_effect.specs.Effects.{with_effects}
use Rattle.sv_effect.specs.Run.{RunResult}
use Rattle.sv_effect.specs.RunChanges.{Effect}
use Rattle.sv_effect.specs.Threatened.{Unthreatened}
use Rattle.sv_threat.specs.declared.label.Label.{Label}
use Rattle.sv_threat.specs.declared.label.Label.TheVariants.{Nothing, Blue, Red}
use Rattle.sv_threat.specs.FirstThreat.{rank, invariant_in, IsBefore, place_of}
use Rattle.sv_threat.specs.Labels.{IsRed, IsLabel}
use Rattle.sv_core.specs.declared.entries.Reply.{Reply}
use Rattle.sv_core.specs.declared.entries.Reply.TheVariants.{Ran, Refused, Full}
use Rattle.sv_core.specs.Judged.{is_done, IsReply, made_by}
use Rattle.sv_core.specs.Laws.{JudgedOnce}
use Rattle.sv_core.proofs.CutLaws.{order}

-- tables that are valid break nothing
unbroken : (schema : List Declaration) (t : Tables) (inv : ℕ) (key : Key) → Valid schema t → IsFirstBroken schema t inv key → ⊥
unbroken schema t inv key valid is = is.broken.breaks (valid.invariants is.broken.table is.broken.inv key is.broken.row is.broken.declared is.broken.kept)

not_after : (schema : List Declaration) (t : Tables) (i j : ℕ) (k l : Key) → IsFirstBroken schema t i k → IsFirstBroken schema t j l → i ≤ j
not_after schema t i j k l first other = by (first.first j l other.broken)
  where
    by : (i < j) ⊎ ((i ≡ j) × (is_lt (key_cmp l k) ≡ false)) → i ≤ j
    by (inl lt) = omega (arith, lt)
    by (inr same) = let e : i ≡ j = same.0 in omega (arith, e)

one_reply : (schema : List Declaration) (t : Tables) (ran : RunResult) (a b : Reply) → IsReply schema t ran a → IsReply schema t ran b → a ≡ b
one_reply schema t ran (Ran o) (Ran p) x y = ap (λ z. Ran z) (x.0 ∙ sym y.0)
one_reply schema t ran (Ran o) (Refused i) x y = absurd (unbroken schema (with_effects schema ran.effects t) i y.1.0 (x.1 (ap is_done x.0 ∙ y.0)) y.1.1)
one_reply schema t ran (Ran o) (Full which used) x y = absurd y
one_reply schema t ran (Refused i) (Ran p) x y = absurd (unbroken schema (with_effects schema ran.effects t) i x.1.0 (y.1 (ap is_done y.0 ∙ x.0)) x.1.1)
one_reply schema t ran (Refused i) (Refused j) x y =
    let le : i ≤ j = not_after schema (with_effects schema ran.effects t) i j x.1.0 y.1.0 x.1.1 y.1.1 in
    let ge : j ≤ i = not_after schema (with_effects schema ran.effects t) j i y.1.0 x.1.0 y.1.1 x.1.1 in
    ap (λ n. Refused n) (omega (arith, le, ge))
one_reply schema t ran (Refused i) (Full which used) x y = absurd y
one_reply schema t ran (Full which used) b x y = absurd x

-- a reason is told by its kind and its invariant
abbrev reason_of : ℕ → ℕ → Reason
reason_of zero i = Plain
reason_of (suc zero) i = Unique i
reason_of (suc (suc zero)) i = Child i
reason_of (suc (suc (suc zero))) i = Parent i
reason_of (suc (suc (suc (suc zero)))) i = Check i
reason_of (suc (suc (suc (suc (suc n))))) i = Listed i

told : (r : Reason) → reason_of (rank r) (invariant_in r) ≡ r
told Plain = refl
told (Unique i) = refl
told (Child i) = refl
told (Parent i) = refl
told (Check i) = refl
told (Listed i) = refl

-- neither of two numbers is less
pub level : (a b : ℕ) → (a < b → ⊥) → (b < a → ⊥) → a ≡ b
level a b up down = by (order a b) (order b a)
  where
    by : (a < b) ⊎ (b ≤ a) → (b < a) ⊎ (a ≤ b) → a ≡ b
    by (inl lt) _ = absurd (up lt)
    by (inr le) (inl lt) = absurd (down lt)
    by (inr le) (inr ge) = omega (arith, le, ge)

one_reason : (a b : Reason) → (IsBefore a b → ⊥) → (IsBefore b a → ⊥) → a ≡ b
one_reason a b up down =
    let ranks : rank a ≡ rank b = level (rank a) (rank b) (λ lt. up (inl lt)) (λ lt. down (inl lt)) in
    let invs : invariant_in a ≡ invariant_in b = level (invariant_in a) (invariant_in b) (λ lt. up (inr (ranks, lt))) (λ lt. down (inr (sym ranks, lt))) in
    sym (told a) ∙ (λ i. reason_of (ranks i) (invs i)) ∙ told b

same_effect : (a b : Effect) → Some a ≡ Some b → a ≡ b
same_effect a b e = cc

-- two first threats are of one change, by one reason
one_red : (schema : List Declaration) (es : List Effect) (i p j q : ℕ) (r s : Reason) → IsRed schema es i p r → IsRed schema es j q s → Red i p r ≡ Red j q s
one_red schema es i p j q r s x y = λ k. Red (instance k) (place k) (reason k)
  where
    instances : x.threat.e.instance ≡ y.threat.e.instance
    instances = level x.threat.e.instance y.threat.e.instance (λ lt. y.first x.threat (inl lt)) (λ lt. x.first y.threat (inl lt))

    numbers : x.threat.number ≡ y.threat.number
    numbers = level x.threat.number y.threat.number (λ lt. y.first x.threat (inr (instances, inl lt))) (λ lt. x.first y.threat (inr (sym instances, inl lt)))

    reasons : x.threat.reason ≡ y.threat.reason
    reasons = one_reason x.threat.reason y.threat.reason (λ lt. y.first x.threat (inr (instances, inr (numbers, lt)))) (λ lt. x.first y.threat (inr (sym instances, inr (sym numbers, lt))))

    changes : x.threat.e ≡ y.threat.e
    changes = same_effect x.threat.e y.threat.e (sym x.threat.at ∙ ap (slice_get es) numbers ∙ y.threat.at)

    instance : i ≡ j
    instance = sym x.instance_is ∙ instances ∙ y.instance_is

    place : p ≡ q
    place = sym x.place_is ∙ (λ k. place_of es (numbers k) (changes k)) ∙ y.place_is

    reason : r ≡ s
    reason = sym x.reason_is ∙ reasons ∙ y.reason_is

none_red : (schema : List Declaration) (i p : ℕ) (r : Reason) → IsRed schema [] i p r → ⊥
none_red schema i p r x = by x.threat.number x.threat.e x.threat.at
  where
    by : (n : ℕ) (e : Effect) → slice_get [] n ≡ Some e → ⊥
    by n e at = cc

red_threatens : (schema : List Declaration) (es : List Effect) (i p : ℕ) (r : Reason) → IsRed schema es i p r → Unthreatened schema es → ⊥
red_threatens schema es i p r x free = free x.threat.number x.threat.e x.threat.reason x.threat.at x.threat.threatened

one_label : (schema : List Declaration) (es : List Effect) (l m : Label) → IsLabel schema es l → IsLabel schema es m → l ≡ m
one_label schema es Nothing Nothing x y = refl
one_label schema es Nothing Blue x y = absurd (y.0 x)
one_label schema es Nothing (Red i p r) x y = absurd (none_red schema i p r (subst (λ xs. IsRed schema xs i p r) x y))
one_label schema es Blue Nothing x y = absurd (x.0 y)
one_label schema es Blue Blue x y = refl
one_label schema es Blue (Red i p r) x y = absurd (red_threatens schema es i p r y x.1)
one_label schema es (Red i p r) Nothing x y = absurd (none_red schema i p r (subst (λ xs. IsRed schema xs i p r) y x))
one_label schema es (Red i p r) Blue x y = absurd (red_threatens schema es i p r x y.1)
one_label schema es (Red i p r) (Red j q s) x y = one_red schema es i p j q r s x y

pub judged_once : JudgedOnce
judged_once schema t ran a b l m x y =
    let replies : a ≡ b = one_reply schema t ran a b x.replied y.replied in
    record {
      replies = replies;
      labels = one_label schema (made_by b ran.effects) l m (subst (λ r. IsLabel schema (made_by r ran.effects) l) replies x.labelled) y.labelled;
    }

-- From the instances that were looked at to the label.
use Rattle.std.proofs.Common.{◌≡◌, sym, subst, refl, ◌⊎◌, ◌<◌, ◌≤◌, ◌+◌, ℕ, List, length, Option, Some, None, IsSome, inl, inr, slice_get, below_more, arith}
use Rattle.std.proofs.lemmas.Option.{slice_get_within}
use Rattle.sv_app.proofs.AcceptedLaws.{all_at}
use Rattle.sv_app.specs.declared.instances.Instance.{Instance}
use Rattle.sv_app.specs.Schema.{Declaration}
use Rattle.sv_app.specs.Shaped.{Shaped}
use Rattle.sv_app.specs.Trees.{Transaction}
use Rattle.sv_linear.specs.Codes.{test_of}
use Rattle.sv_linear.specs.Tests.{TestHolds}
use Rattle.sv_label.specs.declared.failures.Failed.{Failed}
use Rattle.sv_label.specs.declared.templates.Template.{Template}
use Rattle.sv_label.specs.Covers.{HasTemplate, Covers, AreShaped}
use Rattle.sv_label.specs.Decided.{asked, Failure, IsBefore, IsRed}
use Rattle.sv_label.specs.Failures.{IsFirst, IsFirstOf, IsFirstAt}
use Rattle.sv_label.specs.Groups.{Group, found}

-- none of the first instances has a failure
pub record NoneBefore (schema : List Declaration) (groups : List Group) (txn : ℕ) (trace : List Instance) (n : ℕ) : Type 0 where
  pub none : (f : Failure schema groups txn trace) → f.instance < n → ⊥

pub none_first : (schema : List Declaration) (groups : List Group) (txn : ℕ) (trace : List Instance) → NoneBefore schema groups txn trace 0
none_first schema groups txn trace = record { none = λ f less. omega (arith, less) }

same_some : {X : Type 0} (o : Option X) (x y : X) → o ≡ Some x → o ≡ Some y → x ≡ y
same_some o x y e h = cc

-- what a failure of this instance is, where its template is known
here : (schema : List Declaration) (groups : List Group) (txn : ℕ) (trace : List Instance) (n : ℕ) (ran : Instance) (t : Template) (f : Failure schema groups txn trace)
    → slice_get trace n ≡ Some ran → found groups txn ran.unit ran.choices ≡ Some t
    → f.instance ≡ n → (f.ran ≡ ran) × (f.template ≡ t)
here schema groups txn trace n ran t f at stands e =
    let same : f.ran ≡ ran = same_some (slice_get trace n) f.ran ran (subst (λ k. slice_get trace k ≡ Some f.ran) e f.at) at in
    (same, same_some (found groups txn ran.unit ran.choices) f.template t (subst (λ r. found groups txn r.unit r.choices ≡ Some f.template) same f.stands) stands)

none_at : (schema : List Declaration) (groups : List Group) (txn : ℕ) (trace : List Instance) (n : ℕ) (ran : Instance) (t : Template) (f : Failure schema groups txn trace)
    → slice_get trace n ≡ Some ran → found groups txn ran.unit ran.choices ≡ Some t
    → IsFirstOf schema ran.tape (asked t) None → f.instance ≡ n → ⊥
none_at schema groups txn trace n ran t f at stands none e =
    let is : (f.ran ≡ ran) × (f.template ≡ t) = here schema groups txn trace n ran t f at stands e in
    none f.number f.atom (subst (λ t. slice_get (asked t) f.number ≡ Some f.atom) is.1 f.listed) (λ h. f.fails (subst (λ r. TestHolds schema r.tape (test_of f.atom.test)) (sym is.0) h))

pub none_next : (schema : List Declaration) (groups : List Group) (txn : ℕ) (trace : List Instance) (n : ℕ) (ran : Instance) (o : Option Template)
    → found groups txn ran.unit ran.choices ≡ o → slice_get trace n ≡ Some ran → IsFirstAt schema ran.tape o None
    → NoneBefore schema groups txn trace n → NoneBefore schema groups txn trace (n + 1)
none_next schema groups txn trace n ran None stands at first before = absurd first
none_next schema groups txn trace n ran (Some t) stands at first before = record {
  none = λ f less. below_more (λ k. f.instance ≡ k → ⊥) n (λ k under e. before.none f (subst (λ i. i < n) (sym e) under)) (λ e. none_at schema groups txn trace n ran t f at stands first e) f.instance less refl;
}

pub blue : (schema : List Declaration) (groups : List Group) (txn : ℕ) (trace : List Instance) (n : ℕ) → length trace ≤ n → NoneBefore schema groups txn trace n → Failure schema groups txn trace → ⊥
blue schema groups txn trace n long before f = before.none f (let inside : f.instance < length trace = slice_get_within trace f.instance f.ran f.at in omega (arith, inside, long))

red_by : (schema : List Declaration) (groups : List Group) (txn : ℕ) (trace : List Instance) (n : ℕ) (ran : Instance) (t : Template) (failed : Failed)
    → found groups txn ran.unit ran.choices ≡ Some t → slice_get trace n ≡ Some ran
    → IsFirst schema ran.tape (asked t) failed → NoneBefore schema groups txn trace n → IsRed schema groups txn trace n failed.place failed.reason
red_by schema groups txn trace n ran t failed stands at is before = record {
  failure = record { instance = n; number = is.number; ran = ran; template = t; atom = is.atom; at = at; stands = stands; listed = is.listed; fails = is.fails };
  first = sooner;
  instance_is = refl;
  place_is = is.place;
  reason_is = is.reason;
}
  where
    sooner : (other : Failure schema groups txn trace) → (other.instance < n) ⊎ ((other.instance ≡ n) × IsBefore other.number other.atom is.number is.atom) → ⊥
    sooner other (inl less) = before.none other less
    sooner other (inr both) =
        let same : (other.ran ≡ ran) × (other.template ≡ t) = here schema groups txn trace n ran t other at stands both.0 in
        is.first other.number other.atom (subst (λ t. slice_get (asked t) other.number ≡ Some other.atom) same.1 other.listed)
        (λ h. other.fails (subst (λ r. TestHolds schema r.tape (test_of other.atom.test)) (sym same.0) h)) both.1

pub red : (schema : List Declaration) (groups : List Group) (txn : ℕ) (trace : List Instance) (n : ℕ) (ran : Instance) (o : Option Template) (failed : Failed)
    → found groups txn ran.unit ran.choices ≡ o → slice_get trace n ≡ Some ran
    → IsFirstAt schema ran.tape o (Some failed) → NoneBefore schema groups txn trace n → IsRed schema groups txn trace n failed.place failed.reason
red schema groups txn trace n ran None failed stands at first before = absurd first
red schema groups txn trace n ran (Some t) failed stands at first before = red_by schema groups txn trace n ran t failed stands at first before

-- each shaped instance has a template
pub has_template : (schema : List Declaration) (txns : List Transaction) (groups : List Group) (number : ℕ) (trace : List Instance) (n : ℕ) (ran : Instance) → Covers schema txns groups
    → AreShaped schema txns number trace
    → slice_get trace n ≡ Some ran → IsSome (found groups number ran.unit ran.choices)
has_template schema txns groups number trace n ran covers shaped at =
    let is : Shaped schema shaped.txn ran = all_at (Shaped schema shaped.txn) trace n ran shaped.each at in
    let has : HasTemplate schema groups number ran.unit ran.choices is.end.symbols = covers.each number ran.unit shaped.txn is.body ran.choices is.end shaped.is is.unit is.path is.whole in
    subst (λ o. IsSome o) (sym has.stands) refl

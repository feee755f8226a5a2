-- Checks are met alike by numbers that agree on the columns that they name.
use Rattle.std.proofs.Common.{◌≡◌, ◌∙◌, ℕ, zero, suc, ℤ, true, false, List, [], ◌∷◌, ◌++◌, Option, Some, None, slice_get, refl, sym, subst}
use Rattle.std.specs.Prelude.{int_le, ◌-ℤ◌}
use Rattle.std.specs.List.{All, Contains, flat_map}
use Rattle.std.proofs.lemmas.List.Elements.{All-nil, All-cons, All-head, All-tail, Contains-append_left, Contains-append_right}
use Rattle.sv_app.specs.declared.apps.Ident.{Ident}
use Rattle.sv_app.specs.declared.schemas.Check.{Check}
use Rattle.sv_app.specs.Satisfiable.{check_in, number_of, value_of, IsMet}
use Rattle.sv_app.specs.Schema.{Rule, Bound, OneOf, Different, Refers, Invariant}
use Rattle.sv_app.proofs.ListLaws.{Stands, contained, contains_at}
use Rattle.sv_plain_threats.specs.Tries.{is_met, is_rule_met, are_met, side_in, sides_in, sides_of}
use Rattle.sv_plain_threats.proofs.BoolLaws.{and_left, and_right, and_both, true_le, le_true, gt_false, false_gt}

abbrev pub Agree : (ℕ → ℤ) → (ℕ → ℤ) → List ℕ → Type 0
Agree v w names = (c : ℕ) → Contains names c → w c ≡ v c

same_side : (v w : ℕ → ℤ) (side : Option Ident) → Agree v w (side_in side) → value_of w (number_of side) ≡ value_of v (number_of side)
same_side v w None agree = refl
same_side v w (Some column) agree = agree column.num (contains_at (column.num ∷ []) 0 column.num refl)

pub same_met : (v w : ℕ → ℤ) (check : Check) → Agree v w (side_in check.hi ++ side_in check.lo) → is_met w check ≡ is_met v check
same_met v w check agree = (λ i. int_le (hi i -ℤ lo i) check.most)
  where
    hi : value_of w (number_of check.hi) ≡ value_of v (number_of check.hi)
    hi = same_side v w check.hi (λ c has. agree c (Contains-append_left (side_in check.hi) (side_in check.lo) c has))

    lo : value_of w (number_of check.lo) ≡ value_of v (number_of check.lo)
    lo = same_side v w check.lo (λ c has. agree c (Contains-append_right (side_in check.hi) (side_in check.lo) c has))

pub met_means : (v : ℕ → ℤ) (check : Check) → is_met v check ≡ true → IsMet v check
met_means v check e = true_le _ _ e

pub means_met : (v : ℕ → ℤ) (check : Check) → IsMet v check → is_met v check ≡ true
means_met v check met = le_true _ _ met

pub unmet_means : (v : ℕ → ℤ) (check : Check) → is_met v check ≡ false → IsMet v check → ⊥
unmet_means v check e met = false_gt _ _ e met

pub means_unmet : (v : ℕ → ℤ) (check : Check) → (IsMet v check → ⊥) → is_met v check ≡ false
means_unmet v check unmet = gt_false _ _ unmet

abbrev checks_among : List Invariant → List Check
checks_among invs = flat_map (λ inv. check_in inv.rule) invs

all_rest : (v : ℕ → ℤ) (rule : Rule) (checks : List Check) → All (IsMet v) (check_in rule ++ checks) → All (IsMet v) checks
all_rest v (Bound check) checks all = All-tail (IsMet v) check checks all
all_rest v (OneOf column texts) checks all = all
all_rest v (Different column) checks all = all
all_rest v (Refers column parent target) checks all = all

rule_met : (v w : ℕ → ℤ) (rule : Rule) (checks : List Check) → Agree v w (sides_in rule) → All (IsMet v) (check_in rule ++ checks) → is_rule_met w rule ≡ true
rule_met v w (Bound check) checks agree all = same_met v w check agree ∙ means_met v check (All-head (IsMet v) check checks all)
rule_met v w (OneOf column texts) checks agree all = refl
rule_met v w (Different column) checks agree all = refl
rule_met v w (Refers column parent target) checks agree all = refl

pub all_met : (v w : ℕ → ℤ) (invs : List Invariant) → Agree v w (sides_of invs) → All (IsMet v) (checks_among invs) → are_met w invs ≡ true
all_met v w [] agree all = refl
all_met v w (inv ∷ invs) agree all = and_both (is_rule_met w inv.rule) (are_met w invs)
    (rule_met v w inv.rule (checks_among invs) (λ c has. agree c (Contains-append_left (sides_in inv.rule) (sides_of invs) c has)) all)
    (all_met v w invs (λ c has. agree c (Contains-append_right (sides_in inv.rule) (sides_of invs) c has)) (all_rest v inv.rule (checks_among invs) all))

with_rule : (v : ℕ → ℤ) (rule : Rule) (checks : List Check) → is_rule_met v rule ≡ true → All (IsMet v) checks → All (IsMet v) (check_in rule ++ checks)
with_rule v (Bound check) checks is all = All-cons (IsMet v) check checks (met_means v check is) all
with_rule v (OneOf column texts) checks is all = all
with_rule v (Different column) checks is all = all
with_rule v (Refers column parent target) checks is all = all

pub met_all : (v : ℕ → ℤ) (invs : List Invariant) → are_met v invs ≡ true → All (IsMet v) (checks_among invs)
met_all v [] is = All-nil (IsMet v)
met_all v (inv ∷ invs) is = with_rule v inv.rule (checks_among invs) (and_left (is_rule_met v inv.rule) (are_met v invs) is) (met_all v invs (and_right (is_rule_met v inv.rule) (are_met v invs) is))

-- the columns that a check names are among those of its table
sides_at : (invs : List Invariant) (k : ℕ) (inv : Invariant) (c : ℕ) → slice_get invs k ≡ Some inv → Contains (sides_in inv.rule) c → Contains (sides_of invs) c
sides_at [] k inv c at has = absurd cc
sides_at (x ∷ invs) zero inv c at has = Contains-append_left (sides_in x.rule) (sides_of invs) c (subst (λ (v : Invariant). Contains (sides_in v.rule) c) (sym (same x inv at)) has)
  where
    same : (a b : Invariant) → Some a ≡ Some b → a ≡ b
    same a b e = cc
sides_at (x ∷ invs) (suc k) inv c at has = Contains-append_right (sides_in x.rule) (sides_of invs) c (sides_at invs k inv c at has)

pub sides_among : (invs : List Invariant) (inv : Invariant) (check : Check) → Contains invs inv → inv.rule ≡ Bound check → (c : ℕ) → Contains (side_in check.hi ++ side_in check.lo) c → Contains (sides_of invs) c
sides_among invs inv check among rule c has =
    let at : Stands invs inv = contained invs inv among in
    sides_at invs at.number inv c at.at (subst (λ r. Contains (sides_in r) c) (sym rule) has)

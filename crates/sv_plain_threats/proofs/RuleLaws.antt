-- A rule is threatened as its test answers.
use Rattle.std.proofs.Common.{◌≡◌, ◌∙◌, ℕ, Bool, true, false, List, Option, Some, None, slice_get, refl, ap}
use Rattle.std.specs.Prelude.{◌==◌, ◌&&◌, not}
use Rattle.std.specs.List.{Contains}
use Rattle.std.proofs.lemmas.Cmp.{eq_by_cmp_equiv}
use Rattle.std.proofs.lemmas.Map.Views.{tells_apart, Contains-from_any, list_any-from_Contains}
use Rattle.sv_value.specs.declared.values.Val.{Val}
use Rattle.sv_value.specs.declared.values.Val.TheVariants as vals
use Rattle.sv_value.proofs.OrderLaws.{text_total, exact_texts}
use Rattle.sv_app.specs.declared.reasons.Reason.{Reason}
use Rattle.sv_app.specs.declared.reasons.Reason.TheVariants as reasons
use Rattle.sv_app.specs.Schema.{Rule, Bound, OneOf, Different, Refers, Invariant, Declaration}
use Rattle.sv_app.specs.Valid.{IsListed}
use Rattle.sv_app.proofs.TestLaws.{same_test, test_same}
use Rattle.sv_effect.specs.declared.ops.Write.{Write}
use Rattle.sv_effect.specs.declared.ops.Write.TheVariants.{Delta, Set}
use Rattle.sv_effect.specs.BareTables.{got_of}
use Rattle.sv_effect.specs.Needs.{grows}
use Rattle.sv_effect.specs.RunChanges.{Effect}
use Rattle.sv_effect.specs.Threatened.{write_to, ByUnique, ByChild, ByParent, ByList}
use Rattle.sv_plain_threats.specs.ThreatenedWithin.{ByCheckWithin}
use Rattle.sv_plain_threats.specs.Tries.{is_text_of, sets_unlisted, threatens}
use Rattle.sv_plain_threats.proofs.BoolLaws.{and_left, and_right, and_both, not_false, apart}
use Rattle.sv_plain_threats.proofs.TryLaws.{breaks_means, means_breaks}

-- ---- lists

listed_means : (v : Val) (texts : List (List ℕ)) → is_text_of v texts ≡ true → IsListed (got_of v) texts
listed_means (vals.Int n) texts e = absurd cc
listed_means (vals.Text text) texts e = Contains-from_any (λ x y h. tells_apart exact_texts x y h) text texts e

means_listed : (v : Val) (texts : List (List ℕ)) → IsListed (got_of v) texts → is_text_of v texts ≡ true
means_listed (vals.Int n) texts h = absurd h
means_listed (vals.Text text) texts h = list_any-from_Contains (eq_by_cmp_equiv text_total) text texts h

unlisted_means : (w : Option Write) (texts : List (List ℕ)) → sets_unlisted w texts ≡ true → (v : Val) × (w ≡ Some (Set v)) × (IsListed (got_of v) texts → ⊥)
unlisted_means None texts e = absurd cc
unlisted_means (Some (Delta d)) texts e = absurd cc
unlisted_means (Some (Set v)) texts e = (v, refl, λ listed. apart (is_text_of v texts) (means_listed v texts listed) (not_false (is_text_of v texts) e))

means_unlisted : (w : Option Write) (v : Val) (texts : List (List ℕ)) → w ≡ Some (Set v) → (IsListed (got_of v) texts → ⊥) → sets_unlisted w texts ≡ true
means_unlisted w v texts is unlisted = ap (λ o. sets_unlisted o texts) is ∙ by (is_text_of v texts) refl
  where
    by : (b : Bool) → is_text_of v texts ≡ b → not (is_text_of v texts) ≡ true
    by true e = absurd (unlisted (listed_means v texts e))
    by false e = ap not e

-- ---- rules

-- how a reason that names an invariant threatens a rule of the table of that number
abbrev pub By : ℕ → List Declaration → Effect → Reason → ℕ → Declaration → Rule → Type 0
By reach schema e reasons.Plain table d rule = ⊥
By reach schema e (reasons.Unique i) table d rule = ByUnique e table d rule
By reach schema e (reasons.Child i) table d rule = ByChild schema e table d rule
By reach schema e (reasons.Parent i) table d rule = ByParent e table d rule
By reach schema e (reasons.Check i) table d rule = ByCheckWithin reach e table d rule
By reach schema e (reasons.List i) table d rule = ByList e table d rule

pub rule_means : (reach : ℕ) (schema : List Declaration) (e : Effect) (reason : Reason) (table : ℕ) (d : Declaration) (rule : Rule) → threatens reach schema e reason table d rule ≡ true → By reach schema e reason table d rule
rule_means reach schema e reasons.Plain table d rule t = absurd cc
rule_means reach schema e (reasons.Unique i) table d (Different column) t = t
rule_means reach schema e (reasons.Unique i) table d (Bound check) t = absurd cc
rule_means reach schema e (reasons.Unique i) table d (OneOf column texts) t = absurd cc
rule_means reach schema e (reasons.Unique i) table d (Refers column parent target) t = absurd cc
rule_means reach schema e (reasons.Child i) table d (Refers column parent target) t =
    (not_false (grows (slice_get schema parent.num)) (and_left (not (grows (slice_get schema parent.num))) _ t), and_right (not (grows (slice_get schema parent.num))) _ t)
rule_means reach schema e (reasons.Child i) table d (Bound check) t = absurd cc
rule_means reach schema e (reasons.Child i) table d (OneOf column texts) t = absurd cc
rule_means reach schema e (reasons.Child i) table d (Different column) t = absurd cc
rule_means reach schema e (reasons.Parent i) table d (Refers column parent target) t = t
rule_means reach schema e (reasons.Parent i) table d (Bound check) t = absurd cc
rule_means reach schema e (reasons.Parent i) table d (OneOf column texts) t = absurd cc
rule_means reach schema e (reasons.Parent i) table d (Different column) t = absurd cc
rule_means reach schema e (reasons.Check i) table d (Bound check) t =
    (test_same e.place.table table (and_left (e.place.table == table) _ t), breaks_means reach d e check (and_right (e.place.table == table) _ t))
rule_means reach schema e (reasons.Check i) table d (OneOf column texts) t = absurd cc
rule_means reach schema e (reasons.Check i) table d (Different column) t = absurd cc
rule_means reach schema e (reasons.Check i) table d (Refers column parent target) t = absurd cc
rule_means reach schema e (reasons.List i) table d (OneOf column texts) t =
    let found : (v : Val) × (write_to column.num e.writes ≡ Some (Set v)) × (IsListed (got_of v) texts → ⊥) = unlisted_means (write_to column.num e.writes) texts (and_right (e.place.table == table) _ t) in
    (test_same e.place.table table (and_left (e.place.table == table) _ t), record { val = found.0; set = found.1; unlisted = found.2 })
rule_means reach schema e (reasons.List i) table d (Bound check) t = absurd cc
rule_means reach schema e (reasons.List i) table d (Different column) t = absurd cc
rule_means reach schema e (reasons.List i) table d (Refers column parent target) t = absurd cc

pub means_rule : (reach : ℕ) (schema : List Declaration) (e : Effect) (reason : Reason) (table : ℕ) (d : Declaration) (inv : Invariant) (rule : Rule) → Contains d.invs inv → inv.rule ≡ rule
    → By reach schema e reason table d rule → threatens reach schema e reason table d rule ≡ true
means_rule reach schema e reasons.Plain table d inv rule among is by = absurd by
means_rule reach schema e (reasons.Unique i) table d inv (Different column) among is by = by
means_rule reach schema e (reasons.Unique i) table d inv (Bound check) among is by = absurd by
means_rule reach schema e (reasons.Unique i) table d inv (OneOf column texts) among is by = absurd by
means_rule reach schema e (reasons.Unique i) table d inv (Refers column parent target) among is by = absurd by
means_rule reach schema e (reasons.Child i) table d inv (Refers column parent target) among is by = (λ i. not (by.0 i) && by.1 i)
means_rule reach schema e (reasons.Child i) table d inv (Bound check) among is by = absurd by
means_rule reach schema e (reasons.Child i) table d inv (OneOf column texts) among is by = absurd by
means_rule reach schema e (reasons.Child i) table d inv (Different column) among is by = absurd by
means_rule reach schema e (reasons.Parent i) table d inv (Refers column parent target) among is by = by
means_rule reach schema e (reasons.Parent i) table d inv (Bound check) among is by = absurd by
means_rule reach schema e (reasons.Parent i) table d inv (OneOf column texts) among is by = absurd by
means_rule reach schema e (reasons.Parent i) table d inv (Different column) among is by = absurd by
means_rule reach schema e (reasons.Check i) table d inv (Bound check) among is by =
    and_both (e.place.table == table) _ (same_test e.place.table table by.0) (means_breaks reach d e inv check among is by.1)
means_rule reach schema e (reasons.Check i) table d inv (OneOf column texts) among is by = absurd by
means_rule reach schema e (reasons.Check i) table d inv (Different column) among is by = absurd by
means_rule reach schema e (reasons.Check i) table d inv (Refers column parent target) among is by = absurd by
means_rule reach schema e (reasons.List i) table d inv (OneOf column texts) among is by =
    and_both (e.place.table == table) _ (same_test e.place.table table by.0) (means_unlisted (write_to column.num e.writes) by.1.val texts by.1.set by.1.unlisted)
means_rule reach schema e (reasons.List i) table d inv (Bound check) among is by = absurd by
means_rule reach schema e (reasons.List i) table d inv (Different column) among is by = absurd by
means_rule reach schema e (reasons.List i) table d inv (Refers column parent target) among is by = absurd by

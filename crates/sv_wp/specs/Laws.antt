-- What the tests of a change promise: those of a check are all met on a tape exactly where the check doesn't threaten the change that the forms stand for there.
use Rattle.std.specs.Prelude.{◌≡◌, ◌↔◌, ℕ, List, Some, slice_get, bytes_eq}
use Rattle.std.specs.List.{All, flat_map, list_any}
use Rattle.sv_value.specs.declared.values.Val.{Val}
use Rattle.sv_app.specs.declared.apps.Ident.{Ident}
use Rattle.sv_app.specs.declared.schemas.Check.{Check}
use Rattle.sv_app.specs.declared.reasons.Reason.TheVariants.{Plain}
use Rattle.sv_app.specs.Schema.{Rule, OneOf, Invariant, Declaration}
use Rattle.sv_effect.specs.RunChanges.{Effect}
use Rattle.sv_effect.specs.Threatened.{ByCheck, ByUnique, ByChild, ByParent, ByList, Threatened}
use Rattle.sv_gains.specs.Gains.{Teller, AreGains}
use Rattle.sv_linear.specs.Atoms.{cases_of, tests_by, never_where, is_plain_change, by_unique, by_child, by_parent, by_list}
use Rattle.sv_linear.specs.Effects.{SymEffect}
use Rattle.sv_linear.specs.Tests.{Test, is_listed}
use Rattle.sv_threat.specs.Laws.{IsJudged}
use Rattle.sv_wp.specs.Gives.{StandsFor, IsMetOn, AreMet}

-- the tests of all cases of a check
abbrev pub check_tests : Teller → SymEffect → Check → List Test
check_tests told e check = flat_map (λ q. tests_by q.left q.most) (cases_of told e.act e.writes check)

abbrev pub CheckTestsDecide : Type 0
CheckTestsDecide = (schema : List Declaration) (table : Declaration) (change : Effect) (inv : Invariant) (check : Check) (told : Teller) (tape : List Val) (e : SymEffect)
    → IsJudged schema table change inv check → AreGains table told → StandsFor tape e change
    → All (IsMetOn schema tape) (check_tests told e check) ↔ (ByCheck change change.place.table table inv.rule → ⊥)

-- what is asked for the other reasons is met exactly where the reason doesn't threaten the change
abbrev pub PlainDecides : Type 0
PlainDecides = (schema : List Declaration) (table : Declaration) (change : Effect) (tape : List Val) (e : SymEffect) → slice_get schema change.place.table ≡ Some table → StandsFor tape e change
    → AreMet schema tape (never_where (is_plain_change (slice_get schema e.table) e)) ↔ (Threatened schema change Plain → ⊥)

abbrev pub UniqueDecides : Type 0
UniqueDecides = (schema : List Declaration) (change : Effect) (tape : List Val) (e : SymEffect) (table : ℕ) (d : Declaration) (rule : Rule) → StandsFor tape e change
    → AreMet schema tape (by_unique e table rule) ↔ (ByUnique change table d rule → ⊥)

abbrev pub ChildDecides : Type 0
ChildDecides = (schema : List Declaration) (change : Effect) (tape : List Val) (e : SymEffect) (table : ℕ) (d : Declaration) (rule : Rule) → StandsFor tape e change
    → AreMet schema tape (by_child schema e table rule) ↔ (ByChild schema change table d rule → ⊥)

abbrev pub ParentDecides : Type 0
ParentDecides = (schema : List Declaration) (change : Effect) (tape : List Val) (e : SymEffect) (table : ℕ) (d : Declaration) (rule : Rule) → StandsFor tape e change
    → AreMet schema tape (by_parent e rule) ↔ (ByParent change table d rule → ⊥)

-- the list invariants of this number have just these texts
pub record AreTexts (schema : List Declaration) (number : ℕ) (texts : List (List ℕ)) : Type 0 where
  pub listed : (text : List ℕ) → is_listed schema number text ≡ list_any (bytes_eq text) texts

abbrev pub ListDecides : Type 0
ListDecides = (schema : List Declaration) (change : Effect) (tape : List Val) (e : SymEffect) (number table : ℕ) (d : Declaration) (column : Ident) (texts : List (List ℕ)) → StandsFor tape e change
    → AreTexts schema number texts → AreMet schema tape (by_list e number table (OneOf column texts)) ↔ (ByList change table d (OneOf column texts) → ⊥)

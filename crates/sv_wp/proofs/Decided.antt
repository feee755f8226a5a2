-- The tests of a check are all met exactly where the check doesn't threaten the change.
use Rattle.std.proofs.Common.{◌≡◌, ◌⊎◌, inl, inr, ℕ, Bool, true, false, List, Option, Some, None, ℤ, ◌≤ℤ◌, refl, sym, subst, arith}
use Rattle.std.specs.Prelude.{int_le}
use Rattle.std.proofs.lemmas.Int.{ints}
use Rattle.sv_value.specs.declared.values.Val.{Val}
use Rattle.sv_app.specs.declared.acts.Act.{Act}
use Rattle.sv_app.specs.declared.schemas.Check.{Check}
use Rattle.sv_app.specs.Satisfiable.{number_of}
use Rattle.sv_effect.specs.RunChanges.{Effect}
use Rattle.sv_gains.specs.Gains.{Teller}
use Rattle.sv_linear.specs.Atoms.{write_at}
use Rattle.sv_linear.specs.Effects.{SymEffect}
use Rattle.sv_threat.specs.declared.moves.Case.{Case}
use Rattle.sv_threat.specs.declared.moves.Move.{Move}
use Rattle.sv_threat.specs.Cases.{move_at, IsAtMost, Fails, SomeFails, given, bound_of, moves_of}
use Rattle.sv_threat.proofs.CaseLaws.{cases_decide}
use Rattle.sv_wp.specs.Gives.{StandsFor}
use Rattle.sv_wp.proofs.Moves.{move_on, moves_stand}
use Rattle.sv_wp.specs.Laws.{CheckTestsDecide}
use Rattle.sv_wp.proofs.CheckTests.{Within, met_within, within_met}

at_most_or : (n : ℤ) (most : Option ℤ) → IsAtMost n most ⊎ (IsAtMost n most → ⊥)
at_most_or n None = inr (λ h. h)
at_most_or n (Some m) = by_test (int_le n m) refl
  where
    by_test : (b : Bool) → int_le n m ≡ b → (n ≤ℤ m) ⊎ (n ≤ℤ m → ⊥)
    by_test true e = inl (grind (arith, ints, e))
    by_test false e = inr (λ h. grind (arith, ints, e, h))

none_fails : (told : Teller) (check : Check) (act : Act) (hi lo : Move) → ((kase : Case) → Fails told check act hi lo kase → ⊥) → Within told check act hi lo
none_fails told check act hi lo none kase asked = by_case (at_most_or (given hi lo kase) (bound_of told check kase))
  where
    by_case : IsAtMost (given hi lo kase) (bound_of told check kase) ⊎ (IsAtMost (given hi lo kase) (bound_of told check kase) → ⊥) → IsAtMost (given hi lo kase) (bound_of told check kase)
    by_case (inl h) = h
    by_case (inr h) = absurd (none kase (record { asked = asked; fails = h }))

side_stands : (tape : List Val) (e : SymEffect) (change : Effect) → StandsFor tape e change → (side : Option ℕ) → move_on tape (write_at side e.writes) ≡ move_at (moves_of change) side
side_stands tape e change s None = refl
side_stands tape e change s (Some c) = moves_stand tape e change s c

same_within : (tape : List Val) (e : SymEffect) (change : Effect) (told : Teller) (check : Check) → StandsFor tape e change
    → Within told check e.act (move_on tape (write_at (number_of check.hi) e.writes)) (move_on tape (write_at (number_of check.lo) e.writes))
    ≡ Within told check change.act (move_at (moves_of change) (number_of check.hi)) (move_at (moves_of change) (number_of check.lo))
same_within tape e change told check s = λ i. Within told check (s.act i) (side_stands tape e change s (number_of check.hi) i) (side_stands tape e change s (number_of check.lo) i)

pub tests_decide : CheckTestsDecide
tests_decide schema table change inv check told tape e judged gains s =
    let threatened = cases_decide schema table change inv check told judged gains in
    let x = write_at (number_of check.hi) e.writes in
    let y = write_at (number_of check.lo) e.writes in (
      λ met by.
          let some : SomeFails told check change.act (moves_of change) = threatened.0 by in
          let within : Within told check change.act (move_at (moves_of change) (number_of check.hi)) (move_at (moves_of change) (number_of check.lo)) =
          subst (λ T. T) (same_within tape e change told check s) (met_within schema tape told check x y e.act met) in
          some.fails.fails (within some.kase some.fails.asked),
      λ safe.
          within_met schema tape told check x y e.act (subst (λ T. T) (sym (same_within tape e change told check s))
          (none_fails told check change.act _ _ (λ kase fails. safe (threatened.1 (record { kase = kase; fails = fails }))))),
    )

-- All cases of a check together, and the moves of a change that the forms stand for.
use Rattle.std.proofs.Common.{◌≡◌, ◌∙◌, Bool, true, false, List, [], ◌++◌, Option, Some, None, ℤ, pos, ◌-ℤ◌, refl, sym, subst, arith}
use Rattle.std.specs.Prelude.{◌&&◌, ◌||◌, ◌↔◌, if◌then◌else◌}
use Rattle.std.specs.Option.{option_map}
use Rattle.std.proofs.lemmas.Int.{ints}
use Rattle.std.proofs.lemmas.List.Elements.{All-nil}
use Rattle.sv_value.specs.declared.values.Val.{Val}
use Rattle.sv_app.specs.declared.acts.Act.{Act}
use Rattle.sv_app.specs.declared.acts.Act.TheVariants.{Insert, Fresh, Update, Remove}
use Rattle.sv_app.specs.declared.schemas.Check.{Check}
use Rattle.sv_app.specs.Satisfiable.{number_of}
use Rattle.sv_app.specs.Schema.{Declaration}
use Rattle.sv_effect.specs.Acts as acts
use Rattle.sv_gains.specs.Gains.{Teller}
use Rattle.sv_linear.specs.Atoms as atoms
use Rattle.sv_linear.specs.Atoms.{write_at, is_delta, added_by, made_by, less, case_if, kept_cases}
use Rattle.sv_linear.specs.Effects.{SymWrite, Delta, Set}
use Rattle.sv_linear.specs.Forms.{value}
use Rattle.sv_threat.specs.declared.moves.Case.{Case}
use Rattle.sv_threat.specs.declared.moves.Case.TheVariants.{BothLose, HiWins, LoWins, BothWin, FromNothing}
use Rattle.sv_threat.specs.declared.moves.Move.{Move}
use Rattle.sv_threat.specs.Cases.{is_added, is_set, added, made, IsAtMost, IsAsked, given, bound_of}
use Rattle.sv_wp.proofs.Moves.{move_on}
use Rattle.sv_wp.proofs.CaseTests.{AllMet, tests_of, first_cases, later_cases, both_cases, case_met, met_case}

-- ---- what a write in forms does, as a move

delta_added : (tape : List Val) (x : Option SymWrite) → is_delta x ≡ is_added (move_on tape x)
delta_added tape None = refl
delta_added tape (Some (Delta f)) = refl
delta_added tape (Some (Set v)) = refl

set_moves : (tape : List Val) (x : Option SymWrite) → atoms.is_set x ≡ is_set (move_on tape x)
set_moves tape None = refl
set_moves tape (Some (Delta f)) = refl
set_moves tape (Some (Set v)) = refl

added_value : (tape : List Val) (x : Option SymWrite) → value (added_by x) tape ≡ added (move_on tape x)
added_value tape None = refl
added_value tape (Some (Delta f)) = refl
added_value tape (Some (Set v)) = refl

made_value : (tape : List Val) (x : Option SymWrite) → value (made_by x) tape ≡ made (move_on tape x)
made_value tape None = refl
made_value tape (Some (Delta f)) = refl
made_value tape (Some (Set v)) = refl

insert_same : (act : Act) → atoms.is_insert act ≡ acts.is_insert act
insert_same Insert = refl
insert_same Fresh = refl
insert_same Update = refl
insert_same Remove = refl

draw_same : (act : Act) → atoms.is_draw act ≡ acts.is_draw act
draw_same Insert = refl
draw_same Fresh = refl
draw_same Update = refl
draw_same Remove = refl

less_is : (c : ℤ) (g : Option ℤ) → less c g ≡ option_map (λ gain. c -ℤ gain) g
less_is c None = refl
less_is c (Some g) = refl

plain_bound : (n c : ℤ) → IsAtMost n (Some c) ↔ IsAtMost n (Some (c -ℤ pos 0))
plain_bound n c = (λ h. omega (arith, ints, h), λ h. omega (arith, ints, h))

-- ---- all cases

-- each case that is asked is within its bound
abbrev pub Within : Teller → Check → Act → Move → Move → Type 0
Within told check act hi lo = (kase : Case) → IsAsked act hi lo kase → IsAtMost (given hi lo kase) (bound_of told check kase)

both_true : (a b : Bool) → a ≡ true → b ≡ true → (a && b) ≡ true
both_true a b p q = λ i. p i && q i

left_true : (a b : Bool) → (a && b) ≡ true → a ≡ true
left_true true b h = refl
left_true false b h = absurd cc

right_true : (a b : Bool) → (a && b) ≡ true → b ≡ true
right_true true b h = h
right_true false b h = absurd cc

module _ (schema : List Declaration) (tape : List Val) (told : Teller) (check : Check) (x y : Option SymWrite) where
  abbrev lose_case : List atoms.Case
  lose_case = case_if (is_delta x || is_delta y) (added_by x) (added_by y) (less check.most (told (number_of check.hi) (number_of check.lo)))

  abbrev hi_case : List atoms.Case
  hi_case = case_if (atoms.is_set x) (made_by x) (added_by y) (less check.most (told None (number_of check.lo)))

  abbrev lo_case : List atoms.Case
  lo_case = case_if (atoms.is_set y) (added_by x) (made_by y) (less check.most (told (number_of check.hi) None))

  abbrev win_case : List atoms.Case
  win_case = case_if (atoms.is_set x && atoms.is_set y) (made_by x) (made_by y) (Some check.most)

  abbrev kept : List atoms.Case
  kept = lose_case ++ hi_case ++ lo_case ++ win_case

  abbrev hi : Move
  hi = move_on tape x

  abbrev lo : Move
  lo = move_on tape y

  given_as : (f g : ℤ) (m n : Option ℤ) (p q : ℤ) → f ≡ p → g ≡ q → m ≡ n → IsAtMost (f -ℤ g) m → IsAtMost (p -ℤ q) n
  given_as f g m n p q a b c h = subst (λ o. IsAtMost (p -ℤ q) o) c (subst (λ k. IsAtMost k m) (λ i. a i -ℤ b i) h)

  kept_within : AllMet schema tape (tests_of schema tape kept) → (act : Act) → acts.is_draw act ≡ false → (kase : Case) → IsAsked act hi lo kase → (acts.is_insert act ≡ true → IsAtMost (given hi lo FromNothing) (bound_of told check FromNothing))
      → IsAtMost (given hi lo kase) (bound_of told check kase)
  kept_within h act d BothLose asked start =
      given_as (value (added_by x) tape) (value (added_by y) tape) (less check.most (told (number_of check.hi) (number_of check.lo))) (bound_of told check BothLose) (added hi) (added lo) (added_value tape x) (added_value tape y) (less_is check.most (told (number_of check.hi) (number_of check.lo)))
      (case_met schema tape (is_delta x || is_delta y) (added_by x) (added_by y) _ (first_cases schema tape lose_case hi_case (first_cases schema tape (lose_case ++ hi_case) lo_case (first_cases schema tape (lose_case ++ hi_case ++ lo_case) win_case h))) ((λ i. delta_added tape x i || delta_added tape y i) ∙ asked.1))
  kept_within h act d HiWins asked start =
      given_as (value (made_by x) tape) (value (added_by y) tape) (less check.most (told None (number_of check.lo))) (bound_of told check HiWins) (made hi) (added lo) (made_value tape x) (added_value tape y) (less_is check.most (told None (number_of check.lo)))
      (case_met schema tape (atoms.is_set x) (made_by x) (added_by y) _ (later_cases schema tape lose_case hi_case (first_cases schema tape (lose_case ++ hi_case) lo_case (first_cases schema tape (lose_case ++ hi_case ++ lo_case) win_case h))) (set_moves tape x ∙ asked.1))
  kept_within h act d LoWins asked start =
      given_as (value (added_by x) tape) (value (made_by y) tape) (less check.most (told (number_of check.hi) None)) (bound_of told check LoWins) (added hi) (made lo) (added_value tape x) (made_value tape y) (less_is check.most (told (number_of check.hi) None))
      (case_met schema tape (atoms.is_set y) (added_by x) (made_by y) _ (later_cases schema tape (lose_case ++ hi_case) lo_case (first_cases schema tape (lose_case ++ hi_case ++ lo_case) win_case h)) (set_moves tape y ∙ asked.1))
  kept_within h act d BothWin asked start =
      (plain_bound (made_of x -ℤ made_of y) check.most).0
      (given_as (value (made_by x) tape) (value (made_by y) tape) (Some check.most) (Some check.most) (made hi) (made lo) (made_value tape x) (made_value tape y) refl
      (case_met schema tape (atoms.is_set x && atoms.is_set y) (made_by x) (made_by y) _ (later_cases schema tape (lose_case ++ hi_case ++ lo_case) win_case h)
      (both_true (atoms.is_set x) (atoms.is_set y) (set_moves tape x ∙ asked.1) (set_moves tape y ∙ asked.2))))
    where
      made_of : Option SymWrite → ℤ
      made_of w = made (move_on tape w)
  kept_within h act d FromNothing asked start = start asked

  within_kept : (act : Act) → acts.is_draw act ≡ false → Within told check act hi lo → AllMet schema tape (tests_of schema tape kept)
  within_kept act d w =
      let lose = met_case schema tape (is_delta x || is_delta y) (added_by x) (added_by y) (less check.most (told (number_of check.hi) (number_of check.lo)))
      (λ e. given_as (added hi) (added lo) (bound_of told check BothLose) (less check.most (told (number_of check.hi) (number_of check.lo))) (value (added_by x) tape) (value (added_by y) tape)
      (sym (added_value tape x)) (sym (added_value tape y)) (sym (less_is check.most (told (number_of check.hi) (number_of check.lo)))) (w BothLose (d, (λ i. sym (delta_added tape x) i || sym (delta_added tape y) i) ∙ e))) in
      let first = met_case schema tape (atoms.is_set x) (made_by x) (added_by y) (less check.most (told None (number_of check.lo)))
      (λ e. given_as (made hi) (added lo) (bound_of told check HiWins) (less check.most (told None (number_of check.lo))) (value (made_by x) tape) (value (added_by y) tape)
      (sym (made_value tape x)) (sym (added_value tape y)) (sym (less_is check.most (told None (number_of check.lo)))) (w HiWins (d, sym (set_moves tape x) ∙ e))) in
      let second = met_case schema tape (atoms.is_set y) (added_by x) (made_by y) (less check.most (told (number_of check.hi) None))
      (λ e. given_as (added hi) (made lo) (bound_of told check LoWins) (less check.most (told (number_of check.hi) None)) (value (added_by x) tape) (value (made_by y) tape)
      (sym (added_value tape x)) (sym (made_value tape y)) (sym (less_is check.most (told (number_of check.hi) None))) (w LoWins (d, sym (set_moves tape y) ∙ e))) in
      let both = met_case schema tape (atoms.is_set x && atoms.is_set y) (made_by x) (made_by y) (Some check.most)
      (λ e. given_as (made hi) (made lo) (Some check.most) (Some check.most) (value (made_by x) tape) (value (made_by y) tape) (sym (made_value tape x)) (sym (made_value tape y)) refl
      ((plain_bound (made hi -ℤ made lo) check.most).1 (w BothWin (d, sym (set_moves tape x) ∙ left_true (atoms.is_set x) (atoms.is_set y) e, sym (set_moves tape y) ∙ right_true (atoms.is_set x) (atoms.is_set y) e)))) in
      both_cases schema tape (lose_case ++ hi_case ++ lo_case) win_case (both_cases schema tape (lose_case ++ hi_case) lo_case (both_cases schema tape lose_case hi_case lose first) second) both

  abbrev all_cases : Act → List atoms.Case
  all_cases act = (if atoms.is_draw act then [] else kept) ++ case_if (atoms.is_insert act) (made_by x) (made_by y) (Some check.most)

  made_within : (act : Act) → AllMet schema tape (tests_of schema tape (all_cases act)) → acts.is_insert act ≡ true → IsAtMost (given hi lo FromNothing) (bound_of told check FromNothing)
  made_within act h e =
      (plain_bound (made hi -ℤ made lo) check.most).0
      (given_as (value (made_by x) tape) (value (made_by y) tape) (Some check.most) (Some check.most) (made hi) (made lo) (made_value tape x) (made_value tape y) refl
      (case_met schema tape (atoms.is_insert act) (made_by x) (made_by y) (Some check.most) (later_cases schema tape (if atoms.is_draw act then [] else kept) (case_if (atoms.is_insert act) (made_by x) (made_by y) (Some check.most)) h)
      (insert_same act ∙ e)))

  met_kept : (act : Act) → AllMet schema tape (tests_of schema tape (all_cases act)) → acts.is_draw act ≡ false → AllMet schema tape (tests_of schema tape kept)
  met_kept act h d = subst (λ b. AllMet schema tape (tests_of schema tape (if b then [] else kept))) (draw_same act ∙ d)
      (first_cases schema tape (if atoms.is_draw act then [] else kept) (case_if (atoms.is_insert act) (made_by x) (made_by y) (Some check.most)) h)

  pub met_within : (act : Act) → AllMet schema tape (tests_of schema tape (all_cases act)) → Within told check act hi lo
  met_within act h BothLose asked = kept_within (met_kept act h asked.0) act asked.0 BothLose asked (made_within act h)
  met_within act h HiWins asked = kept_within (met_kept act h asked.0) act asked.0 HiWins asked (made_within act h)
  met_within act h LoWins asked = kept_within (met_kept act h asked.0) act asked.0 LoWins asked (made_within act h)
  met_within act h BothWin asked = kept_within (met_kept act h asked.0) act asked.0 BothWin asked (made_within act h)
  met_within act h FromNothing asked = made_within act h asked

  within_first : (act : Act) → Within told check act hi lo → (b : Bool) → atoms.is_draw act ≡ b → AllMet schema tape (tests_of schema tape (if b then [] else kept))
  within_first act w true e = All-nil _
  within_first act w false e = within_kept act (sym (draw_same act) ∙ e) w

  pub within_met : (act : Act) → Within told check act hi lo → AllMet schema tape (tests_of schema tape (all_cases act))
  within_met act w =
      both_cases schema tape (if atoms.is_draw act then [] else kept) (case_if (atoms.is_insert act) (made_by x) (made_by y) (Some check.most)) (within_first act w (atoms.is_draw act) refl)
      (met_case schema tape (atoms.is_insert act) (made_by x) (made_by y) (Some check.most) (λ e. given_as (made hi) (made lo) (Some check.most) (Some check.most) (value (made_by x) tape) (value (made_by y) tape) (sym (made_value tape x)) (sym (made_value tape y)) refl
      ((plain_bound (made hi -ℤ made lo) check.most).1 (w FromNothing (sym (insert_same act) ∙ e)))))

-- A change that writes no plain column is threatened by a check exactly where some case of it fails.
use Rattle.std.proofs.Common.{◌≡◌, ◌⊎◌, inl, inr, ◌∙◌, ℕ, Bool, true, false, List, Option, Some, None, slice_get, ℤ, pos, ◌+ℤ◌, ◌-ℤ◌, ◌<ℤ◌, ◌≤ℤ◌, refl, sym, ap, subst, arith, All}
use Rattle.std.specs.Prelude.{◌==◌, ◌||◌, not, ◌↔◌}
use Rattle.std.specs.List.{Contains}
use Rattle.std.specs.Option.{option_map}
use Rattle.std.proofs.lemmas.Int.{ints}
use Rattle.sv_app.specs.declared.acts.Act.{Act}
use Rattle.sv_app.specs.declared.schemas.Check.{Check}
use Rattle.sv_app.specs.declared.schemas.Merge.TheVariants.{Lww}
use Rattle.sv_app.specs.Satisfiable.{checks_of, number_of, value_of, IsMet, IsSatisfiable}
use Rattle.sv_app.specs.Schema.{Rule, Bound, Invariant, Declaration}
use Rattle.sv_app.proofs.AcceptedLaws.{all_at}
use Rattle.sv_app.proofs.ListLaws.{Stands}
use Rattle.sv_app.proofs.TestLaws.{same_test, other_test, or_left, or_right}
use Rattle.sv_effect.specs.Acts.{is_insert, is_draw}
use Rattle.sv_effect.specs.RunChanges.{Effect, merge_of}
use Rattle.sv_effect.specs.Threatened.{numbers_after, BreaksRow, BreaksZeros, ByCheck}
use Rattle.sv_gains.specs.Gains.{difference_of, IsGreatest, Exceeds, IsGain, Teller, Tells, AreGains}
use Rattle.sv_threat.specs.declared.moves.Move.{Move}
use Rattle.sv_threat.specs.declared.moves.Move.TheVariants.{Leaves, Adds, Sets}
use Rattle.sv_threat.specs.declared.moves.Case.{Case}
use Rattle.sv_threat.specs.declared.moves.Case.TheVariants.{BothLose, HiWins, LoWins, BothWin, FromNothing}
use Rattle.sv_threat.specs.Cases.{is_added, is_set, added, made, move_at, IsAsked, given, left_before, bound_of, IsAtMost, Fails, SomeFails, move_of, moves_of}
use Rattle.sv_threat.specs.Laws.{IsJudged, CasesDecide}
use Rattle.sv_threat.proofs.MoveLaws.{moved, wins_at, side_moved, move_lost, move_won, move_made, sets_last}
use Rattle.sv_threat.proofs.SideLaws.{check_stands, sides_apart}

-- ---- from a row that breaks to a case that fails

over_gain : (table : Declaration) (hi lo : Option ℕ) (gain : Option ℤ) (numbers : ℕ → ℤ) (n most : ℤ) → IsGain table hi lo gain → All (IsMet numbers) (checks_of table)
    → ((n +ℤ difference_of numbers hi lo) ≤ℤ most → ⊥) → IsAtMost n (option_map (λ g. most -ℤ g) gain) → ⊥
over_gain table hi lo None numbers n most is met breaks within = within
over_gain table hi lo (Some g) numbers n most is met breaks within =
    let bound : difference_of numbers hi lo ≤ℤ g = is.bound numbers met in
    breaks (omega (arith, ints, bound, within))

over_nothing : (n most : ℤ) → (n ≤ℤ most → ⊥) → n ≤ℤ (most -ℤ pos 0) → ⊥
over_nothing n most breaks within = breaks (omega (arith, ints, within))

abbrev hi_of : (ℕ → ℤ) → Check → ℤ
hi_of numbers check = value_of numbers (number_of check.hi)

abbrev lo_of : (ℕ → ℤ) → Check → ℤ
lo_of numbers check = value_of numbers (number_of check.lo)

-- a row before the change, and which sets win
record Row (table : Declaration) (told : Teller) (check : Check) (act : Act) (hi lo : Move) : Type 0 where
  found : is_draw act ≡ false
  tells : Tells table told check
  numbers : ℕ → ℤ
  met : All (IsMet numbers) (checks_of table)
  meets : IsMet numbers check
  hi_wins : Bool
  lo_wins : Bool
  breaks : (moved hi_wins hi (value_of numbers (number_of check.hi)) -ℤ moved lo_wins lo (value_of numbers (number_of check.lo))) ≤ℤ check.most → ⊥

abbrev Failed : Teller → Check → Act → Move → Move → Type 0
Failed told check act hi lo = (kase : Case) × Fails told check act hi lo kase

row_fails : (table : Declaration) (told : Teller) (check : Check) (act : Act) (hi lo : Move) → Row table told check act hi lo → Failed told check act hi lo
row_fails table told check act hi lo row = by hi lo row.hi_wins row.lo_wins row.breaks
  where
    lose : (hi lo : Move) → (is_added hi || is_added lo) ≡ true → ((((hi_of row.numbers check) +ℤ added hi) -ℤ ((lo_of row.numbers check) +ℤ added lo)) ≤ℤ check.most → ⊥) → Failed told check act hi lo
    lose hi lo some breaks = (
      BothLose,
      record {
        asked = (row.found, some);
        fails = over_gain table (number_of check.hi) (number_of check.lo) _ row.numbers (added hi -ℤ added lo) check.most row.tells.both row.met (λ le. breaks (omega (arith, ints, le)));
      },
    )

    first : (v : ℤ) (lo : Move) → ((v -ℤ ((lo_of row.numbers check) +ℤ added lo)) ≤ℤ check.most → ⊥) → Failed told check act (Sets v) lo
    first v lo breaks = (
      HiWins,
      record {
        asked = (row.found, refl);
        fails = over_gain table None (number_of check.lo) _ row.numbers (v -ℤ added lo) check.most row.tells.lesser row.met (λ le. breaks (omega (arith, ints, le)));
      },
    )

    second : (hi : Move) (w : ℤ) → ((((hi_of row.numbers check) +ℤ added hi) -ℤ w) ≤ℤ check.most → ⊥) → Failed told check act hi (Sets w)
    second hi w breaks = (
      LoWins,
      record {
        asked = (row.found, refl);
        fails = over_gain table (number_of check.hi) None _ row.numbers (added hi -ℤ w) check.most row.tells.greater row.met (λ le. breaks (omega (arith, ints, le)));
      },
    )

    both : (v w : ℤ) → ((v -ℤ w) ≤ℤ check.most → ⊥) → Failed told check act (Sets v) (Sets w)
    both v w breaks = (BothWin, record { asked = (row.found, refl, refl); fails = over_nothing (v -ℤ w) check.most breaks })

    neither : {P : Type 0} → (((hi_of row.numbers check) -ℤ (lo_of row.numbers check)) ≤ℤ check.most → ⊥) → P
    neither breaks = absurd (breaks row.meets)

    by : (hi lo : Move) (wh wl : Bool) → ((moved wh hi (hi_of row.numbers check) -ℤ moved wl lo (lo_of row.numbers check)) ≤ℤ check.most → ⊥) → Failed told check act hi lo
    by Leaves Leaves wh wl breaks = neither breaks
    by Leaves (Adds d) wh wl breaks = lose Leaves (Adds d) refl (λ le. breaks (omega (arith, ints, le)))
    by Leaves (Sets w) wh true breaks = second Leaves w (λ le. breaks (omega (arith, ints, le)))
    by Leaves (Sets w) wh false breaks = neither breaks
    by (Adds c) Leaves wh wl breaks = lose (Adds c) Leaves refl (λ le. breaks (omega (arith, ints, le)))
    by (Adds c) (Adds d) wh wl breaks = lose (Adds c) (Adds d) refl breaks
    by (Adds c) (Sets w) wh true breaks = second (Adds c) w breaks
    by (Adds c) (Sets w) wh false breaks = lose (Adds c) (Sets w) refl (λ le. breaks (omega (arith, ints, le)))
    by (Sets v) Leaves true wl breaks = first v Leaves (λ le. breaks (omega (arith, ints, le)))
    by (Sets v) Leaves false wl breaks = neither breaks
    by (Sets v) (Adds d) true wl breaks = first v (Adds d) breaks
    by (Sets v) (Adds d) false wl breaks = lose (Sets v) (Adds d) refl (λ le. breaks (omega (arith, ints, le)))
    by (Sets v) (Sets w) true true breaks = both v w breaks
    by (Sets v) (Sets w) true false breaks = first v (Sets w) (λ le. breaks (omega (arith, ints, le)))
    by (Sets v) (Sets w) false true breaks = second (Sets v) w (λ le. breaks (omega (arith, ints, le)))
    by (Sets v) (Sets w) false false breaks = neither breaks

-- what is kept of both sides after the change
sides_after : (wins : ℕ → Bool) (e : Effect) (numbers : ℕ → ℤ) (check : Check) → (x y : ℤ) → value_of (numbers_after wins e numbers) (number_of check.hi) ≡ x
    → value_of (numbers_after wins e numbers) (number_of check.lo) ≡ y → (IsMet (numbers_after wins e numbers) check → ⊥) → (x -ℤ y) ≤ℤ check.most → ⊥
sides_after wins e numbers check x y one other breaks le = breaks (subst (λ (p : ℤ × ℤ). (p.0 -ℤ p.1) ≤ℤ check.most) (λ i. (sym one i, sym other i)) le)

some_case : (told : Teller) (check : Check) (e : Effect) → Failed told check e.act (move_at (moves_of e) (number_of check.hi)) (move_at (moves_of e) (number_of check.lo)) → SomeFails told check e.act (moves_of e)
some_case told check e (kase, fails) = record { kase = kase; fails = fails }

from_zero : (e : Effect) (side : Option ℕ) → value_of (numbers_after (λ c. true) e (λ c. pos 0)) side ≡ made (move_at (moves_of e) side)
from_zero e None = refl
from_zero e (Some c) = side_moved (λ c. true) e (λ c. pos 0) (Some c) ∙ move_made (moves_of e c)

pub breaks_fail : (table : Declaration) (told : Teller) (e : Effect) (check : Check) → Tells table told check → Stands (checks_of table) check → BreaksRow table e check ⊎ BreaksZeros e check
    → SomeFails told check e.act (moves_of e)
breaks_fail table told e check tells stands (inl row) =
    some_case told check e (row_fails table told check e.act (move_at (moves_of e) (number_of check.hi)) (move_at (moves_of e) (number_of check.lo)) (record {
      found = row.found;
      tells = tells;
      numbers = row.numbers;
      met = row.met;
      meets = all_at (IsMet row.numbers) (checks_of table) stands.number check row.met stands.at;
      hi_wins = wins_at row.wins (number_of check.hi);
      lo_wins = wins_at row.wins (number_of check.lo);
      breaks = sides_after row.wins e row.numbers check _ _ (side_moved row.wins e row.numbers (number_of check.hi)) (side_moved row.wins e row.numbers (number_of check.lo)) row.breaks;
    }))
breaks_fail table told e check tells stands (inr zeros) =
    record {
      kase = FromNothing;
      fails = record {
        asked = zeros.made;
        fails = over_nothing _ check.most (sides_after (λ c. true) e (λ c. pos 0) check _ _ (from_zero e (number_of check.hi)) (from_zero e (number_of check.lo)) zeros.breaks);
      };
    }

-- ---- from a case that fails to a row that breaks

-- numbers that meet the checks, with a difference that passes the bound
record Over (table : Declaration) (hi lo : Option ℕ) (n most : ℤ) : Type 0 where
  numbers : ℕ → ℤ
  met : All (IsMet numbers) (checks_of table)
  over : (n +ℤ difference_of numbers hi lo) ≤ℤ most → ⊥

under_gain : (table : Declaration) (hi lo : Option ℕ) (gain : Option ℤ) (n most : ℤ) → IsGain table hi lo gain → (IsAtMost n (option_map (λ g. most -ℤ g) gain) → ⊥) → Over table hi lo n most
under_gain table hi lo None n most is fails =
    let found : Exceeds table hi lo (most -ℤ n) = is (most -ℤ n) in
    let more : (most -ℤ n) <ℤ difference_of found.numbers hi lo = found.more in
    record { numbers = found.numbers; met = found.met; over = λ le. absurd (omega (arith, ints, more, le)) }
under_gain table hi lo (Some g) n most is fails =
    let reached : difference_of is.numbers hi lo ≡ g = is.reached in
    record { numbers = is.numbers; met = is.met; over = λ le. fails (omega (arith, ints, reached, le)) }

-- the chosen columns win, and what isn't set can't lose
abbrev wins_by : (ℕ → Bool) → Effect → ℕ → Bool
wins_by chosen e c = chosen c || not (is_set (moves_of e c))

not_true : (b : Bool) → not b ≡ false → b ≡ true
not_true true e = refl
not_true false e = absurd cc

chosen_last : (schema : List Declaration) (table : Declaration) (e : Effect) (inv : Invariant) (check : Check) → IsJudged schema table e inv check → (chosen : ℕ → Bool) (c : ℕ)
    → wins_by chosen e c ≡ false → merge_of table.columns c ≡ Lww
chosen_last schema table e inv check judged chosen c lost =
    sets_last table c e.writes judged.fits.writes judged.unplain (not_true (is_set (moves_of e c)) (or_right (chosen c) (not (is_set (moves_of e c))) lost))

lost_side : (chosen : ℕ → Bool) (e : Effect) (numbers : ℕ → ℤ) (side : Option ℕ) → wins_at chosen side ≡ false
    → value_of (numbers_after (wins_by chosen e) e numbers) side ≡ (value_of numbers side +ℤ added (move_at (moves_of e) side))
lost_side chosen e numbers None lost = omega (arith, ints)
lost_side chosen e numbers (Some c) lost =
    side_moved (wins_by chosen e) e numbers (Some c) ∙ move_lost (wins_by chosen e c) (moves_of e c) (numbers c) (λ set. (λ i. lost i || not (set i)))

won_side : (chosen : ℕ → Bool) (e : Effect) (numbers : ℕ → ℤ) (side : Option ℕ) → wins_at chosen side ≡ true → is_set (move_at (moves_of e) side) ≡ true
    → value_of (numbers_after (wins_by chosen e) e numbers) side ≡ made (move_at (moves_of e) side)
won_side chosen e numbers None won set = absurd cc
won_side chosen e numbers (Some c) won set =
    side_moved (wins_by chosen e) e numbers (Some c) ∙ move_won (wins_by chosen e c) (moves_of e c) (numbers c) (λ i. won i || not (is_set (moves_of e c))) set

-- the choice of one side, of none and of all
abbrev only : Option ℕ → ℕ → Bool
only None c = false
only (Some a) c = a == c

never : (side : Option ℕ) → wins_at (λ c. false) side ≡ false
never None = refl
never (Some c) = refl

always : (moves : ℕ → Move) (side : Option ℕ) → is_set (move_at moves side) ≡ true → wins_at (λ c. true) side ≡ true
always moves None set = absurd cc
always moves (Some c) set = refl

itself : (moves : ℕ → Move) (side : Option ℕ) → is_set (move_at moves side) ≡ true → wins_at (only side) side ≡ true
itself moves None set = absurd cc
itself moves (Some a) set = same_test a a refl

apart_at : (one other : Option ℕ) → ((c : ℕ) → one ≡ Some c → other ≡ Some c → ⊥) → wins_at (only one) other ≡ false
apart_at None None apart = refl
apart_at None (Some b) apart = refl
apart_at (Some a) None apart = refl
apart_at (Some a) (Some b) apart = other_test a b (λ e. apart b (ap (λ n. Some n) e) refl)

-- the row and the choice break the check
broken : (schema : List Declaration) (table : Declaration) (e : Effect) (inv : Invariant) (check : Check) → IsJudged schema table e inv check → is_draw e.act ≡ false → (chosen : ℕ → Bool)
    → (hi lo : Option ℕ) (n : ℤ) → (over : Over table hi lo n check.most) → (x y : ℤ) → value_of (numbers_after (wins_by chosen e) e over.numbers) (number_of check.hi) ≡ x
    → value_of (numbers_after (wins_by chosen e) e over.numbers) (number_of check.lo) ≡ y → ((x -ℤ y) ≤ℤ check.most → (n +ℤ difference_of over.numbers hi lo) ≤ℤ check.most) → BreaksRow table e check
broken schema table e inv check judged found chosen hi lo n over x y one other less = record {
  found = found;
  numbers = over.numbers;
  met = over.met;
  wins = wins_by chosen e;
  chosen = chosen_last schema table e inv check judged chosen;
  breaks = λ met. over.over (less (subst (λ (p : ℤ × ℤ). (p.0 -ℤ p.1) ≤ℤ check.most) (λ i. (one i, other i)) met));
}

nothing_left : (x y most : ℤ) → (x -ℤ y) ≤ℤ most → (x -ℤ y) ≤ℤ (most -ℤ pos 0)
nothing_left x y most le = omega (arith, ints, le)

case_breaks : (schema : List Declaration) (table : Declaration) (e : Effect) (inv : Invariant) (check : Check) (told : Teller) → IsJudged schema table e inv check → Tells table told check
    → IsSatisfiable table → ((c : ℕ) → number_of check.hi ≡ Some c → number_of check.lo ≡ Some c → ⊥) → (kase : Case)
    → Fails told check e.act (move_at (moves_of e) (number_of check.hi)) (move_at (moves_of e) (number_of check.lo)) kase → BreaksRow table e check ⊎ BreaksZeros e check
case_breaks schema table e inv check told judged tells some apart BothLose fails =
    let over : Over table (number_of check.hi) (number_of check.lo) (added (move_at (moves_of e) (number_of check.hi)) -ℤ added (move_at (moves_of e) (number_of check.lo))) check.most =
    under_gain table (number_of check.hi) (number_of check.lo) _ _ check.most tells.both fails.fails in
    inl (broken schema table e inv check judged fails.asked.0 (λ c. false) (number_of check.hi) (number_of check.lo) _ over _ _
    (lost_side (λ c. false) e over.numbers (number_of check.hi) (never (number_of check.hi))) (lost_side (λ c. false) e over.numbers (number_of check.lo) (never (number_of check.lo)))
    (λ le. omega (arith, ints, le)))
case_breaks schema table e inv check told judged tells some apart HiWins fails =
    let over : Over table None (number_of check.lo) (made (move_at (moves_of e) (number_of check.hi)) -ℤ added (move_at (moves_of e) (number_of check.lo))) check.most =
    under_gain table None (number_of check.lo) _ _ check.most tells.lesser fails.fails in
    inl (broken schema table e inv check judged fails.asked.0 (only (number_of check.hi)) None (number_of check.lo) _ over _ _
    (won_side (only (number_of check.hi)) e over.numbers (number_of check.hi) (itself (moves_of e) (number_of check.hi) fails.asked.1) fails.asked.1)
    (lost_side (only (number_of check.hi)) e over.numbers (number_of check.lo) (apart_at (number_of check.hi) (number_of check.lo) apart))
    (λ le. omega (arith, ints, le)))
case_breaks schema table e inv check told judged tells some apart LoWins fails =
    let over : Over table (number_of check.hi) None (added (move_at (moves_of e) (number_of check.hi)) -ℤ made (move_at (moves_of e) (number_of check.lo))) check.most =
    under_gain table (number_of check.hi) None _ _ check.most tells.greater fails.fails in
    inl (broken schema table e inv check judged fails.asked.0 (only (number_of check.lo)) (number_of check.hi) None _ over _ _
    (lost_side (only (number_of check.lo)) e over.numbers (number_of check.hi) (apart_at (number_of check.lo) (number_of check.hi) (λ c one other. apart c other one)))
    (won_side (only (number_of check.lo)) e over.numbers (number_of check.lo) (itself (moves_of e) (number_of check.lo) fails.asked.1) fails.asked.1)
    (λ le. omega (arith, ints, le)))
case_breaks schema table e inv check told judged tells some apart BothWin fails =
    let over : Over table None None (made (move_at (moves_of e) (number_of check.hi)) -ℤ made (move_at (moves_of e) (number_of check.lo))) check.most =
    record { numbers = some.values; met = some.met; over = λ le. fails.fails (omega (arith, ints, le)) } in
    inl (broken schema table e inv check judged fails.asked.0 (λ c. true) None None _ over _ _
    (won_side (λ c. true) e over.numbers (number_of check.hi) (always (moves_of e) (number_of check.hi) fails.asked.1) fails.asked.1)
    (won_side (λ c. true) e over.numbers (number_of check.lo) (always (moves_of e) (number_of check.lo) fails.asked.2) fails.asked.2)
    (λ le. omega (arith, ints, le)))
case_breaks schema table e inv check told judged tells some apart FromNothing fails =
    inr (record {
      made = fails.asked;
      breaks = λ met. fails.fails (nothing_left (made (move_at (moves_of e) (number_of check.hi))) (made (move_at (moves_of e) (number_of check.lo))) check.most
          (subst (λ (p : ℤ × ℤ). (p.0 -ℤ p.1) ≤ℤ check.most) (λ i. (from_zero e (number_of check.hi) i, from_zero e (number_of check.lo) i)) met));
    })

-- ---- both

by_check : (e : Effect) (table : Declaration) (check : Check) → BreaksRow table e check ⊎ BreaksZeros e check → ByCheck e e.place.table table (Bound check)
by_check e table check breaks = (refl, breaks)

pub cases_decide : CasesDecide
cases_decide schema table e inv check told judged gains =
    let stands : Stands (checks_of table) check = check_stands table inv check judged.among judged.rule in
    let tells : Tells table told check = all_at (Tells table told) (checks_of table) stands.number check gains stands.at in
    let met : IsSatisfiable table = judged.accepted.satisfiable e.place.table table judged.declared in (
      λ by. breaks_fail table told e check tells stands (subst (ByCheck e e.place.table table) judged.rule by).1,
      λ fails. subst (ByCheck e e.place.table table) (sym judged.rule) (by_check e table check
          (case_breaks schema table e inv check told judged tells met (sides_apart schema e.place.table table inv check judged.accepted judged.declared judged.among judged.rule) fails.kase fails.fails)),
    )

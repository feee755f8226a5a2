-- The cases of a check `hi - lo <= most` on one change: which writes win over other sites', and what they leave of rows that met all checks.
use Rattle.std.specs.Prelude.{◌≡◌, ℕ, ℤ, pos, ◌+ℤ◌, ◌-ℤ◌, ◌≤ℤ◌, ◌||◌, Bool, true, false, List, [], ◌∷◌, Option, Some, None}
use Rattle.std.specs.Option.{option_map}
use Rattle.sv_app.specs.declared.acts.Act.{Act}
use Rattle.sv_app.specs.declared.schemas.Check.{Check}
use Rattle.sv_app.specs.Fitting.{number_in}
use Rattle.sv_app.specs.Satisfiable.{number_of}
use Rattle.sv_effect.specs.declared.ops.Write.{Write}
use Rattle.sv_effect.specs.declared.ops.Write.TheVariants.{Delta, Set}
use Rattle.sv_effect.specs.Acts.{is_insert, is_draw}
use Rattle.sv_effect.specs.RunChanges.{Effect}
use Rattle.sv_effect.specs.Threatened.{write_to}
use Rattle.sv_gains.specs.Gains.{Teller}
use Rattle.sv_threat.specs.declared.moves.Move.{Move}
use Rattle.sv_threat.specs.declared.moves.Move.TheVariants.{Leaves, Adds, Sets}
use Rattle.sv_threat.specs.declared.moves.Case.{Case}
use Rattle.sv_threat.specs.declared.moves.Case.TheVariants.{BothLose, HiWins, LoWins, BothWin, FromNothing}

abbrev pub is_added : Move → Bool
is_added Leaves = false
is_added (Adds d) = true
is_added (Sets n) = false

abbrev pub is_set : Move → Bool
is_set Leaves = false
is_set (Adds d) = false
is_set (Sets n) = true

-- what a move adds where it doesn't win
abbrev pub added : Move → ℤ
added Leaves = pos 0
added (Adds d) = d
added (Sets n) = pos 0

-- what a move makes of zero where it wins
abbrev pub made : Move → ℤ
made Leaves = pos 0
made (Adds d) = d
made (Sets n) = n

-- a missing column stays zero
abbrev pub move_at : (ℕ → Move) → Option ℕ → Move
move_at moves None = Leaves
move_at moves (Some column) = moves column

-- when a case is asked, by the moves of both sides
abbrev pub IsAsked : Act → Move → Move → Case → Type 0
IsAsked act hi lo BothLose = (is_draw act ≡ false) × ((is_added hi || is_added lo) ≡ true)
IsAsked act hi lo HiWins = (is_draw act ≡ false) × (is_set hi ≡ true)
IsAsked act hi lo LoWins = (is_draw act ≡ false) × (is_set lo ≡ true)
IsAsked act hi lo BothWin = (is_draw act ≡ false) × (is_set hi ≡ true) × (is_set lo ≡ true)
IsAsked act hi lo FromNothing = is_insert act ≡ true

-- what the change itself gives to hi - lo
abbrev pub given : Move → Move → Case → ℤ
given hi lo BothLose = added hi -ℤ added lo
given hi lo HiWins = made hi -ℤ added lo
given hi lo LoWins = added hi -ℤ made lo
given hi lo BothWin = made hi -ℤ made lo
given hi lo FromNothing = made hi -ℤ made lo

-- the greatest difference that stands of the row before
abbrev pub left_before : Teller → Check → Case → Option ℤ
left_before told check BothLose = told (number_of check.hi) (number_of check.lo)
left_before told check HiWins = told None (number_of check.lo)
left_before told check LoWins = told (number_of check.hi) None
left_before told check BothWin = Some (pos 0)
left_before told check FromNothing = Some (pos 0)

-- the most that the change may give; none where it may give nothing
abbrev pub bound_of : Teller → Check → Case → Option ℤ
bound_of told check kase = option_map (λ gain. check.most -ℤ gain) (left_before told check kase)

abbrev pub IsAtMost : ℤ → Option ℤ → Type 0
IsAtMost n None = ⊥
IsAtMost n (Some most) = n ≤ℤ most

-- the case is asked and fails
pub record Fails (told : Teller) (check : Check) (act : Act) (hi lo : Move) (kase : Case) : Type 0 where
  pub asked : IsAsked act hi lo kase
  pub fails : IsAtMost (given hi lo kase) (bound_of told check kase) → ⊥

-- some case fails, of a change with these moves
pub record SomeFails (told : Teller) (check : Check) (act : Act) (moves : ℕ → Move) : Type 0 where
  pub kase : Case
  pub fails : Fails told check act (move_at moves (number_of check.hi)) (move_at moves (number_of check.lo)) kase

-- the moves of a concrete change
abbrev pub move_of : Option Write → Move
move_of None = Leaves
move_of (Some (Delta d)) = Adds d
move_of (Some (Set v)) = Sets (number_in v)

abbrev pub moves_of : Effect → ℕ → Move
moves_of e column = move_of (write_to column e.writes)

-- The cases of a check on one change in forms, one by one: when a case is asked, what the change gives, and the most that it may give.
use Rattle.std.specs.Prelude.{ℤ, ◌&&◌, ◌||◌, not, if◌then◌else◌, Bool, List, [], ◌∷◌, Option, Some, None}
use Rattle.sv_app.specs.declared.acts.Act.{Act}
use Rattle.sv_app.specs.declared.schemas.Check.{Check}
use Rattle.sv_app.specs.Satisfiable.{number_of}
use Rattle.sv_gains.specs.Gains.{Teller}
use Rattle.sv_linear.specs.Atoms.{is_insert, is_draw, is_delta, is_set, added_by, made_by, less, write_at, Asked, ByCase}
use Rattle.sv_linear.specs.Effects.{SymWrite, SymEffect}
use Rattle.sv_linear.specs.Forms.{Form, sub}
use Rattle.sv_threat.specs.declared.moves.Case.{Case}
use Rattle.sv_threat.specs.declared.moves.Case.TheVariants.{BothLose, HiWins, LoWins, BothWin, FromNothing}

abbrev pub is_asked : Act → Option SymWrite → Option SymWrite → Case → Bool
is_asked act hi lo BothLose = not (is_draw act) && (is_delta hi || is_delta lo)
is_asked act hi lo HiWins = not (is_draw act) && is_set hi
is_asked act hi lo LoWins = not (is_draw act) && is_set lo
is_asked act hi lo BothWin = not (is_draw act) && is_set hi && is_set lo
is_asked act hi lo FromNothing = is_insert act

abbrev pub given : Option SymWrite → Option SymWrite → Case → Form
given hi lo BothLose = sub (added_by hi) (added_by lo)
given hi lo HiWins = sub (made_by hi) (added_by lo)
given hi lo LoWins = sub (added_by hi) (made_by lo)
given hi lo BothWin = sub (made_by hi) (made_by lo)
given hi lo FromNothing = sub (made_by hi) (made_by lo)

-- none where it may give nothing
abbrev pub most_of : Teller → Check → Case → Option ℤ
most_of told check BothLose = less check.most (told (number_of check.hi) (number_of check.lo))
most_of told check HiWins = less check.most (told None (number_of check.lo))
most_of told check LoWins = less check.most (told (number_of check.hi) None)
most_of told check BothWin = Some check.most
most_of told check FromNothing = Some check.most

abbrev pub asked_if : Bool → Form → Option ℤ → List Asked
asked_if asked left most = if asked then ByCase (record { left = left; most = most }) ∷ [] else []

abbrev pub asked_in : Teller → SymEffect → Check → Case → List Asked
asked_in told e check kase =
    let hi = write_at (number_of check.hi) e.writes in
    let lo = write_at (number_of check.lo) e.writes in
    asked_if (is_asked e.act hi lo kase) (given hi lo kase) (most_of told check kase)

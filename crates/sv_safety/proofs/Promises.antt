-- The laws of safe operations, for the crates above.
use Rattle.sv_safety.specs.Laws as law
use Rattle.sv_safety.specs.Runs as runs
use Rattle.sv_safety.proofs.ApartLaws as apart
use Rattle.sv_safety.proofs.DrawLaws as draws
use Rattle.sv_safety.proofs.DrawnLaws as drawn
use Rattle.sv_safety.proofs.InitialLaws as initial
use Rattle.sv_safety.proofs.OpLaws as ops
use Rattle.sv_safety.proofs.SafeLaws as safe
use Rattle.sv_safety.proofs.StampLaws as stamps
use Rattle.sv_safety.proofs.StandLaws.{stand_fit, stand_rows}
use Rattle.sv_safety.proofs.StayLaws as stays

pub blue_is_safe : law.BlueIsSafe
blue_is_safe = safe.blue_is_safe

pub needs_stay : law.NeedsStay
needs_stay = stays.needs_stay

pub stamps_stay_earlier : law.StampsStayEarlier
stamps_stay_earlier = stamps.stamps_stay_earlier

pub rows_stay : law.RowsStay
rows_stay = ops.rows_stay

pub initial_stand : law.InitialStand
initial_stand = initial.initial_stand

pub kept_stays : law.KeptStays
kept_stays = stays.kept_stays

pub grown_stays : law.GrownStays
grown_stays = stays.grown_stays

pub drawn_stay : law.DrawnStay
drawn_stay = drawn.drawn_stay

pub runs_draw : runs.RunsDraw
runs_draw = draws.runs_draw

pub runs_make_ops : runs.RunsMakeOps
runs_make_ops = ops.runs_make_ops

pub blue_runs_are_safe : runs.BlueRunsAreSafe
blue_runs_are_safe = ops.blue_runs_are_safe

pub fitting_runs_hold : runs.FittingRunsHold
fitting_runs_hold = ops.fitting_runs_hold

pub standing_fits : runs.StandingFits
standing_fits schema t accepted stand = record { fits = stand_fit schema t stand; rows = stand_rows schema t accepted stand }

pub requests_draw_apart : runs.RequestsDrawApart
requests_draw_apart = apart.requests_draw_apart

pub initial_undrawn : runs.InitialUndrawn
initial_undrawn = apart.initial_undrawn

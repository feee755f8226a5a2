-- Why there is no dictionary: the application asks for too much in a transaction, at whose name it is refused.
use Rattle.std.specs.Prelude.{ℕ, List}
use Rattle.sv_value.specs.declared.spots.Spot.{Spot}
use Rattle.sv_app.specs.declared.refusals.Code.TheVariants.{Many as TooMany}
use Rattle.sv_app.specs.declared.refusals.Stop.{Stop}
use Rattle.sv_app.specs.declared.refusals.Stop.TheVariants.{Refused, NoMemory}
use Rattle.sv_app.specs.Schema.{Declaration}
use Rattle.sv_app.specs.Trees.{Transaction}
use Rattle.sv_linear.specs.declared.stops.FormStop.{FormStop}
use Rattle.sv_linear.specs.declared.stops.FormStop.TheVariants as forms
use Rattle.sv_paths.specs.declared.answers.PathStop.{PathStop}
use Rattle.sv_paths.specs.declared.answers.PathStop.TheVariants as paths
use Rattle.sv_symbolic.specs.declared.shapes.ShapeStop.{ShapeStop}
use Rattle.sv_symbolic.specs.declared.shapes.ShapeStop.TheVariants as shapes
use Rattle.sv_listing.specs.TooMuch.{TooMuch as AsksIn, IsRefusedFor}
use Rattle.sv_dict.specs.declared.answers.Excess.{Excess}
use Rattle.sv_dict.specs.declared.answers.Excess.TheVariants as excesses

abbrev pub IsRefusal : List Declaration → List Transaction → Stop → Type 0
IsRefusal schema txns (Refused refusal) = IsRefusedFor schema txns refusal
IsRefusal schema txns NoMemory = Unit {0}

-- why a transaction isn't listed
abbrev pub IsExcess : List Declaration → List Transaction → ℕ → Excess → Type 0
IsExcess schema txns number excesses.TooMuch = AsksIn schema txns number
IsExcess schema txns number excesses.NoMemory = Unit {0}

-- too many paths, too many symbols and wide forms are all too much
abbrev pub by_paths : PathStop → Excess
by_paths (paths.Many count) = excesses.TooMuch
by_paths paths.NoMemory = excesses.NoMemory

abbrev pub by_shape : ShapeStop → Excess
by_shape shapes.Many = excesses.TooMuch
by_shape shapes.Wide = excesses.TooMuch
by_shape shapes.NoMemory = excesses.NoMemory

abbrev pub by_form : FormStop → Excess
by_form forms.Wide = excesses.TooMuch
by_form forms.NoMemory = excesses.NoMemory

-- a transaction with its name at this place
abbrev pub stop_at : Excess → Spot → Stop
stop_at excesses.TooMuch spot = Refused (record { spot = spot; code = TooMany })
stop_at excesses.NoMemory spot = NoMemory

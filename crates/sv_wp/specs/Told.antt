-- What tells the greatest differences of columns: it is right of a schema where it tells those that the cases of each table's checks ask.
use Rattle.std.specs.Prelude.{◌≡◌, ℕ, List, [], Some, slice_get}
use Rattle.sv_app.specs.Schema.{Declaration}
use Rattle.sv_app.specs.Slots.{item}
use Rattle.sv_gains.specs.declared.gains.Gain.{Gain as Noted}
use Rattle.sv_gains.specs.Gains.{AreGains, noted_in}
use Rattle.sv_linear.specs.Atoms.{Gain}

pub record TellsGreatest (schema : List Declaration) (told : Gain) : Type 0 where
  pub each : (number : ℕ) (table : Declaration) → slice_get schema number ≡ Some table → AreGains table (told number)

-- a list of what is noted, for each table
abbrev pub told_by : List (List Noted) → Gain
told_by tables number = noted_in (item [] tables number)

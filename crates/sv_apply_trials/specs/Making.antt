-- What the operation of a call is made of: what its run on the initial rows comes to, after which all invariants hold.
use Rattle.std.specs.Prelude.{ℤ, List, map}
use Rattle.sv_app.specs.declared.apps.App.{App}
use Rattle.sv_app.specs.declared.requests.InitRow.{InitRow}
use Rattle.sv_app.specs.declared.requests.Request.{Request}
use Rattle.sv_app.specs.Schema.{Declaration, schema_of}
use Rattle.sv_effect.specs.declared.outcomes.Ran.{Ran}
use Rattle.sv_effect.specs.BareTables.{bare}
use Rattle.sv_effect.specs.Cut.{empty}
use Rattle.sv_effect.specs.Effects.{Fits}
use Rattle.sv_effect.specs.RunChanges.{effect_of}
use Rattle.sv_effect.specs.StampedTables.{StampedTables}
use Rattle.sv_effect.specs.TablesOfCut.{tables_held}
use Rattle.sv_interp.specs.Results.{IsRunOf}

-- the tables of initial rows
abbrev pub start : List Declaration → List InitRow → StampedTables
start schema init = tables_held schema init empty

pub record IsMadeBy (app : App) (init : List InitRow) (request : Request) (first : ℤ) (ran : Ran) : Type 0 where
  pub is : IsRunOf app request.txn request.args first ran (bare (start (schema_of app.tables.items) init))
  pub fits : Fits (schema_of app.tables.items) (map effect_of ran.effects) (bare (start (schema_of app.tables.items) init))

-- Initial rows from which a store is made: they fit the schema, no two stand at one place, all invariants hold, and they aren't too many.
use Rattle.std.specs.Prelude.{◌≤◌, List, length}
use Rattle.std.specs.List.{All}
use Rattle.sv_app.specs.declared.requests.InitRow.{InitRow}
use Rattle.sv_app.specs.Limits.{most_init_rows}
use Rattle.sv_app.specs.Schema.{Declaration}
use Rattle.sv_app.specs.Valid.{Valid}
use Rattle.sv_effect.specs.BareTables.{bare}
use Rattle.sv_effect.specs.Cut.{empty}
use Rattle.sv_effect.specs.Initial.{InitFits, AreDistinct}
use Rattle.sv_effect.specs.TablesOfCut.{tables_held}

pub record CanStand (schema : List Declaration) (init : List InitRow) : Type 0 where
  pub fits : All (InitFits schema) init
  pub apart : AreDistinct init
  pub valid : Valid schema (bare (tables_held schema init empty))
  pub few : length init ≤ most_init_rows

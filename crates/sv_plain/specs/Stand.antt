-- Tables of an accepted application, in which each row stands in its table: nothing is said of how large counts are.
use Rattle.sv_app.specs.Accepted.{AcceptedSchema}
use Rattle.sv_app.specs.Schema.{Declaration}
use Rattle.sv_effect.specs.RowsFit.{AllStand}
use Rattle.sv_effect.specs.StampedTables.{StampedTables}
use Rattle.std.specs.Prelude.{List}

pub record TablesStand (schema : List Declaration) (t : StampedTables) : Type 0 where
  pub accepted : AcceptedSchema schema
  pub rows : AllStand schema t

-- A frugal dictionary covers its application: it has a template for each path that doesn't abort, with tests over the path's symbols.
use Rattle.std.specs.Prelude.{List}
use Rattle.sv_app.specs.Accepted.{AcceptedApp}
use Rattle.sv_app.specs.Schema.{Declaration}
use Rattle.sv_app.specs.Trees.{Transaction}
use Rattle.sv_label.specs.Covers.{Covers}
use Rattle.sv_label.specs.Groups.{Group}
use Rattle.sv_listing.specs.Frugal.{Frugal}

abbrev pub FrugalCovers : Type 0
FrugalCovers = (schema : List Declaration) (txns : List Transaction) (groups : List Group) → AcceptedApp schema txns → Frugal schema txns groups → Covers schema txns groups

-- Of every run of an accepted application, on rows of its tables, a frugal dictionary decides the first threat of the changes, or that there is none.
use Rattle.std.specs.Prelude.{◌≡◌, ℤ, List, Some, slice_get}
use Rattle.sv_app.specs.declared.requests.Request.{Request}
use Rattle.sv_app.specs.Accepted.{AcceptedApp}
use Rattle.sv_app.specs.Fitting.{ArgsFit}
use Rattle.sv_app.specs.Schema.{Declaration}
use Rattle.sv_app.specs.Tables.{Tables}
use Rattle.sv_app.specs.Trees.{Transaction}
use Rattle.sv_effect.specs.Run.{run}
use Rattle.sv_label.specs.Groups.{Group}
use Rattle.sv_listing.specs.Frugal.{Frugal}
use Rattle.sv_listing.specs.Right.{AreWords, DecidesFor}
use Rattle.sv_trace.specs.Laws.{RowsAreOf}

abbrev pub FrugalDecides : Type 0
FrugalDecides = (schema : List Declaration) (txns : List Transaction) (groups : List Group) → AcceptedApp schema txns → Frugal schema txns groups
    → (request : Request) (txn : Transaction) (first : ℤ) (t : Tables) → slice_get txns request.txn ≡ Some txn → ArgsFit txn.params request.args → RowsAreOf schema t
    → AreWords (run schema txns request first t).effects → DecidesFor schema txns groups request.txn (run schema txns request first t)

-- The rows of parts that were read can stand in a store; and a request fits where it is for a transaction whose parameters its arguments fit.
use Rattle.std.proofs.Common.{◌≡◌, ◌≤◌, List, length, Some, slice_get}
use Rattle.std.specs.List.{All}
use Rattle.sv_app.specs.declared.requests.InitRow.{InitRow}
use Rattle.sv_app.specs.declared.requests.Request.{Request}
use Rattle.sv_app.specs.Fitting.{ArgsFit}
use Rattle.sv_app.specs.Schema.{Declaration}
use Rattle.sv_app.specs.Trees.{Transaction}
use Rattle.sv_effect.specs.Initial.{InitFits, AreDistinct}
use Rattle.sv_calls.specs.Standing.{CanStand}
use Rattle.sv_workload.specs.declared.parts.Parts.{Parts}
use Rattle.sv_workload.specs.PartsFit.{IsRequestOf, PartsFit}

pub can_stand : (schema : List Declaration) (txns : List Transaction) (parts : Parts) → PartsFit schema txns parts → CanStand schema parts.init
can_stand schema txns parts fit = record { fits = fit.rows; apart = fit.distinct; valid = fit.valid; few = fit.few }

pub all_fit : (schema : List Declaration) (init : List InitRow) → CanStand schema init → All (InitFits schema) init
all_fit schema init stand = stand.fits

pub are_apart : (schema : List Declaration) (init : List InitRow) → CanStand schema init → AreDistinct init
are_apart schema init stand = stand.apart

pub are_few : (schema : List Declaration) (init : List InitRow) → CanStand schema init → length init ≤ 4096
are_few schema init stand = stand.few

pub ruleset standing = (all_fit, are_apart, are_few)

pub request_fits : (txns : List Transaction) (request : Request) (txn : Transaction) → slice_get txns request.txn ≡ Some txn → ArgsFit txn.params request.args → IsRequestOf txns request
request_fits txns request txn among fits = record { txn = txn; among = among; fits = fits }

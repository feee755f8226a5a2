-- A dictionary that is frugal is right.
use Rattle.std.proofs.Common.{List, Result, Ok, Err, IfOk}
use Rattle.sv_app.specs.declared.refusals.Stop.{Stop}
use Rattle.sv_app.specs.Accepted.{AcceptedApp}
use Rattle.sv_app.specs.Schema.{Declaration}
use Rattle.sv_app.specs.Trees.{Transaction}
use Rattle.sv_label.specs.Groups.{Group}
use Rattle.sv_listing.specs.Frugal.{Frugal}
use Rattle.sv_listing.specs.Laws.{FrugalIsRight}
use Rattle.sv_listing.specs.Right.{Right}

pub right_too : (schema : List Declaration) (txns : List Transaction) (result : Result (List Group) Stop) → FrugalIsRight → AcceptedApp schema txns → IfOk result (Frugal schema txns) → IfOk result (Right schema txns)
right_too schema txns (Ok groups) law accepted frugal = law schema txns groups accepted frugal
right_too schema txns (Err stop) law accepted frugal = tt

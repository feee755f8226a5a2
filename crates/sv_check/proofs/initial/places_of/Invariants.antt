use Rattle.std.proofs.Common.{◌≡◌, take}
use Rattle.std.specs.BTreeSet.{contains}
use Rattle.sv_app.specs.declared.places.Place.{Place}
use Rattle.sv_app.specs.Tables.{place_cmp}
use Rattle.sv_check.specs.Tests.{is_there}
use Rattle.sv_check.proofs.initial.places_of.Given as goal

abbrev pub invariant-loop-row : goal.invariant-loop-row
invariant-loop-row l = (place : Place) → contains place_cmp l.places place ≡ is_there place (take l.row-index l.init)

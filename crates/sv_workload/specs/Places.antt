-- The places of initial rows.
use Rattle.std.specs.Prelude.{◌≡◌, List}
use Rattle.std.specs.BTreeSet.{BTreeSet, contains}
use Rattle.std.specs.List.{list_any}
use Rattle.sv_app.specs.declared.places.Place.{Place}
use Rattle.sv_app.specs.declared.requests.InitRow.{InitRow}
use Rattle.sv_app.specs.Tables.{place_cmp}
use Rattle.sv_effect.specs.TablesOfCut.{init_place, is_place}

-- the set has the places of these rows, and no others
abbrev pub StandAt : BTreeSet Place → List InitRow → Type 0
StandAt places rows = (place : Place) → contains place_cmp places place ≡ list_any (λ other. is_place (init_place other) place) rows

-- What the cases of a check promise: a change that writes no plain column is threatened by a check exactly where some case of it fails.
use Rattle.std.specs.Prelude.{◌≡◌, ◌↔◌, false, List, Some, slice_get}
use Rattle.std.specs.List.{Contains}
use Rattle.sv_app.specs.declared.schemas.Check.{Check}
use Rattle.sv_app.specs.Accepted.{AcceptedSchema}
use Rattle.sv_app.specs.Schema.{Bound, Invariant, Declaration}
use Rattle.sv_effect.specs.Fits.{SuitsTable}
use Rattle.sv_effect.specs.RunChanges.{Effect}
use Rattle.sv_effect.specs.Threatened.{writes_plain, ByCheck}
use Rattle.sv_gains.specs.Gains.{Teller, AreGains}
use Rattle.sv_threat.specs.Cases.{SomeFails, moves_of}

-- a change that fits its table, and a check of that table
pub record IsJudged (schema : List Declaration) (table : Declaration) (e : Effect) (inv : Invariant) (check : Check) : Type 0 where
  pub accepted : AcceptedSchema schema
  pub declared : slice_get schema e.place.table ≡ Some table
  pub fits : SuitsTable table e
  pub unplain : writes_plain table.columns e.writes ≡ false
  pub among : Contains table.invs inv
  pub rule : inv.rule ≡ Bound check

abbrev pub CasesDecide : Type 0
CasesDecide = (schema : List Declaration) (table : Declaration) (e : Effect) (inv : Invariant) (check : Check) (told : Teller) → IsJudged schema table e inv check → AreGains table told
    → ByCheck e e.place.table table inv.rule ↔ SomeFails told check e.act (moves_of e)

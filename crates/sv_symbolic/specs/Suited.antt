-- The effects of a route fit the schema: on any tape the values that their forms have are writes as changes have them.
use Rattle.std.specs.Prelude.{◌≡◌, ℕ, Bool, true, List, Some, slice_get, All}
use Rattle.sv_value.specs.declared.values.Val.{Val}
use Rattle.sv_app.specs.Accepted.{AcceptedApp}
use Rattle.sv_app.specs.Kinds.{allows}
use Rattle.sv_app.specs.Schema.{Declaration}
use Rattle.sv_app.specs.Trees.{Block, Transaction}
use Rattle.sv_app.specs.Units.{units}
use Rattle.sv_effect.specs.Fits.{AreWrites, Ascending, columns_written, ActFits}
use Rattle.sv_linear.specs.Effects.{SymEffect}
use Rattle.sv_symbolic.specs.Drawn.{writes_on}
use Rattle.sv_symbolic.specs.Routes.{Leads, draw_unit}
use Rattle.sv_symbolic.specs.Sketches.{Sketch}

-- it writes only columns of its table outside the key, each at most once and in column order, counters by deltas and others by values of their type; a
-- remove writes none, an insert all, and so where the key is drawn
pub record IsSuited (schema : List Declaration) (tape : List Val) (e : SymEffect) : Type 0 where
  pub table : Declaration
  pub declared : slice_get schema e.table ≡ Some table
  pub allowed : allows table e.act ≡ true
  pub writes : AreWrites table (writes_on tape e.writes)
  pub order : Ascending (columns_written (writes_on tape e.writes))
  pub act : ActFits table e.act (writes_on tape e.writes)

-- for each unit of a transaction of an accepted application, also on a path that no run takes
abbrev pub EffectsSuit : Type 0
EffectsSuit = (schema : List Declaration) (txns : List Transaction) (number unit : ℕ) (txn : Transaction) (body : Block) (choices : List Bool) (end : Sketch) (tape : List Val) → AcceptedApp schema txns → slice_get txns number ≡ Some txn
    → slice_get (units txn.body) unit ≡ Some body → draw_unit schema txn body choices ≡ Leads end → All (IsSuited schema tape) end.drawing.effects

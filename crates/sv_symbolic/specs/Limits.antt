-- Limits that accepted applications keep.
use Rattle.std.specs.Prelude.{◌≡◌, ◌≤◌, ℕ, List, length, Some, slice_get}
use Rattle.sv_app.specs.Schema.{Declaration}

-- no table has more than 16 columns
pub record AreNarrow (schema : List Declaration) : Type 0 where
  pub each : (number : ℕ) (table : Declaration) → slice_get schema number ≡ Some table → length table.columns ≤ 16

-- What a turn fetches.
use Rattle.std.specs.Prelude.{ℕ}
use Rattle.sv_app.specs.Tables.{Tables}
use Rattle.sv_effect.specs.declared.reads.Ask.{Ask}
use Rattle.sv_core.specs.Sheets.{IsFetch, SheetView}

-- the sheet got the answer to the ask that the tables give
pub record IsFetched (t : Tables) (ask : Ask) (before after : SheetView) : Type 0 where
  pub count : ℕ
  pub is : IsFetch t ask before count after

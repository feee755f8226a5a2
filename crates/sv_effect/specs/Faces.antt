-- What a source of rows shows of itself: its tables, where they are told; whether it can answer an ask; and a number that falls from each key of a table
-- to the next.
use Rattle.std.specs.Prelude.{ℕ, Bool, Option}
use Rattle.sv_value.specs.declared.values.Key.{Key}
use Rattle.sv_app.specs.Tables.{Tables}
use Rattle.sv_effect.specs.declared.reads.Ask.{Ask}

pub record Face : Type 0 where
  pub tables : Option Tables
  pub knows : Ask → Bool
  pub rest : ℕ → Option Key → ℕ

-- The checks of a table as rows of differences: variable 0 stands for zero, and each column for the variable behind its number.
use Rattle.std.specs.Prelude.{ℕ, suc, ◌^◌, ◌<◌, ◌≤◌, List, length, Option, Some, None}
use Rattle.std.specs.List.{All}
use Rattle.sv_app.specs.declared.apps.Ident.{Ident}
use Rattle.sv_app.specs.declared.schemas.Check.{Check}
use Rattle.sv_app.specs.Satisfiable.{number_of}
use Rattle.sv_app.specs.Schema.{Rule, Bound, OneOf, Different, Refers, Declaration}
use Rattle.sv_bounds.specs.declared.systems.Diff.{Diff}
use Rattle.sv_bounds.specs.Differences.{IsRow, Within}

abbrev pub variable_of : Option ℕ → ℕ
variable_of None = 0
variable_of (Some column) = suc column

abbrev pub row_of : Check → Diff
row_of check = record { x = variable_of (number_of check.hi); y = variable_of (number_of check.lo); most = check.most }

-- a row over zero and 16 columns, its bound one of 64 bits
pub record IsCheckRow (diff : Diff) : Type 0 where
  pub row : IsRow 17 diff
  pub short : Within (2 ^ 63) diff.most

-- columns are numbered below 16
abbrev pub IsNarrowSide : Option Ident → Type 0
IsNarrowSide None = Unit {0}
IsNarrowSide (Some column) = column.num < 16

abbrev pub IsNarrowCheck : Check → Type 0
IsNarrowCheck check = IsNarrowSide check.hi × IsNarrowSide check.lo

abbrev pub IsNarrowRule : Rule → Type 0
IsNarrowRule (Bound check) = IsNarrowCheck check
IsNarrowRule (OneOf name texts) = Unit {0}
IsNarrowRule (Different name) = Unit {0}
IsNarrowRule (Refers name table target) = Unit {0}

pub record IsNarrowTable (t : Declaration) : Type 0 where
  pub few : length t.invs ≤ 16
  pub narrow : All (λ inv. IsNarrowRule inv.rule) t.invs

pub record AreNarrow (schema : List Declaration) : Type 0 where
  pub few : length schema ≤ 16
  pub each : All IsNarrowTable schema

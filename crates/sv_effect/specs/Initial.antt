-- Initial rows fit the schema: the table of each is declared, its values are of the columns' types, its key is the one that they show and isn't left to
-- be drawn, and no two stand at one place.
use Rattle.std.specs.Prelude.{◌≡◌, ◌<ℤ◌, true, List, [], ◌∷◌, All, Some, slice_get}
use Rattle.sv_value.specs.declared.values.Val.{Val}
use Rattle.sv_app.specs.declared.requests.InitRow.{InitRow}
use Rattle.sv_app.specs.declared.schemas.Column.{Column}
use Rattle.sv_app.specs.Draws.{first_of_all}
use Rattle.sv_app.specs.Fitting.{number_in}
use Rattle.sv_app.specs.Kinds.{is_fresh}
use Rattle.sv_app.specs.Schema.{Declaration}
use Rattle.sv_effect.specs.RowChange.{key_values}
use Rattle.sv_effect.specs.Fits.{HasType, KeyFits}
use Rattle.sv_effect.specs.RunChanges.{key_in}
use Rattle.sv_effect.specs.TablesOfCut.{init_place}

-- a value of its type for each column
abbrev pub ValuesFit : List Column → List Val → Type 0
ValuesFit [] [] = Unit {0}
ValuesFit (column ∷ columns) (v ∷ vs) = HasType column.ty v × ValuesFit columns vs
ValuesFit _ _ = ⊥

pub record InitFits (schema : List Declaration) (row : InitRow) : Type 0 where
  pub table : Declaration
  pub declared : slice_get schema row.table ≡ Some table
  pub key : KeyFits table.columns table.key (key_values row.key)
  pub values : ValuesFit table.columns row.values
  pub keyed : row.key ≡ key_in table.key row.values
  pub unreserved : is_fresh table ≡ true → number_in row.key.first <ℤ first_of_all

abbrev pub AreDistinct : List InitRow → Type 0
AreDistinct [] = Unit {0}
AreDistinct (row ∷ rows) = All (λ other. init_place row ≡ init_place other → ⊥) rows × AreDistinct rows

-- Where initial rows are refused.
use Rattle.std.specs.Prelude.{◌≡◌, ◌≤◌, ◌≤ℤ◌, true, List, [], ◌∷◌, ◌++◌, length, Some, None, codes}
use Rattle.std.specs.List.{Contains}
use Rattle.sv_lex.specs.declared.marks.Mark.TheVariants.{Percents}
use Rattle.sv_lex.specs.declared.tokens.Token.{Token}
use Rattle.sv_lex.specs.declared.tokens.TokenKind.TheVariants.{Name, Mark}
use Rattle.sv_app.specs.declared.apps.Ident.{Ident}
use Rattle.sv_app.specs.declared.refusals.Code.{Code}
use Rattle.sv_app.specs.declared.refusals.Code.TheVariants.{Syntax, Unknown, Twice, Typing, Many, Reserved}
use Rattle.sv_app.specs.Draws.{first_of_all}
use Rattle.sv_app.specs.Fitting.{number_in}
use Rattle.sv_app.specs.Kinds.{is_fresh}
use Rattle.sv_app.specs.Lookups.{table_of}
use Rattle.sv_app.specs.Schema.{Declaration}
use Rattle.sv_effect.specs.TablesOfCut.{init_place}
use Rattle.sv_reader.specs.Grammar.{IsName}
use Rattle.sv_workload.specs.Elements.{IsMisplaced, Among}
use Rattle.sv_workload.specs.Fits.{RowFits}
use Rattle.sv_workload.specs.Grammar.{row, init_head, init_part}
use Rattle.sv_workload.specs.Rows.{init_row}
use Rattle.sv_workload.specs.declared.written.Row.{Row}

-- a name stands here
abbrev pub BeginsName : Ident → List Token → Type 0
BeginsName ident [] = ⊥
BeginsName ident (token ∷ others) = IsName ident token

-- a row begins here
pub record BeginsRow (tokens : List Token) : Type 0 where
  pub table : Ident
  pub is : BeginsName table tokens

-- an earlier row has the same table and the same key
pub record IsRepeated (schema : List Declaration) (before : List Row) (r : Row) : Type 0 where
  pub other : Row
  pub earlier : Contains before other
  pub same : init_place (init_row schema other) ≡ init_place (init_row schema r)

-- the row's key is one of those that its table draws
pub record IsLeftToDraw (schema : List Declaration) (table : Declaration) (r : Row) : Type 0 where
  pub fresh : is_fresh table ≡ true
  pub large : first_of_all ≤ℤ number_in (init_row schema r).key.first

-- a refusal in the row that begins here, behind these rows
pub data RowRefused (schema : List Declaration) (before : List Row) (tokens : List Token) : Code → List Token → Type 0 where
  Misplaced : (here : List Token) → BeginsRow tokens → IsMisplaced row tokens here → RowRefused schema before tokens Syntax here
  NoTable : (table : Ident) → BeginsName table tokens → table_of schema table ≡ None → RowRefused schema before tokens Unknown tokens
  Unfit : (r : Row) (front rest : List Token) (table : Declaration) → tokens ≡ front ++ rest → row r front → table_of schema r.table ≡ Some table → (RowFits table r → ⊥)
      → RowRefused schema before tokens Typing tokens
  Repeated : (r : Row) (front rest : List Token) (table : Declaration) → tokens ≡ front ++ rest → row r front → table_of schema r.table ≡ Some table → length r.values ≡ length table.columns
      → IsRepeated schema before r → RowRefused schema before tokens Twice tokens
  LeftToDraw : (r : Row) (front rest : List Token) (table : Declaration) → tokens ≡ front ++ rest → row r front → table_of schema r.table ≡ Some table
      → IsLeftToDraw schema table r → RowRefused schema before tokens Reserved tokens
  TooMany : BeginsRow tokens → 4096 ≤ length before → RowRefused schema before tokens Many tokens

-- a refusal in the initial rows
pub data InitRefused (schema : List Declaration) (tokens : List Token) : Code → List Token → Type 0 where
  InRows : (front rest : List Token) (code : Code) (here : List Token) → tokens ≡ front ++ rest → init_head front → Among row (RowRefused schema) [] rest code here
      → InitRefused schema tokens code here

-- "%%" "init" stands here
abbrev pub BeginsInit : List Token → Type 0
BeginsInit (mark ∷ word ∷ others) = (mark.kind ≡ Mark Percents) × (word.kind ≡ Name (codes "init"))
BeginsInit _ = ⊥

-- the initial rows that stand here, if any, and the tokens behind them
pub data AreInit (tokens : List Token) : List Row → List Token → Type 0 where
  NoInit : (BeginsInit tokens → ⊥) → AreInit tokens [] tokens
  Init : (rows : List Row) (front rest : List Token) → tokens ≡ front ++ rest → init_part rows front → (BeginsRow rest → ⊥) → AreInit tokens rows rest

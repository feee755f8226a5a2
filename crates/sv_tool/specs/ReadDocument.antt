-- What the program has of a document that it read, and the answer that it writes.
use Rattle.std.specs.Prelude.{◌≡◌, ℕ, List}
use Rattle.sv_lex.specs.declared.tokens.Token.{Token}
use Rattle.sv_app.specs.declared.apps.App.{App}
use Rattle.sv_app.specs.Accepted.{AcceptedApp}
use Rattle.sv_app.specs.Numbers.{numbered}
use Rattle.sv_app.specs.Schema.{Declaration, schema_of}
use Rattle.sv_app.specs.Trees.{Transaction, transactions_of}
use Rattle.sv_app.specs.TxnNumbers.{numbered_txns}
use Rattle.sv_listing.specs.Frugal.{Frugal}
use Rattle.sv_listing.specs.Right.{Right}
use Rattle.sv_workload.specs.PartsFit.{PartsFit}
use Rattle.sv_tool.specs.declared.answers.Answer.{Answer as CodeAnswer}
use Rattle.sv_tool.specs.declared.documents.Checked.{Checked}
use Rattle.sv_tool.specs.Answer.{Answer}
use Rattle.sv_tool.specs.Documents.{AreAccepted, AreBehind, IsDocument}

-- the application of these tables and transactions, with their names numbered
pub record IsAppOf (schema : List Declaration) (txns : List Transaction) (app : App) : Type 0 where
  pub tables : schema_of app.tables.items ≡ numbered schema
  pub transactions : transactions_of app.txns.items ≡ numbered_txns schema txns

-- the application is accepted, its dictionary is frugal and right, and what stands behind its transactions fits it
pub record IsFit (checked : Checked) : Type 0 where
  pub accepted : AcceptedApp (schema_of checked.app.tables.items) (transactions_of checked.app.txns.items)
  pub frugal : Frugal (schema_of checked.app.tables.items) (transactions_of checked.app.txns.items) checked.dict
  pub right : Right (schema_of checked.app.tables.items) (transactions_of checked.app.txns.items) checked.dict
  pub parts : PartsFit (schema_of checked.app.tables.items) (transactions_of checked.app.txns.items) checked.parts

-- what was read behind tables, from tokens, and from bytes
pub record IsBehind (schema : List Declaration) (tokens : List Token) (checked : Checked) : Type 0 where
  pub txns : List Transaction
  pub are : AreBehind schema tokens txns checked.parts
  pub of : IsAppOf schema txns checked.app

pub record IsOfTokens (tokens : List Token) (checked : Checked) : Type 0 where
  pub schema : List Declaration
  pub txns : List Transaction
  pub are : AreAccepted tokens schema txns checked.parts
  pub of : IsAppOf schema txns checked.app

pub record IsOfBytes (bytes : List ℕ) (checked : Checked) : Type 0 where
  pub schema : List Declaration
  pub txns : List Transaction
  pub is : IsDocument bytes schema txns checked.parts
  pub of : IsAppOf schema txns checked.app

-- the status and the text of an answer
abbrev pub said_by : CodeAnswer → Answer
said_by answer = record { status = answer.status; text = answer.text.items }

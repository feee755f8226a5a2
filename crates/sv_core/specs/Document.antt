-- What a document asks for: its tables and transactions, its initial rows, its sites, its room for rows and changes, its sessions, and how many requests
-- may be answered and how often sessions may move.
use Rattle.std.specs.Prelude.{ℕ, List}
use Rattle.sv_app.specs.declared.requests.InitRow.{InitRow}
use Rattle.sv_app.specs.Schema.{Declaration, schema_of}
use Rattle.sv_app.specs.Trees.{Transaction, transactions_of}
use Rattle.sv_core.specs.declared.docs.Doc.{Doc}
use Rattle.sv_core.specs.declared.docs.Item.{Item}

pub record Document : Type 0 where
  pub schema : List Declaration
  pub txns : List Transaction
  pub init : List InitRow
  pub sites : ℕ
  pub rows : ℕ
  pub changes : ℕ
  pub sessions : List (List Item)
  pub asks : ℕ
  pub moves : ℕ

abbrev pub document_of : Doc → Document
document_of doc = record {
  schema = schema_of doc.app.tables.items;
  txns = transactions_of doc.app.txns.items;
  init = doc.init;
  sites = doc.sites;
  rows = doc.rows;
  changes = doc.changes;
  sessions = doc.sessions;
  asks = doc.asks;
  moves = doc.moves;
}

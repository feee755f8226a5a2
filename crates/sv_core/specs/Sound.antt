-- A sound document: an accepted application, initial rows that fit it and are valid, sessions whose items fit, and numbers within the limits.
use Rattle.std.specs.Prelude.{◌≡◌, ◌≢◌, ◌≤◌, ℕ, ◌+◌, List, [], ◌∷◌, length, All, Some, slice_get}
use Rattle.sv_app.specs.declared.requests.Request.{Request}
use Rattle.sv_app.specs.Accepted.{AcceptedApp}
use Rattle.sv_app.specs.Fitting.{ArgsFit}
use Rattle.sv_app.specs.Limits.{most_init_rows, most_requests, most_sessions, most_steps}
use Rattle.sv_app.specs.Trees.{Transaction}
use Rattle.sv_app.specs.Valid.{Valid}
use Rattle.sv_effect.specs.BareTables.{bare}
use Rattle.sv_effect.specs.Cut.{empty}
use Rattle.sv_effect.specs.Initial.{InitFits, AreDistinct}
use Rattle.sv_effect.specs.StampedTables.{StampedTables}
use Rattle.sv_effect.specs.TablesOfCut.{tables_held}
use Rattle.sv_listing.specs.Frugal.{Frugal}
use Rattle.sv_listing.specs.Right.{Right}
use Rattle.sv_core.specs.declared.docs.Doc.{Doc}
use Rattle.sv_core.specs.declared.docs.Item.{Item}
use Rattle.sv_core.specs.declared.docs.Item.TheVariants.{Call, Go}
use Rattle.sv_core.specs.Document.{Document, document_of}

-- a call of a transaction of the document, with arguments of its parameters' types
pub record RequestFits (doc : Document) (request : Request) : Type 0 where
  pub txn : Transaction
  pub among : slice_get doc.txns request.txn ≡ Some txn
  pub args : ArgsFit txn.params request.args

abbrev pub IsSite : Document → ℕ → Type 0
IsSite doc site = (1 ≤ site) × (site ≤ doc.sites)

abbrev pub ItemFits : Document → Item → Type 0
ItemFits doc (Call request) = RequestFits doc request
ItemFits doc (Go site) = IsSite doc site

abbrev pub calls_in : List Item → ℕ
calls_in [] = 0
calls_in (Call request ∷ items) = 1 + calls_in items
calls_in (Go site ∷ items) = calls_in items

abbrev pub gos_in : List Item → ℕ
gos_in [] = 0
gos_in (Call request ∷ items) = gos_in items
gos_in (Go site ∷ items) = 1 + gos_in items

abbrev pub total : (List Item → ℕ) → List (List Item) → ℕ
total count [] = 0
total count (items ∷ sessions) = count items + total count sessions

-- the tables of the initial rows
abbrev pub initial_tables : Document → StampedTables
initial_tables doc = tables_held doc.schema doc.init empty

pub record Sound (doc : Document) : Type 0 where
  pub accepted : AcceptedApp doc.schema doc.txns
  pub init : All (InitFits doc.schema) doc.init
  pub distinct : AreDistinct doc.init
  pub valid : Valid doc.schema (bare (initial_tables doc))
  pub room : length doc.init ≤ doc.rows
  pub some : 1 ≤ doc.sites
  pub sites : doc.sites ≤ 8
  pub rows : doc.rows ≤ most_init_rows
  pub changes : doc.changes ≤ 65536
  pub sessions : length doc.sessions ≤ most_sessions
  pub items : All (All (ItemFits doc)) doc.sessions
  pub calls : doc.sessions ≢ [] → doc.asks ≡ total calls_in doc.sessions
  pub gos : doc.sessions ≢ [] → doc.moves ≡ total gos_in doc.sessions
  pub asks : doc.asks ≤ most_requests
  pub moves : doc.moves ≤ most_steps

-- what a world is made for is sound if the document is, and the dictionary is frugal and right for it
pub record SoundDoc (doc : Doc) : Type 0 where
  pub document : Sound (document_of doc)
  pub frugal : Frugal (document_of doc).schema (document_of doc).txns doc.dict
  pub right : Right (document_of doc).schema (document_of doc).txns doc.dict

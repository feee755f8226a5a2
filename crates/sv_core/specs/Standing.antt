-- When the state of a site stands for a history of its document: the history is legal, and the state has the packets that the history brings the site, and the tables that it gives it.
use Rattle.std.specs.Prelude.{◌≡◌, ℕ, suc, ◌+◌, ◌<◌, ◌≤◌, List, [], ◌∷◌, ◌++◌, length, max, Some, slice_get}
use Rattle.std.specs.Vec.{vec_capacity}
use Rattle.sv_value.specs.declared.packets.Packet.{Packet}
use Rattle.sv_value.specs.Cuts.{counts, more, origin, number}
use Rattle.sv_app.specs.Schema.{Declaration}
use Rattle.sv_effect.specs.declared.ops.Op.{Op}
use Rattle.sv_effect.specs.Applied.{applied, changes_of}
use Rattle.sv_effect.specs.BareTables.{how_many}
use Rattle.sv_effect.specs.Fits.{OpFits}
use Rattle.sv_effect.specs.RowsFit.{TablesAreOf}
use Rattle.sv_effect.specs.Takes.{FindsRows, KeepsBounds, inserts}
use Rattle.sv_core.specs.declared.sites.SiteState.{SiteState}
use Rattle.sv_core.specs.Clock.{latest_in}
use Rattle.sv_core.specs.Document.{Document, document_of}
use Rattle.sv_core.specs.History.{History, cut_of, published, tables_at}
use Rattle.sv_core.specs.Laws.{IsLawful}
use Rattle.sv_core.specs.Packets.{packets_in, packets_to}
use Rattle.sv_core.specs.Sound.{IsSite}

-- the first so many packets that were published are had by the site
pub record HasFirst (h : History) (site many : ℕ) : Type 0 where
  pub within : many ≤ length (packets_in h)
  pub had : (place : ℕ) (packet : Packet) → place < many → slice_get (packets_in h) place ≡ Some packet → number packet < cut_of h site (origin packet)

pub record Stands (doc : Document) (h : History) (state : SiteState) : Type 0 where
  pub lawful : IsLawful doc h
  pub made : document_of state.doc.value ≡ doc
  pub there : IsSite doc state.site
  pub past : state.past.items ≡ packets_to h state.site
  pub tables : state.rows.tables ≡ tables_at doc h state.site
  pub fit : TablesAreOf doc.schema state.rows.tables
  pub cut : (o : ℕ) → counts state.cut o ≡ cut_of h state.site o
  pub latest : state.latest ≡ latest_in (published doc h) (cut_of h state.site)
  pub room : doc.rows ≤ how_many state.rows.tables + state.rows.room
  pub caught : HasFirst h state.site state.caught
  pub space : doc.asks ≤ vec_capacity state.past

-- what an event leaves of the state of a site, beside its inbox: it stands for the history after the event
pub record Leaves (doc : Document) (h : History) (before after : SiteState) : Type 0 where
  pub stands : Stands doc h after
  pub site : after.site ≡ before.site
  pub same_doc : after.doc ≡ before.doc

-- what bringing an operation asks of a state
pub record CanBring (schema : List Declaration) (packet : Packet) (op : Op) (state : SiteState) : Type 0 where
  pub few : counts state.cut (origin packet) < 4294967295
  pub space : length state.past.items < vec_capacity state.past
  pub rows : TablesAreOf schema state.rows.tables
  pub fits : OpFits schema op
  pub found : FindsRows schema (changes_of op) state.rows.tables
  pub bounds : KeepsBounds schema (changes_of op) state.rows.tables
  pub room : inserts op.effects ≤ state.rows.room

-- what it makes of the state: the operation is applied, its packet is the latest, and all else stands
pub record IsBrought (schema : List Declaration) (packet : Packet) (op : Op) (before after : SiteState) : Type 0 where
  pub tables : after.rows.tables ≡ applied schema op before.rows.tables
  pub fit : TablesAreOf schema after.rows.tables
  pub room : before.rows.room + how_many before.rows.tables ≤ after.rows.room + how_many after.rows.tables
  pub cut : (o : ℕ) → counts after.cut o ≡ more (counts before.cut) (origin packet) o
  pub past : after.past.items ≡ before.past.items ++ packet ∷ []
  pub space : vec_capacity after.past ≡ vec_capacity before.past
  pub latest : after.latest ≡ max before.latest op.time
  pub site : after.site ≡ before.site
  pub same_doc : after.doc ≡ before.doc
  pub inbox : after.inbox ≡ before.inbox
  pub caught : after.caught ≡ before.caught

-- the state of a site to which nothing has happened
pub record IsFresh (doc : Document) (site : ℕ) (state : SiteState) : Type 0 where
  pub stands : Stands doc [] state
  pub is : state.site ≡ site
  pub empty : state.inbox ≡ []

-- so many of them, site 1 first
pub record AreFresh (doc : Document) (many : ℕ) (states : List SiteState) : Type 0 where
  pub long : length states ≡ many
  pub all : (place : ℕ) (state : SiteState) → slice_get states place ≡ Some state → IsFresh doc (suc place) state

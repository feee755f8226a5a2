-- Which histories are legal: each entry at its place is an answer that its site's tables give, a published packet that its site was ready for, or a move of a
-- session.
use Rattle.std.specs.Prelude.{◌≡◌, ◌≢◌, ℕ, ◌+◌, ◌-◌, ◌<◌, ◌≤◌, false, [], ◌∷◌, All, length, take, Option, Some, None, slice_get, ⊤}
use Rattle.sv_value.specs.declared.packets.Packet.{Packet}
use Rattle.sv_value.specs.declared.packets.Packet.TheVariants as packets
use Rattle.sv_value.specs.Cuts.{counts, Covers, origin, number}
use Rattle.sv_app.specs.declared.requests.Request.{Request}
use Rattle.sv_effect.specs.declared.ops.Op.{Op}
use Rattle.sv_effect.specs.BareTables.{bare}
use Rattle.sv_threat.specs.declared.label.Label.{Label}
use Rattle.sv_threat.specs.declared.label.Label.TheVariants.{Nothing, Blue, Red}
use Rattle.sv_core.specs.declared.docs.Item.{Item}
use Rattle.sv_core.specs.declared.docs.Item.TheVariants.{Call, Go}
use Rattle.sv_core.specs.declared.entries.Reply.{Reply}
use Rattle.sv_core.specs.declared.entries.Reply.TheVariants.{Full}
use Rattle.sv_core.specs.declared.entries.Entry.{Entry}
use Rattle.sv_core.specs.declared.entries.Entry.TheVariants.{Answer, Apply, Move}
use Rattle.sv_core.specs.Document.{Document}
use Rattle.sv_core.specs.History.{History, cut_of, back_to, tables_then, run_then, op_of, published, answers, moves, answered, is_of, site_of, seen_of, item_of, items_of, moved}
use Rattle.sv_core.specs.Judged.{IsJudged}
use Rattle.sv_core.specs.Room.{Lack, lack_of}
use Rattle.sv_core.specs.Sound.{RequestFits, IsSite}

pub record IsSession (session : ℕ) : Type 0 where
  pub from : 1 ≤ session
  pub to : session ≤ 64

-- where the document lists sessions, the session's next item is this one
abbrev pub IsListed : Document → History → ℕ → Item → Type 0
IsListed doc h session item = doc.sessions ≢ [] → item_of doc h session ≡ Some item

-- the session asks this at the site where it is, and was answered nothing since `at`, where the site had all that the session has seen
pub record IsAsked (doc : Document) (h : History) (session index : ℕ) (request : Request) (site at : ℕ) : Type 0 where
  pub who : IsSession session
  pub awaited : answers h < doc.asks
  pub next : index ≡ answered h session
  pub lives : site ≡ site_of doc h session
  pub fits : RequestFits doc request
  pub listed : IsListed doc h session (Call request)
  pub place : at ≤ length h
  pub quiet : All (λ e. is_of session e ≡ false) (take (length h - at) h)
  pub seen : Covers (cut_of (back_to at h) site) (seen_of (back_to at h) session)

-- what an answer shows of the reply and the label that were judged, and the packet that is due: without room it publishes nothing
abbrev pub Shows : Option Lack → Reply → Label → Packet → Reply → Label → Option Packet → Type 0
Shows (Some lack) judged label due reply shown packet = (reply ≡ Full lack.which lack.used) × (shown ≡ Nothing) × (packet ≡ None)
Shows None judged label due reply shown packet = (reply ≡ judged) × (shown ≡ label) × (packet ≡ Some due)

-- what is due at this place: a blue operation and an answer that changes nothing are made on all that the site has now, a red one on all reds
abbrev pub IsDue : Document → History → ℕ → ℕ → Op → Reply → Label → Reply → Label → Option Packet → Type 0
IsDue doc h site at op judged Nothing reply shown packet = (at ≡ length h) × (reply ≡ judged) × (shown ≡ Nothing) × (packet ≡ None)
IsDue doc h site at op judged Blue reply shown packet =
    (at ≡ length h) × Shows (lack_of doc (published doc h) op.effects) judged Blue (packets.Blue site (length (published doc h site))) reply shown packet
IsDue doc h site at op judged (Red instance place reason) reply shown packet =
    (cut_of (back_to at h) site 0 ≡ length (published doc h 0))
    × Shows (lack_of doc (published doc h) op.effects) judged (Red instance place reason) (packets.Red (length (published doc h 0))) reply shown packet

-- a reply and a label that are right on the site's tables at the place `at`, and the answer shows what is due of them
pub record IsJudgedThen (doc : Document) (h : History) (session index : ℕ) (request : Request) (site at : ℕ) (reply : Reply) (shown : Label) (packet : Option Packet) : Type 0 where
  pub judged : Reply
  pub label : Label
  pub right : IsJudged doc.schema (bare (tables_then doc (published doc h) h site at)) (run_then doc (published doc h) h session index request site at) judged label
  pub due : IsDue doc h site at (op_of doc (published doc h) h session index request site at) judged label reply shown packet

pub record IsAnswer (doc : Document) (h : History) (session index : ℕ) (request : Request) (site at : ℕ) (reply : Reply) (label : Label) (packet : Option Packet) : Type 0 where
  pub asked : IsAsked doc h session index request site at
  pub given : IsJudgedThen doc h session index request site at reply label packet

-- the packet is published, the site lacks it, and has all that it was made on
pub record IsApply (doc : Document) (h : History) (site : ℕ) (packet : Packet) : Type 0 where
  pub op : Op
  pub stands : slice_get (published doc h (origin packet)) (number packet) ≡ Some op
  pub lacks : cut_of h site (origin packet) ≤ number packet
  pub covers : Covers (cut_of h site) (counts op.deps)
  pub there : IsSite doc site

pub record IsMove (doc : Document) (h : History) (session site : ℕ) : Type 0 where
  pub who : IsSession session
  pub there : IsSite doc site
  pub awaited : moves h < doc.moves
  pub listed : IsListed doc h session (Go site)

abbrev pub IsNext : Document → History → Entry → Type 0
IsNext doc h (Answer session index request site at reply label packet) = IsAnswer doc h session index request site at reply label packet
IsNext doc h (Apply site packet) = IsApply doc h site packet
IsNext doc h (Move session site) = IsMove doc h session site

abbrev pub Legal : Document → History → Type 0
Legal doc [] = ⊤
Legal doc (e ∷ h) = IsNext doc h e × Legal doc h

-- each session has as many answers and moves as items, and each site has all that was published
pub record Completed (doc : Document) (h : History) : Type 0 where
  pub sessions : (session : ℕ) → IsSession session → answered h session + moved h session ≡ length (items_of doc session)
  pub sites : (site o : ℕ) → IsSite doc site → cut_of h site o ≡ length (published doc h o)

-- What the fields of a medium are of its document and its history.
use Rattle.std.specs.Prelude.{◌≡◌, ℕ, suc, ◌+◌, ◌*◌, ◌-◌, ◌<◌, ◌≤◌, false, List, [], All, length, map, take, Option, Some, None, slice_get, IfSome}
use Rattle.sv_value.specs.declared.packets.Packet.{Packet}
use Rattle.sv_value.specs.declared.packets.Packet.TheVariants as packets
use Rattle.sv_value.specs.Cuts.{counts, Covers}
use Rattle.sv_effect.specs.declared.ops.Op.{Op}
use Rattle.sv_effect.specs.BareTables.{bare}
use Rattle.sv_effect.specs.Cut.{as_deps}
use Rattle.sv_threat.specs.declared.label.Label.{Label}
use Rattle.sv_threat.specs.declared.label.Label.TheVariants.{Nothing, Blue, Red}
use Rattle.sv_core.specs.declared.docs.Doc.{Doc}
use Rattle.sv_core.specs.declared.docs.Item.TheVariants.{Call}
use Rattle.sv_core.specs.declared.entries.Entry.{Entry}
use Rattle.sv_core.specs.declared.entries.Entry.TheVariants.{Answer, Apply, Move}
use Rattle.sv_core.specs.declared.prepared.Prepared.{Prepared}
use Rattle.sv_core.specs.declared.sessions.Proposal.{Proposal as KeptProposal}
use Rattle.sv_core.specs.declared.sessions.Session.{Session}
use Rattle.sv_core.specs.Counts.{AreShort, AddsShort}
use Rattle.sv_core.specs.Document.{Document, document_of}
use Rattle.sv_core.specs.Events.{IsFree, IsRed}
use Rattle.sv_core.specs.History.{History, cut_of, back_to, tables_then, op_of, published, answers, answered, moved, is_of, site_of, seen_of}
use Rattle.sv_core.specs.Laws.{IsLawful}
use Rattle.sv_core.specs.Legal.{IsListed}
use Rattle.sv_core.specs.Made.{Made, IsRight}
use Rattle.sv_core.specs.Mediums.{Proposal, MediumView, proposal_of, how_many_pending, doc_of}
use Rattle.sv_core.specs.Publications.{Published, ArePublished}
use Rattle.sv_core.specs.Sound.{SoundDoc}

-- what was prepared for the session's next request, and run where so many entries stood, is right on the tables of that place, and the session was answered nothing since
pub record IsHeld (doc : Document) (h : History) (session : ℕ) (proposal : KeptProposal) : Type 0 where
  pub whose : proposal.p.session ≡ session
  pub next : proposal.p.index ≡ answered h session
  pub lives : proposal.p.site ≡ site_of doc h session
  pub made : Made doc proposal.p
  pub listed : IsListed doc h session (Call proposal.p.request)
  pub place : proposal.at ≤ length h
  pub quiet : All (λ e. is_of session e ≡ false) (take (length h - proposal.at) h)
  pub seen : Covers (cut_of (back_to proposal.at h) proposal.p.site) (seen_of (back_to proposal.at h) session)
  pub right : IsRight doc proposal.p (bare (tables_then doc (published doc h) h proposal.p.site proposal.at))
  pub deps : proposal.deps ≡ as_deps (cut_of (back_to proposal.at h) proposal.p.site)
  pub short : All AddsShort proposal.p.effects

-- a proposal that is pending is red
pub record IsPending (doc : Document) (h : History) (session : ℕ) (proposal : KeptProposal) : Type 0 where
  pub held : IsHeld doc h session proposal
  pub red : IsRed proposal.p.label

-- a red operation is due where no red one was published since it was run, and every other answer at once
abbrev pub IsDueNow : Document → History → ℕ → ℕ → Label → Type 0
IsDueNow doc h site at Nothing = at ≡ length h
IsDueNow doc h site at Blue = at ≡ length h
IsDueNow doc h site at (Red instance place reason) = cut_of (back_to at h) site 0 ≡ length (published doc h 0)

-- the packet that is due to an answer with this label
abbrev pub packet_due : Document → History → ℕ → Label → Option Packet
packet_due doc h site Nothing = None
packet_due doc h site Blue = Some (packets.Blue site (length (published doc h site)))
packet_due doc h site (Red instance place reason) = Some (packets.Red (length (published doc h 0)))

-- a further request may be answered or wait
abbrev pub IsAwaited : MediumView → Type 0
IsAwaited m = answers m.history + how_many_pending m.proposals < (doc_of m).asks

-- what was prepared may be answered now
pub record CanAnswer (m : MediumView) (proposal : KeptProposal) : Type 0 where
  pub held : IsHeld (doc_of m) m.history proposal.p.session proposal
  pub due : IsDueNow (doc_of m) m.history proposal.p.site proposal.at proposal.p.label
  pub none : proposal_of m proposal.p.session ≡ None
  pub awaited : IsAwaited m

-- what a commit asks of what was prepared: it was made for the document, at the site where the session is; and where it is for the session's next request and no
-- operation of the session waits, that request is the session's next item, and a further one may be answered
pub record CanCommit (m : MediumView) (p : Prepared) : Type 0 where
  pub made : Made (doc_of m) p
  pub lives : p.site ≡ site_of (doc_of m) m.history p.session
  pub listed : p.index ≡ answered m.history p.session → IsListed (doc_of m) m.history p.session (Call p.request)
  pub awaited : IsFree m p → IsAwaited m

pub record IsSessionState (doc : Document) (h : History) (session : ℕ) (state : Session) : Type 0 where
  pub answered : state.answered ≡ answered h session
  pub moved : state.moved ≡ moved h session
  pub site : state.site ≡ site_of doc h session
  pub seen : (o : ℕ) → counts state.seen o ≡ seen_of h session o
  pub proposal : IfSome state.proposal (λ proposal. IsPending doc h session proposal)

abbrev pub shown : Option KeptProposal → Option Proposal
shown None = None
shown (Some proposal) = Some (record { index = proposal.p.index; request = proposal.p.request; at = proposal.at })

abbrev pub proposals_in : List Session → List (Option Proposal)
proposals_in sessions = map (λ state. shown state.proposal) sessions

pub record Keeps (doc : Document) (h : History) (k : Published) (sessions : List Session) (capacity : ℕ) : Type 0 where
  pub lawful : IsLawful doc h
  pub short : AreShort doc (published doc h)
  pub ops : ArePublished doc h k
  pub long : length sessions ≡ 64
  pub states : (place : ℕ) (state : Session) → slice_get sessions place ≡ Some state → IsSessionState doc h (suc place) state
  pub awaited : answers h + how_many_pending (proposals_in sessions) ≤ doc.asks
  pub space : 9 * doc.asks + doc.moves ≤ capacity

-- what a medium is: its document is sound, with a frugal and right dictionary, and its fields are those of its history
pub record IsKept (doc : Doc) (h : History) (k : Published) (sessions : List Session) (capacity : ℕ) : Type 0 where
  pub sound : SoundDoc doc
  pub fields : Keeps (document_of doc) h k sessions capacity

-- an answer of the session that publishes nothing
abbrev pub IsReply : ℕ → Entry → Type 0
IsReply k (Answer session index request site at reply label None) = session ≡ k
IsReply k (Answer session index request site at reply label (Some packet)) = ⊥
IsReply k (Apply site packet) = ⊥
IsReply k (Move session site) = ⊥

-- an answer of the session that publishes the operation under this packet
abbrev pub Publishes : Document → History → ℕ → Packet → Op → Entry → Type 0
Publishes doc h k due op (Answer session index request site at reply label None) = ⊥
Publishes doc h k due op (Answer session index request site at reply label (Some packet)) =
    (session ≡ k) × (packet ≡ due) × (op ≡ op_of doc (published doc h) h session index request site at)
Publishes doc h k due op (Apply site packet) = ⊥
Publishes doc h k due op (Move session site) = ⊥

-- so many sessions, to which nothing has happened
pub record AreFreshSessions (doc : Document) (many : ℕ) (sessions : List Session) : Type 0 where
  pub long : length sessions ≡ many
  pub states : (place : ℕ) (state : Session) → slice_get sessions place ≡ Some state → IsSessionState doc [] (suc place) state
  pub none : (place : ℕ) (state : Session) → slice_get sessions place ≡ Some state → state.proposal ≡ None

-- the site of an entry
abbrev pub site_in : Entry → ℕ
site_in (Answer session index request site at reply label packet) = site
site_in (Apply site packet) = site
site_in (Move session site) = site

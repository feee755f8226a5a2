-- What all sites share: the document, the history, and the proposal of each session that has one pending: a red operation that waits for its slot.
use Rattle.std.specs.Prelude.{◌≡◌, ℕ, ◌+◌, ◌-◌, List, [], ◌∷◌, length, set, get_or, Option, Some, None, IfSome}
use Rattle.sv_value.specs.declared.packets.Packet.{Packet}
use Rattle.sv_app.specs.declared.requests.Request.{Request}
use Rattle.sv_core.specs.declared.docs.Doc.{Doc}
use Rattle.sv_core.specs.declared.docs.Item.TheVariants.{Call}
use Rattle.sv_core.specs.declared.entries.Entry.{Entry}
use Rattle.sv_core.specs.Document.{Document, document_of}
use Rattle.sv_core.specs.History.{History, answered}
use Rattle.sv_core.specs.Legal.{IsListed, IsSession}

-- the request, its index, and how many entries stood when it was run
pub record Proposal : Type 0 where
  pub index : ℕ
  pub request : Request
  pub at : ℕ

-- the proposals are those of the sessions 1 to 64, in order
pub record MediumView : Type 0 where
  pub doc : Doc
  pub history : History
  pub proposals : List (Option Proposal)

abbrev pub doc_of : MediumView → Document
doc_of m = document_of m.doc

abbrev pub proposal_of : MediumView → ℕ → Option Proposal
proposal_of m session = get_or m.proposals (session - 1) None

-- it is for the session's next request, and where the document lists sessions, the session's next item is that call
pub record IsNextCall (m : MediumView) (session : ℕ) (proposal : Proposal) : Type 0 where
  pub next : proposal.index ≡ answered m.history session
  pub listed : IsListed (doc_of m) m.history session (Call proposal.request)

-- the sessions 1 to 64 each have a place, and every proposal that is pending is for its session's next call
pub record AreNextCalls (m : MediumView) : Type 0 where
  pub long : length m.proposals ≡ 64
  pub each : (session : ℕ) → IsSession session → IfSome (proposal_of m session) (λ proposal. IsNextCall m session proposal)

abbrev pub with_proposal : MediumView → ℕ → Option Proposal → MediumView
with_proposal m session proposal = record { doc = m.doc; history = m.history; proposals = set m.proposals (session - 1) proposal }

abbrev pub with_entry : MediumView → Entry → MediumView
with_entry m e = record { doc = m.doc; history = e ∷ m.history; proposals = m.proposals }

abbrev pub with_history : MediumView → History → MediumView
with_history m h = record { doc = m.doc; history = h; proposals = m.proposals }

-- how many proposals are pending
abbrev pub one_if : Option Proposal → ℕ
one_if None = 0
one_if (Some proposal) = 1

abbrev pub how_many_pending : List (Option Proposal) → ℕ
how_many_pending [] = 0
how_many_pending (proposal ∷ proposals) = one_if proposal + how_many_pending proposals

-- what a world is: what its sites share, and the inbox of each site, site 1 first
pub record WorldView : Type 0 where
  pub medium : MediumView
  pub inboxes : List (List Packet)

abbrev pub inbox_of : WorldView → ℕ → List Packet
inbox_of w site = get_or w.inboxes (site - 1) []

abbrev pub with_inbox : WorldView → ℕ → List Packet → WorldView
with_inbox w site inbox = record { medium = w.medium; inboxes = set w.inboxes (site - 1) inbox }

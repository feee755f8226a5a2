-- What the events of a world answer, by their causes, and what each leaves of what the sites share. The causes of one event are asked in the order in which they are
-- listed, and each says that those before it don't hold.
use Rattle.std.specs.Prelude.{◌≡◌, ◌≢◌, ℕ, List, ◌∷◌, ◌++◌, All, length, map, take, Option, Some, None, slice_get}
use Rattle.std.specs.List.{filter}
use Rattle.sv_value.specs.declared.packets.Packet.{Packet}
use Rattle.sv_value.specs.Cuts.{counts, Covers, origin, number}
use Rattle.sv_app.specs.declared.requests.Request.{Request}
use Rattle.sv_app.specs.Tables.{Tables}
use Rattle.sv_effect.specs.declared.ops.Op.{Op}
use Rattle.sv_effect.specs.Agrees.{Agrees, Gives}
use Rattle.sv_effect.specs.BareTables.{bare}
use Rattle.sv_effect.specs.Reads.{Answer as Told, ReadValue, read_of, answer_of}
use Rattle.sv_threat.specs.declared.label.Label.{Label}
use Rattle.sv_threat.specs.declared.label.Label.TheVariants as labels
use Rattle.sv_causal.specs.declared.readiness.Readiness.{Readiness}
use Rattle.sv_causal.specs.declared.readiness.Readiness.TheVariants as readiness
use Rattle.sv_causal.specs.Causes.{IsCause}
use Rattle.sv_causal.specs.Inboxes.{with_packet, lacks}
use Rattle.sv_causal.specs.Missing.{IsFirstMissing}
use Rattle.sv_core.specs.declared.answers.Commit.{Commit}
use Rattle.sv_core.specs.declared.answers.Commit.TheVariants as commits
use Rattle.sv_core.specs.declared.answers.Ordered.{Ordered}
use Rattle.sv_core.specs.declared.answers.Ordered.TheVariants as orders
use Rattle.sv_core.specs.declared.answers.Delivered.{Delivered}
use Rattle.sv_core.specs.declared.answers.Delivered.TheVariants as deliveries
use Rattle.sv_core.specs.declared.answers.Gone.{Gone}
use Rattle.sv_core.specs.declared.answers.Gone.TheVariants as moves
use Rattle.sv_core.specs.declared.entries.Entry.TheVariants.{Answer, Apply, Move}
use Rattle.sv_core.specs.declared.entries.Reply.{Reply}
use Rattle.sv_core.specs.declared.prepared.Prepared.{Prepared}
use Rattle.sv_core.specs.Document.{Document}
use Rattle.sv_core.specs.History.{History, cut_of, back_to, published, tables_at, answered, site_of, seen_of}
use Rattle.sv_core.specs.Legal.{IsNext, IsApply}
use Rattle.sv_core.specs.Mediums.{Proposal, MediumView, proposal_of, with_proposal, with_entry, doc_of}
use Rattle.sv_core.specs.Packets.{lacked, caught_up}

-- an answer was added that is the next entry: this request of the session, with this index, run at the site when so many entries stood
pub record AddsAnswer (before : MediumView) (session index : ℕ) (request : Request) (site at place : ℕ) (after : MediumView) : Type 0 where
  pub reply : Reply
  pub label : Label
  pub packet : Option Packet
  pub next : IsNext (doc_of before) before.history (Answer session index request site at reply label packet)
  pub added : after ≡ with_entry before (Answer session index request site at reply label packet)
  pub stands : place ≡ length before.history

-- the index is the session's next one, and the session has no proposal pending
pub record IsFree (m : MediumView) (p : Prepared) : Type 0 where
  pub next : p.index ≡ answered m.history p.session
  pub none : proposal_of m p.session ≡ None

-- the site has all that the session has seen
pub record IsCurrent (m : MediumView) (p : Prepared) : Type 0 where
  pub free : IsFree m p
  pub covers : Covers (cut_of m.history p.site) (seen_of m.history p.session)

-- the site's tables are what was read
pub record IsUnchanged (m : MediumView) (p : Prepared) : Type 0 where
  pub current : IsCurrent m p
  pub agrees : Agrees (bare (tables_at (doc_of m) m.history p.site)) (map read_of p.reads)

-- the first read that isn't what the tables give, and what they give
pub record IsFirstChange (t : Tables) (reads : List ReadValue) (place : ℕ) (now : Told) : Type 0 where
  pub read : ReadValue
  pub stands : slice_get reads place ≡ Some read
  pub gives : Gives t read.ask now
  pub differs : read.answer ≢ now
  pub before : Agrees t (take place reads)

abbrev pub IsRed : Label → Type 0
IsRed labels.Nothing = ⊥
IsRed labels.Blue = ⊥
IsRed (labels.Red instance place reason) = Unit {0}

abbrev pub IsCommit : MediumView → Prepared → Commit → MediumView → Type 0
IsCommit m p (commits.NotNext back next) after = (back ≡ p) × (next ≡ answered m.history p.session) × (p.index ≢ next) × (after ≡ m)
IsCommit m p (commits.Waiting back index) after =
    (back ≡ p) × (p.index ≡ answered m.history p.session) × ((proposal : Proposal) × (proposal_of m p.session ≡ Some proposal) × (index ≡ proposal.index)) × (after ≡ m)
IsCommit m p (commits.Short back missing) after =
    (back ≡ p) × IsFree m p × IsFirstMissing (cut_of m.history p.site) (seen_of m.history p.session) missing × (after ≡ m)
IsCommit m p (commits.Changed back read now) after =
    (back ≡ p) × IsCurrent m p × IsFirstChange (bare (tables_at (doc_of m) m.history p.site)) (map read_of p.reads) read (answer_of now) × (after ≡ m)
IsCommit m p (commits.Pending expected) after =
    IsUnchanged m p × IsRed p.label × (expected ≡ cut_of m.history p.site 0)
    × (after ≡ with_proposal m p.session (Some (record { index = p.index; request = p.request; at = length m.history })))
IsCommit m p (commits.Answered place) after =
    IsUnchanged m p × (IsRed p.label → ⊥) × AddsAnswer m p.session p.index p.request p.site (length m.history) place after

-- how many reds the site had when the proposal's request was run
abbrev pub expected_of : MediumView → ℕ → Proposal → ℕ
expected_of m session proposal = cut_of (back_to proposal.at m.history) (site_of (doc_of m) m.history session) 0

-- the red operation in the slot is one of the site `owner`
pub record IsOwner (m : MediumView) (slot owner : ℕ) : Type 0 where
  pub op : Op
  pub stands : slice_get (published (doc_of m) m.history 0) slot ≡ Some op
  pub is : owner ≡ op.site

abbrev pub IsOrdered : MediumView → ℕ → Ordered → MediumView → Type 0
IsOrdered m session orders.NonePending after = (proposal_of m session ≡ None) × (after ≡ m)
IsOrdered m session (orders.Behind slot owner) after =
    (proposal : Proposal) × (proposal_of m session ≡ Some proposal) × (slot ≡ expected_of m session proposal) × IsOwner m slot owner × (after ≡ with_proposal m session None)
IsOrdered m session (orders.Answered place) after =
    (proposal : Proposal) × (proposal_of m session ≡ Some proposal) × (expected_of m session proposal ≡ length (published (doc_of m) m.history 0))
    × AddsAnswer (with_proposal m session None) session proposal.index proposal.request (site_of (doc_of m) m.history session) proposal.at place after

-- what becomes of a packet at a site: not published, had before, early, or applied
abbrev pub IsDelivery : Document → History → ℕ → Packet → Delivered → Type 0
IsDelivery doc h site packet (deliveries.Unknown published_now) =
    (slice_get (published doc h (origin packet)) (number packet) ≡ None) × (published_now ≡ length (published doc h (origin packet)))
IsDelivery doc h site packet deliveries.Duplicate =
    (op : Op) × (slice_get (published doc h (origin packet)) (number packet) ≡ Some op) × IsCause (cut_of h site) (counts op.deps) packet readiness.Duplicate
IsDelivery doc h site packet (deliveries.Early missing) =
    (op : Op) × (slice_get (published doc h (origin packet)) (number packet) ≡ Some op) × IsCause (cut_of h site) (counts op.deps) packet (readiness.Early missing)
IsDelivery doc h site packet deliveries.Applied =
    (op : Op) × (slice_get (published doc h (origin packet)) (number packet) ≡ Some op) × IsCause (cut_of h site) (counts op.deps) packet readiness.Now

-- the history after a delivery: an application alone adds an entry
abbrev pub after_delivery : Delivered → ℕ → Packet → History → History
after_delivery deliveries.Applied site packet h = Apply site packet ∷ h
after_delivery deliveries.Duplicate site packet h = h
after_delivery (deliveries.Early missing) site packet h = h
after_delivery (deliveries.Unknown n) site packet h = h

-- the inbox after a delivery: an early packet alone goes there
abbrev pub inbox_after : Delivered → Packet → List Packet → List Packet
inbox_after deliveries.Applied packet inbox = inbox
inbox_after deliveries.Duplicate packet inbox = inbox
inbox_after (deliveries.Early missing) packet inbox = with_packet inbox packet
inbox_after (deliveries.Unknown n) packet inbox = inbox

-- what a site settles: of the packets of its inbox that it lacks the first that may be applied
pub record IsFirstReady (doc : Document) (h : History) (site : ℕ) (inbox : List Packet) (packet : Packet) (left : List Packet) : Type 0 where
  pub before : List Packet
  pub behind : List Packet
  pub stands : filter (lacks (cut_of h site)) inbox ≡ before ++ packet ∷ behind
  pub not_yet : All (λ q. IsApply doc h site q → ⊥) before
  pub ready : IsApply doc h site packet
  pub rest : left ≡ before ++ behind

abbrev pub IsSettled : Document → History → ℕ → List Packet → Option Packet → List Packet → History → Type 0
IsSettled doc h site inbox None left after =
    All (λ q. IsApply doc h site q → ⊥) (filter (lacks (cut_of h site)) inbox) × (left ≡ filter (lacks (cut_of h site)) inbox) × (after ≡ h)
IsSettled doc h site inbox (Some packet) left after = IsFirstReady doc h site inbox packet left × (after ≡ Apply site packet ∷ h)

-- the site applied all that it lacked, and `count` tells how many packets these were
pub record IsCaught (h : History) (site count : ℕ) (after : History) : Type 0 where
  pub many : count ≡ length (lacked h site)
  pub all : after ≡ caught_up h site

abbrev pub IsGone : MediumView → ℕ → ℕ → Gone → MediumView → Type 0
IsGone m session site (moves.Waiting index) after = ((proposal : Proposal) × (proposal_of m session ≡ Some proposal) × (index ≡ proposal.index)) × (after ≡ m)
IsGone m session site (moves.Moved place) after = (proposal_of m session ≡ None) × (place ≡ length m.history) × (after ≡ with_entry m (Move session site))

-- whether a packet is ready at a site; none where it isn't published
abbrev pub IsReadiness : Document → History → ℕ → Packet → Option Readiness → Type 0
IsReadiness doc h site packet None = slice_get (published doc h (origin packet)) (number packet) ≡ None
IsReadiness doc h site packet (Some r) = (op : Op) × (slice_get (published doc h (origin packet)) (number packet) ≡ Some op) × IsCause (cut_of h site) (counts op.deps) packet r

-- the place of the first packet of a list that may be applied
abbrev pub IsFirstPlace : Document → History → ℕ → List Packet → Option ℕ → Type 0
IsFirstPlace doc h site packets None = All (λ q. IsApply doc h site q → ⊥) packets
IsFirstPlace doc h site packets (Some place) =
    (packet : Packet) × (slice_get packets place ≡ Some packet) × IsApply doc h site packet × All (λ q. IsApply doc h site q → ⊥) (take place packets)

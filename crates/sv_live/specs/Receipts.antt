-- What a receipt says of the history that its request has seen.
use Rattle.std.specs.Prelude.{◌≡◌, ℕ, ◌+◌, ◌≤◌, length, reverse, Option, Some, IfSome, slice_get}
use Rattle.sv_value.specs.declared.packets.Packet.{Packet}
use Rattle.sv_app.specs.declared.requests.Request.{Request}
use Rattle.sv_threat.specs.declared.label.Label.{Label}
use Rattle.sv_core.specs.declared.entries.Entry.TheVariants.{Answer}
use Rattle.sv_core.specs.declared.entries.Reply.{Reply}
use Rattle.sv_core.specs.Document.{Document}
use Rattle.sv_core.specs.History.{History, answered, items_of, moved}
use Rattle.sv_core.specs.Sound.{calls_in}
use Rattle.sv_live.specs.declared.answers.Receipt.{Receipt}
use Rattle.sv_live.specs.declared.answers.Receipt.TheVariants.{Answered, Ended}

-- a session that the document lists
pub record IsListedSession (doc : Document) (session : ℕ) : Type 0 where
  pub from : 1 ≤ session
  pub to : session ≤ length doc.sessions

-- at the place stands the answer to the session's request of this index, which published the packet
pub record IsAnswerAt (h : History) (session place index : ℕ) (packet : Option Packet) : Type 0 where
  pub request : Request
  pub site : ℕ
  pub at : ℕ
  pub reply : Reply
  pub label : Label
  pub stands : slice_get (reverse h) place ≡ Some (Answer session index request site at reply label packet)

-- an answer of the session stands at the place
pub record HasAnswer (h : History) (session place : ℕ) : Type 0 where
  pub index : ℕ
  pub packet : Option Packet
  pub answer : IsAnswerAt h session place index packet

-- it stands behind all that was seen before
pub record IsNew (before after : History) (session place index : ℕ) : Type 0 where
  pub packet : Option Packet
  pub answer : IsAnswerAt after session place index packet
  pub unseen : length before ≤ place

-- all items of the session are done
abbrev pub IsEnded : Document → History → ℕ → Type 0
IsEnded doc h session = answered h session + moved h session ≡ length (items_of doc session)

-- and so many of them are requests, each of which is answered
pub record IsEndedWith (doc : Document) (h : History) (session count : ℕ) : Type 0 where
  pub ended : IsEnded doc h session
  pub calls : count ≡ calls_in (items_of doc session)
  pub answers : count ≡ answered h session

abbrev pub IsReceipt : Document → History → History → ℕ → Receipt → Type 0
IsReceipt doc before after session (Answered place index) = IsNew before after session place index
IsReceipt doc before after session (Ended count) = IsEndedWith doc after session count

abbrev pub IsReceiptIfAny : Document → History → History → ℕ → Option Receipt → Type 0
IsReceiptIfAny doc before after session receipt = IfSome receipt (IsReceipt doc before after session)

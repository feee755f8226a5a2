-- Each event has one answer: what a medium is, and what the event is given, settle what it answers and what it leaves.
use Rattle.std.specs.Prelude.{◌≡◌, ℕ, List, Option}
use Rattle.sv_value.specs.declared.packets.Packet.{Packet}
use Rattle.sv_core.specs.declared.answers.Commit.{Commit}
use Rattle.sv_core.specs.declared.answers.Delivered.{Delivered}
use Rattle.sv_core.specs.declared.answers.Gone.{Gone}
use Rattle.sv_core.specs.declared.answers.Ordered.{Ordered}
use Rattle.sv_core.specs.declared.prepared.Prepared.{Prepared}
use Rattle.sv_core.specs.Document.{Document}
use Rattle.sv_core.specs.Events.{IsCommit, IsDelivery, IsGone, IsOrdered, IsSettled}
use Rattle.sv_core.specs.History.{History}
use Rattle.sv_core.specs.Mediums.{MediumView}

-- two answers are the same, and so is what they leave
pub record SameAnswer {A B : Type 0} (a b : A) (x y : B) : Type 0 where
  pub answers : a ≡ b
  pub leaves : x ≡ y

abbrev pub CommitOnce : Type 0
CommitOnce = (m x y : MediumView) (p : Prepared) (a b : Commit) → IsCommit m p a x → IsCommit m p b y → SameAnswer a b x y

abbrev pub OrderOnce : Type 0
OrderOnce = (m x y : MediumView) (session : ℕ) (a b : Ordered) → IsOrdered m session a x → IsOrdered m session b y → SameAnswer a b x y

-- what it leaves follows from the answer
abbrev pub DeliveryOnce : Type 0
DeliveryOnce = (doc : Document) (h : History) (site : ℕ) (packet : Packet) (a b : Delivered) → IsDelivery doc h site packet a → IsDelivery doc h site packet b → a ≡ b

-- it leaves an inbox and a history
abbrev pub SettleOnce : Type 0
SettleOnce = (doc : Document) (h : History) (site : ℕ) (inbox left rest : List Packet) (a b : Option Packet) (x y : History)
    → IsSettled doc h site inbox a left x → IsSettled doc h site inbox b rest y → SameAnswer {B = List Packet × History} a b (left, x) (rest, y)

abbrev pub GoOnce : Type 0
GoOnce = (m x y : MediumView) (session site : ℕ) (a b : Gone) → IsGone m session site a x → IsGone m session site b y → SameAnswer a b x y

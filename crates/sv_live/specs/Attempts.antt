-- What an attempt to answer a request says, by its causes, and what it leaves of what the sites share.
use Rattle.std.specs.Prelude.{◌≡◌, ◌⊎◌, ℕ, Some, None}
use Rattle.sv_core.specs.declared.answers.Commit.TheVariants as commits
use Rattle.sv_core.specs.declared.answers.Ordered.TheVariants as orders
use Rattle.sv_core.specs.declared.prepared.Prepared.{Prepared}
use Rattle.sv_core.specs.Events.{IsCommit, IsOrdered}
use Rattle.sv_core.specs.History.{site_of}
use Rattle.sv_core.specs.Mediums.{MediumView, Proposal, doc_of, proposal_of, with_history}
use Rattle.sv_core.specs.Packets.{caught_up}
use Rattle.sv_live.specs.declared.answers.Attempt.{Attempt}
use Rattle.sv_live.specs.declared.answers.Attempt.TheVariants.{Answered, Behind, Changed, NotNext, Short}
use Rattle.sv_live.specs.Receipts.{IsAnswerAt}

-- an operation of the session waits for its slot
pub record IsWaiting (m : MediumView) (session : ℕ) : Type 0 where
  pub proposal : Proposal
  pub is : proposal_of m session ≡ Some proposal

-- an operation of the session waits for its slot: the one that was prepared, or one that waited before
abbrev pub IsProposed : MediumView → Prepared → MediumView → Type 0
IsProposed m p after = ((index : ℕ) × IsCommit m p (commits.Waiting p index) after) ⊎ ((expected : ℕ) × IsCommit m p (commits.Pending expected) after)

-- its slot was asked for: another operation has it, and the site then has all that is published
pub record IsOvertaken (m : MediumView) (session slot owner : ℕ) (after : MediumView) : Type 0 where
  pub ordered : MediumView
  pub is : IsOrdered m session (orders.Behind slot owner) ordered
  pub caught : after ≡ with_history ordered (caught_up ordered.history (site_of (doc_of ordered) ordered.history session))

-- its slot was asked for: the request is answered at this place
abbrev pub IsPlaced : MediumView → ℕ → ℕ → MediumView → Type 0
IsPlaced m session place after = IsOrdered m session (orders.Answered place) after

-- what was prepared is answered at this place, or the operation that waits then
abbrev pub IsEntered : MediumView → Prepared → ℕ → MediumView → Type 0
IsEntered m p place after = IsCommit m p (commits.Answered place) after ⊎ ((between : MediumView) × IsProposed m p between × IsPlaced between p.session place after)

abbrev pub IsAttempt : MediumView → Prepared → Attempt → MediumView → Type 0
IsAttempt m p (Answered place index packet) after = IsEntered m p place after × IsAnswerAt after.history p.session place index packet
IsAttempt m p (Changed read now) after = IsCommit m p (commits.Changed p read now) after
IsAttempt m p (NotNext next) after = IsCommit m p (commits.NotNext p next) after
IsAttempt m p (Behind slot owner) after = (between : MediumView) × IsProposed m p between × IsOvertaken between p.session slot owner after
IsAttempt m p (Short missing) after = IsCommit m p (commits.Short p missing) after

-- what asking for the slot of the operation that waits comes to
abbrev pub IsSlotAsked : MediumView → ℕ → Attempt → MediumView → Type 0
IsSlotAsked m session (Answered place index packet) after = IsPlaced m session place after × IsAnswerAt after.history session place index packet
IsSlotAsked m session (Changed read now) after = ⊥
IsSlotAsked m session (NotNext next) after = ⊥
IsSlotAsked m session (Behind slot owner) after = IsOvertaken m session slot owner after
IsSlotAsked m session (Short missing) after = ⊥

-- unless another request is the session's next one, no operation of it waits
abbrev pub IsFreed : MediumView → ℕ → Attempt → Type 0
IsFreed after session (Answered place index packet) = proposal_of after session ≡ None
IsFreed after session (Changed read now) = proposal_of after session ≡ None
IsFreed after session (NotNext next) = Unit {0}
IsFreed after session (Behind slot owner) = proposal_of after session ≡ None
IsFreed after session (Short missing) = proposal_of after session ≡ None

-- What an attempt leaves.
use Rattle.std.proofs.Common.{◌≡◌, inl, inr, ℕ, ◌-◌, ◌≤◌, List, length, set, get_or, Option, Some, None, refl, ap, ◌∙◌, arith}
use Rattle.std.specs.Prelude.{zero, suc, [], ◌∷◌}
use Rattle.std.proofs.lemmas.List.{get_or-set_same}
use Rattle.sv_hub.specs.Extends.{Extends}
use Rattle.sv_hub.proofs.ExtendsLaws.{extends_trans}
use Rattle.sv_core.specs.declared.answers.Commit.{Commit}
use Rattle.sv_core.specs.declared.answers.Commit.TheVariants as commits
use Rattle.sv_core.specs.declared.answers.Ordered.TheVariants as orders
use Rattle.sv_core.specs.declared.prepared.Prepared.{Prepared}
use Rattle.sv_core.specs.Events.{IsCaught, IsCommit}
use Rattle.sv_core.specs.History.{site_of}
use Rattle.sv_core.specs.Legal.{IsSession}
use Rattle.sv_core.specs.MediumState.{CanCommit}
use Rattle.sv_core.specs.Mediums.{AreNextCalls, MediumView, Proposal, WorldView, doc_of, proposal_of, with_history, with_proposal}
use Rattle.sv_core.specs.Packets.{caught_up}
use Rattle.sv_core.proofs.PastLaws.{caught_grows, commit_grows, commit_stays, order_grows, order_stays}
use Rattle.sv_live.specs.declared.answers.Attempt.{Attempt}
use Rattle.sv_live.specs.declared.answers.Attempt.TheVariants as attempts
use Rattle.sv_live.specs.Attempts.{IsAttempt, IsEntered, IsFreed, IsOvertaken, IsPlaced, IsProposed, IsSlotAsked, IsWaiting}
use Rattle.sv_live.specs.Receipts.{HasAnswer}
use Rattle.sv_live.proofs.ReceiptLaws.{added_stands}

pub session_of : (m : MediumView) (p : Prepared) → CanCommit m p → IsSession p.session
session_of m p can = can.made.who

-- an operation that was proposed waits
pub proposed_waits : (m between : MediumView) (p : Prepared) → IsSession p.session → AreNextCalls m → IsProposed m p between → IsWaiting between p.session
proposed_waits m between p who nexts (inl waits) = record { proposal = is.2.0; is = ap (λ x. proposal_of x p.session) is.3 ∙ is.2.1 }
  where
    is : IsCommit m p (commits.Waiting p waits.0) between
    is = waits.1
proposed_waits m between p who nexts (inr waits) =
    let proposal : Proposal = record { index = p.index; request = p.request; at = length m.history } in
    record { proposal = proposal; is = ap (λ x. proposal_of x p.session) waits.1.3 ∙ get_or-set_same m.proposals (p.session - 1) (Some proposal) None (omega (arith, who.from, who.to, nexts.long)) }

pub slot_asked : (m between after : MediumView) (p : Prepared) (answer : Attempt) → IsProposed m p between → IsSlotAsked between p.session answer after → IsAttempt m p answer after
slot_asked m between after p (attempts.Answered place index packet) proposed is = (inr (between, proposed, is.0), is.1)
slot_asked m between after p (attempts.Changed read now) proposed is = absurd is
slot_asked m between after p (attempts.NotNext next) proposed is = absurd is
slot_asked m between after p (attempts.Behind slot owner) proposed is = (between, proposed, is)
slot_asked m between after p (attempts.Short missing) proposed is = absurd is

-- what a step leaves: the document, and a history that extends what it was
record Leaves (m after : MediumView) : Type 0 where
  same : after.doc ≡ m.doc
  more : Extends after.history m.history

by_commit : (m after : MediumView) (p : Prepared) (answer : Commit) → IsCommit m p answer after → Leaves m after
by_commit m after p answer is = record { same = commit_stays m after p answer is; more = commit_grows m after p answer is }

both : {m between after : MediumView} → Leaves m between → Leaves between after → Leaves m after
both a b = record { same = b.same ∙ a.same; more = extends_trans b.more a.more }

by_proposal : (m between : MediumView) (p : Prepared) → IsProposed m p between → Leaves m between
by_proposal m between p (inl waits) = by_commit m between p (commits.Waiting p waits.0) waits.1
by_proposal m between p (inr waits) = by_commit m between p (commits.Pending waits.0) waits.1

by_slot : (m after : MediumView) (session slot owner : ℕ) → IsOvertaken m session slot owner after → Leaves m after
by_slot m after session slot owner o = both {between = o.ordered}
    (record { same = order_stays m o.ordered session (orders.Behind slot owner) o.is; more = order_grows m o.ordered session (orders.Behind slot owner) o.is })
    (record { same = ap (λ x. x.doc) o.caught; more = caught_grows o.ordered.history after.history (site_of (doc_of o.ordered) o.ordered.history session) _ (record { many = refl; all = ap (λ x. x.history) o.caught }) })

by_place : (m after : MediumView) (session place : ℕ) → IsPlaced m session place after → Leaves m after
by_place m after session place is = record { same = order_stays m after session (orders.Answered place) is; more = order_grows m after session (orders.Answered place) is }

by_entry : (m after : MediumView) (p : Prepared) (place : ℕ) → IsEntered m p place after → Leaves m after
by_entry m after p place (inl is) = by_commit m after p (commits.Answered place) is
by_entry m after p place (inr is) = both (by_proposal m is.0 p is.1) (by_place is.0 after p.session place is.2)

leaves : (m after : MediumView) (p : Prepared) (answer : Attempt) → IsAttempt m p answer after → Leaves m after
leaves m after p (attempts.Answered place index packet) is = by_entry m after p place is.0
leaves m after p (attempts.Changed read now) is = by_commit m after p (commits.Changed p read now) is
leaves m after p (attempts.NotNext next) is = by_commit m after p (commits.NotNext p next) is
leaves m after p (attempts.Behind slot owner) is = both (by_proposal m is.0 p is.1) (by_slot is.0 after p.session slot owner is.2)
leaves m after p (attempts.Short missing) is = by_commit m after p (commits.Short p missing) is

pub attempt_grows : (m after : MediumView) (p : Prepared) (answer : Attempt) → IsAttempt m p answer after → Extends after.history m.history
attempt_grows m after p answer is = (leaves m after p answer is).more

pub attempt_stays : (m after : MediumView) (p : Prepared) (answer : Attempt) → IsAttempt m p answer after → after.doc ≡ m.doc
attempt_stays m after p answer is = (leaves m after p answer is).same

-- nothing waits where a place was cleared, whether the place is there or not
cleared : (xs : List (Option Proposal)) (place : ℕ) → get_or (set xs place None) place None ≡ None
cleared [] place = refl
cleared (x ∷ xs) zero = refl
cleared (x ∷ xs) (suc place) = cleared xs place

placed_frees : (m after : MediumView) (session place : ℕ) → IsPlaced m session place after → proposal_of after session ≡ None
placed_frees m after session place is = ap (λ x. proposal_of x session) is.3.added ∙ cleared m.proposals (session - 1)

entered_frees : (m after : MediumView) (p : Prepared) (place : ℕ) → IsEntered m p place after → proposal_of after p.session ≡ None
entered_frees m after p place (inl is) = ap (λ x. proposal_of x p.session) is.2.added ∙ is.0.current.free.none
entered_frees m after p place (inr is) = placed_frees is.0 after p.session place is.2

pub attempt_frees : (m after : MediumView) (p : Prepared) (answer : Attempt) → IsAttempt m p answer after → IsFreed after p.session answer
attempt_frees m after p (attempts.Answered place index packet) is = entered_frees m after p place is.0
attempt_frees m after p (attempts.Changed read now) is = ap (λ x. proposal_of x p.session) is.3 ∙ is.1.free.none
attempt_frees m after p (attempts.NotNext next) is = tt
attempt_frees m after p (attempts.Behind slot owner) is =
    ap (λ x. proposal_of x p.session) is.2.caught ∙ ap (λ x. proposal_of x p.session) is.2.is.4 ∙ cleared is.0.proposals (p.session - 1)
attempt_frees m after p (attempts.Short missing) is = ap (λ x. proposal_of x p.session) is.3 ∙ is.1.none

pub commit_stands : (m after : MediumView) (p : Prepared) (place : ℕ) → IsCommit m p (commits.Answered place) after → HasAnswer after.history p.session place
commit_stands m after p place is = added_stands m after p.session p.index p.request p.site (length m.history) place is.2

pub order_stands : (m after : MediumView) (session place : ℕ) → IsPlaced m session place after → HasAnswer after.history session place
order_stands m after session place is =
    added_stands (with_proposal m session None) after session is.0.index is.0.request (site_of (doc_of m) m.history session) is.0.at place is.3

-- where an answer is entered nothing stood before
pub entered_new : (m after : MediumView) (p : Prepared) (place : ℕ) → IsEntered m p place after → length m.history ≤ place
entered_new m after p place (inl is) = omega (arith, is.2.stands)
entered_new m after p place (inr is) = by is.1
  where
    there : place ≡ length is.0.history
    there = is.2.3.stands

    by : IsProposed m p is.0 → length m.history ≤ place
    by (inl waits) = let e : length is.0.history ≡ length m.history = ap (λ x. length x.history) waits.1.3 in omega (arith, there, e)
    by (inr waits) = let e : length is.0.history ≡ length m.history = ap (λ x. length x.history) waits.1.3 in omega (arith, there, e)

-- a site that catches up behind an operation of another site
pub caught_there : (w after : WorldView) (session site count : ℕ) → site ≡ site_of (doc_of w.medium) w.medium.history session → IsCaught w.medium.history site count after.medium.history
    → after ≡ record { medium = with_history w.medium after.medium.history; inboxes = w.inboxes }
    → after.medium ≡ with_history w.medium (caught_up w.medium.history (site_of (doc_of w.medium) w.medium.history session))
caught_there w after session site count here caught same =
    ap (λ x. x.medium) same ∙ ap (with_history w.medium) caught.all ∙ ap (λ s. with_history w.medium (caught_up w.medium.history s)) here

pub ruleset attempting = (attempt_grows, attempt_stays, attempt_frees)

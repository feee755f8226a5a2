-- What an event of a world leaves of its name and its past: the document stays, and the history extends what it was. Callers name `growing`.
use Rattle.std.proofs.Common.{◌≡◌, ℕ, zero, suc, List, [], ◌∷◌, Option, Some, None, refl, sym, ap, subst, ◌∙◌}
use Rattle.sv_value.specs.declared.packets.Packet.{Packet}
use Rattle.sv_hub.specs.Extends.{Extends}
use Rattle.sv_hub.proofs.ExtendsLaws.{extends_same, extends_cons, extends_trans}
use Rattle.sv_core.specs.declared.answers.Commit.{Commit}
use Rattle.sv_core.specs.declared.answers.Delivered.{Delivered}
use Rattle.sv_core.specs.declared.answers.Delivered.TheVariants as deliveries
use Rattle.sv_core.specs.declared.answers.Gone.{Gone}
use Rattle.sv_core.specs.declared.answers.Gone.TheVariants as moves
use Rattle.sv_core.specs.declared.answers.Ordered.{Ordered}
use Rattle.sv_core.specs.declared.entries.Entry.{Entry}
use Rattle.sv_core.specs.declared.entries.Entry.TheVariants.{Apply, Move}
use Rattle.sv_core.specs.declared.prepared.Prepared.{Prepared}
use Rattle.sv_core.specs.Document.{Document}
use Rattle.sv_core.specs.Events.{IsCaught, IsCommit, IsGone, IsOrdered, IsSettled, after_delivery, inbox_after}
use Rattle.sv_core.specs.History.{History}
use Rattle.sv_core.specs.Mediums.{MediumView, WorldView, with_history, with_inbox}
use Rattle.sv_core.specs.Packets.{caught_up, finished, lacked, with_applied}
use Rattle.sv_core.proofs.GrowLaws.{Grows, by_commit, by_order}

grown : {m after : MediumView} {site : ℕ} → Grows m after site → Extends after.history m.history
grown g = record { more = g.more; is = g.is }

pub commit_grows : (m after : MediumView) (p : Prepared) (answer : Commit) → IsCommit m p answer after → Extends after.history m.history
commit_grows m after p answer is = grown (by_commit m p answer after is)

pub commit_stays : (m after : MediumView) (p : Prepared) (answer : Commit) → IsCommit m p answer after → after.doc ≡ m.doc
commit_stays m after p answer is = (by_commit m p answer after is).same

pub order_grows : (m after : MediumView) (session : ℕ) (answer : Ordered) → IsOrdered m session answer after → Extends after.history m.history
order_grows m after session answer is = grown (by_order m session answer after is)

pub order_stays : (m after : MediumView) (session : ℕ) (answer : Ordered) → IsOrdered m session answer after → after.doc ≡ m.doc
order_stays m after session answer is = (by_order m session answer after is).same

after_grows : (answer : Delivered) (site : ℕ) (packet : Packet) (h : History) → Extends (after_delivery answer site packet h) h
after_grows deliveries.Applied site packet h = extends_cons (Apply site packet) h
after_grows deliveries.Duplicate site packet h = extends_same h
after_grows (deliveries.Early missing) site packet h = extends_same h
after_grows (deliveries.Unknown n) site packet h = extends_same h

pub delivery_grows : (w after : WorldView) (answer : Delivered) (site to : ℕ) (packet : Packet) (inbox : List Packet)
    → after ≡ with_inbox (record { medium = with_history w.medium (after_delivery answer site packet w.medium.history); inboxes = w.inboxes }) to inbox → Extends after.medium.history w.medium.history
delivery_grows w after answer site to packet inbox is = subst (λ h. Extends h w.medium.history) (sym (ap (λ x. x.medium.history) is)) (after_grows answer site packet w.medium.history)

pub settled_grows : (doc : Document) (h after : History) (site : ℕ) (inbox left : List Packet) (answer : Option Packet) → IsSettled doc h site inbox answer left after → Extends after h
settled_grows doc h after site inbox left None is = subst (λ l. Extends l h) (sym is.2) (extends_same h)
settled_grows doc h after site inbox left (Some packet) is = subst (λ l. Extends l h) (sym is.1) (extends_cons (Apply site packet) h)

applied_grows : (site : ℕ) (packets : List Packet) (h : History) → Extends (with_applied site packets h) h
applied_grows site [] h = extends_same h
applied_grows site (packet ∷ packets) h = extends_trans (applied_grows site packets (Apply site packet ∷ h)) (extends_cons (Apply site packet) h)

pub caught_grows : (h after : History) (site count : ℕ) → IsCaught h site count after → Extends after h
caught_grows h after site count is = subst (λ l. Extends l h) (sym is.all) (applied_grows site (lacked h site) h)

all_grows : (sites : ℕ) (h : History) → Extends (finished sites h) h
all_grows zero h = extends_same h
all_grows (suc site) h = extends_trans (applied_grows (suc site) (lacked (finished site h) (suc site)) (finished site h)) (all_grows site h)

pub finished_grows : (h after : History) (sites : ℕ) → after ≡ finished sites h → Extends after h
finished_grows h after sites is = subst (λ l. Extends l h) (sym is) (all_grows sites h)

-- what sending a session leaves
record Goes (m after : MediumView) : Type 0 where
  same : after.doc ≡ m.doc
  more : Extends after.history m.history

goes : (m after : MediumView) (session site : ℕ) (answer : Gone) → IsGone m session site answer after → Goes m after
goes m after session site (moves.Waiting index) is = record { same = ap (λ x. x.doc) is.1; more = subst (λ x. Extends x.history m.history) (sym is.1) (extends_same m.history) }
goes m after session site (moves.Moved place) is = record { same = ap (λ x. x.doc) is.2; more = subst (λ x. Extends x.history m.history) (sym is.2) (extends_cons (Move session site) m.history) }

pub gone_grows : (m after : MediumView) (session site : ℕ) (answer : Gone) → IsGone m session site answer after → Extends after.history m.history
gone_grows m after session site answer is = (goes m after session site answer is).more

pub gone_stays : (m after : MediumView) (session site : ℕ) (answer : Gone) → IsGone m session site answer after → after.doc ≡ m.doc
gone_stays m after session site answer is = (goes m after session site answer is).same

pub ruleset growing = (commit_grows, commit_stays, order_grows, order_stays, delivery_grows, settled_grows, caught_grows, finished_grows, gone_grows, gone_stays, extends_same, extends_trans)

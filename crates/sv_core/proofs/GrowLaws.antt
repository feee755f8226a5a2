-- The events of a site add entries of that site alone, so the other sites stand for the longer history too.
use Rattle.std.proofs.Common.{◌≡◌, ◌⊎◌, inl, inr, ℕ, zero, suc, ◌-◌, ◌<◌, ◌≤◌, ◌==◌, false, List, [], ◌∷◌, ◌++◌, All, length, set, get_or, Option, Some, None, slice_get, refl, sym, ap, subst, ◌∙◌, arith}
use Rattle.std.specs.Prelude.{replicate}
use Rattle.std.proofs.lemmas.List.{append_assoc}
use Rattle.std.proofs.lemmas.List.Elements.{All-append, All-cons}
use Rattle.sv_value.specs.declared.packets.Packet.{Packet}
use Rattle.sv_app.specs.declared.requests.Request.{Request}
use Rattle.sv_app.proofs.TestLaws.{other_test}
use Rattle.sv_core.specs.declared.answers.Commit.{Commit}
use Rattle.sv_core.specs.declared.answers.Commit.TheVariants as commits
use Rattle.sv_core.specs.declared.answers.Delivered.{Delivered}
use Rattle.sv_core.specs.declared.answers.Delivered.TheVariants as deliveries
use Rattle.sv_core.specs.declared.answers.Gone.{Gone}
use Rattle.sv_core.specs.declared.answers.Gone.TheVariants as moves
use Rattle.sv_core.specs.declared.answers.Ordered.{Ordered}
use Rattle.sv_core.specs.declared.answers.Ordered.TheVariants as orders
use Rattle.sv_core.specs.declared.entries.Entry.{Entry}
use Rattle.sv_core.specs.declared.entries.Entry.TheVariants.{Answer, Apply, Move}
use Rattle.sv_core.specs.declared.prepared.Prepared.{Prepared}
use Rattle.sv_core.specs.declared.sites.SiteState.{SiteState}
use Rattle.sv_core.specs.Document.{Document, document_of}
use Rattle.sv_core.specs.Events.{AddsAnswer, IsCaught, IsCommit, IsDelivery, IsGone, IsOrdered, IsSettled, after_delivery, inbox_after}
use Rattle.sv_core.specs.History.{History, site_of}
use Rattle.sv_core.specs.Laws.{IsLawful}
use Rattle.sv_core.specs.Legal.{IsMove}
use Rattle.sv_core.specs.Mediums.{MediumView, WorldView, doc_of, inbox_of, with_history, with_inbox, with_proposal}
use Rattle.sv_core.specs.Packets.{caught_up, is_at, lacked, with_applied}
use Rattle.sv_core.specs.Sound.{IsSite}
use Rattle.sv_core.specs.Standing.{AreFresh, Leaves, Stands}
use Rattle.sv_core.specs.WorldState.{AreStates, inboxes_in}
use Rattle.sv_core.proofs.ListLaws.{get_some, get_within}
use Rattle.sv_core.proofs.PublicationLaws.{read_at, set_get}
use Rattle.sv_core.proofs.StandLaws.{stands_other}

-- entries of this site alone were added
pub record Grows (m after : MediumView) (site : ℕ) : Type 0 where
  pub same : after.doc ≡ m.doc
  pub more : List Entry
  pub is : after.history ≡ more ++ m.history
  pub others : (t : ℕ) → (t ≡ site → ⊥) → All (λ e. is_at t e ≡ false) more

none : (t : ℕ) → All (λ e. is_at t e ≡ false) []
none t k d lt = absurd (omega (arith, lt))

pub stays : (m after : MediumView) (site : ℕ) → after.doc ≡ m.doc → after.history ≡ m.history → Grows m after site
stays m after site same is = record { same = same; more = []; is = is; others = λ t apart. none t }

one : (m after : MediumView) (site : ℕ) (e : Entry) → after.doc ≡ m.doc → after.history ≡ e ∷ m.history → ((t : ℕ) → is_at t e ≡ (t == site)) → Grows m after site
one m after site e same is at = record {
  same = same;
  more = e ∷ [];
  is = is;
  others = λ t apart. All-cons (λ x. is_at t x ≡ false) e [] (at t ∙ other_test t site apart) (none t);
}

by_answer : (m before after : MediumView) (session index : ℕ) (request : Request) (site at place : ℕ) → before.doc ≡ m.doc → before.history ≡ m.history
    → AddsAnswer before session index request site at place after → Grows m after site
by_answer m before after session index request site at place same is adds =
    one m after site (Answer session index request site at adds.reply adds.label adds.packet) (ap (λ x. x.doc) adds.added ∙ same) (ap (λ x. x.history) adds.added ∙ ap (λ h. Answer session index request site at adds.reply adds.label adds.packet ∷ h) is)
    (λ t. refl)

pub by_commit : (m : MediumView) (p : Prepared) (answer : Commit) (after : MediumView) → IsCommit m p answer after → Grows m after p.site
by_commit m p (commits.NotNext back next) after is = stays m after p.site (ap (λ x. x.doc) is.3) (ap (λ x. x.history) is.3)
by_commit m p (commits.Waiting back index) after is = stays m after p.site (ap (λ x. x.doc) is.3) (ap (λ x. x.history) is.3)
by_commit m p (commits.Short back missing) after is = stays m after p.site (ap (λ x. x.doc) is.3) (ap (λ x. x.history) is.3)
by_commit m p (commits.Changed back read now) after is = stays m after p.site (ap (λ x. x.doc) is.3) (ap (λ x. x.history) is.3)
by_commit m p (commits.Pending expected) after is = stays m after p.site (ap (λ x. x.doc) is.3) (ap (λ x. x.history) is.3)
by_commit m p (commits.Answered place) after is = by_answer m m after p.session p.index p.request p.site (length m.history) place refl refl is.2

pub by_order : (m : MediumView) (session : ℕ) (answer : Ordered) (after : MediumView) → IsOrdered m session answer after → Grows m after (site_of (doc_of m) m.history session)
by_order m session orders.NonePending after is = stays m after (site_of (doc_of m) m.history session) (ap (λ x. x.doc) is.1) (ap (λ x. x.history) is.1)
by_order m session (orders.Behind slot owner) after is = stays m after (site_of (doc_of m) m.history session) (ap (λ x. x.doc) is.4) (ap (λ x. x.history) is.4)
by_order m session (orders.Answered place) after is =
    by_answer m (with_proposal m session None) after session is.0.index is.0.request (site_of (doc_of m) m.history session) is.0.at place refl refl is.3

pub by_delivery : (m : MediumView) (site : ℕ) (packet : Packet) (answer : Delivered) (after : MediumView) → after ≡ with_history m (after_delivery answer site packet m.history) → Grows m after site
by_delivery m site packet deliveries.Applied after is = one m after site (Apply site packet) (ap (λ x. x.doc) is) (ap (λ x. x.history) is) (λ t. refl)
by_delivery m site packet deliveries.Duplicate after is = stays m after site (ap (λ x. x.doc) is) (ap (λ x. x.history) is)
by_delivery m site packet (deliveries.Early missing) after is = stays m after site (ap (λ x. x.doc) is) (ap (λ x. x.history) is)
by_delivery m site packet (deliveries.Unknown n) after is = stays m after site (ap (λ x. x.doc) is) (ap (λ x. x.history) is)

pub by_settle : (m : MediumView) (site : ℕ) (inbox : List Packet) (answer : Option Packet) (left : List Packet) (after : MediumView) → IsSettled (doc_of m) m.history site inbox answer left after.history
    → after ≡ with_history m after.history → Grows m after site
by_settle m site inbox None left after is same = stays m after site (ap (λ x. x.doc) same) is.2
by_settle m site inbox (Some packet) left after is same = one m after site (Apply site packet) (ap (λ x. x.doc) same) is.1 (λ t. refl)

-- what a site applied stands in front
record Applied (site : ℕ) (h : History) (after : History) : Type 0 where
  more : List Entry
  is : after ≡ more ++ h
  others : (t : ℕ) → (t ≡ site → ⊥) → All (λ e. is_at t e ≡ false) more

applied : (site : ℕ) (packets : List Packet) (h : History) → Applied site h (with_applied site packets h)
applied site [] h = record { more = []; is = refl; others = λ t apart. none t }
applied site (packet ∷ packets) h = by (applied site packets (Apply site packet ∷ h))
  where
    by : Applied site (Apply site packet ∷ h) (with_applied site packets (Apply site packet ∷ h)) → Applied site h (with_applied site packets (Apply site packet ∷ h))
    by a = record {
      more = a.more ++ Apply site packet ∷ [];
      is = a.is ∙ sym (append_assoc a.more (Apply site packet ∷ []) h);
      others = λ t apart. All-append (λ e. is_at t e ≡ false) a.more (Apply site packet ∷ []) (a.others t apart)
          (All-cons (λ e. is_at t e ≡ false) (Apply site packet) [] (other_test t site apart) (none t));
    }

pub by_catch : (m : MediumView) (site count : ℕ) (after : MediumView) → IsCaught m.history site count after.history → after ≡ with_history m after.history → Grows m after site
by_catch m site count after is same = record { same = ap (λ x. x.doc) same; more = a.more; is = is.all ∙ a.is; others = a.others }
  where
    a : Applied site m.history (caught_up m.history site)
    a = applied site (lacked m.history site) m.history

set_long : (states : List SiteState) (place : ℕ) (new : SiteState) → length (set states place new) ≡ length states
set_long [] zero new = refl
set_long [] (suc place) new = refl
set_long (state ∷ states) zero new = refl
set_long (state ∷ states) (suc place) new = ap suc (set_long states place new)

-- the states of all sites stand after an event of one
pub states_kept : (m after : MediumView) (states : List SiteState) (place : ℕ) (before new : SiteState) → AreStates (doc_of m) m.history states → slice_get states place ≡ Some before
    → Grows m after before.site → Leaves (doc_of after) after.history before new → AreStates (doc_of after) after.history (set states place new)
states_kept m after states place before new are at grows left = record {
  long = set_long states place new ∙ are.long ∙ ap (λ d. d.sites) (sym same);
  all = λ q state get. stands q state (set_get states place new q state get);
  sites = λ q state get. sits q state (set_get states place new q state get);
}
  where
    same : doc_of after ≡ doc_of m
    same = ap document_of grows.same

    here : before.site ≡ suc place
    here = are.sites place before at

    stands : (q : ℕ) (state : SiteState) → ((q ≡ place) × (new ≡ state)) ⊎ ((q ≡ place → ⊥) × (slice_get states q ≡ Some state)) → Stands (doc_of after) after.history state
    stands q state (inl both) = subst (Stands (doc_of after) after.history) both.1 left.stands
    stands q state (inr old) =
        subst (λ h. Stands (doc_of after) h state) (sym grows.is)
        (stands_other (doc_of after) grows.more m.history state (subst (λ h. IsLawful (doc_of after) h) grows.is left.stands.lawful)
        (grows.others state.site (λ e. old.0 (omega (arith, e, here, are.sites q state old.1))))
        (subst (λ d. Stands d m.history state) (sym same) (are.all q state old.1)))

    sits : (q : ℕ) (state : SiteState) → ((q ≡ place) × (new ≡ state)) ⊎ ((q ≡ place → ⊥) × (slice_get states q ≡ Some state)) → state.site ≡ suc q
    sits q state (inl both) = ap (λ s. s.site) (sym both.1) ∙ left.site ∙ here ∙ ap suc (sym both.0)
    sits q state (inr old) = are.sites q state old.1

-- the state that was read at a site's place
pub record IsStateAt (doc : Document) (h : History) (states : List SiteState) (site place : ℕ) (state : SiteState) : Type 0 where
  pub at : slice_get states place ≡ Some state
  pub stands : Stands doc h state
  pub is : state.site ≡ site

pub state_at : (doc : Document) (h : History) (states : List SiteState) (site number : ℕ) (state : SiteState) → AreStates doc h states → number ≡ site → IsSite doc site → state ≡ get_or states (number - 1) state
    → IsStateAt doc h states site (number - 1) state
state_at doc h states site number state are same there read = record {
  at = at;
  stands = are.all (number - 1) state at;
  is = let a : state.site ≡ suc (number - 1) = are.sites (number - 1) state at in let one : 1 ≤ site = there.0 in omega (arith, a, same, one);
}
  where
    at : slice_get states (number - 1) ≡ Some state
    at = read_at states (number - 1) state (let one : 1 ≤ site = there.0 in let most : site ≤ doc.sites = there.1 in omega (arith, same, one, most, are.long)) read

-- what an event of a site leaves of all states
pub states_after : (m after : MediumView) (states : List SiteState) (site place : ℕ) (before new : SiteState) → AreStates (doc_of m) m.history states
    → IsStateAt (doc_of m) m.history states site place before → Grows m after site → Leaves (doc_of after) after.history before new → AreStates (doc_of after) after.history (set states place new)
states_after m after states site place before new are is grows left =
    states_kept m after states place before new are is.at (subst (Grows m after) (sym is.is) grows) left

-- inboxes after an event of a site
inboxes_set : (states : List SiteState) (place : ℕ) (new : SiteState) → inboxes_in (set states place new) ≡ set (inboxes_in states) place new.inbox
inboxes_set [] zero new = refl
inboxes_set [] (suc place) new = refl
inboxes_set (state ∷ states) zero new = refl
inboxes_set (state ∷ states) (suc place) new = ap (λ xs. state.inbox ∷ xs) (inboxes_set states place new)

set_itself : (xs : List (List Packet)) (place : ℕ) (x : List Packet) → slice_get xs place ≡ Some x → set xs place x ≡ xs
set_itself [] place x e = absurd cc
set_itself (y ∷ ys) zero x e = let is : y ≡ x = cc in ap (λ z. z ∷ ys) (sym is)
set_itself (y ∷ ys) (suc place) x e = ap (λ zs. y ∷ zs) (set_itself ys place x e)

inbox_at : (states : List SiteState) (place : ℕ) (state : SiteState) → slice_get states place ≡ Some state → slice_get (inboxes_in states) place ≡ Some state.inbox
inbox_at [] place state e = absurd cc
inbox_at (x ∷ xs) zero state e = let is : x ≡ state = cc in ap (λ s. Some s.inbox) is
inbox_at (x ∷ xs) (suc place) state e = inbox_at xs place state e

pub inboxes_stay : (states : List SiteState) (place : ℕ) (before new : SiteState) → slice_get states place ≡ Some before → new.inbox ≡ before.inbox → inboxes_in (set states place new) ≡ inboxes_in states
inboxes_stay states place before new at same =
    inboxes_set states place new ∙ ap (set (inboxes_in states) place) same ∙ set_itself (inboxes_in states) place before.inbox (inbox_at states place before at)

pub inboxes_change : (states : List SiteState) (place : ℕ) (new : SiteState) → inboxes_in (set states place new) ≡ set (inboxes_in states) place new.inbox
inboxes_change = inboxes_set

get_from : (xs : List (List Packet)) (place : ℕ) (x : List Packet) → slice_get xs place ≡ Some x → get_or xs place [] ≡ x
get_from [] place x e = absurd cc
get_from (y ∷ ys) zero x e = cc
get_from (y ∷ ys) (suc place) x e = get_from ys place x e

-- the inbox that contracts see
pub inbox_is : (states : List SiteState) (place : ℕ) (state : SiteState) → slice_get states place ≡ Some state → get_or (inboxes_in states) place [] ≡ state.inbox
inbox_is states place state at = get_from (inboxes_in states) place state.inbox (inbox_at states place state at)

pub set_is : (xs : List (List Packet)) (place : ℕ) (x : List Packet) → place < length xs → get_or (set xs place x) place [] ≡ x
set_is [] place x lt = absurd (omega (arith, lt))
set_is (y ∷ ys) zero x lt = refl
set_is (y ∷ ys) (suc place) x lt = set_is ys place x (omega (arith, lt))

-- the states after a move
pub states_moved : (m after : MediumView) (states : List SiteState) (session site : ℕ) (answer : Gone) → AreStates (doc_of m) m.history states → IsMove (doc_of m) m.history session site
    → IsLawful (doc_of m) m.history → IsGone m session site answer after → AreStates (doc_of after) after.history states
states_moved m after states session site (moves.Waiting index) are next lawful gone = subst (λ x. AreStates (doc_of x) x.history states) (sym gone.1) are
states_moved m after states session site (moves.Moved place) are next lawful gone = subst (λ x. AreStates (doc_of x) x.history states) (sym gone.2) (record {
  long = are.long;
  sites = are.sites;
  all = λ q state get. stands_other (doc_of m) (Move session site ∷ []) m.history state (record { sound = lawful.sound; legal = (next, lawful.legal) })
      (All-cons (λ e. is_at state.site e ≡ false) (Move session site) [] refl (none state.site)) (are.all q state get);
})

-- the states of a world that was just started
pub states_fresh : (doc : Document) (states : List SiteState) → AreFresh doc doc.sites states → AreStates doc [] states
states_fresh doc states are = record {
  long = are.long;
  all = λ q state get. (are.all q state get).stands;
  sites = λ q state get. (are.all q state get).is;
}

pub inboxes_fresh : (doc : Document) (n : ℕ) (states : List SiteState) → AreFresh doc n states → inboxes_in states ≡ replicate n []
inboxes_fresh doc n states are = by n states are.long (λ q state get. (are.all q state get).empty)
  where
    by : (n : ℕ) (states : List SiteState) → length states ≡ n → ((q : ℕ) (state : SiteState) → slice_get states q ≡ Some state → state.inbox ≡ []) → inboxes_in states ≡ replicate n []
    by zero [] long empty = refl
    by zero (s ∷ states) long empty = absurd (omega (arith, long))
    by (suc n) [] long empty = absurd (omega (arith, long))
    by (suc n) (s ∷ states) long empty = λ i. empty 0 s refl i ∷ by n states (omega (arith, long)) (λ q state get. empty (suc q) state get) i

-- what contracts see of a medium and of states
abbrev pub seen : MediumView → List SiteState → WorldView
seen m states = record { medium = m; inboxes = inboxes_in states }

-- the inboxes after an event that changes one
pub inboxes_by : (w : WorldView) (m : MediumView) (states : List SiteState) (site place : ℕ) (before new : SiteState) (inbox : List Packet) → seen m states ≡ w → place ≡ site - 1
    → new.inbox ≡ inbox → inboxes_in (set states place new) ≡ set w.inboxes (site - 1) inbox
inboxes_by w m states site place before new inbox view at is =
    inboxes_set states place new ∙ (λ i. set (inboxes_in states) (at i) (is i)) ∙ ap (λ x. set x.inboxes (site - 1) inbox) view

pub inbox_before : (w : WorldView) (m : MediumView) (states : List SiteState) (site place : ℕ) (before : SiteState) → seen m states ≡ w → place ≡ site - 1 → slice_get states place ≡ Some before
    → before.inbox ≡ inbox_of w site
inbox_before w m states site place before view at get = sym (inbox_is states place before get) ∙ ap (λ n. get_or (inboxes_in states) n []) at ∙ ap (λ x. inbox_of x site) view

pub inbox_behind : (states : List SiteState) (site place : ℕ) (before new : SiteState) → place ≡ site - 1 → slice_get states place ≡ Some before
    → new.inbox ≡ get_or (inboxes_in (set states place new)) (site - 1) []
inbox_behind states site place before new at get =
    sym (set_is (inboxes_in states) place new.inbox (get_within (inboxes_in states) place before.inbox (inbox_at states place before get)))
    ∙ ap (λ xs. get_or xs place []) (sym (inboxes_set states place new)) ∙ ap (λ n. get_or (inboxes_in (set states place new)) n []) at

pub delivery_seen : (w : WorldView) (m : MediumView) (states : List SiteState) (site place : ℕ) (before : SiteState) (packet : Packet) (answer : Delivered) → seen m states ≡ w
    → IsStateAt (doc_of m) m.history states site place before → IsDelivery (doc_of m) m.history before.site packet answer → IsDelivery (doc_of w.medium) w.medium.history site packet answer
delivery_seen w m states site place before packet answer view at is =
    subst (λ x. IsDelivery (doc_of x.medium) x.medium.history site packet answer) view (subst (λ s. IsDelivery (doc_of m) m.history s packet answer) at.is is)

pub delivered_seen : (w : WorldView) (m after : MediumView) (states : List SiteState) (site place : ℕ) (before new : SiteState) (packet : Packet) (answer : Delivered) → seen m states ≡ w
    → IsStateAt (doc_of m) m.history states site place before → place ≡ site - 1 → after ≡ with_history m (after_delivery answer before.site packet m.history)
    → new.inbox ≡ inbox_after answer packet before.inbox
    → seen after (set states place new) ≡ with_inbox (record { medium = with_history w.medium (after_delivery answer site packet w.medium.history); inboxes = w.inboxes }) site (inbox_after answer packet (inbox_of w site))
delivered_seen w m after states site place before new packet answer view at is medium inbox = λ i. record {
  medium = (medium ∙ ap (λ s. with_history m (after_delivery answer s packet m.history)) at.is ∙ ap (λ x. with_history x.medium (after_delivery answer site packet x.medium.history)) view) i;
  inboxes = inboxes_by w m states site place before new (inbox_after answer packet (inbox_of w site)) view is
      (inbox ∙ ap (inbox_after answer packet) (inbox_before w m states site place before view is at.at)) i;
}

pub settle_seen : (w : WorldView) (m : MediumView) (states : List SiteState) (site place : ℕ) (before new : SiteState) (answer : Option Packet) (h : History) → seen m states ≡ w
    → IsStateAt (doc_of m) m.history states site place before → place ≡ site - 1 → IsSettled (doc_of m) m.history before.site before.inbox answer new.inbox h
    → IsSettled (doc_of w.medium) w.medium.history site (inbox_of w site) answer (get_or (inboxes_in (set states place new)) (site - 1) []) h
settle_seen w m states site place before new answer h view at is settled =
    subst (λ x. IsSettled (doc_of x.medium) x.medium.history site (inbox_of w site) answer (get_or (inboxes_in (set states place new)) (site - 1) []) h) view
    (subst (λ s. IsSettled (doc_of m) m.history s (inbox_of w site) answer (get_or (inboxes_in (set states place new)) (site - 1) []) h) at.is
    (subst (λ xs. IsSettled (doc_of m) m.history before.site xs answer (get_or (inboxes_in (set states place new)) (site - 1) []) h) (inbox_before w m states site place before view is at.at)
    (subst (λ xs. IsSettled (doc_of m) m.history before.site before.inbox answer xs h) (inbox_behind states site place before new is at.at) settled)))

pub settled_seen : (w : WorldView) (m after : MediumView) (states : List SiteState) (site place : ℕ) (before new : SiteState) → seen m states ≡ w → slice_get states place ≡ Some before
    → place ≡ site - 1 → after ≡ with_history m after.history
    → seen after (set states place new) ≡ with_inbox (record { medium = with_history w.medium after.history; inboxes = w.inboxes }) site (get_or (inboxes_in (set states place new)) (site - 1) [])
settled_seen w m after states site place before new view get is medium = λ i. record {
  medium = (medium ∙ ap (λ x. with_history x.medium after.history) view) i;
  inboxes = inboxes_by w m states site place before new (get_or (inboxes_in (set states place new)) (site - 1) []) view is (inbox_behind states site place before new is get) i;
}

pub caught_seen : (w : WorldView) (m after : MediumView) (states : List SiteState) (place : ℕ) (before new : SiteState) → seen m states ≡ w → slice_get states place ≡ Some before
    → after ≡ with_history m after.history → new.inbox ≡ before.inbox → seen after (set states place new) ≡ record { medium = with_history w.medium after.history; inboxes = w.inboxes }
caught_seen w m after states place before new view get medium inbox = λ i. record {
  medium = (medium ∙ ap (λ x. with_history x.medium after.history) view) i;
  inboxes = (inboxes_stay states place before new get inbox ∙ ap (λ x. x.inboxes) view) i;
}

-- a history for which a state stands is legal
pub lawful_states : (doc : Document) (h : History) (states : List SiteState) (site : ℕ) → AreStates doc h states → IsSite doc site → IsLawful doc h
lawful_states doc h states site are there = (are.all (site - 1) found.0 found.1).lawful
  where
    found : (state : SiteState) × (slice_get states (site - 1) ≡ Some state)
    found = get_some states (site - 1) (let one : 1 ≤ site = there.0 in let most : site ≤ doc.sites = there.1 in omega (arith, one, most, are.long))

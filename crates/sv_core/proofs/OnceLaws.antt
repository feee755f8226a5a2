-- Each event has one answer, and leaves one state.
use Rattle.std.proofs.Common.{◌≡◌, ◌≢◌, ℕ, List, [], ◌∷◌, ◌++◌, length, map, Option, Some, None, slice_get, refl, sym, ap, subst, ◌∙◌, arith}
use Rattle.std.specs.Prelude.{All}
use Rattle.std.proofs.lemmas.List.Elements.{All-head, All-tail}
use Rattle.std.proofs.lemmas.Option.{slice_get_within}
use Rattle.sv_value.specs.declared.packets.Packet.{Packet}
use Rattle.sv_value.specs.Cuts.{counts, Covers, origin, number}
use Rattle.sv_app.specs.declared.requests.Request.{Request}
use Rattle.sv_app.specs.Tables.{Tables}
use Rattle.sv_effect.specs.declared.ops.Op.{Op}
use Rattle.sv_effect.specs.declared.reads.Told.{Told}
use Rattle.sv_effect.specs.BareTables.{bare}
use Rattle.sv_effect.specs.Reads.{answer_of, read_of}
use Rattle.sv_threat.specs.declared.label.Label.{Label}
use Rattle.sv_threat.specs.declared.label.Label.TheVariants.{Nothing, Blue, Red}
use Rattle.sv_causal.specs.declared.readiness.Readiness.{Readiness}
use Rattle.sv_causal.specs.declared.readiness.Readiness.TheVariants as readiness
use Rattle.sv_causal.specs.Causes.{IsCause}
use Rattle.sv_causal.specs.Missing.{IsFirstMissing}
use Rattle.sv_causal.proofs.CauseLaws.{not_covered, only_cause, same_missing}
use Rattle.sv_core.specs.declared.answers.Commit.TheVariants as commits
use Rattle.sv_core.specs.declared.answers.Delivered.{Delivered}
use Rattle.sv_core.specs.declared.answers.Delivered.TheVariants as deliveries
use Rattle.sv_core.specs.declared.answers.Gone.TheVariants as gone
use Rattle.sv_core.specs.declared.answers.Ordered.TheVariants as orders
use Rattle.sv_core.specs.declared.entries.Entry.TheVariants.{Answer, Apply}
use Rattle.sv_core.specs.declared.entries.Reply.{Reply}
use Rattle.sv_core.specs.declared.prepared.Prepared.{Prepared}
use Rattle.sv_core.specs.Document.{Document}
use Rattle.sv_core.specs.Events.{AddsAnswer, IsDelivery, IsFirstChange, IsOwner, IsUnchanged, expected_of}
use Rattle.sv_core.specs.History.{History, answered, cut_of, op_of, published, run_then, seen_of, site_of, tables_at, tables_then}
use Rattle.sv_core.specs.Laws.{AreOne}
use Rattle.sv_core.specs.Legal.{IsApply, IsDue, IsJudgedThen, Shows}
use Rattle.sv_core.specs.Mediums.{MediumView, Proposal, doc_of, proposal_of, with_entry, with_proposal}
use Rattle.sv_core.specs.OneAnswer.{CommitOnce, DeliveryOnce, GoOnce, OrderOnce, SettleOnce}
use Rattle.sv_core.specs.Room.{Lack, lack_of}
use Rattle.sv_core.proofs.JudgedLaws.{judged_once}
use Rattle.sv_core.proofs.ToldLaws.{SameChange, change_once, told_one, unchanged}

-- what an answer shows is one reply, one label and one packet
pub record AreShown (a b : Reply) (l m : Label) (p q : Option Packet) : Type 0 where
  pub replies : a ≡ b
  pub labels : l ≡ m
  pub packets : p ≡ q

shows_once : (lack : Option Lack) (judged : Reply) (label : Label) (due : Packet) (a b : Reply) (l m : Label) (p q : Option Packet) → Shows lack judged label due a l p → Shows lack judged label due b m q → AreShown a b l m p q
shows_once None judged label due a b l m p q (ra, la, pa) (rb, lb, pb) = record { replies = ra ∙ sym rb; labels = la ∙ sym lb; packets = pa ∙ sym pb }
shows_once (Some lack) judged label due a b l m p q (ra, la, pa) (rb, lb, pb) = record { replies = ra ∙ sym rb; labels = la ∙ sym lb; packets = pa ∙ sym pb }

due_once : (doc : Document) (h : History) (site at : ℕ) (op : Op) (judged : Reply) (label : Label) (a b : Reply) (l m : Label) (p q : Option Packet)
    → IsDue doc h site at op judged label a l p → IsDue doc h site at op judged label b m q → AreShown a b l m p q
due_once doc h site at op judged Nothing a b l m p q (at_a, ra, la, pa) (at_b, rb, lb, pb) = record { replies = ra ∙ sym rb; labels = la ∙ sym lb; packets = pa ∙ sym pb }
due_once doc h site at op judged Blue a b l m p q (at_a, x) (at_b, y) = shows_once (lack_of doc (published doc h) op.effects) judged Blue _ a b l m p q x y
due_once doc h site at op judged (Red instance place reason) a b l m p q (at_a, x) (at_b, y) = shows_once (lack_of doc (published doc h) op.effects) judged (Red instance place reason) _ a b l m p q x y

pub judged_then_once : (doc : Document) (h : History) (session index : ℕ) (request : Request) (site at : ℕ) (a b : Reply) (l m : Label) (p q : Option Packet)
    → IsJudgedThen doc h session index request site at a l p → IsJudgedThen doc h session index request site at b m q → AreShown a b l m p q
judged_then_once doc h session index request site at a b l m p q x y =
    due_once doc h site at (op_of doc (published doc h) h session index request site at) y.judged y.label a b l m p q
    (subst (λ label. IsDue doc h site at (op_of doc (published doc h) h session index request site at) y.judged label a l p) one.labels
    (subst (λ reply. IsDue doc h site at (op_of doc (published doc h) h session index request site at) reply x.label a l p) one.replies x.due))
    y.due
  where
    one : AreOne x.judged y.judged x.label y.label
    one = judged_once doc.schema (bare (tables_then doc (published doc h) h site at)) (run_then doc (published doc h) h session index request site at) x.judged y.judged x.label y.label x.right y.right

pub waits_alike : (m : MediumView) (session : ℕ) (p q : Proposal) → proposal_of m session ≡ Some p → proposal_of m session ≡ Some q → p ≡ q
waits_alike m session p q x y = let same : Some p ≡ Some q = sym x ∙ y in cc

pub no_wait : {P : Type 0} (m : MediumView) (session : ℕ) (p : Proposal) → proposal_of m session ≡ Some p → proposal_of m session ≡ None → P
no_wait m session p x y = let bad : Some p ≡ None = sym x ∙ y in absurd cc

adds_once : (m : MediumView) (session index : ℕ) (request : Request) (site at place other : ℕ) (a b : MediumView) → AddsAnswer m session index request site at place a → AddsAnswer m session index request site at other b → a ≡ b
adds_once m session index request site at place other a b x y =
    x.added ∙ (λ i. with_entry m (Answer session index request site at (same.replies i) (same.labels i) (same.packets i))) ∙ sym y.added
  where
    same : AreShown x.reply y.reply x.label y.label x.packet y.packet
    same = judged_then_once (doc_of m) m.history session index request site at x.reply y.reply x.label y.label x.packet y.packet x.next.given y.next.given

-- no red operation stands in the next slot
no_owner : {P : Type 0} (m : MediumView) (slot owner : ℕ) → slot ≡ length (published (doc_of m) m.history 0) → IsOwner m slot owner → P
no_owner m slot owner is owned = let within = slice_get_within (published (doc_of m) m.history 0) slot owned.op owned.stands in absurd (omega (arith, within, is))

same_some : {A : Type 0} (o : Option A) (x y : A) → o ≡ Some x → o ≡ Some y → x ≡ y
same_some o x y p q = let same : Some x ≡ Some y = sym p ∙ q in cc

pub order_once : OrderOnce
order_once m a b session orders.NonePending orders.NonePending (x, stay) (y, still) = record { answers = refl; leaves = stay ∙ sym still }
order_once m a b session orders.NonePending (orders.Behind slot owner) (x, stay) is = no_wait m session is.0 is.1 x
order_once m a b session orders.NonePending (orders.Answered place) (x, stay) is = no_wait m session is.0 is.1 x
order_once m a b session (orders.Behind slot owner) orders.NonePending is (y, stay) = no_wait m session is.0 is.1 y
order_once m a b session (orders.Behind slot owner) (orders.Behind slot2 owner2) (p, x, slot_is, owned, stay) (q, y, slot2_is, owned2, still) = record {
  answers = λ i. orders.Behind (slots i) (owners i);
  leaves = stay ∙ sym still;
}
  where
    slots : slot ≡ slot2
    slots = slot_is ∙ ap (expected_of m session) (waits_alike m session p q x y) ∙ sym slot2_is

    owners : owner ≡ owner2
    owners = owned.is ∙ ap (λ (op : Op). op.site) (same_some (slice_get (published (doc_of m) m.history 0) slot2) owned.op owned2.op (ap (slice_get (published (doc_of m) m.history 0)) (sym slots) ∙ owned.stands) owned2.stands) ∙ sym owned2.is
order_once m a b session (orders.Behind slot owner) (orders.Answered place) (p, x, slot_is, owned, stay) (q, y, due, adds) =
    no_owner m slot owner (slot_is ∙ ap (expected_of m session) (waits_alike m session p q x y) ∙ due) owned
order_once m a b session (orders.Answered place) orders.NonePending is (y, stay) = no_wait m session is.0 is.1 y
order_once m a b session (orders.Answered place) (orders.Behind slot owner) (p, x, due, adds) (q, y, slot_is, owned, stay) =
    no_owner m slot owner (slot_is ∙ ap (expected_of m session) (waits_alike m session q p y x) ∙ due) owned
order_once m a b session (orders.Answered place) (orders.Answered other) (p, x, due, adds) (q, y, due2, adds2) = record { answers = ap orders.Answered places; leaves = same }
  where
    of : Proposal → ℕ → MediumView → Type 0
    of r n v = AddsAnswer (with_proposal m session None) session r.index r.request (site_of (doc_of m) m.history session) r.at n v

    same : a ≡ b
    same = adds_once (with_proposal m session None) session q.index q.request (site_of (doc_of m) m.history session) q.at place other a b (subst (λ r. of r place a) (waits_alike m session p q x y) adds) adds2

    places : place ≡ other
    places = adds.stands ∙ sym adds2.stands

-- two deliveries
abbrev delivered_as : ℕ → Readiness → Delivered
delivered_as n readiness.Now = deliveries.Applied
delivered_as n readiness.Duplicate = deliveries.Duplicate
delivered_as n (readiness.Early missing) = deliveries.Early missing

-- a packet that is published, and its cause
record IsCaused (doc : Document) (h : History) (site : ℕ) (packet : Packet) (d : Delivered) : Type 0 where
  pub op : Op
  pub readiness : Readiness
  pub stands : slice_get (published doc h (origin packet)) (number packet) ≡ Some op
  pub cause : IsCause (cut_of h site) (counts op.deps) packet readiness
  pub is : d ≡ delivered_as 0 readiness

data Became (doc : Document) (h : History) (site : ℕ) (packet : Packet) (d : Delivered) : Type 0 where
  Caused : IsCaused doc h site packet d → Became doc h site packet d
  Missed : slice_get (published doc h (origin packet)) (number packet) ≡ None → d ≡ deliveries.Unknown (length (published doc h (origin packet))) → Became doc h site packet d

became : (doc : Document) (h : History) (site : ℕ) (packet : Packet) (d : Delivered) → IsDelivery doc h site packet d → Became doc h site packet d
became doc h site packet (deliveries.Unknown n) (none, is) = Missed none (ap deliveries.Unknown is)
became doc h site packet deliveries.Duplicate (op, stands, cause) = Caused (record { op = op; readiness = readiness.Duplicate; stands = stands; cause = cause; is = refl })
became doc h site packet (deliveries.Early missing) (op, stands, cause) = Caused (record { op = op; readiness = readiness.Early missing; stands = stands; cause = cause; is = refl })
became doc h site packet deliveries.Applied (op, stands, cause) = Caused (record { op = op; readiness = readiness.Now; stands = stands; cause = cause; is = refl })

pub delivery_once : DeliveryOnce
delivery_once doc h site packet d e x y = by (became doc h site packet d x) (became doc h site packet e y)
  where
    by : Became doc h site packet d → Became doc h site packet e → d ≡ e
    by (Missed none is) (Missed never so) = is ∙ sym so
    by (Missed none is) (Caused c) = let bad : None ≡ Some c.op = sym none ∙ c.stands in absurd cc
    by (Caused c) (Missed none is) = let bad : None ≡ Some c.op = sym none ∙ c.stands in absurd cc
    by (Caused c) (Caused g) =
        c.is ∙ ap (delivered_as 0) (only_cause (cut_of h site) (counts g.op.deps) packet c.readiness g.readiness
        (subst (λ (op : Op). IsCause (cut_of h site) (counts op.deps) packet c.readiness) (same_some (slice_get (published doc h (origin packet)) (number packet)) c.op g.op c.stands g.stands) c.cause) g.cause) ∙ sym g.is

-- two splits of a list at the first of its packets that may be applied
record SameSplit (p q : Packet) (x_before x_behind y_before y_behind : List Packet) : Type 0 where
  pub packets : p ≡ q
  pub befores : x_before ≡ y_before
  pub behinds : x_behind ≡ y_behind

split_once : (P : Packet → Type 0) (x_before x_behind y_before y_behind : List Packet) (p q : Packet) → x_before ++ p ∷ x_behind ≡ y_before ++ q ∷ y_behind
    → All (λ r. P r → ⊥) x_before → All (λ r. P r → ⊥) y_before → P p → P q → SameSplit p q x_before x_behind y_before y_behind
split_once P [] x_behind [] y_behind p q e xs ys x y = let a : p ≡ q = cc in let b : x_behind ≡ y_behind = cc in record { packets = a; befores = refl; behinds = b }
split_once P [] x_behind (r ∷ y_before) y_behind p q e xs ys x y = let a : p ≡ r = cc in absurd (All-head (λ r. P r → ⊥) r y_before ys (subst P a x))
split_once P (r ∷ x_before) x_behind [] y_behind p q e xs ys x y = let a : q ≡ r = cc in absurd (All-head (λ r. P r → ⊥) r x_before xs (subst P a y))
split_once P (r ∷ x_before) x_behind (s ∷ y_before) y_behind p q e xs ys x y =
    let a : r ≡ s = cc in let b : x_before ++ p ∷ x_behind ≡ y_before ++ q ∷ y_behind = cc in
    let same = split_once P x_before x_behind y_before y_behind p q b (All-tail (λ r. P r → ⊥) r x_before xs) (All-tail (λ r. P r → ⊥) s y_before ys) x y in
    record { packets = same.packets; befores = λ i. a i ∷ same.befores i; behinds = same.behinds }

-- the last one of a list of which none may be applied
none_ready : {Q : Type 0} (P : Packet → Type 0) (before behind : List Packet) (p : Packet) → All (λ r. P r → ⊥) (before ++ p ∷ behind) → P p → Q
none_ready P [] behind p none ready = absurd (All-head (λ r. P r → ⊥) p behind none ready)
none_ready P (r ∷ before) behind p none ready = none_ready P before behind p (All-tail (λ r. P r → ⊥) r (before ++ p ∷ behind) none) ready

pub settle_once : SettleOnce
settle_once doc h site inbox left rest None None after last (none, left_is, stay) (never, rest_is, still) = record { answers = refl; leaves = λ i. ((left_is ∙ sym rest_is) i, (stay ∙ sym still) i) }
settle_once doc h site inbox left rest None (Some q) after last (none, left_is, stay) (first, grown) =
    none_ready (IsApply doc h site) first.before first.behind q (subst (All (λ r. IsApply doc h site r → ⊥)) first.stands none) first.ready
settle_once doc h site inbox left rest (Some p) None after last (first, grown) (none, rest_is, still) =
    none_ready (IsApply doc h site) first.before first.behind p (subst (All (λ r. IsApply doc h site r → ⊥)) first.stands none) first.ready
settle_once doc h site inbox left rest (Some p) (Some q) after last (first, grown) (then, rises) = record {
  answers = ap Some same.packets;
  leaves = λ i. ((first.rest ∙ (λ j. same.befores j ++ same.behinds j) ∙ sym then.rest) i, (grown ∙ ap (λ r. Apply site r ∷ h) same.packets ∙ sym rises) i);
}
  where
    same : SameSplit p q first.before first.behind then.before then.behind
    same = split_once (IsApply doc h site) first.before first.behind then.before then.behind p q (sym first.stands ∙ then.stands) first.not_yet then.not_yet first.ready then.ready

pub go_once : GoOnce
go_once m a b session site (gone.Waiting index) (gone.Waiting other) ((p, x, is), stay) ((q, y, so), still) =
    record { answers = ap gone.Waiting (is ∙ ap (λ (r : Proposal). r.index) (waits_alike m session p q x y) ∙ sym so); leaves = stay ∙ sym still }
go_once m a b session site (gone.Waiting index) (gone.Moved place) ((p, x, is), stay) (none, stands, moves) = no_wait m session p x none
go_once m a b session site (gone.Moved place) (gone.Waiting index) (none, stands, moves) ((p, x, is), stay) = no_wait m session p x none
go_once m a b session site (gone.Moved place) (gone.Moved other) (none, stands, goes) (never, so, went) = record { answers = ap gone.Moved (stands ∙ sym so); leaves = goes ∙ sym went }

-- what the site's tables are, and what they are asked
abbrev tables_here : MediumView → Prepared → Tables
tables_here m p = bare (tables_at (doc_of m) m.history p.site)

late : {P : Type 0} (m : MediumView) (p : Prepared) (next : ℕ) → next ≡ answered m.history p.session → p.index ≢ next → p.index ≡ answered m.history p.session → P
late m p next is differs due = absurd (differs (due ∙ sym is))

short : {P : Type 0} (m : MediumView) (p : Prepared) (missing : Packet) → IsFirstMissing (cut_of m.history p.site) (seen_of m.history p.session) missing
    → Covers (cut_of m.history p.site) (seen_of m.history p.session) → P
short m p missing first covers = absurd (not_covered (cut_of m.history p.site) (seen_of m.history p.session) missing first covers)

stale : {P : Type 0} (m : MediumView) (p : Prepared) (read : ℕ) (now : Told) → IsFirstChange (tables_here m p) (map read_of p.reads) read (answer_of now) → IsUnchanged m p → P
stale m p read now change same = absurd (unchanged (tables_here m p) (map read_of p.reads) read (answer_of now) same.agrees change)

pub commit_once : CommitOnce
commit_once m x y p (commits.NotNext back next) (commits.NotNext back2 next2) (is, next_is, differs, stays) (is2, next2_is, differs2, stays2) = record { answers = λ i. commits.NotNext ((is ∙ sym is2) i) ((next_is ∙ sym next2_is) i); leaves = stays ∙ sym stays2 }
commit_once m x y p (commits.NotNext back next) (commits.Waiting back2 index2) (is, next_is, differs, stays) (is2, due2, (q2, waits2, index2_is), stays2) = late m p next next_is differs due2
commit_once m x y p (commits.NotNext back next) (commits.Short back2 missing2) (is, next_is, differs, stays) (is2, free2, first2, stays2) = late m p next next_is differs free2.next
commit_once m x y p (commits.NotNext back next) (commits.Changed back2 read2 now2) (is, next_is, differs, stays) (is2, current2, change2, stays2) = late m p next next_is differs current2.free.next
commit_once m x y p (commits.NotNext back next) (commits.Pending expected2) (is, next_is, differs, stays) (same2, red2, is2, stays2) = late m p next next_is differs same2.current.free.next
commit_once m x y p (commits.NotNext back next) (commits.Answered place2) (is, next_is, differs, stays) (same2, blue2, adds2) = late m p next next_is differs same2.current.free.next
commit_once m x y p (commits.Waiting back index) (commits.NotNext back2 next2) (is, due, (q, waits, index_is), stays) (is2, next2_is, differs2, stays2) = late m p next2 next2_is differs2 due
commit_once m x y p (commits.Waiting back index) (commits.Waiting back2 index2) (is, due, (q, waits, index_is), stays) (is2, due2, (q2, waits2, index2_is), stays2) = record {
  answers = λ i. commits.Waiting ((is ∙ sym is2) i) ((index_is ∙ ap (λ (r : Proposal). r.index) (waits_alike m p.session q q2 waits waits2) ∙ sym index2_is) i);
  leaves = stays ∙ sym stays2;
}
commit_once m x y p (commits.Waiting back index) (commits.Short back2 missing2) (is, due, (q, waits, index_is), stays) (is2, free2, first2, stays2) = no_wait m p.session q waits free2.none
commit_once m x y p (commits.Waiting back index) (commits.Changed back2 read2 now2) (is, due, (q, waits, index_is), stays) (is2, current2, change2, stays2) = no_wait m p.session q waits current2.free.none
commit_once m x y p (commits.Waiting back index) (commits.Pending expected2) (is, due, (q, waits, index_is), stays) (same2, red2, is2, stays2) = no_wait m p.session q waits same2.current.free.none
commit_once m x y p (commits.Waiting back index) (commits.Answered place2) (is, due, (q, waits, index_is), stays) (same2, blue2, adds2) = no_wait m p.session q waits same2.current.free.none
commit_once m x y p (commits.Short back missing) (commits.NotNext back2 next2) (is, free, first, stays) (is2, next2_is, differs2, stays2) = late m p next2 next2_is differs2 free.next
commit_once m x y p (commits.Short back missing) (commits.Waiting back2 index2) (is, free, first, stays) (is2, due2, (q2, waits2, index2_is), stays2) = no_wait m p.session q2 waits2 free.none
commit_once m x y p (commits.Short back missing) (commits.Short back2 missing2) (is, free, first, stays) (is2, free2, first2, stays2) = record {
  answers = λ i. commits.Short ((is ∙ sym is2) i) (same_missing (cut_of m.history p.site) (seen_of m.history p.session) missing missing2 first first2 i);
  leaves = stays ∙ sym stays2;
}
commit_once m x y p (commits.Short back missing) (commits.Changed back2 read2 now2) (is, free, first, stays) (is2, current2, change2, stays2) = short m p missing first current2.covers
commit_once m x y p (commits.Short back missing) (commits.Pending expected2) (is, free, first, stays) (same2, red2, is2, stays2) = short m p missing first same2.current.covers
commit_once m x y p (commits.Short back missing) (commits.Answered place2) (is, free, first, stays) (same2, blue2, adds2) = short m p missing first same2.current.covers
commit_once m x y p (commits.Changed back read now) (commits.NotNext back2 next2) (is, current, change, stays) (is2, next2_is, differs2, stays2) = late m p next2 next2_is differs2 current.free.next
commit_once m x y p (commits.Changed back read now) (commits.Waiting back2 index2) (is, current, change, stays) (is2, due2, (q2, waits2, index2_is), stays2) = no_wait m p.session q2 waits2 current.free.none
commit_once m x y p (commits.Changed back read now) (commits.Short back2 missing2) (is, current, change, stays) (is2, free2, first2, stays2) = short m p missing2 first2 current.covers
commit_once m x y p (commits.Changed back read now) (commits.Changed back2 read2 now2) (is, current, change, stays) (is2, current2, change2, stays2) = record { answers = λ i. commits.Changed ((is ∙ sym is2) i) (one.places i) (told_one now now2 one.answers i); leaves = stays ∙ sym stays2 }
  where
    one : SameChange read read2 (answer_of now) (answer_of now2)
    one = change_once (tables_here m p) (map read_of p.reads) read read2 (answer_of now) (answer_of now2) change change2
commit_once m x y p (commits.Changed back read now) (commits.Pending expected2) (is, current, change, stays) (same2, red2, is2, stays2) = stale m p read now change same2
commit_once m x y p (commits.Changed back read now) (commits.Answered place2) (is, current, change, stays) (same2, blue2, adds2) = stale m p read now change same2
commit_once m x y p (commits.Pending expected) (commits.NotNext back2 next2) (same, red, is, stays) (is2, next2_is, differs2, stays2) = late m p next2 next2_is differs2 same.current.free.next
commit_once m x y p (commits.Pending expected) (commits.Waiting back2 index2) (same, red, is, stays) (is2, due2, (q2, waits2, index2_is), stays2) = no_wait m p.session q2 waits2 same.current.free.none
commit_once m x y p (commits.Pending expected) (commits.Short back2 missing2) (same, red, is, stays) (is2, free2, first2, stays2) = short m p missing2 first2 same.current.covers
commit_once m x y p (commits.Pending expected) (commits.Changed back2 read2 now2) (same, red, is, stays) (is2, current2, change2, stays2) = stale m p read2 now2 change2 same
commit_once m x y p (commits.Pending expected) (commits.Pending expected2) (same, red, is, stays) (same2, red2, is2, stays2) = record { answers = ap commits.Pending (is ∙ sym is2); leaves = stays ∙ sym stays2 }
commit_once m x y p (commits.Pending expected) (commits.Answered place2) (same, red, is, stays) (same2, blue2, adds2) = absurd (blue2 red)
commit_once m x y p (commits.Answered place) (commits.NotNext back2 next2) (same, blue, adds) (is2, next2_is, differs2, stays2) = late m p next2 next2_is differs2 same.current.free.next
commit_once m x y p (commits.Answered place) (commits.Waiting back2 index2) (same, blue, adds) (is2, due2, (q2, waits2, index2_is), stays2) = no_wait m p.session q2 waits2 same.current.free.none
commit_once m x y p (commits.Answered place) (commits.Short back2 missing2) (same, blue, adds) (is2, free2, first2, stays2) = short m p missing2 first2 same.current.covers
commit_once m x y p (commits.Answered place) (commits.Changed back2 read2 now2) (same, blue, adds) (is2, current2, change2, stays2) = stale m p read2 now2 change2 same
commit_once m x y p (commits.Answered place) (commits.Pending expected2) (same, blue, adds) (same2, red2, is2, stays2) = absurd (blue red2)
commit_once m x y p (commits.Answered place) (commits.Answered place2) (same, blue, adds) (same2, blue2, adds2) = record {
  answers = ap commits.Answered (adds.stands ∙ sym adds2.stands);
  leaves = adds_once m p.session p.index p.request p.site (length m.history) place place2 x y adds adds2;
}

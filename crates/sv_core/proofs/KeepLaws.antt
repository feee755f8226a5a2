-- A medium's fields stay those of its history when an entry is added, and when a proposal begins or ends to wait.
use Rattle.std.proofs.Common.{◌≡◌, ◌⊎◌, inl, inr, ℕ, zero, suc, ◌+◌, ◌*◌, ◌-◌, ◌<◌, ◌≤◌, ◌^◌, ◌==◌, ◌&&◌, if◌then◌else◌, Bool, true, false, List, [], ◌∷◌, ◌++◌, length, set, get_or, Option, Some, None, slice_get, refl, sym, ap, subst, ◌∙◌, arith, map, reverse}
use Rattle.std.specs.Prelude.{All, max, IfSome}
use Rattle.std.specs.Option.{option_map}
use Rattle.std.proofs.lemmas.Bool.{cases_eq}
use Rattle.std.proofs.lemmas.List.{length_push, length-map, length-set, map-set, reverse-append, get_or-set_same, get_or-set_other}
use Rattle.sv_value.specs.declared.cuts.Cut.{Cut as CodeCut}
use Rattle.sv_value.specs.declared.packets.Packet.{Packet}
use Rattle.sv_value.specs.declared.packets.Packet.TheVariants.{Blue, Red}
use Rattle.sv_value.specs.Cuts.{counts, origin, number}
use Rattle.sv_app.proofs.TestLaws.{same_test, other_test, test_same}
use Rattle.sv_effect.specs.declared.ops.Op.{Op}
use Rattle.sv_effect.specs.Takes.{inserts}
use Rattle.sv_effect.specs.TablesOfCut.{all_to}
use Rattle.sv_effect.proofs.Members.{Grown}
use Rattle.sv_core.specs.declared.docs.Doc.{Doc}
use Rattle.sv_core.specs.declared.entries.Entry.{Entry}
use Rattle.sv_core.specs.declared.entries.Entry.TheVariants.{Answer, Apply, Move}
use Rattle.sv_core.specs.declared.sessions.Proposal.{Proposal as KeptProposal}
use Rattle.sv_core.specs.declared.sessions.Session.{Session}
use Rattle.sv_core.specs.Counts.{AreShort, AddsShort}
use Rattle.sv_core.specs.Document.{Document, document_of}
use Rattle.sv_core.specs.History.{History, cut_of, op_of, news, with_news, published, count_where, is_answer, is_move, answers, moves, answered, moved, is_of}
use Rattle.sv_core.specs.Laws.{IsLawful}
use Rattle.sv_core.specs.Legal.{IsSession, IsNext, IsApply, IsMove}
use Rattle.sv_core.specs.Mediums.{AreNextCalls, IsNextCall, Proposal, MediumView, one_if, how_many_pending, doc_of, proposal_of, with_proposal, with_entry}
use Rattle.sv_core.specs.MediumState.{IsAwaited, IsPending, IsSessionState, IsReply, Publishes, Keeps, shown, proposals_in, site_in}
use Rattle.sv_core.specs.Packets.{packets_in}
use Rattle.sv_core.specs.Publications.{Published, ArePublished, IsNamed, medium_in, with_blue, with_red, with_op}
use Rattle.sv_core.specs.Room.{inserts_in, changes_in, changes_used, rows_used}
use Rattle.sv_core.specs.WorldLaws.{IsFew}
use Rattle.sv_core.proofs.BirthLaws.{lawful_before, same_pair}
use Rattle.sv_core.proofs.FactLaws.{all_facts}
use Rattle.sv_core.proofs.HistoryLaws.{due_of}
use Rattle.sv_core.proofs.ListLaws.{get_last, get_some}
use Rattle.sv_core.proofs.MediumLaws.{news_get}
use Rattle.sv_core.proofs.PublicationLaws.{read_at, get_mapped, set_get, inserts_few, blue_in}
use Rattle.sv_core.proofs.RoomLaws.{all_few}
use Rattle.sv_core.proofs.SessionLaws.{state_stays, states_set, state_answered}
use Rattle.sv_core.proofs.SumLaws.{inserts_add_up, changes_add_up, all_grown}

pub reverse_push : {A : Type 0} (xs : List A) (x : A) → reverse (xs ++ x ∷ []) ≡ x ∷ reverse xs
reverse_push xs x = reverse-append xs (x ∷ [])

-- the proposals that wait
pub pending_set : (ps : List (Option Proposal)) (i : ℕ) (old new : Option Proposal) → slice_get ps i ≡ Some old
    → how_many_pending (set ps i new) + one_if old ≡ how_many_pending ps + one_if new
pending_set [] i old new e = absurd cc
pending_set (p ∷ ps) zero old new e = let same : p ≡ old = cc in let a : one_if p ≡ one_if old = ap one_if same in omega (arith, a)
pending_set (p ∷ ps) (suc i) old new e =
    let ih : how_many_pending (set ps i new) + one_if old ≡ how_many_pending ps + one_if new = pending_set ps i old new e in
    omega (arith, ih)

pub proposals_same : (sessions : List Session) (i : ℕ) (old new : Session) → slice_get sessions i ≡ Some old → shown new.proposal ≡ shown old.proposal
    → proposals_in (set sessions i new) ≡ proposals_in sessions
proposals_same [] i old new e same = refl
proposals_same (s ∷ sessions) zero old new e same = let is : s ≡ old = cc in ap (λ p. p ∷ proposals_in sessions) (same ∙ ap (λ x. shown x.proposal) (sym is))
proposals_same (s ∷ sessions) (suc i) old new e same = ap (λ ps. shown s.proposal ∷ ps) (proposals_same sessions i old new e same)

get_at : {A B : Type 0} (f : A → B) (xs : List A) (n : ℕ) (x : A) → slice_get xs n ≡ Some x → slice_get (map f xs) n ≡ Some (f x)
get_at f [] n x e = absurd cc
get_at f (y ∷ xs) zero x e = let same : y ≡ x = cc in ap (λ z. Some (f z)) same
get_at f (y ∷ xs) (suc n) x e = get_at f xs n x e

none_shown : (p : Option KeptProposal) → shown p ≡ None → p ≡ None
none_shown None e = refl
none_shown (Some p) e = absurd cc

-- the state of a session that was read by its index
pub record IsStateOf (doc : Document) (h : History) (sessions : List Session) (session : ℕ) (state : Session) : Type 0 where
  pub at : slice_get sessions (session - 1) ≡ Some state
  pub is : IsSessionState doc h session state
  pub waits : shown state.proposal ≡ get_or (proposals_in sessions) (session - 1) None
  pub slot : slice_get (proposals_in sessions) (session - 1) ≡ Some (shown state.proposal)
  pub none : get_or (proposals_in sessions) (session - 1) None ≡ None → state.proposal ≡ None

pub state_of : (doc : Document) (h : History) (k : Published) (sessions : List Session) (capacity session : ℕ) (state : Session)
    → Keeps doc h k sessions capacity → IsSession session
    → state ≡ get_or sessions (session - 1) state → IsStateOf doc h sessions session state
state_of doc h k sessions capacity session state keeps who read = record {
  at = at;
  is = subst (λ n. IsSessionState doc h n state) (omega (arith, who.from)) (keeps.states (session - 1) state at);
  waits = waits;
  slot = get_at (λ s. shown s.proposal) sessions (session - 1) state at;
  none = λ is. none_shown state.proposal (waits ∙ is);
}
  where
    at : slice_get sessions (session - 1) ≡ Some state
    at = read_at sessions (session - 1) state (omega (arith, who.from, who.to, keeps.long)) read

    waits : shown state.proposal ≡ get_or (proposals_in sessions) (session - 1) None
    waits = sym (get_mapped (λ s. shown s.proposal) sessions (session - 1) state None at)

-- an operation that waits is that of the session's next call
pub next_call : (m : MediumView) (session : ℕ) (kept : Option KeptProposal) → shown kept ≡ proposal_of m session → IfSome kept (λ proposal. IsPending (doc_of m) m.history session proposal)
    → IfSome (proposal_of m session) (λ proposal. IsNextCall m session proposal)
next_call m session None is pending = subst (λ p. IfSome p (λ proposal. IsNextCall m session proposal)) is tt
next_call m session (Some proposal) is pending =
    subst (λ p. IfSome p (λ proposal. IsNextCall m session proposal)) is (record { next = pending.held.next; listed = pending.held.listed })

-- how many there can be
count_both : (p q : Entry → Bool) (h : History) → count_where (λ e. p e && q e) h ≤ count_where p h
count_both p q [] = omega arith
count_both p q (e ∷ h) = step (p e) (q e) (count_both p q h)
  where
    step : (a b : Bool) → count_where (λ x. p x && q x) h ≤ count_where p h
        → (if a && b then suc (count_where (λ x. p x && q x) h) else count_where (λ x. p x && q x) h) ≤ (if a then suc (count_where p h) else count_where p h)
    step true true ih = omega (arith, ih)
    step true false ih = omega (arith, ih)
    step false b ih = omega (arith, ih)

pub record HasRoom (doc : Document) (h : History) (capacity session : ℕ) : Type 0 where
  pub space : length h ≤ capacity
  pub long : length h < 2 ^ 32
  pub answered : answered h session < 65537
  pub moved : moved h session < 65537
  pub rows : rows_used doc (published doc h) ≤ 65536
  pub changes : changes_used (published doc h) ≤ 65536

pub room_of : (doc : Document) (h : History) (capacity session : ℕ) → IsLawful doc h → 9 * doc.asks + doc.moves ≤ capacity → HasRoom doc h capacity session
room_of doc h capacity session lawful space =
    let f : IsFew doc h = all_few doc h lawful in
    let a : answered h session ≤ answers h = count_both is_answer (is_of session) h in
    let m : moved h session ≤ moves h = count_both is_move (is_of session) h in
    let s = lawful.sound in
    record {
      space = omega (arith, f.long, f.asked, f.moved, space);
      long = omega (arith, f.long, f.asked, f.moved, s.asks, s.moves);
      answered = omega (arith, a, f.asked, s.asks);
      moved = omega (arith, m, f.moved, s.moves);
      rows = omega (arith, f.rows, s.rows);
      changes = omega (arith, f.changes, s.changes);
    }

-- after a packet was applied
pub keeps_applied : (doc : Document) (h : History) (k : Published) (sessions : List Session) (capacity site : ℕ) (packet : Packet)
    → Keeps doc h k sessions capacity → IsApply doc h site packet
    → Keeps doc (Apply site packet ∷ h) k sessions capacity
keeps_applied doc h k sessions capacity site packet keeps apply = record {
  lawful = record { sound = keeps.lawful.sound; legal = (apply, keeps.lawful.legal) };
  short = record { init = keeps.short.init; adds = keeps.short.adds };
  ops = record {
    eight = keeps.ops.eight;
    lists = keeps.ops.lists;
    order = keeps.ops.order;
    inserts = keeps.ops.inserts;
    changes = keeps.ops.changes;
    room = keeps.ops.room;
  };
  long = keeps.long;
  states = λ place state get. state_stays doc (Apply site packet) h (suc place) state keeps.lawful refl (keeps.states place state get);
  awaited = keeps.awaited;
  space = keeps.space;
}

-- the entries of the session are its own
own_only : (doc : Document) (h : History) (e : Entry) (session k : ℕ) → is_of session e ≡ true → (k ≡ session → ⊥) → is_of k e ≡ false
own_only doc h (Answer s index request site at reply label packet) session k on apart = other_test k s (λ same. apart (same ∙ sym (test_same session s on)))
own_only doc h (Apply site packet) session k on apart = refl
own_only doc h (Move s site) session k on apart = other_test k s (λ same. apart (same ∙ sym (test_same session s on)))

-- the state of the session when an answer of it, or a move, was added
pub record Follows (doc : Document) (e : Entry) (h : History) (session : ℕ) (old new : Session) : Type 0 where
  pub is : IsSessionState doc (e ∷ h) session new
  pub shows : shown new.proposal ≡ shown old.proposal

pub answer_follows : (doc : Document) (e : Entry) (h : History) (session : ℕ) (old new : Session) (cut : CodeCut) → is_answer e ≡ true → is_of session e ≡ true
    → IsSessionState doc h session old
    → old.proposal ≡ None → new.answered ≡ old.answered + 1 → ((o : ℕ) → counts new.seen o ≡ max (counts old.seen o) (counts cut o)) → new.moved ≡ old.moved
    → new.site ≡ old.site
    → new.proposal ≡ old.proposal → ((o : ℕ) → counts cut o ≡ cut_of (e ∷ h) (site_in e) o) → Follows doc e h session old new
answer_follows doc e h session old new cut an on is none answered_is seen_is moved_is site_is same cut_is = record {
  is = state_answered doc e h session old new an on is answered_is moved_is site_is (λ o. seen_is o ∙ ap (max (counts old.seen o)) (cut_is o)) (same ∙ none);
  shows = ap shown same;
}

-- what an answer publishes and leaves of the medium's fields
pub record Answers (doc : Document) (e : Entry) (h : History) (session : ℕ) (k : Published) : Type 0 where
  pub an : is_answer e ≡ true
  pub on : is_of session e ≡ true
  pub ops : ArePublished doc (e ∷ h) k
  pub short : AreShort doc (published doc (e ∷ h))

-- after an answer
pub keeps_answered : (doc : Document) (e : Entry) (h : History) (k new_k : Published) (sessions : List Session) (capacity session : ℕ) (old new : Session)
    → Keeps doc h k sessions capacity
    → IsNext doc h e → IsSession session → Answers doc e h session new_k → IsStateOf doc h sessions session old → Follows doc e h session old new
    → answers h + how_many_pending (proposals_in sessions) < doc.asks → Keeps doc (e ∷ h) new_k (set sessions (session - 1) new) capacity
keeps_answered doc e h k new_k sessions capacity session old new keeps next who gives state follows awaited = record {
  lawful = record { sound = keeps.lawful.sound; legal = (next, keeps.lawful.legal) };
  short = gives.short;
  ops = gives.ops;
  long = length-set sessions (session - 1) new ∙ keeps.long;
  states = states_set doc e h session sessions new keeps.lawful who.from (λ x apart. own_only doc h e session x gives.on apart) keeps.states follows.is;
  awaited = let same : how_many_pending (proposals_in (set sessions (session - 1) new)) ≡ how_many_pending (proposals_in sessions) =
      ap how_many_pending (proposals_same sessions (session - 1) old new state.at follows.shows) in omega (arith, same, more, awaited);
  space = keeps.space;
}
  where
    more : answers (e ∷ h) ≡ suc (answers h)
    more = ap (λ b. if b then suc (answers h) else answers h) gives.an

-- after a move
pub keeps_moved : (doc : Document) (h : History) (k : Published) (sessions : List Session) (capacity session site : ℕ) (old new : Session)
    → Keeps doc h k sessions capacity
    → IsMove doc h session site → IsStateOf doc h sessions session old → Follows doc (Move session site) h session old new
    → Keeps doc (Move session site ∷ h) k (set sessions (session - 1) new) capacity
keeps_moved doc h k sessions capacity session site old new keeps next state follows = record {
  lawful = record { sound = keeps.lawful.sound; legal = (next, keeps.lawful.legal) };
  short = record { init = keeps.short.init; adds = keeps.short.adds };
  ops = record {
    eight = keeps.ops.eight;
    lists = keeps.ops.lists;
    order = keeps.ops.order;
    inserts = keeps.ops.inserts;
    changes = keeps.ops.changes;
    room = keeps.ops.room;
  };
  long = length-set sessions (session - 1) new ∙ keeps.long;
  states = states_set doc (Move session site) h session sessions new keeps.lawful next.who.from
      (λ x apart. own_only doc h (Move session site) session x (same_test session session refl) apart) keeps.states follows.is;
  awaited = let same : how_many_pending (proposals_in (set sessions (session - 1) new)) ≡ how_many_pending (proposals_in sessions) =
      ap how_many_pending (proposals_same sessions (session - 1) old new state.at follows.shows) in omega (arith, same, keeps.awaited);
  space = keeps.space;
}

-- the session's proposal alone is another one
pub record Exchanged (old new : Session) : Type 0 where
  pub answered : new.answered ≡ old.answered
  pub moved : new.moved ≡ old.moved
  pub site : new.site ≡ old.site
  pub seen : new.seen ≡ old.seen

pub keeps_exchanged : (doc : Document) (h : History) (k : Published) (sessions : List Session) (capacity session : ℕ) (old new : Session)
    → Keeps doc h k sessions capacity
    → IsSession session → IsStateOf doc h sessions session old → Exchanged old new → IfSome new.proposal (IsPending doc h session)
    → answers h + how_many_pending (proposals_in sessions) + one_if (shown new.proposal) ≤ doc.asks + one_if (shown old.proposal)
    → Keeps doc h k (set sessions (session - 1) new) capacity
keeps_exchanged doc h k sessions capacity session old new keeps who state same pending awaited = record {
  lawful = keeps.lawful;
  short = keeps.short;
  ops = keeps.ops;
  long = length-set sessions (session - 1) new ∙ keeps.long;
  states = λ place x get. by place x (set_get sessions (session - 1) new place x get);
  awaited =
      let changed : how_many_pending (set (proposals_in sessions) (session - 1) (shown new.proposal)) + one_if (shown old.proposal)
      ≡ how_many_pending (proposals_in sessions) + one_if (shown new.proposal) =
      pending_set (proposals_in sessions) (session - 1) (shown old.proposal) (shown new.proposal) state.slot in
      let is : how_many_pending (proposals_in (set sessions (session - 1) new))
      ≡ how_many_pending (set (proposals_in sessions) (session - 1) (shown new.proposal)) =
      ap how_many_pending (map-set (λ s. shown s.proposal) sessions (session - 1) new) in
      omega (arith, changed, is, awaited);
  space = keeps.space;
}
  where
    by : (place : ℕ) (x : Session) → ((place ≡ session - 1) × (new ≡ x)) ⊎ ((place ≡ session - 1 → ⊥) × (slice_get sessions place ≡ Some x))
        → IsSessionState doc h (suc place) x
    by place x (inl both) =
        let at : session ≡ suc place = omega (arith, who.from, both.0) in
        subst (λ y. IsSessionState doc h (suc place) y) both.1 (subst (λ n. IsSessionState doc h n new) at (record {
          answered = same.answered ∙ state.is.answered;
          moved = same.moved ∙ state.is.moved;
          site = same.site ∙ state.is.site;
          seen = λ o. ap (λ c. counts c o) same.seen ∙ state.is.seen o;
          proposal = pending;
        }))
    by place x (inr both) = keeps.states place x both.1

-- an answer that publishes nothing
pub replies : (doc : Document) (e : Entry) (h : History) (session : ℕ) (k : Published) → ArePublished doc h k → AreShort doc (published doc h)
    → IsReply session e → Answers doc e h session k
replies doc (Answer s index request site at reply label None) h session k ops short is = record {
  an = refl;
  on = same_test session s (sym is);
  ops = record { eight = ops.eight; lists = ops.lists; order = ops.order; inserts = ops.inserts; changes = ops.changes; room = ops.room };
  short = record { init = short.init; adds = short.adds };
}
replies doc (Answer s index request site at reply label (Some packet)) h session k ops short is = absurd is
replies doc (Apply site packet) h session k ops short is = absurd is
replies doc (Move s site) h session k ops short is = absurd is

if_same : {A : Type 0} (a b : ℕ) (x y : A) → a ≡ b → (if a == b then x else y) ≡ x
if_same a b x y e = rw (same_test a b e) refl

if_other : {A : Type 0} (a b : ℕ) (x y : A) → (a ≡ b → ⊥) → (if a == b then x else y) ≡ y
if_other a b x y apart = rw (other_test a b apart) refl

-- an answer that publishes an operation under this packet
pub record IsNews (doc : Document) (h : History) (session : ℕ) (packet : Packet) (op : Op) (e : Entry) : Type 0 where
  pub an : is_answer e ≡ true
  pub on : is_of session e ≡ true
  pub new : news doc (published doc h) h e ≡ Some (origin packet, op)
  pub lists : (o : ℕ) → published doc (e ∷ h) o ≡ with_news (Some (origin packet, op)) (published doc h) o
  pub packets : packets_in (e ∷ h) ≡ packets_in h ++ packet ∷ []
  pub number_is : number packet ≡ length (published doc h (origin packet))
  pub stands : slice_get (published doc (e ∷ h) (origin packet)) (number packet) ≡ Some op

pub is_news : (doc : Document) (h : History) (session : ℕ) (packet : Packet) (op : Op) (e : Entry) → IsNext doc h e → Publishes doc h session packet op e
    → IsNews doc h session packet op e
is_news doc h session packet op (Answer s index request site at reply label None) next p = absurd p
is_news doc h session packet op (Answer s index request site at reply label (Some q)) next p = record {
  an = refl;
  on = same_test session s (sym p.0);
  new = new;
  lists = lists;
  packets = ap (λ x. packets_in h ++ x ∷ []) p.1;
  number_is = number_is;
  stands = (λ i. slice_get (lists (origin packet) i) (number_is i))
      ∙ ap (λ l. slice_get l (length (published doc h (origin packet))))
      (if_same (origin packet) (origin packet) (published doc h (origin packet) ++ op ∷ []) (published doc h (origin packet)) refl)
      ∙ get_last (published doc h (origin packet)) op;
}
  where
    made : Op
    made = op_of doc (published doc h) h s index request site at

    new : ◌≡◌ {A = Option (ℕ × Op)} (Some (origin q, made)) (Some (origin packet, op))
    new = λ i. Some (origin (p.1 i), sym p.2 i)

    lists : (o : ℕ) → published doc (Answer s index request site at reply label (Some q) ∷ h) o ≡ with_news (Some (origin packet, op)) (published doc h) o
    lists o = ap (λ n. with_news n (published doc h) o) new

    number_is : number packet ≡ length (published doc h (origin packet))
    number_is = subst (λ x. number x ≡ length (published doc h (origin x))) p.1 (due_of doc h s index request site at reply label q next).number_is
is_news doc h session packet op (Apply site q) next p = absurd p
is_news doc h session packet op (Move s site) next p = absurd p

-- what the operation adds to what was published
record Adds (k new : Published) (packet : Packet) (op : Op) : Type 0 where
  eight : length new.blues ≡ 8
  lists : (o : ℕ) → medium_in new o ≡ (if o == origin packet then medium_in k o ++ op ∷ [] else medium_in k o)
  order : new.order ≡ k.order ++ packet ∷ []
  inserts : new.inserts ≡ k.inserts + inserts op.effects
  changes : new.changes ≡ k.changes + length op.effects
  room : new.room ≡ k.room - 1

adds_blue : (doc : Document) (h : History) (k : Published) (site seq : ℕ) (op : Op) → ArePublished doc h k → 1 ≤ site → site ≤ 8
    → seq ≡ length (published doc h site) → Adds k (with_blue k site op) (Blue site seq) op
adds_blue doc h k site seq op ops one eight is = record {
  eight = length-set k.blues (site - 1) (get_or k.blues (site - 1) [] ++ op ∷ []) ∙ ops.eight;
  lists = lists;
  order = ap (λ n. k.order ++ Blue site n ∷ []) (ap length (sym (blue_in k site one)) ∙ ap length (ops.lists site) ∙ sym is);
  inserts = refl;
  changes = refl;
  room = refl;
}
  where
    list : List Op
    list = get_or k.blues (site - 1) [] ++ op ∷ []

    at_place : (place : ℕ) → (suc place ≡ site) ⊎ (suc place ≡ site → ⊥)
        → get_or (set k.blues (site - 1) list) place [] ≡ (if suc place == site then get_or k.blues place [] ++ op ∷ [] else get_or k.blues place [])
    at_place place (inl same) =
        let back : place ≡ site - 1 = omega (arith, same) in
        ap (λ p. get_or (set k.blues (site - 1) list) p []) back ∙ get_or-set_same k.blues (site - 1) list [] (omega (arith, one, eight, ops.eight))
        ∙ ap (λ p. get_or k.blues p [] ++ op ∷ []) (sym back)
        ∙ sym (if_same (suc place) site (get_or k.blues place [] ++ op ∷ []) (get_or k.blues place []) same)
    at_place place (inr apart) =
        get_or-set_other k.blues (site - 1) place list [] (λ e. apart (omega (arith, e, one)))
        ∙ sym (if_other (suc place) site (get_or k.blues place [] ++ op ∷ []) (get_or k.blues place []) apart)

    lists : (o : ℕ) → medium_in (with_blue k site op) o ≡ (if o == site then medium_in k o ++ op ∷ [] else medium_in k o)
    lists zero = sym (if_other 0 site (k.reds ++ op ∷ []) k.reds (λ e. absurd (omega (arith, e, one))))
    lists (suc place) = at_place place (cases_eq (suc place) site)

adds_red : (doc : Document) (h : History) (k : Published) (slot : ℕ) (op : Op) → ArePublished doc h k → slot ≡ length (published doc h 0)
    → Adds k (with_red k op) (Red slot) op
adds_red doc h k slot op ops is = record {
  eight = ops.eight;
  lists = lists;
  order = ap (λ n. k.order ++ Red n ∷ []) (ap length (ops.lists 0) ∙ sym is);
  inserts = refl;
  changes = refl;
  room = refl;
}
  where
    lists : (o : ℕ) → medium_in (with_red k op) o ≡ (if o == 0 then medium_in k o ++ op ∷ [] else medium_in k o)
    lists zero = sym (if_same 0 0 (k.reds ++ op ∷ []) k.reds refl)
    lists (suc place) = sym (if_other (suc place) 0 (get_or k.blues place [] ++ op ∷ []) (get_or k.blues place []) (λ e. absurd (omega (arith, e))))

publishes : (doc : Document) (e : Entry) (h : History) (session : ℕ) (k new : Published) (packet : Packet) (op : Op) → ArePublished doc h k
    → AreShort doc (published doc h)
    → IsNews doc h session packet op e → Adds k new packet op → origin packet < 9 → 1 ≤ k.room → All AddsShort op.effects → Answers doc e h session new
publishes doc e h session k new packet op ops short n adds small room adds_short = record {
  an = n.an;
  on = n.on;
  ops = record {
    eight = adds.eight;
    lists = λ o. adds.lists o ∙ ap (λ l. if o == origin packet then l ++ op ∷ [] else l) (ops.lists o) ∙ sym (n.lists o);
    order = adds.order ∙ ap (λ ps. ps ++ packet ∷ []) ops.order ∙ sym n.packets;
    inserts =
        let a : inserts_in (all_to (published doc (e ∷ h)) 9) ≡ inserts_in (all_to (published doc h) 9) + inserts_in (op ∷ []) =
        all_grown inserts_in inserts_add_up (published doc h) (published doc (e ∷ h)) (origin packet) (op ∷ []) grown small in
        omega (arith, a, adds.inserts, ops.inserts);
    changes =
        let a : changes_in (all_to (published doc (e ∷ h)) 9) ≡ changes_in (all_to (published doc h) 9) + changes_in (op ∷ []) =
        all_grown changes_in changes_add_up (published doc h) (published doc (e ∷ h)) (origin packet) (op ∷ []) grown small in
        omega (arith, a, adds.changes, ops.changes);
    room = let a : length new.order ≡ length k.order + 1 = ap length adds.order ∙ length_push k.order packet in omega (arith, a, adds.room, ops.room, room);
  };
  short = record { init = short.init; adds = λ o q x get. added o q x (news_get (news doc (published doc h) h e) (published doc h) o q x get) };
}
  where
    grown : Grown (published doc h) (published doc (e ∷ h)) (origin packet) (op ∷ [])
    grown = record {
      here = n.lists (origin packet)
          ∙ if_same (origin packet) (origin packet) (published doc h (origin packet) ++ op ∷ []) (published doc h (origin packet)) refl;
      others = λ o apart. n.lists o ∙ if_other o (origin packet) (published doc h o ++ op ∷ []) (published doc h o) apart;
    }

    added : (o q : ℕ) (x : Op)
        → (slice_get (published doc h o) q ≡ Some x) ⊎ ((q ≡ length (published doc h o)) × (news doc (published doc h) h e ≡ Some (o, x)))
        → All AddsShort x.effects
    added o q x (inl old) = short.adds o q x old
    added o q x (inr both) =
        subst (λ y. All AddsShort y.effects) (ap (λ (p : ℕ × Op). p.1) (same_pair (origin packet, op) (o, x) (sym n.new ∙ both.1))) adds_short

-- what publishing asks
pub record HasPlace (k : Published) (op : Op) : Type 0 where
  pub room : 1 ≤ k.room
  pub few : length op.effects ≤ 64
  pub inserts : k.inserts + inserts op.effects < 2 ^ 32
  pub changes : k.changes + length op.effects < 2 ^ 32

pub has_place : (doc : Document) (e : Entry) (h : History) (session : ℕ) (k : Published) (packet : Packet) (op : Op) → ArePublished doc h k
    → IsLawful doc (e ∷ h) → IsNews doc h session packet op e
    → answers h < doc.asks → HasPlace k op
has_place doc e h session k packet op ops lawful n awaited =
    let before : IsLawful doc h = lawful_before doc e h lawful in
    let f : IsFew doc h = all_few doc h before in
    let few : length op.effects ≤ 64 = (all_facts doc (e ∷ h) lawful (origin packet) (number packet) op n.stands).made.fits.few in
    let long : length k.order ≡ length (packets_in h) = ap length ops.order in
    let some : inserts op.effects ≤ length op.effects = inserts_few op.effects in
    record {
      room = omega (arith, ops.room, long, f.packets, awaited);
      few = few;
      inserts = omega (arith, f.rows, ops.inserts, few, some, lawful.sound.rows);
      changes = omega (arith, f.changes, ops.changes, few, lawful.sound.changes);
    }

pub publishes_op : (doc : Document) (e : Entry) (h : History) (session : ℕ) (k : Published) (packet : Packet) (op : Op) → ArePublished doc h k
    → AreShort doc (published doc h)
    → IsNews doc h session packet op e → IsNamed packet → 1 ≤ k.room → All AddsShort op.effects → Answers doc e h session (with_op k packet op)
publishes_op doc e h session k (Blue site seq) op ops short n named room adds =
    publishes doc e h session k (with_blue k site op) (Blue site seq) op ops short n (adds_blue doc h k site seq op ops named.0 named.1 n.number_is)
    (omega (arith, named.1)) room adds
publishes_op doc e h session k (Red slot) op ops short n named room adds =
    publishes doc e h session k (with_red k op) (Red slot) op ops short n (adds_red doc h k slot op ops n.number_is) (omega arith) room adds

-- what an answer is added to
pub record IsAsked (m : MediumView) (session : ℕ) (cut : CodeCut) (e : Entry) : Type 0 where
  pub who : IsSession session
  pub none : proposal_of m session ≡ None
  pub awaited : IsAwaited m
  pub next : IsNext (doc_of m) m.history e
  pub cut_is : (o : ℕ) → counts cut o ≡ cut_of (e ∷ m.history) (site_in e) o

-- what `Session::answer` makes of the session's state
pub record IsAnswered (old new : Session) (cut : CodeCut) : Type 0 where
  pub answered : new.answered ≡ old.answered + 1
  pub seen : (o : ℕ) → counts new.seen o ≡ max (counts old.seen o) (counts cut o)
  pub moved : new.moved ≡ old.moved
  pub site : new.site ≡ old.site
  pub proposal : new.proposal ≡ old.proposal

pub keeps_pushed : (doc : Document) (items new_items : List Entry) (e : Entry) (k : Published) (sessions : List Session) (capacity new_capacity : ℕ)
    → new_items ≡ items ++ e ∷ []
    → new_capacity ≡ capacity → Keeps doc (e ∷ reverse items) k sessions capacity → Keeps doc (reverse new_items) k sessions new_capacity
keeps_pushed doc items new_items e k sessions capacity new_capacity items_are same keeps =
    subst (λ h. Keeps doc h k sessions new_capacity) (sym (ap reverse items_are ∙ reverse_push items e))
    (subst (λ n. Keeps doc (e ∷ reverse items) k sessions n) (sym same) keeps)

-- what contracts see of a medium's fields
abbrev pub view_of : Doc → List Entry → List Session → MediumView
view_of doc items sessions = record { doc = doc; history = reverse items; proposals = proposals_in sessions }

pub view_pushed : (old : MediumView) (doc : Doc) (items new_items : List Entry) (sessions new_sessions : List Session) (e : Entry)
    → view_of doc items sessions ≡ old → new_items ≡ items ++ e ∷ []
    → proposals_in new_sessions ≡ proposals_in sessions → view_of doc new_items new_sessions ≡ with_entry old e
view_pushed old doc items new_items sessions new_sessions e is items_are same = λ i. record {
  doc = (is i).doc;
  history = (ap reverse items_are ∙ reverse_push items e ∙ ap (λ v. e ∷ v.history) is) i;
  proposals = (same ∙ ap (λ v. v.proposals) is) i;
}

-- the fields when an answer was added
pub answer_kept : (doc : Doc) (items : List Entry) (k new_k : Published) (sessions : List Session) (capacity session : ℕ) (cut : CodeCut) (e : Entry)
    (old new : Session)
    → Keeps (document_of doc) (reverse items) k sessions capacity → IsAsked (view_of doc items sessions) session cut e
    → Answers (document_of doc) e (reverse items) session new_k
    → IsStateOf (document_of doc) (reverse items) sessions session old → IsAnswered old new cut
    → Keeps (document_of doc) (e ∷ reverse items) new_k (set sessions (session - 1) new) capacity
answer_kept doc items k new_k sessions capacity session cut e old new keeps asked gives state is =
    keeps_answered (document_of doc) e (reverse items) k new_k sessions capacity session old new keeps asked.next asked.who gives state
    (answer_follows (document_of doc) e (reverse items) session old new cut gives.an gives.on state.is (state.none asked.none) is.answered is.seen is.moved
    is.site is.proposal asked.cut_is)
    asked.awaited

-- the room that an entry finds
pub room_for : (doc : Document) (e : Entry) (h : History) (k : Published) (sessions : List Session) (capacity session : ℕ) → Keeps doc h k sessions capacity
    → IsNext doc h e → length h < capacity
room_for doc e h k sessions capacity session keeps next =
    let room : HasRoom doc (e ∷ h) capacity session =
    room_of doc (e ∷ h) capacity session (record { sound = keeps.lawful.sound; legal = (next, keeps.lawful.legal) }) keeps.space in
    omega (arith, room.space)

pub no_index : (p : Option Proposal) → option_map (λ proposal. proposal.index) p ≡ None → p ≡ None
no_index None e = refl
no_index (Some p) e = absurd cc

-- the proposal that was taken leaves room for it
pub awaited_again : (p : Option KeptProposal) (n asks : ℕ) → n + one_if (shown p) ≤ asks → IfSome p (λ x. n < asks)
awaited_again None n asks le = tt
awaited_again (Some p) n asks le = omega (arith, le)

-- what contracts see when the proposal of a session is another one
pub view_exchanged : (m : MediumView) (doc : Doc) (items : List Entry) (sessions : List Session) (session : ℕ) (new : Session) (proposal : Option Proposal)
    → view_of doc items sessions ≡ m
    → shown new.proposal ≡ proposal → view_of doc items (set sessions (session - 1) new) ≡ with_proposal m session proposal
view_exchanged m doc items sessions session new proposal is same = λ i. record {
  doc = (is i).doc;
  history = (is i).history;
  proposals = (map-set (λ s. shown s.proposal) sessions (session - 1) new ∙ (λ j. set (is j).proposals (session - 1) (same j))) i;
}

-- every operation that waits is that of its session's next call
pub next_calls : (doc : Doc) (items : List Entry) (k : Published) (sessions : List Session) (capacity : ℕ)
    → Keeps (document_of doc) (reverse items) k sessions capacity
    → AreNextCalls (view_of doc items sessions)
next_calls doc items k sessions capacity keeps = record {
  long = length-map sessions (λ s. shown s.proposal) ∙ keeps.long;
  each = λ session who. by session who (get_some sessions (session - 1) (omega (arith, who.from, who.to, keeps.long)));
}
  where
    by : (session : ℕ) → IsSession session → (state : Session) × (slice_get sessions (session - 1) ≡ Some state)
        → IfSome (proposal_of (view_of doc items sessions) session) (λ proposal. IsNextCall (view_of doc items sessions) session proposal)
    by session who found =
        let is : IsSessionState (document_of doc) (reverse items) session found.0 =
        subst (λ n. IsSessionState (document_of doc) (reverse items) n found.0) (omega (arith, who.from)) (keeps.states (session - 1) found.0 found.1) in
        next_call (view_of doc items sessions) session found.0.proposal (sym (get_mapped (λ s. shown s.proposal) sessions (session - 1) found.0 None found.1)) is.proposal

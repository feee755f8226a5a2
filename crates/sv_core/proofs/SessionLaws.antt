-- What stands of a session stays when an entry of another one, or an application, is added.
use Rattle.std.proofs.Common.{◌≡◌, ◌⊎◌, inl, inr, ℕ, suc, ◌+◌, ◌-◌, ◌≤◌, ◌&&◌, if◌then◌else◌, Bool, true, false, List, [], ◌∷◌, ◌++◌, length, take, drop, set, Some, None, slice_get, refl, sym, ap, subst, ◌∙◌, arith}
use Rattle.std.specs.Prelude.{All, max, IfSome}
use Rattle.std.proofs.lemmas.List.{length_push}
use Rattle.std.proofs.lemmas.List.Elements.{All-cons}
use Rattle.std.proofs.lemmas.Option.{IfSome_then}
use Rattle.sv_value.specs.Cuts.{counts, Covers}
use Rattle.sv_app.proofs.TestLaws.{same_test}
use Rattle.sv_effect.specs.BareTables.{bare}
use Rattle.sv_effect.specs.Cut.{as_deps, Lies}
use Rattle.sv_effect.specs.TablesOfCut.{tables_of}
use Rattle.sv_core.specs.declared.entries.Entry.{Entry}
use Rattle.sv_core.specs.declared.entries.Entry.TheVariants.{Answer, Apply, Move}
use Rattle.sv_core.specs.declared.sessions.Proposal.{Proposal as KeptProposal}
use Rattle.sv_core.specs.declared.sessions.Session.{Session}
use Rattle.sv_core.specs.Document.{Document}
use Rattle.sv_core.specs.History.{History, cut_of, back_to, tables_then, published, is_answer, is_move, answered, moved, is_of, home, site_of, seen_of, items_of, item_of}
use Rattle.sv_core.specs.Laws.{IsLawful}
use Rattle.sv_core.specs.Made.{IsRight}
use Rattle.sv_core.specs.MediumState.{AreFreshSessions, IsHeld, IsPending, IsSessionState, site_in}
use Rattle.sv_core.proofs.BirthLaws.{past_lies}
use Rattle.sv_core.proofs.HistoryLaws.{tables_since}
use Rattle.sv_core.proofs.ListLaws.{get_pushed}
use Rattle.sv_core.proofs.PublicationLaws.{set_get}

and_false : (b : Bool) → (b && false) ≡ false
and_false true = refl
and_false false = refl

answered_stays : (e : Entry) (h : History) (k : ℕ) → is_of k e ≡ false → answered (e ∷ h) k ≡ answered h k
answered_stays e h k off =
    ap (λ b. if (is_answer e && b) then suc (answered h k) else answered h k) off
    ∙ ap (λ b. if b then suc (answered h k) else answered h k) (and_false (is_answer e))

moved_stays : (e : Entry) (h : History) (k : ℕ) → is_of k e ≡ false → moved (e ∷ h) k ≡ moved h k
moved_stays e h k off =
    ap (λ b. if (is_move e && b) then suc (moved h k) else moved h k) off ∙ ap (λ b. if b then suc (moved h k) else moved h k) (and_false (is_move e))

site_stays : (doc : Document) (e : Entry) (h : History) (k : ℕ) → is_of k e ≡ false → site_of doc (e ∷ h) k ≡ site_of doc h k
site_stays doc (Answer session index request site at reply label packet) h k off = refl
site_stays doc (Apply site packet) h k off = refl
site_stays doc (Move session site) h k off = ap (λ b. if b then site else site_of doc h k) off

seen_stays : (e : Entry) (h : History) (k o : ℕ) → is_of k e ≡ false → seen_of (e ∷ h) k o ≡ seen_of h k o
seen_stays (Answer session index request site at reply label packet) h k o off =
    ap (λ b. if b then max (seen_of h k o) (cut_of (Answer session index request site at reply label packet ∷ h) site o) else seen_of h k o) off
seen_stays (Apply site packet) h k o off = refl
seen_stays (Move session site) h k o off = refl

item_stays : (doc : Document) (e : Entry) (h : History) (k : ℕ) → is_of k e ≡ false → item_of doc (e ∷ h) k ≡ item_of doc h k
item_stays doc e h k off = λ i. slice_get (items_of doc k) (answered_stays e h k off i + moved_stays e h k off i)

pub held_stays : (doc : Document) (e : Entry) (h : History) (k : ℕ) (proposal : KeptProposal) → IsLawful doc h → is_of k e ≡ false → IsHeld doc h k proposal
    → IsHeld doc (e ∷ h) k proposal
held_stays doc e h k proposal lawful off held = record {
  whose = held.whose;
  next = held.next ∙ sym (answered_stays e h k off);
  lives = held.lives ∙ sym (site_stays doc e h k off);
  made = held.made;
  listed = λ some. item_stays doc e h k off ∙ held.listed some;
  place = omega (arith, held.place);
  quiet = subst (λ n. All (λ x. is_of k x ≡ false) (take n (e ∷ h))) (sym longer)
      (All-cons (λ x. is_of k x ≡ false) e (take (length h - proposal.at) h) off held.quiet);
  seen = subst (λ g. Covers (cut_of g proposal.p.site) (seen_of g k)) (sym back) held.seen;
  right = subst (λ t. IsRight doc proposal.p (bare t)) (sym tables) held.right;
  deps = subst (λ g. proposal.deps ≡ as_deps (cut_of g proposal.p.site)) (sym back) held.deps;
  short = held.short;
}
  where
    longer : length (e ∷ h) - proposal.at ≡ suc (length h - proposal.at)
    longer = omega (arith, held.place)

    back : back_to proposal.at (e ∷ h) ≡ back_to proposal.at h
    back = ap (λ n. drop n (e ∷ h)) longer

    lies : Lies (published doc h) (cut_of (back_to proposal.at h) proposal.p.site)
    lies = past_lies doc (length h - proposal.at) h lawful.legal proposal.p.site

    tables : tables_then doc (published doc (e ∷ h)) (e ∷ h) proposal.p.site proposal.at ≡ tables_then doc (published doc h) h proposal.p.site proposal.at
    tables = (λ i. tables_of doc.schema doc.init (published doc (e ∷ h)) (cut_of (back i) proposal.p.site))
        ∙ sym (tables_since doc 1 (e ∷ h) (cut_of (back_to proposal.at h) proposal.p.site) lies)

pub pending_stays : (doc : Document) (e : Entry) (h : History) (k : ℕ) (proposal : KeptProposal) → IsLawful doc h → is_of k e ≡ false
    → IsPending doc h k proposal → IsPending doc (e ∷ h) k proposal
pending_stays doc e h k proposal lawful off pending = record { held = held_stays doc e h k proposal lawful off pending.held; red = pending.red }

pub state_stays : (doc : Document) (e : Entry) (h : History) (k : ℕ) (state : Session) → IsLawful doc h → is_of k e ≡ false → IsSessionState doc h k state
    → IsSessionState doc (e ∷ h) k state
state_stays doc e h k state lawful off is = record {
  answered = is.answered ∙ sym (answered_stays e h k off);
  moved = is.moved ∙ sym (moved_stays e h k off);
  site = is.site ∙ sym (site_stays doc e h k off);
  seen = λ o. is.seen o ∙ sym (seen_stays e h k o off);
  proposal = IfSome_then state.proposal is.proposal (λ p pending. pending_stays doc e h k p lawful off pending);
}

-- each of them is the state of the session of its place
abbrev pub AreStatesOf : Document → History → List Session → Type 0
AreStatesOf doc h sessions = (place : ℕ) (state : Session) → slice_get sessions place ≡ Some state → IsSessionState doc h (suc place) state

pub states_set : (doc : Document) (e : Entry) (h : History) (session : ℕ) (sessions : List Session) (new : Session) → IsLawful doc h → 1 ≤ session
    → ((k : ℕ) → (k ≡ session → ⊥) → is_of k e ≡ false) → AreStatesOf doc h sessions → IsSessionState doc (e ∷ h) session new
    → AreStatesOf doc (e ∷ h) (set sessions (session - 1) new)
states_set doc e h session sessions new lawful one off are is place state get = by (set_get sessions (session - 1) new place state get)
  where
    by : ((place ≡ session - 1) × (new ≡ state)) ⊎ ((place ≡ session - 1 → ⊥) × (slice_get sessions place ≡ Some state))
        → IsSessionState doc (e ∷ h) (suc place) state
    by (inl both) =
        let at : session ≡ suc place = omega (arith, one, both.0) in
        subst (λ x. IsSessionState doc (e ∷ h) (suc place) x) both.1 (subst (λ k. IsSessionState doc (e ∷ h) k new) at is)
    by (inr both) = state_stays doc e h (suc place) state lawful (off (suc place) (λ same. both.0 (omega (arith, same, one)))) (are place state both.1)

-- the session's state when it was answered
pub state_answered : (doc : Document) (e : Entry) (h : History) (k : ℕ) (old new : Session) → is_answer e ≡ true → is_of k e ≡ true → IsSessionState doc h k old
    → new.answered ≡ old.answered + 1 → new.moved ≡ old.moved → new.site ≡ old.site
    → ((o : ℕ) → counts new.seen o ≡ max (counts old.seen o) (cut_of (e ∷ h) (site_in e) o)) → new.proposal ≡ None → IsSessionState doc (e ∷ h) k new
state_answered doc (Answer session index request site at reply label packet) h k old new an on is answered_is moved_is site_is seen_is none = record {
  answered =
      let counted : answered (Answer session index request site at reply label packet ∷ h) k ≡ suc (answered h k) =
      ap (λ b. if b then suc (answered h k) else answered h k) on in
      omega (arith, counted, answered_is, is.answered);
  moved = moved_is ∙ is.moved;
  site = site_is ∙ is.site;
  seen = λ o. seen_is o ∙ ap (λ n. max n (cut_of (Answer session index request site at reply label packet ∷ h) site o)) (is.seen o)
      ∙ sym (ap (λ b. if b then max (seen_of h k o) (cut_of (Answer session index request site at reply label packet ∷ h) site o) else seen_of h k o) on);
  proposal = subst (λ p. IfSome p (IsPending doc (Answer session index request site at reply label packet ∷ h) k)) (sym none) tt;
}
state_answered doc (Apply site packet) h k old new an on is answered_is moved_is site_is seen_is none = absurd cc
state_answered doc (Move session site) h k old new an on is answered_is moved_is site_is seen_is none = absurd cc

-- and when it moved
pub state_moved : (doc : Document) (h : History) (k site : ℕ) (old new : Session) → IsSessionState doc h k old
    → new.answered ≡ old.answered → new.moved ≡ old.moved + 1 → new.site ≡ site → new.seen ≡ old.seen → new.proposal ≡ None
    → IsSessionState doc (Move k site ∷ h) k new
state_moved doc h k site old new is answered_is moved_is site_is seen_is none = record {
  answered = answered_is ∙ is.answered;
  moved =
      let counted : moved (Move k site ∷ h) k ≡ suc (moved h k) = ap (λ b. if b then suc (moved h k) else moved h k) (same_test k k refl) in
      omega (arith, counted, moved_is, is.moved);
  site = site_is ∙ sym (ap (λ b. if b then site else site_of doc h k) (same_test k k refl));
  seen = λ o. ap (λ s. counts s o) seen_is ∙ is.seen o;
  proposal = subst (λ p. IfSome p (IsPending doc (Move k site ∷ h) k)) (sym none) tt;
}

-- one session more to which nothing has happened
pub new_more : (doc : Document) (many : ℕ) (sessions : List Session) (state : Session) → AreFreshSessions doc many sessions
    → IsSessionState doc [] (suc many) state → state.proposal ≡ None
    → AreFreshSessions doc (many + 1) (sessions ++ state ∷ [])
new_more doc many sessions state are is none = record {
  long = length_push sessions state ∙ ap (λ n. n + 1) are.long;
  states = λ place x get. by place x (get_pushed sessions state place x get);
  none = λ place x get. none_by place x (get_pushed sessions state place x get);
}
  where
    by : (place : ℕ) (x : Session) → (slice_get sessions place ≡ Some x) ⊎ ((place ≡ length sessions) × (state ≡ x)) → IsSessionState doc [] (suc place) x
    by place x (inl old) = are.states place x old
    by place x (inr both) =
        subst (λ y. IsSessionState doc [] (suc place) y) both.1 (subst (λ n. IsSessionState doc [] (suc n) state) (sym (both.0 ∙ are.long)) is)

    none_by : (place : ℕ) (x : Session) → (slice_get sessions place ≡ Some x) ⊎ ((place ≡ length sessions) × (state ≡ x)) → x.proposal ≡ None
    none_by place x (inl old) = are.none place x old
    none_by place x (inr both) = subst (λ y. y.proposal ≡ None) both.1 none

pub new_state : (doc : Document) (k : ℕ) (state : Session) → state.answered ≡ 0 → state.moved ≡ 0 → state.site ≡ home doc k
    → ((o : ℕ) → counts state.seen o ≡ 0) → state.proposal ≡ None
    → IsSessionState doc [] k state
new_state doc k state answered_is moved_is site_is seen_is none = record {
  answered = answered_is;
  moved = moved_is;
  site = site_is;
  seen = seen_is;
  proposal = subst (λ p. IfSome p (IsPending doc [] k)) (sym none) tt;
}

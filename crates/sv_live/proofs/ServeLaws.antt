-- A world is served where all sessions have ended, and every site has caught up.
use Rattle.std.proofs.Common.{◌≡◌, ◌≢◌, ℕ, zero, suc, ◌+◌, ◌-◌, ◌≤◌, ◌<◌, List, [], ◌∷◌, length, refl, sym, ap, subst, ◌∙◌, arith, ◌⊎◌, inl, inr}
use Rattle.std.specs.Prelude.{get_or, Result, Ok, Err, IfOk}
use Rattle.std.specs.Fn.{FnReturnsAt}
use denote.Ref.{Bor}
use denote.Param.Members.{Shared}
use Rattle.sv_hub.specs.Extends.{Extends}
use Rattle.sv_hub.proofs.ExtendsLaws.{extends_trans}
use Rattle.sv_core.specs.declared.docs.Doc.{Doc}
use Rattle.sv_core.specs.declared.docs.Item.{Item}
use Rattle.sv_core.specs.Document.{Document, document_of}
use Rattle.sv_core.specs.History.{History, answered, cut_of, items_of, moved, published}
use Rattle.sv_core.specs.Legal.{Completed, IsSession, Legal}
use Rattle.sv_core.specs.Laws.{IsLawful}
use Rattle.sv_core.specs.Mediums.{WorldView, doc_of, with_history}
use Rattle.sv_core.specs.Packets.{finished}
use Rattle.sv_core.specs.Sound.{IsSite}
use Rattle.sv_core.proofs.ItemLaws.{CountsGrow, counts_grow, items_done}
use Rattle.sv_core.proofs.PastLaws.{finished_grows}
use Rattle.sv_live.specs.Crews.{AllEnded, HasEnded}
use Rattle.sv_live.specs.Receipts.{IsListedSession}
use Rattle.sv_live.specs.Serving.{IsServed, IsTold}
use Rattle.sv_live.proofs.CrewLaws.{has_ended_still}

-- a session that has ended did all its items
ended_did : (doc : Document) (h : History) (k : ℕ) → Legal doc h → doc.sessions ≢ [] → HasEnded doc h k → answered h k + moved h k ≡ length (items_of doc k)
ended_did doc h k legal some e =
    let grow : CountsGrow e.then h k = counts_grow e.then h k e.extends in
    let most : answered h k + moved h k ≤ length (items_of doc k) = items_done doc h k legal some in
    let done = e.ended in let a = grow.answered in let m = grow.moved in
    omega (arith, most, done, a, m)

-- a session that isn't listed has no items
beyond : (xs : List (List Item)) (n : ℕ) → length xs ≤ n → get_or xs n [] ≡ []
beyond [] n less = refl
beyond (x ∷ xs) zero less = absurd (omega (arith, less))
beyond (x ∷ xs) (suc n) less = beyond xs n (omega (arith, less))

unlisted_did : (doc : Document) (h : History) (k : ℕ) → Legal doc h → doc.sessions ≢ [] → length doc.sessions ≤ k - 1 → answered h k + moved h k ≡ length (items_of doc k)
unlisted_did doc h k legal some less =
    let most : answered h k + moved h k ≤ length (items_of doc k) = items_done doc h k legal some in
    let none : length (items_of doc k) ≡ 0 = ap length (beyond doc.sessions (k - 1) less) in
    omega (arith, most, none)

listed_or_beyond : (k n : ℕ) → 1 ≤ k → (k ≤ n) ⊎ (n ≤ k - 1)
listed_or_beyond zero n some = absurd (omega (arith, some))
listed_or_beyond (suc k) zero some = inr (omega arith)
listed_or_beyond (suc zero) (suc n) some = inl (omega arith)
listed_or_beyond (suc (suc k)) (suc n) some = by (listed_or_beyond (suc k) n (omega arith))
  where
    by : (suc k ≤ n) ⊎ (n ≤ suc k - 1) → (suc (suc k) ≤ suc n) ⊎ (suc n ≤ suc (suc k) - 1)
    by (inl le) = inl (omega (arith, le))
    by (inr le) = inr (omega (arith, le))

all_did : (doc : Document) (h : History) → Legal doc h → doc.sessions ≢ [] → AllEnded doc h → (k : ℕ) → IsSession k → answered h k + moved h k ≡ length (items_of doc k)
all_did doc h legal some all k is = by (listed_or_beyond k (length doc.sessions) is.from)
  where
    by : (k ≤ length doc.sessions) ⊎ (length doc.sessions ≤ k - 1) → answered h k + moved h k ≡ length (items_of doc k)
    by (inl le) = ended_did doc h k legal some (all.sessions k (record { from = is.from; to = le }))
    by (inr le) = unlisted_did doc h k legal some le

-- every site has all that is published
abbrev IsWhole : Document → History → Type 0
IsWhole doc h = (site o : ℕ) → IsSite doc site → cut_of h site o ≡ length (published doc h o)

pub all_served : (doc : Doc) (w : WorldView) (before : History) → w.medium.doc ≡ doc → Legal (document_of doc) w.medium.history → (document_of doc).sessions ≢ []
    → AllEnded (document_of doc) before → Extends w.medium.history before → IsWhole (document_of w.medium.doc) w.medium.history → IsServed doc w
all_served doc w before same legal some all more whole = record {
  same_doc = same;
  legal = legal;
  completed = record {
    sessions = all_did (document_of doc) w.medium.history legal some (record { sessions = λ k listed. has_ended_still (document_of doc) before w.medium.history k more (all.sessions k listed) });
    sites = subst (λ d. IsWhole (document_of d) w.medium.history) same whole;
  };
}

-- so is a world just started, where no sessions are listed
pub none_served : (doc : Doc) (w : WorldView) → w.medium.doc ≡ doc → w.medium.history ≡ [] → (document_of doc).sessions ≡ [] → IsServed doc w
none_served doc w same none unlisted = record {
  same_doc = same;
  legal = subst (Legal (document_of doc)) (sym none) tt;
  completed = subst (Completed (document_of doc)) (sym none) (record {
    sessions = λ k is. sym (ap (λ xs. length (get_or xs (k - 1) [])) unlisted);
    sites = λ site o is. refl;
  });
}

-- sessions that ended in what a pass has seen have ended in a world that is found later
pub ended_later : (name : Doc) (w : WorldView) (before seen : History) → AllEnded (document_of name) before → w.medium.doc ≡ name → w.medium.history ≡ seen → Extends seen before
    → AllEnded (doc_of w.medium) w.medium.history
ended_later name w before seen all same found more = subst (λ d. AllEnded (document_of d) w.medium.history) (sym same)
    (record { sessions = λ k listed. has_ended_still (document_of name) before w.medium.history k (subst (λ h. Extends h before) (sym found) more) (all.sessions k listed) })

-- so is a world that finished, where all sessions had ended
pub finish_served : (before after : WorldView) → after ≡ record { medium = with_history before.medium after.medium.history; inboxes = before.inboxes }
    → IsLawful (doc_of after.medium) after.medium.history → (doc_of before.medium).sessions ≢ [] → AllEnded (doc_of before.medium) before.medium.history
    → after.medium.history ≡ finished (doc_of before.medium).sites before.medium.history
    → ((site o : ℕ) → IsSite (doc_of after.medium) site → cut_of after.medium.history site o ≡ length (published (doc_of after.medium) after.medium.history o))
    → IsServed before.medium.doc after
finish_served before after is lawful some all done whole = all_served before.medium.doc after before.medium.history same
    (subst (λ d. Legal (document_of d) after.medium.history) same lawful.legal) some all (finished_grows before.medium.history after.medium.history (doc_of before.medium).sites done) whole
  where
    same : after.medium.doc ≡ before.medium.doc
    same = ap (λ w. w.medium.doc) is

-- what is told of a served world
pub told_ok : {F A E : Type 0} (g : Shared F (Bor WorldView × Unit {0}) (Result A E)) (f : F) (doc : Doc) (w : WorldView) (r : Result A E) → IsServed doc w → FnReturnsAt g f w r
    → IfOk r (λ a. IsTold g f doc (Ok a))
told_ok g f doc w (Ok a) served is = record { world = w; served = served; is = is }
told_ok g f doc w (Err e) served is = tt

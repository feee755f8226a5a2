-- What is known of a call that was found to be next.
use Rattle.std.proofs.Common.{◌≡◌, ◌≢◌, ℕ, ◌+◌, ◌<◌, ◌≤◌, List, [], length, get_or, Some, None, slice_get, refl, sym, ap, subst, ◌∙◌, arith}
use Rattle.std.proofs.lemmas.Option.{slice_get_past, slice_get_read}
use Rattle.sv_app.specs.declared.requests.Request.{Request}
use Rattle.sv_core.specs.declared.docs.Doc.{Doc}
use Rattle.sv_core.specs.declared.docs.Item.{Item}
use Rattle.sv_core.specs.declared.docs.Item.TheVariants.{Call, Go}
use Rattle.sv_core.specs.declared.prepared.Prepared.{Prepared}
use Rattle.sv_core.specs.Document.{Document, document_of}
use Rattle.sv_core.specs.History.{History, answered, item_of, items_of, moved, moves, site_of}
use Rattle.sv_core.specs.Laws.{IsLawful}
use Rattle.sv_core.specs.Legal.{Legal}
use Rattle.sv_core.specs.Made.{IsListedAt}
use Rattle.sv_core.specs.MediumState.{CanCommit}
use Rattle.sv_core.specs.Mediums.{AreNextCalls, MediumView, doc_of}
use Rattle.sv_core.specs.Sound.{Sound, SoundDoc}
use Rattle.sv_core.proofs.ItemLaws.{HasEnded, call_listed, can_commit, go_awaited, has_ended, item_fits}
use Rattle.sv_live.specs.declared.dues.Due.{Due}
use Rattle.sv_live.specs.declared.dues.Next.{Next}
use Rattle.sv_live.specs.declared.dues.Next.TheVariants.{Leave}
use Rattle.sv_live.specs.Dues.{IsCall, IsDuly, IsNextItem}
use Rattle.sv_live.specs.Receipts.{IsEndedWith, IsListedSession}

pub some_listed : (doc : Document) (session : ℕ) → IsListedSession doc session → doc.sessions ≢ []
some_listed doc session listed none = let e : length doc.sessions ≡ 0 = ap length none in omega (arith, listed.from, listed.to, e)

-- the call that is next
pub is_call : (doc : Document) (h : History) (session index gone : ℕ) (request : Request) → Sound doc → Legal doc h → IsListedSession doc session → index ≡ answered h session → gone ≡ moved h session
    → slice_get (items_of doc session) (index + gone) ≡ Some (Call request) → IsCall doc session index gone request
is_call doc h session index gone request sound legal listed next moves stands = record {
  item = stands;
  listed = subst (λ n. IsListedAt doc session n request) (sym next) (call_listed doc h session request legal item);
  fits = item_fits doc h session (Call request) sound (some_listed doc session listed) listed.to listed.from item;
}
  where
    item : item_of doc h session ≡ Some (Call request)
    item = (λ i. slice_get (items_of doc session) (sym next i + sym moves i)) ∙ stands

-- nothing is next
pub is_ended : (doc : Document) (h : History) (session index gone : ℕ) → Legal doc h → IsListedSession doc session → index ≡ answered h session → gone ≡ moved h session
    → slice_get (items_of doc session) (index + gone) ≡ None → IsEndedWith doc h session index
is_ended doc h session index gone legal listed next moves none = record { ended = all.all; calls = next ∙ all.calls; answers = next }
  where
    all : HasEnded doc h session
    all = has_ended doc h session legal (some_listed doc session listed) ((λ i. slice_get (items_of doc session) (sym next i + sym moves i)) ∙ none)

-- the same of the items that were read
pub none_left : (doc read : Doc) (h : History) (session index gone : ℕ) (items : List Item) → Legal (document_of doc) h → IsListedSession (document_of doc) session
    → index ≡ answered h session → gone ≡ moved h session → items ≡ items_of (document_of read) session → read ≡ doc → length items ≤ index + gone → IsEndedWith (document_of doc) h session index
none_left doc read h session index gone items legal listed next moves are same past =
    is_ended (document_of doc) h session index gone legal listed next moves
    (ap (λ xs. slice_get xs (index + gone)) (sym (are ∙ ap (λ d. items_of (document_of d) session) same)) ∙ slice_get_past items (index + gone) past)

pub item_read : (doc read : Doc) (session place : ℕ) (items : List Item) (item : Item) → items ≡ items_of (document_of read) session → read ≡ doc → place < length items
    → item ≡ get_or items place item → slice_get (items_of (document_of doc) session) place ≡ Some item
item_read doc read session place items item are same within is =
    ap (λ xs. slice_get xs place) (sym (are ∙ ap (λ d. items_of (document_of d) session) same)) ∙ slice_get_read items (length items) place item refl within is

pub sending_read : (doc read : Doc) (h : History) (session index gone site : ℕ) (items : List Item) (item : Item) → index ≡ answered h session → gone ≡ moved h session
    → items ≡ items_of (document_of read) session → read ≡ doc → index + gone < length items → item ≡ get_or items (index + gone) item → item ≡ Go site
    → item_of (document_of doc) h session ≡ Some (Go site)
sending_read doc read h session index gone site items item next moves are same within is go =
    (λ i. slice_get (items_of (document_of doc) session) (sym next i + sym moves i)) ∙ item_read doc read session (index + gone) items item are same within is ∙ ap (λ x. Some x) go

pub call_read : (doc read : Doc) (h : History) (session index gone : ℕ) (request : Request) (items : List Item) (item : Item) → SoundDoc doc → Legal (document_of doc) h
    → IsListedSession (document_of doc) session → index ≡ answered h session → gone ≡ moved h session → items ≡ items_of (document_of read) session → read ≡ doc
    → index + gone < length items → item ≡ get_or items (index + gone) item → item ≡ Call request → IsCall (document_of doc) session index gone request
call_read doc read h session index gone request items item sound legal listed next moves are same within is call =
    is_call (document_of doc) h session index gone request sound.document legal listed next moves (item_read doc read session (index + gone) items item are same within is ∙ ap (λ x. Some x) call)

-- a session that leaves has its next item for it
pub leaves : (m : MediumView) (session site : ℕ) (next : Next) → SoundDoc m.doc → Legal (doc_of m) m.history → IsListedSession (doc_of m) session → next ≡ Leave site
    → IsNextItem m.doc m.history session next → moves m.history < (doc_of m).moves
leaves m session site next sound legal listed is item =
    go_awaited m session site sound.document legal listed.from listed.to (subst (IsNextItem m.doc m.history session) is item)

-- what was prepared for a call that is due can be committed where the session hasn't moved since
pub due_commits : (m : MediumView) (session : ℕ) (due : Due) (p : Prepared) → IsLawful (doc_of m) m.history → AreNextCalls m → IsListedSession (doc_of m) session → IsDuly m.doc session due p
    → site_of (doc_of m) m.history session ≡ due.site → moved m.history session ≡ due.moved → CanCommit m p
due_commits m session due p lawful nexts listed duly site moves =
    can_commit m p due.moved lawful.sound lawful.legal nexts duly.made
    (subst (λ k. k ≤ length (doc_of m).sessions) (sym duly.whose) listed.to)
    (duly.lives ∙ sym site ∙ ap (site_of (doc_of m) m.history) (sym duly.whose))
    (ap (moved m.history) duly.whose ∙ moves)
    ((λ i. slice_get (items_of (doc_of m) (duly.whose i)) (duly.next i + due.moved)) ∙ duly.call.item)

-- What a session does next, as it was found in a turn.
use Rattle.std.specs.Prelude.{◌≡◌, ℕ, ◌+◌, ◌≤◌, length, Some, Option, IfSome, slice_get}
use Rattle.sv_app.specs.declared.requests.Request.{Request}
use Rattle.sv_core.specs.declared.docs.Doc.{Doc}
use Rattle.sv_core.specs.declared.docs.Item.TheVariants.{Call, Go}
use Rattle.sv_core.specs.declared.prepared.Prepared.{Prepared}
use Rattle.sv_core.specs.Document.{Document, document_of}
use Rattle.sv_core.specs.History.{History, item_of, items_of}
use Rattle.sv_core.specs.Made.{IsListedAt, Made}
use Rattle.sv_core.specs.Sound.{IsSite, RequestFits, SoundDoc}
use Rattle.sv_live.specs.declared.dues.Due.{Due}
use Rattle.sv_live.specs.declared.dues.Next.{Next}
use Rattle.sv_live.specs.declared.dues.Next.TheVariants.{Ask, End, Leave}
use Rattle.sv_live.specs.declared.turns.Entered.{Entered}
use Rattle.sv_live.specs.Receipts.{IsAnswerAt, IsEndedWith}

-- the session's item behind so many answers and so many moves is this request, which fits; its number among the session's calls is that of the answers
pub record IsCall (doc : Document) (session index moved : ℕ) (request : Request) : Type 0 where
  pub item : slice_get (items_of doc session) (index + moved) ≡ Some (Call request)
  pub listed : IsListedAt doc session index request
  pub fits : RequestFits doc request

-- a call of a session of this document, which is sound
pub record IsDue (doc : Doc) (session : ℕ) (due : Due) : Type 0 where
  pub same_doc : due.doc.value ≡ doc
  pub sound : SoundDoc doc
  pub there : IsSite (document_of doc) due.site
  pub request : Request
  pub call : IsCall (document_of doc) session due.index due.moved request

-- what was prepared for that call
pub record IsDuly (doc : Doc) (session : ℕ) (due : Due) (p : Prepared) : Type 0 where
  pub made : Made (document_of doc) p
  pub whose : p.session ≡ session
  pub lives : p.site ≡ due.site
  pub next : p.index ≡ due.index
  pub call : IsCall (document_of doc) session due.index due.moved p.request

-- what the session does next: nothing, where all is done; its next item
abbrev pub IsNextItem : Doc → History → ℕ → Next → Type 0
IsNextItem doc h session (End count) = IsEndedWith (document_of doc) h session count
IsNextItem doc h session (Leave site) = item_of (document_of doc) h session ≡ Some (Go site)
IsNextItem doc h session (Ask due) = IsDue doc session due

-- what was found in a turn, in which a session that leaves went
abbrev pub IsFound : Doc → History → ℕ → Next → Type 0
IsFound doc h session (End count) = IsEndedWith (document_of doc) h session count
IsFound doc h session (Leave site) = Unit {0}
IsFound doc h session (Ask due) = IsDue doc session due

-- the answer of the session stands behind all that stood before
pub record IsEntry (before after : History) (session : ℕ) (e : Entered) : Type 0 where
  pub answer : IsAnswerAt after session e.place e.index e.packet
  pub unseen : length before ≤ e.place

abbrev pub IsEntryIfAny : History → History → ℕ → Option Entered → Type 0
IsEntryIfAny before after session entered = IfSome entered (λ e. IsEntry before after session e)

-- What steps ask of a world, and steps that are made one after the other.
use Rattle.std.proofs.Common.{◌≡◌, ℕ, ◌<◌, List, [], ◌∷◌, ◌++◌, length, refl, sym, ap, subst, ◌∙◌, arith, append_assoc, append-nil}
use Rattle.std.proofs.lemmas.List.Elements.{All-head}
use Rattle.sv_value.specs.declared.packets.Packet.{Packet}
use Rattle.sv_app.specs.declared.requests.Request.{Request}
use Rattle.sv_core.specs.declared.docs.Doc.{Doc}
use Rattle.sv_core.specs.Document.{document_of}
use Rattle.sv_core.specs.History.{moves}
use Rattle.sv_core.specs.Legal.{IsSession}
use Rattle.sv_core.specs.MediumState.{IsAwaited}
use Rattle.sv_core.specs.Mediums.{WorldView, doc_of}
use Rattle.sv_core.specs.Sound.{IsSite, RequestFits}
use Rattle.sv_listing.specs.Right.{Right}
use Rattle.sv_report.specs.ReplayText.{AreSteps, started}
use Rattle.sv_report.specs.Steps.{CanMakeAll, IsRuled, Replayed, StandsBefore, Stepped, StepsFit}
use Rattle.sv_report.proofs.GrowLaws.{all_can, first_can, others_can, same_doc}
use Rattle.sv_workload.specs.declared.parts.Step.{Step}
use Rattle.sv_workload.specs.declared.parts.Step.TheVariants as steps
use Rattle.sv_workload.specs.PartsFit.{IsRequestOf, StepFits}
use Rattle.sv_workload.specs.PartsFit as fits

fits_first : (w : WorldView) (step : Step) (others : List Step) → CanMakeAll w (step ∷ others) → StepFits (doc_of w.medium).schema (doc_of w.medium).txns (doc_of w.medium).sites step
fits_first w step others can = All-head (StepFits (doc_of w.medium).schema (doc_of w.medium).txns (doc_of w.medium).sites) step others can.each

session_of : (session : ℕ) → fits.IsSession session → IsSession session
session_of session who = record { from = who.0; to = who.1 }

pub ask_who : (w : WorldView) (session : ℕ) (request : Request) → CanMakeAll w (steps.Ask session request ∷ []) → IsSession session
ask_who w session request can = session_of session (fits_first w (steps.Ask session request) [] can).0

pub ask_fits : (w : WorldView) (session : ℕ) (request : Request) → CanMakeAll w (steps.Ask session request ∷ []) → RequestFits (doc_of w.medium) request
ask_fits w session request can = let of = (fits_first w (steps.Ask session request) [] can).1 in record { txn = of.txn; among = of.among; args = of.fits }

pub ask_awaited : (w : WorldView) (session : ℕ) (request : Request) → CanMakeAll w (steps.Ask session request ∷ []) → IsAwaited w.medium
ask_awaited w session request can = let few = can.asks in omega (arith, few)

pub order_who : (w : WorldView) (session : ℕ) → CanMakeAll w (steps.Order session ∷ []) → IsSession session
order_who w session can = session_of session (fits_first w (steps.Order session) [] can)

pub deliver_site : (w : WorldView) (site : ℕ) (packet : Packet) → CanMakeAll w (steps.Deliver site packet ∷ []) → IsSite (doc_of w.medium) site
deliver_site w site packet can = (fits_first w (steps.Deliver site packet) [] can).0

pub settle_site : (w : WorldView) (site : ℕ) → CanMakeAll w (steps.Settle site ∷ []) → IsSite (doc_of w.medium) site
settle_site w site can = fits_first w (steps.Settle site) [] can

pub catch_site : (w : WorldView) (site : ℕ) → CanMakeAll w (steps.Catch site ∷ []) → IsSite (doc_of w.medium) site
catch_site w site can = fits_first w (steps.Catch site) [] can

pub show_site : (w : WorldView) (site table : ℕ) → CanMakeAll w (steps.Show site table ∷ []) → IsSite (doc_of w.medium) site
show_site w site table can = (fits_first w (steps.Show site table) [] can).0

pub show_table : (w : WorldView) (site table : ℕ) → CanMakeAll w (steps.Show site table ∷ []) → table < length (doc_of w.medium).schema
show_table w site table can = (fits_first w (steps.Show site table) [] can).1

pub cut_site : (w : WorldView) (site : ℕ) → CanMakeAll w (steps.ShowCut site ∷ []) → IsSite (doc_of w.medium) site
cut_site w site can = fits_first w (steps.ShowCut site) [] can

pub move_who : (w : WorldView) (session site : ℕ) → CanMakeAll w (steps.Move session site ∷ []) → IsSession session
move_who w session site can = session_of session (fits_first w (steps.Move session site) [] can).0

pub move_site : (w : WorldView) (session site : ℕ) → CanMakeAll w (steps.Move session site ∷ []) → IsSite (doc_of w.medium) site
move_site w session site can = (fits_first w (steps.Move session site) [] can).1

pub move_awaited : (w : WorldView) (session site : ℕ) → CanMakeAll w (steps.Move session site ∷ []) → moves w.medium.history < (doc_of w.medium).moves
move_awaited w session site can = let few = can.gos in omega (arith, few)

pub ruleset fitting = (ask_who, ask_fits, ask_awaited, order_who, deliver_site, settle_site, catch_site, show_site, show_table, cut_site, move_who, move_site, move_awaited)

-- before the first step
pub begins : (before : List ℕ) (w : WorldView) (all : List Step) → w ≡ started w.medium.doc → StepsFit (document_of w.medium.doc) all → IsRuled w → StandsBefore before w all before w all
begins before w all just fit ruled = record {
  text = [];
  grown = sym (append-nil before);
  can = subst (λ x. CanMakeAll x all) (sym just) (all_can w.medium.doc all fit);
  ruled = ruled;
  leads = λ rest after are. are;
}

pub next_can : (before now : List ℕ) (w next : WorldView) (all items left : List Step) (step : Step) → items ≡ step ∷ left → StandsBefore before w all now next items → CanMakeAll next (step ∷ [])
next_can before now w next all items left step are stands = first_can next step left (subst (CanMakeAll next) are stands.can)

-- behind a step more
pub goes_on : (before now later : List ℕ) (w next last : WorldView) (all items left : List Step) (step : Step) → items ≡ step ∷ left → StandsBefore before w all now next items
    → Stepped now next step later last → StandsBefore before w all later last left
goes_on before now later w next last all items left step are stands made = record {
  text = stands.text ++ made.line;
  grown = made.grown ∙ ap (λ l. l ++ made.line) stands.grown ∙ append_assoc before stands.text made.line;
  can = others_can next last step left made.line (subst (CanMakeAll next) are stands.can) made.is;
  ruled = subst (λ (doc : Doc). Right (document_of doc).schema (document_of doc).txns doc.dict) (sym (same_doc next last step made.line made.is)) stands.ruled;
  leads = λ rest after steps. subst (λ l. AreSteps w all l after) (sym (append_assoc stands.text made.line rest))
      (stands.leads (made.line ++ rest) after (subst (λ l. AreSteps next l (made.line ++ rest) after) (sym are) (made.line, rest, last, made.is, steps, refl)));
}

-- behind the last one
none_left : (items : List Step) → length items ≡ 0 → items ≡ []
none_left [] none = refl
none_left (step ∷ items) none = absurd (omega (arith, none))

pub ends : (before now : List ℕ) (w next : WorldView) (all steps items : List Step) → length items ≡ 0 → all ≡ steps → StandsBefore before w all now next items → Replayed before w steps now next
ends before now w next all steps items none same stands = record {
  text = stands.text;
  are = subst (λ l. AreSteps w l stands.text next) same
      (subst (λ l. AreSteps w all l next) (append-nil stands.text) (stands.leads [] next (subst (λ l. AreSteps next l [] next) (sym (none_left items none)) (refl, refl))));
  grown = stands.grown;
}

pub ruleset stepping = (begins, next_can, goes_on, ends)

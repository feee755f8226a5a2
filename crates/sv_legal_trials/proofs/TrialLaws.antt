-- The document of parts that were read is sound, and its steps fit it.
use Rattle.std.proofs.Common.{◌≡◌, ◌∙◌, ℕ, ◌≤◌, List, [], ◌∷◌, length, refl, sym, ap, subst, arith}
use Rattle.std.specs.Prelude.{All}
use Rattle.std.proofs.lemmas.List.Elements.{All-nil}
use Rattle.sv_app.specs.declared.apps.App.{App}
use Rattle.sv_app.specs.Accepted.{AcceptedApp}
use Rattle.sv_app.specs.Schema.{schema_of}
use Rattle.sv_app.specs.Trees.{transactions_of}
use Rattle.sv_core.specs.declared.docs.Item.{Item}
use Rattle.sv_core.specs.Document.{Document, document_of}
use Rattle.sv_label.specs.Groups.{Group}
use Rattle.sv_listing.specs.Frugal.{Frugal}
use Rattle.sv_listing.specs.Right.{Right}
use Rattle.sv_core.specs.declared.docs.Doc.{Doc}
use Rattle.sv_core.specs.Sound.{ItemFits, Sound, SoundDoc}
use Rattle.sv_core.specs.Mediums.{WorldView}
use Rattle.sv_report.specs.ReplayText.{AreSteps}
use Rattle.sv_report.specs.Steps.{Replayed, StepsFit}
use Rattle.sv_report.proofs.GrowLaws.{same_doc}
use Rattle.sv_workload.specs.declared.parts.Parts.{Parts}
use Rattle.sv_workload.specs.declared.parts.Step.{Step}
use Rattle.sv_workload.specs.declared.parts.Work.TheVariants as works
use Rattle.sv_workload.specs.LastRefused.{total}
use Rattle.sv_workload.specs.LineReading.{step_asks}
use Rattle.sv_workload.specs.PartsFit.{PartsFit, WorkFits, step_moves}

module _ (app : App) (dict : List Group) (parts : Parts) (steps : List Step) (fit : PartsFit (schema_of app.tables.items) (transactions_of app.txns.items) parts) (work : parts.work ≡ works.Replay steps) where
  fits : WorkFits (schema_of app.tables.items) (transactions_of app.txns.items) parts.sites (works.Replay steps)
  fits = subst (WorkFits (schema_of app.tables.items) (transactions_of app.txns.items) parts.sites) work fit.work

  pub few_steps : length steps ≤ 65536
  few_steps = fits.short.0

  abbrev made : List (List Item) → ℕ → ℕ → Doc
  made sessions asks moves = record {
    app = app;
    dict = dict;
    init = parts.init;
    sites = parts.sites;
    rows = parts.rows;
    changes = parts.changes;
    sessions = sessions;
    asks = asks;
    moves = moves;
  }

  abbrev document : List (List Item) → ℕ → ℕ → Document
  document sessions asks moves = document_of (made sessions asks moves)

  sound_document : (sessions : List (List Item)) (asks moves : ℕ) → AcceptedApp (schema_of app.tables.items) (transactions_of app.txns.items) → sessions ≡ [] → asks ≡ total step_asks steps
      → moves ≡ total step_moves steps → Sound (document sessions asks moves)
  sound_document sessions asks moves accepted none asked moved = subst Sound (λ i. document (sym none i) (sym asked i) (sym moved i)) (record {
    accepted = accepted;
    init = fit.rows;
    distinct = fit.distinct;
    valid = fit.valid;
    room = fit.sizes.room;
    some = fit.sizes.some;
    sites = fit.sizes.sites;
    rows = fit.sizes.rows;
    changes = fit.sizes.changes;
    sessions = omega arith;
    items = All-nil (All (ItemFits (document [] (total step_asks steps) (total step_moves steps))));
    calls = λ listed. absurd (listed refl);
    gos = λ listed. absurd (listed refl);
    asks = fits.asks;
    moves = fits.moves;
  })

  pub is_sound : (sessions : List (List Item)) (asks moves : ℕ) → AcceptedApp (schema_of app.tables.items) (transactions_of app.txns.items)
      → Frugal (schema_of app.tables.items) (transactions_of app.txns.items) dict → Right (schema_of app.tables.items) (transactions_of app.txns.items) dict → sessions ≡ [] → asks ≡ total step_asks steps
      → moves ≡ total step_moves steps → SoundDoc (made sessions asks moves)
  is_sound sessions asks moves accepted frugal right none asked moved = record { document = sound_document sessions asks moves accepted none asked moved; frugal = frugal; right = right }

  pub steps_fit : (sessions : List (List Item)) (asks moves : ℕ) → sessions ≡ [] → asks ≡ total step_asks steps → moves ≡ total step_moves steps → StepsFit (document sessions asks moves) steps
  steps_fit sessions asks moves none asked moved = subst (λ d. StepsFit d steps) (λ i. document (sym none i) (sym asked i) (sym moved i))
      (record { unlisted = refl; each = fits.each; asks = omega arith; moves = omega arith })

pub ruleset reading = (few_steps, is_sound, steps_fit)

-- steps leave the document
steps_keep : (w next : WorldView) (steps : List Step) (text : List ℕ) → AreSteps w steps text next → next.medium.doc ≡ w.medium.doc
steps_keep w next [] text are = ap (λ (x : WorldView). x.medium.doc) are.1
steps_keep w next (step ∷ steps) text (line, rest, mid, is, more, whole) = steps_keep mid next steps rest more ∙ same_doc w mid step line is

pub sound_behind : (doc : Doc) (before after : List ℕ) (w next : WorldView) (steps : List Step) → w.medium.doc ≡ doc → SoundDoc doc → Replayed before w steps after next → SoundDoc next.medium.doc
sound_behind doc before after w next steps is sound made = subst SoundDoc (sym (steps_keep w next steps made.text made.are ∙ is)) sound

-- A replay that an accepted document asks for is sound and fits, its steps are counted, and its text is the answer.
use Rattle.std.proofs.Common.{◌≡◌, ◌∙◌, ℕ, ◌+◌, ◌<◌, ◌≤◌, List, [], ◌∷◌, ◌++◌, length, take, get_or, Result, Ok, Err, IfOk, refl, sym, ap, subst, arith}
use Rattle.std.specs.Prelude.{All, codes}
use Rattle.std.proofs.lemmas.List.{take_more}
use Rattle.std.proofs.lemmas.List.Elements.{All-nil}
use Rattle.sv_value.specs.declared.memory.NoMemory.{NoMemory as OutOfMemory}
use Rattle.sv_app.specs.declared.refusals.Code.TheVariants.{Syntax}
use Rattle.sv_app.specs.declared.refusals.Refusal.{Refusal}
use Rattle.sv_app.specs.Schema.{schema_of}
use Rattle.sv_app.specs.Trees.{transactions_of}
use Rattle.sv_label.specs.Groups.{Group}
use Rattle.sv_listing.specs.Frugal.{Frugal}
use Rattle.sv_listing.specs.Right.{Right}
use Rattle.sv_lex.specs.Spots.{spot_at}
use Rattle.sv_core.specs.declared.docs.Doc.{Doc}
use Rattle.sv_core.specs.Document.{Document, document_of}
use Rattle.sv_core.specs.Mediums.{WorldView}
use Rattle.sv_core.specs.Sound.{ItemFits, Sound, SoundDoc}
use Rattle.sv_report.specs.ReplayText.{AreSteps, started}
use Rattle.sv_report.specs.Steps.{Replayed, StepsFit}
use Rattle.sv_report.proofs.LegalLaws.{replays_are_legal}
use Rattle.sv_workload.specs.declared.parts.Step.{Step}
use Rattle.sv_workload.specs.declared.parts.Work.TheVariants as works
use Rattle.sv_workload.specs.LastRefused.{total}
use Rattle.sv_workload.specs.LineReading.{step_asks}
use Rattle.sv_workload.specs.PartsFit.{WorkFits, step_moves}
use Rattle.sv_tool.specs.declared.answers.Answer.{Answer as CodeAnswer}
use Rattle.sv_tool.specs.declared.documents.Checked.{Checked}
use Rattle.sv_tool.specs.declared.replays.Replay.{Replay}
use Rattle.sv_tool.specs.declared.statuses.Status.TheVariants.{Done}
use Rattle.sv_tool.specs.Answer.{Answer, refused_with}
use Rattle.sv_tool.specs.ReadDocument.{IsFit, IsOfBytes, said_by}
use Rattle.sv_tool.specs.ReplayAnswer.{HasNoSteps, IsLegalReplay, IsReplayAnswer, IsReplayOf, NoSteps, Replays, replay_document}
use Rattle.sv_tool.specs.Replays.{IsReplayIn, IsReplayed}
use Rattle.sv_tool.specs.Statuses.{status_number}

-- one step more
total_more : (count : Step → ℕ) (xs : List Step) (step : Step) → total count (xs ++ step ∷ []) ≡ total count xs + count step
total_more count [] step = omega arith
total_more count (x ∷ xs) step = let more = total_more count xs step in omega (arith, more)

more : (count : Step → ℕ) (steps : List Step) (i : ℕ) (step : Step) → i < length steps → step ≡ get_or steps i step → total count (take (i + 1) steps) ≡ total count (take i steps) + count step
more count steps i step lt is = ap (total count) (take_more steps i step lt ∙ ap (λ x. take i steps ++ x ∷ []) (sym is)) ∙ total_more count (take i steps) step

pub asks_more : (steps : List Step) (i : ℕ) (step : Step) → i < length steps → step ≡ get_or steps i step → total step_asks (take (i + 1) steps) ≡ total step_asks (take i steps) + step_asks step
asks_more steps i step lt is = more step_asks steps i step lt is

pub moves_more : (steps : List Step) (i : ℕ) (step : Step) → i < length steps → step ≡ get_or steps i step → total step_moves (take (i + 1) steps) ≡ total step_moves (take i steps) + step_moves step
moves_more steps i step lt is = more step_moves steps i step lt is

pub ruleset counting = (asks_more, moves_more)

-- the parts of an accepted document that asks for a replay
module _ (checked : Checked) (steps : List Step) (fit : IsFit checked) (work : checked.parts.work ≡ works.Replay steps) where
  fits : WorkFits (schema_of checked.app.tables.items) (transactions_of checked.app.txns.items) checked.parts.sites (works.Replay steps)
  fits = subst (WorkFits (schema_of checked.app.tables.items) (transactions_of checked.app.txns.items) checked.parts.sites) work fit.parts.work

  pub few_steps : length steps ≤ 65536
  few_steps = fits.short.0

  module _ (doc : Doc) (dict : doc.dict ≡ checked.dict) (is : document_of doc ≡ replay_document (schema_of checked.app.tables.items) (transactions_of checked.app.txns.items) checked.parts steps) where
    sound : Sound (document_of doc)
    sound = subst Sound (sym is) (record {
      accepted = fit.accepted;
      init = fit.parts.rows;
      distinct = fit.parts.distinct;
      valid = fit.parts.valid;
      room = fit.parts.sizes.room;
      some = fit.parts.sizes.some;
      sites = fit.parts.sizes.sites;
      rows = fit.parts.sizes.rows;
      changes = fit.parts.sizes.changes;
      sessions = omega arith;
      items = All-nil (All (ItemFits (replay_document (schema_of checked.app.tables.items) (transactions_of checked.app.txns.items) checked.parts steps)));
      calls = λ listed. absurd (listed refl);
      gos = λ listed. absurd (listed refl);
      asks = fits.asks;
      moves = fits.moves;
    })

    sound_doc : SoundDoc doc
    sound_doc = record {
      document = sound;
      frugal = subst (λ (p : Document × List Group). Frugal p.0.schema p.0.txns p.1) (λ i. (sym is i, sym dict i)) fit.frugal;
      right = subst (λ (p : Document × List Group). Right p.0.schema p.0.txns p.1) (λ i. (sym is i, sym dict i)) fit.right;
    }

    steps_fit : StepsFit (document_of doc) steps
    steps_fit = subst (λ d. StepsFit d steps) (sym is) (record { unlisted = refl; each = fits.each; asks = omega arith; moves = omega arith })

    pub replay_read : (replay : Replay) → replay ≡ record { doc = doc; steps = steps } → IsReplayIn checked replay
    replay_read replay same = subst (IsReplayIn checked) (sym same) (record { work = work; document = is; sound = sound_doc; fit = steps_fit })

-- the text of steps that were made, and `end`
pub replayed : (doc : Doc) (steps : List Step) (before made text : List ℕ) (w next : WorldView) → SoundDoc doc → StepsFit (document_of doc) steps → w ≡ started doc → before ≡ []
    → Replayed before w steps made next → text ≡ made ++ codes "end\n" → IsReplayed doc steps text
replayed doc steps before made text w next sound fit begun none all ends = record {
  lines = all.text;
  after = next;
  are = are;
  ends = ends ∙ ap (λ l. l ++ codes "end\n") (all.grown ∙ ap (λ l. l ++ all.text) none);
  legal = replays_are_legal doc steps all.text next sound.document fit are;
}
  where
    are : AreSteps (started doc) steps all.text next
    are = subst (λ v. AreSteps v steps all.text next) begun all.are

pub ruleset replaying = replayed

-- what was read is a replay of the bytes
of_bytes : (bytes : List ℕ) (checked : Checked) (replay : Replay) → IsOfBytes bytes checked → IsReplayIn checked replay → IsReplayOf bytes replay.doc replay.steps
of_bytes bytes checked replay of in_it = record {
  schema = of.schema;
  txns = of.txns;
  parts = checked.parts;
  is = of.is;
  work = in_it.work;
  document = in_it.document ∙ (λ i. replay_document (of.of.tables i) (of.of.transactions i) checked.parts replay.steps);
}

pub replay_answered : (bytes : List ℕ) (checked : Checked) (replay : Replay) (result : Result CodeAnswer OutOfMemory) → IsOfBytes bytes checked → IsReplayIn checked replay
    → IfOk result (λ answer. answer.status ≡ Done) → IfOk result (λ answer. IsReplayed replay.doc replay.steps answer.text.items) → IfOk result (λ answer. IsReplayAnswer bytes (said_by answer))
replay_answered bytes checked replay (Ok answer) of in_it done made =
    subst (λ s. IsReplayAnswer bytes (record { status = s; text = answer.text.items })) (sym done)
    (Replays replay.doc replay.steps answer.text.items (of_bytes bytes checked replay of in_it) (record { lines = made.lines; after = made.after; are = made.are; ends = made.ends }))
replay_answered bytes checked replay (Err none) of in_it done made = tt

pub replay_legal : (bytes : List ℕ) (checked : Checked) (replay : Replay) (result : Result CodeAnswer OutOfMemory) → IsOfBytes bytes checked → IsReplayIn checked replay
    → IfOk result (λ answer. IsReplayed replay.doc replay.steps answer.text.items) → IfOk result (λ answer. answer.status ≡ Done → IsLegalReplay bytes)
replay_legal bytes checked replay (Ok answer) of in_it made = λ done.
    record { doc = replay.doc; steps = replay.steps; lines = made.lines; after = made.after; of = of_bytes bytes checked replay of in_it; are = made.are; legal = made.legal }
replay_legal bytes checked replay (Err none) of in_it made = tt

pub stepless_answered : (bytes : List ℕ) (checked : Checked) (refusal : Refusal) (result : Result CodeAnswer OutOfMemory) → IsOfBytes bytes checked → HasNoSteps checked.parts.work
    → refusal ≡ record { spot = spot_at bytes (length bytes); code = Syntax } → IfOk result (λ answer. said_by answer ≡ refused_with refusal) → IfOk result (λ answer. IsReplayAnswer bytes (said_by answer))
stepless_answered bytes checked refusal (Ok answer) of none is said = subst (IsReplayAnswer bytes) (sym (said ∙ ap refused_with is)) (NoSteps of.schema of.txns checked.parts of.is none)
stepless_answered bytes checked refusal (Err error) of none is said = tt

-- a refusal isn't the end of a replay
pub refused_legal : (bytes : List ℕ) (refusal : Refusal) (result : Result CodeAnswer OutOfMemory) → IfOk result (λ answer. said_by answer ≡ refused_with refusal)
    → IfOk result (λ answer. answer.status ≡ Done → IsLegalReplay bytes)
refused_legal bytes refusal (Ok answer) said = λ done. let one : 1 ≡ 0 = ap (λ (a : Answer). status_number a.status) (sym said) ∙ ap status_number done in absurd (omega (arith, one))
refused_legal bytes refusal (Err error) said = tt

pub ruleset reading = (few_steps, replay_read)

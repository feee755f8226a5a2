-- What is prepared is right on all valid tables that agree with what was read.
use Rattle.std.proofs.Common.{◌≡◌, ℕ, true, List, [], ◌∷◌, map, Option, refl, sym, ap, subst, ◌∙◌, arith}
use Rattle.std.specs.Prelude.{ℤ, ◌≤◌, ◌<◌, ◌^◌, length, Some, slice_get}
use Rattle.std.proofs.lemmas.List.Elements.{All-nil}
use Rattle.sv_value.specs.declared.values.Key.{Key}
use Rattle.sv_app.specs.declared.apps.App.{App}
use Rattle.sv_app.specs.declared.instances.Instance.{Instance}
use Rattle.sv_app.specs.declared.requests.Arg.{Arg}
use Rattle.sv_app.specs.declared.requests.Request.{Request}
use Rattle.sv_app.specs.Accepted.{AcceptedApp}
use Rattle.sv_app.specs.Draws.{first_key}
use Rattle.sv_app.specs.Schema.{Declaration, schema_of}
use Rattle.sv_app.specs.Tables.{Tables}
use Rattle.sv_app.specs.Trees.{Transaction, transactions_of}
use Rattle.sv_app.specs.Valid.{Valid, IsFirstBroken}
use Rattle.sv_effect.specs.declared.outcomes.Outcome.{Outcome}
use Rattle.sv_effect.specs.declared.outcomes.Outcome.TheVariants.{Done, Abort, NoRow, Exists, Range, TooLarge}
use Rattle.sv_effect.specs.declared.ops.RowEffect.{RowEffect}
use Rattle.sv_effect.specs.declared.outcomes.Ran.{Ran as RanValue}
use Rattle.sv_effect.specs.declared.reads.Read.{Read}
use Rattle.sv_effect.specs.Agrees.{Agrees}
use Rattle.sv_effect.specs.Effects.{with_effects, FindsAll}
use Rattle.sv_effect.specs.Faces.{Face}
use Rattle.sv_effect.specs.Follows.{Follows}
use Rattle.sv_effect.specs.Reads.{ReadValue, read_of}
use Rattle.sv_effect.specs.Fits.{AllFit}
use Rattle.sv_effect.specs.Run.{RunResult, run, ran_of}
use Rattle.sv_effect.specs.RunChanges.{Effect, effect_of}
use Rattle.sv_effect.proofs.FollowLaws as follow
use Rattle.sv_trace.specs.Laws.{RowsAreOf}
use Rattle.sv_trace.proofs.MakeLaws.{runs_make_their_tables}
use Rattle.sv_check.specs.declared.verdicts.Verdict.TheVariants.{Keeps, Breaks}
use Rattle.sv_check.specs.Verdicts.{Judges}
use Rattle.sv_interp.specs.Results.{IsRunOf, RunFits, FitsWhereRunnable, IsEmptyAfter, IsEmptyUnlessDone, IsEmpty}
use Rattle.sv_threat.specs.declared.label.Label.{Label}
use Rattle.sv_threat.specs.declared.label.Label.TheVariants.{Nothing, Blue, Red}
use Rattle.sv_threat.specs.Labels.{IsLabel}
use Rattle.sv_label.specs.Covers.{AreShaped}
use Rattle.sv_label.specs.Decided.{IsDecided}
use Rattle.sv_label.specs.Groups.{Group}
use Rattle.sv_listing.specs.Right.{AreWords, IsFirstThreat, Right}
use Rattle.sv_core.specs.declared.docs.Doc.{Doc}
use Rattle.sv_core.specs.declared.entries.Reply.{Reply}
use Rattle.sv_core.specs.declared.entries.Reply.TheVariants.{Ran, Refused, Full}
use Rattle.sv_core.specs.declared.prepared.Answered.{Answered}
use Rattle.sv_core.specs.declared.prepared.Prepared.{Prepared}
use Rattle.sv_core.specs.Document.{Document, document_of}
use Rattle.sv_core.specs.Judged.{IsJudged, IsReply, is_done, made_by}
use Rattle.sv_core.specs.Labelled.{IsLabelBy}
use Rattle.sv_core.specs.Legal.{IsSession}
use Rattle.sv_core.specs.Made.{DecidedBy, IsAnswer, IsAnswerTo, IsAnswerOn, IsListedAt, IsRight, Made}
use Rattle.sv_core.specs.Sound.{IsSite, RequestFits}

-- the label of a run that changes something
pub by_dictionary : (schema : List Declaration) (groups : List Group) (txn : ℕ) (effects : List RowEffect) (trace seen : List Instance) (label : Label) → 1 ≤ length effects → seen ≡ trace
    → IsDecided schema groups txn seen label → IsLabelBy schema groups txn trace (map effect_of effects) label
by_dictionary schema groups txn [] trace seen label some is decided = absurd (omega (arith, some))
by_dictionary schema groups txn (e ∷ es) trace seen label some is decided = subst (λ t. IsDecided schema groups txn t label) is decided

-- the answer to a run after which all invariants hold
kept : (schema : List Declaration) (groups : List Group) (txn : ℕ) (ran : RanValue) (label : Label) (t : Tables) → Judges schema (map effect_of ran.effects) Keeps t
    → IsLabelBy schema groups txn ran.trace (map effect_of ran.effects) label → AreWords (map effect_of ran.effects)
    → IsAnswerTo schema groups txn (ran_of ran) (record { reply = Ran ran.outcome; effects = ran.effects; needs = ran.needs; label = label }) t
kept schema groups txn ran label t fits labelled words valid finds = record {
  replied = (refl, λ done. fits valid finds);
  labelled = labelled;
  words = words;
  effects = refl;
  needs = refl;
}

pub kept_answer : (schema : List Declaration) (groups : List Group) (txn : ℕ) (ran : RanValue) (label : Label) (o n : Face) (a b : Option (List ReadValue)) → Follows o n a b (Judges schema (map effect_of ran.effects) Keeps)
    → IsLabelBy schema groups txn ran.trace (map effect_of ran.effects) label → AreWords (map effect_of ran.effects)
    → Follows o n a b (IsAnswerTo schema groups txn (ran_of ran) (record { reply = Ran ran.outcome; effects = ran.effects; needs = ran.needs; label = label }))
kept_answer schema groups txn ran label o n a b f labelled words = follow.so o n a b _ _ f (λ t judges. kept schema groups txn ran label t judges labelled words)

-- no change breaks an invariant of valid tables
unbroken : (schema : List Declaration) (ran : RanValue) (t : Tables) (inv : ℕ) (key : Key) → Valid schema t → IsEmpty ran
    → IsFirstBroken schema (with_effects schema (map effect_of ran.effects) t) inv key → ⊥
unbroken schema ran t inv key valid empty broken = by (subst (λ es. IsFirstBroken schema (with_effects schema (map effect_of es) t) inv key) empty.effects broken)
  where
    by : IsFirstBroken schema t inv key → ⊥
    by is = is.broken.breaks (valid.invariants is.broken.table is.broken.inv key is.broken.row is.broken.declared is.broken.kept)

-- a run that breaks an invariant of valid tables is done
broken_done : (schema : List Declaration) (outcome : Outcome) (ran : RanValue) (t : Tables) (inv : ℕ) (key : Key) → Valid schema t → IsEmptyAfter outcome ran
    → IsFirstBroken schema (with_effects schema (map effect_of ran.effects) t) inv key → is_done outcome ≡ true
broken_done schema (Done values) ran t inv key valid empty broken = refl
broken_done schema (Abort n) ran t inv key valid empty broken = absurd (unbroken schema ran t inv key valid empty broken)
broken_done schema NoRow ran t inv key valid empty broken = absurd (unbroken schema ran t inv key valid empty broken)
broken_done schema Exists ran t inv key valid empty broken = absurd (unbroken schema ran t inv key valid empty broken)
broken_done schema Range ran t inv key valid empty broken = absurd (unbroken schema ran t inv key valid empty broken)
broken_done schema TooLarge ran t inv key valid empty broken = absurd (unbroken schema ran t inv key valid empty broken)

broken : (schema : List Declaration) (groups : List Group) (txn : ℕ) (ran : RanValue) (inv : ℕ) (key : Key) (t : Tables) → IsEmptyUnlessDone ran → Judges schema (map effect_of ran.effects) (Breaks inv key) t
    → IsAnswerTo schema groups txn (ran_of ran) (record { reply = Refused inv; effects = []; needs = []; label = Nothing }) t
broken schema groups txn ran inv key t empty breaks valid finds = record {
  replied = (broken_done schema ran.outcome ran t inv key valid empty (breaks valid finds), (key, breaks valid finds));
  labelled = refl;
  words = All-nil _;
  effects = refl;
  needs = refl;
}

pub refused_answer : (schema : List Declaration) (groups : List Group) (txn : ℕ) (ran : RanValue) (inv : ℕ) (key : Key) (o n : Face) (a b : Option (List ReadValue)) → IsEmptyUnlessDone ran
    → Follows o n a b (Judges schema (map effect_of ran.effects) (Breaks inv key))
    → Follows o n a b (IsAnswerTo schema groups txn (ran_of ran) (record { reply = Refused inv; effects = []; needs = []; label = Nothing }))
refused_answer schema groups txn ran inv key o n a b empty f = follow.so o n a b _ _ f (λ t breaks. broken schema groups txn ran inv key t empty breaks)

pub ruleset answering = (kept_answer, refused_answer)

-- what the run of a request makes fits the schema
run_fits : (is_of : List Declaration → Type 0) (app : App) (doc : Document) (request : Request) (ran : RanValue) → doc.schema ≡ schema_of app.tables.items → doc.txns ≡ transactions_of app.txns.items
    → AcceptedApp (schema_of app.tables.items) (transactions_of app.txns.items) → RequestFits doc request → is_of (schema_of app.tables.items)
    → FitsWhereRunnable is_of app request.txn request.args ran → AllFit (schema_of app.tables.items) ran.effects × (length ran.effects ≤ 64)
run_fits is_of app doc request ran schema txns accepted asked rows fits =
    let f : RunFits (schema_of app.tables.items) asked.txn ran = fits.fits asked.txn (record { accepted = accepted; among = ap (λ ts. slice_get ts request.txn) (sym txns) ∙ asked.among; fits = asked.args }) rows in
    (f.changes, f.few)

pub changes_fit : (is_of : List Declaration → Type 0) (doc : Doc) (request : Request) (ran : RanValue) → AcceptedApp (schema_of doc.app.tables.items) (transactions_of doc.app.txns.items)
    → RequestFits (document_of doc) request → is_of (schema_of doc.app.tables.items) → FitsWhereRunnable is_of doc.app request.txn request.args ran → AllFit (schema_of doc.app.tables.items) ran.effects
changes_fit is_of doc request ran accepted asked rows fits = (run_fits is_of doc.app (document_of doc) request ran refl refl accepted asked rows fits).0

pub changes_few : (is_of : List Declaration → Type 0) (doc : Doc) (request : Request) (ran : RanValue) → AcceptedApp (schema_of doc.app.tables.items) (transactions_of doc.app.txns.items)
    → RequestFits (document_of doc) request → is_of (schema_of doc.app.tables.items) → FitsWhereRunnable is_of doc.app request.txn request.args ran → length ran.effects ≤ 64
changes_few is_of doc request ran accepted asked rows fits = (run_fits is_of doc.app (document_of doc) request ran refl refl accepted asked rows fits).1

-- the run, and then the answer to it
answered : (doc : Document) (groups : List Group) (first : ℤ) (request : Request) (ran : RanValue) (answer : Answered) (t : Tables) → run doc.schema doc.txns request first t ≡ ran_of ran
    → IsAnswerTo doc.schema groups request.txn (ran_of ran) answer t → IsAnswerOn doc groups first request answer t
answered doc groups first request ran answer t is to valid =
    subst (λ r. IsAnswer doc.schema groups request.txn r answer t) (sym is)
    (to valid (subst (λ (r : RunResult). FindsAll doc.schema r.effects t) is (runs_make_their_tables doc.schema doc.txns request first t).find))

pub run_answered : (doc : Doc) (first key : ℤ) (request : Request) (args : List Arg) (ran : RanValue) (answer : Answered) (o m n : Face) (a b c : Option (List ReadValue))
    → key ≡ first → args ≡ request.args → Follows o m a b (IsRunOf doc.app request.txn args key ran) → Follows m n b c (IsAnswerTo (schema_of doc.app.tables.items) doc.dict request.txn (ran_of ran) answer)
    → Follows o n a c (IsAnswerOn (document_of doc) doc.dict first request answer)
run_answered doc first key request args ran answer o m n a b c same_key same_args f g = follow.next_to o m n a b c _ _ _ f g (λ t is to. answered (document_of doc) doc.dict first request ran answer t
    ((λ i. run (schema_of doc.app.tables.items) (transactions_of doc.app.txns.items) (record { txn = request.txn; args = sym same_args i }) (sym same_key i) t) ∙ is) to)

-- its instances are shaped
pub trace_shaped : (is_of : List Declaration → Type 0) (doc : Doc) (request : Request) (ran : RanValue) → AcceptedApp (schema_of doc.app.tables.items) (transactions_of doc.app.txns.items)
    → RequestFits (document_of doc) request → is_of (schema_of doc.app.tables.items) → FitsWhereRunnable is_of doc.app request.txn request.args ran
    → AreShaped (schema_of doc.app.tables.items) (transactions_of doc.app.txns.items) request.txn ran.trace
trace_shaped is_of doc request ran accepted asked rows fits = record {
  txn = asked.txn;
  is = asked.among;
  each = (fits.fits asked.txn (record { accepted = accepted; among = asked.among; fits = asked.args }) rows).shaped;
}

pub ruleset running = (changes_fit, changes_few, trace_shaped, run_answered)

-- what a right dictionary decides is the label
by_changes : (schema : List Declaration) (groups : List Group) (txn : ℕ) (trace : List Instance) (es : List Effect) (label : Label) → IsLabelBy schema groups txn trace es label
    → ((other : Label) → IsDecided schema groups txn trace other → IsFirstThreat schema es other) → IsLabel schema es label
by_changes schema groups txn trace [] label is decides = subst (IsLabel schema []) (sym is) refl
by_changes schema groups txn trace (e ∷ es) Nothing is decides = absurd is
by_changes schema groups txn trace (e ∷ es) Blue is decides = ((λ none. cc), decides Blue is)
by_changes schema groups txn trace (e ∷ es) (Red instance place reason) is decides = decides (Red instance place reason) is

right_label : (schema : List Declaration) (groups : List Group) (txn : ℕ) (t : Tables) (ran : RunResult) (reply : Reply) (label : Label) → IsReply schema t ran reply
    → IsLabelBy schema groups txn ran.trace (made_by reply ran.effects) label → AreWords (made_by reply ran.effects)
    → (AreWords ran.effects → (other : Label) → IsDecided schema groups txn ran.trace other → IsFirstThreat schema ran.effects other) → IsLabel schema (made_by reply ran.effects) label
right_label schema groups txn t ran (Ran outcome) label is by words decides = by_changes schema groups txn ran.trace ran.effects label by (decides words)
right_label schema groups txn t ran (Refused inv) label is by words decides = subst (IsLabel schema []) (sym by) refl
right_label schema groups txn t ran (Full which used) label is by words decides = absurd is

right_answer : (doc : Document) (groups : List Group) (first : ℤ) (request : Request) (answer : Answered) (t : Tables) → Right doc.schema doc.txns groups → RequestFits doc request → RowsAreOf doc.schema t
    → IsAnswer doc.schema groups request.txn (run doc.schema doc.txns request first t) answer t → IsJudged doc.schema t (run doc.schema doc.txns request first t) answer.reply answer.label
right_answer doc groups first request answer t right asked rows a = record {
  replied = a.replied;
  labelled = right_label doc.schema groups request.txn t (run doc.schema doc.txns request first t) answer.reply answer.label a.replied a.labelled a.words
      (λ words. (right.decides request asked.txn first t asked.among asked.args rows words).label);
}

-- what is prepared with all reads noted: where the dictionary is right it is made for the document, and in any case the dictionary decided its label
abbrev pub prepared_with : ℕ → ℕ → ℕ → Request → Answered → List Read → Prepared
prepared_with session site index request answer reads = record {
  session = session;
  index = index;
  site = site;
  request = request;
  reply = answer.reply;
  effects = answer.effects;
  needs = answer.needs;
  label = answer.label;
  reads = reads;
}

pub made : (doc : Doc) (session site index : ℕ) (asked request : Request) (first : ℤ) (answer : Answered) (reads : List Read) (o n : Face) (noted xs : List ReadValue)
    → request ≡ asked → first ≡ first_key session index → IsSession session → IsSite (document_of doc) site → RequestFits (document_of doc) asked → IsListedAt (document_of doc) session index asked
    → length reads < 2 ^ 32 → noted ≡ [] → xs ≡ map read_of reads → Right (schema_of doc.app.tables.items) (transactions_of doc.app.txns.items) doc.dict
    → Follows o n (Some noted) (Some xs) (IsAnswerOn (document_of doc) doc.dict first request answer)
    → Made (document_of doc) (prepared_with session site index request answer reads)
made doc session site index asked request first answer reads o n noted xs is key who there fits listed few none told dict f = record {
  who = who;
  there = there;
  asked = fit;
  listed = subst (IsListedAt (document_of doc) session index) (sym is) listed;
  few = few;
  right = λ t valid rows agrees. right t rows (subst (λ k. IsAnswer doc_schema doc.dict request.txn (run doc_schema doc_txns request k t) answer t) key
      (follow.all_hold o n noted xs _ none f t (subst (Agrees t) (sym told) agrees) valid));
}
  where
    doc_schema : List Declaration
    doc_schema = schema_of doc.app.tables.items

    doc_txns : List Transaction
    doc_txns = transactions_of doc.app.txns.items

    fit : RequestFits (document_of doc) request
    fit = subst (RequestFits (document_of doc)) (sym is) fits

    right : (t : Tables) → RowsAreOf doc_schema t → IsAnswer doc_schema doc.dict request.txn (run doc_schema doc_txns request (first_key session index) t) answer t
        → IsRight (document_of doc) (prepared_with session site index request answer reads) t
    right t rows a = record { judged = right_answer (document_of doc) doc.dict (first_key session index) request answer t dict fit rows a; effects = a.effects; needs = a.needs }

pub decided : (doc : Doc) (session site index : ℕ) (request : Request) (first : ℤ) (answer : Answered) (reads : List Read) (o n : Face) (noted xs : List ReadValue)
    → first ≡ first_key session index → noted ≡ [] → xs ≡ map read_of reads → Follows o n (Some noted) (Some xs) (IsAnswerOn (document_of doc) doc.dict first request answer)
    → DecidedBy doc (prepared_with session site index request answer reads)
decided doc session site index request first answer reads o n noted xs key none told f = record {
  each = λ t valid agrees.
      let a : IsAnswer doc_schema doc.dict request.txn (run doc_schema doc_txns request (first_key session index) t) answer t =
      subst (λ k. IsAnswer doc_schema doc.dict request.txn (run doc_schema doc_txns request k t) answer t) key
      (follow.all_hold o n noted xs _ none f t (subst (Agrees t) (sym told) agrees) valid) in
      a.labelled;
}
  where
    doc_schema : List Declaration
    doc_schema = schema_of doc.app.tables.items

    doc_txns : List Transaction
    doc_txns = transactions_of doc.app.txns.items

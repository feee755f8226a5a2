-- The result of a run fits: a run that went on to the end leaves shaped instances and changes that fit, and one that was ended leaves neither.
use Rattle.std.proofs.Common.{◌≡◌, ◌≤◌, length, map, ℕ, List, [], Option, None, slice_get, refl, sym, ap, subst, ◌∙◌, arith}
use Rattle.std.proofs.lemmas.List.{length-map}
use Rattle.std.specs.FinMap.{empty}
use Rattle.std.specs.List.{All}
use Rattle.std.specs.Prelude.{ℤ}
use Rattle.sv_app.specs.declared.requests.Arg.{Arg}
use Rattle.sv_app.specs.declared.requests.Request.{Request}
use Rattle.sv_app.specs.Schema.{Declaration}
use Rattle.sv_app.specs.Scopes.{opening}
use Rattle.sv_app.specs.Shaped.{Shaped}
use Rattle.sv_app.specs.Tables.{Tables}
use Rattle.sv_app.specs.Trees.{Block, Transaction}
use Rattle.sv_app.specs.Units.{loop_variables}
use Rattle.sv_effect.specs.declared.outcomes.Outcome.{Outcome}
use Rattle.sv_effect.specs.declared.outcomes.Outcome.TheVariants.{Done, Abort, NoRow, Exists, Range, TooLarge}
use Rattle.sv_effect.specs.declared.outcomes.Ran.{Ran}
use Rattle.sv_effect.specs.Run.{Goes, Ends, body_of, started, result_of, ran_of}
use Rattle.sv_effect.specs.RunChanges.{Effect, effect_of}
use Rattle.sv_interp.specs.declared.states.State.{State}
use Rattle.sv_interp.specs.Machine.{stand, calm}
use Rattle.sv_interp.specs.Keeping.{IsSettingOf, Statements, Keeps}
use Rattle.sv_interp.specs.Results.{IsRunnable, IsBodyOf, RunFits, IsEmpty, IsEmptyAfter}
use Rattle.sv_effect.specs.Fits.{EffectFits}
use Rattle.sv_trace.specs.Standing.{Frame, BlockIn, Holds, Passes}
use Rattle.sv_trace.proofs.ChangeLaws.{all_fit}
use Rattle.sv_trace.proofs.OpeningLaws.{body_in, begins, completes}

-- instances and changes that fit are those of the result
fit_of : (f : Frame) (instances : List _) (effects : List Effect) (ran : Ran) → instances ≡ ran.trace → effects ≡ map effect_of ran.effects
    → All (Shaped f.schema f.txn) instances → All (EffectFits f.schema) effects → length effects ≤ 64 → RunFits f.schema f.txn ran
fit_of f instances effects ran same_trace same_effects shaped fits few = record {
  shaped = subst (All (Shaped f.schema f.txn)) same_trace shaped;
  changes = all_fit f.schema ran.effects (subst (All (EffectFits f.schema)) same_effects fits);
  few = subst (λ n. n ≤ 64) (ap length same_effects ∙ length-map ran.effects effect_of) few;
}

pub whole_fits : (is_of : List Declaration → Type 0) (schema : List Declaration) (ls : List ℕ) (body : Block) (args : List Arg) (first : ℤ) (s u : State) (end : Option Outcome) (ran : Ran)
    → ls ≡ loop_variables body → ((t : Tables) → stand t s ≡ started args t) → Keeps is_of (record { schema = schema; arguments = args; first = first; loops = ls }) (Statements body) s end u → end ≡ None
    → ((t : Tables) → result_of schema (Goes (stand t u)) ≡ ran_of ran) → (f : Frame) → IsBodyOf f schema body args first → is_of f.schema → RunFits f.schema f.txn ran
whole_fits is_of schema ls body args first s u end ran loops starts kept none result f of is =
    let setting : IsSettingOf f (record { schema = schema; arguments = args; first = first; loops = ls }) = record { schema = sym of.same_schema; first = sym of.same_first; loops = loops ∙ ap loop_variables (sym of.same_body) } in
    let at = opening f.schema f.txn.params in
    let inside : BlockIn f at body = subst (BlockIn f at) of.same_body (body_in f of.frame) in
    let starting : calm s ≡ started f.args empty = starts empty ∙ ap (λ a. started a empty) (sym of.same_args) in
    let holds : Holds f at (calm s) = subst (Holds f at) (sym starting) (begins f of.frame) in
    let passed : Passes f at body (calm s) (calm u) = kept.keeps f at of.frame setting is inside holds none in
    let done = completes f (calm u) (subst (λ b. Passes f at b (started f.args empty) (calm u)) (sym of.same_body) (subst (λ st. Passes f at body st (calm u)) starting passed)) in
    fit_of f _ _ ran (ap (λ r. r.trace) (result empty)) (ap (λ r. r.effects) (result empty)) done.0 done.1 done.2

pub ended_fits : (outcome : Outcome) (ran : Ran) → ((schema : List Declaration) → result_of schema (Ends outcome) ≡ ran_of ran) → (f : Frame) → RunFits f.schema f.txn ran
ended_fits outcome ran result f =
    fit_of f [] [] ran (ap (λ r. r.trace) (result f.schema)) (ap (λ r. r.effects) (result f.schema)) (λ k d h. absurd (omega (arith, h))) (λ k d h. absurd (omega (arith, h))) (omega arith)

-- the body of the transaction of a request
pub body_fits : (is_of : List Declaration → Type 0) (schema : List Declaration) (txns : List Transaction) (request : Request) (txn : Transaction) (tables : List Declaration) (body : Block) (args : List Arg) (first : ℤ) (ran : Ran)
    → IsRunnable schema txns request txn → tables ≡ schema → body ≡ body_of (slice_get txns request.txn) → args ≡ request.args
    → ((f : Frame) → IsBodyOf f tables body args first → is_of f.schema → RunFits f.schema f.txn ran) → is_of schema → RunFits schema txn ran
body_fits is_of schema txns request txn tables body args first ran run same_schema same_body same_args fits is =
    let f : Frame = record { schema = schema; txns = txns; number = request.txn; txn = txn; args = request.args; first = first } in
    fits f (record {
      frame = record { accepted = run.accepted; among = run.among; fits = run.fits };
      same_schema = sym same_schema;
      same_body = sym (same_body ∙ ap body_of run.among);
      same_args = sym same_args;
      same_first = refl;
    }) is

pub empty_after : (outcome : Outcome) (ran : Ran) → IsEmpty ran → IsEmptyAfter outcome ran
empty_after (Done replies) ran is = tt
empty_after (Abort number) ran is = is
empty_after NoRow ran is = is
empty_after Exists ran is = is
empty_after Range ran is = is
empty_after TooLarge ran is = is

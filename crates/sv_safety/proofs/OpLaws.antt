-- The operation of a run fits the schema, holds where it was made, and is safe if no reason threatens its changes.
use Rattle.std.proofs.Common.{◌≡◌, ◌∙◌, ◌≤◌, List, length, slice_get, sym, ap, subst}
use Rattle.std.specs.Prelude.{ℤ}
use Rattle.std.specs.List.{All}
use Rattle.std.proofs.lemmas.List.{length-map}
use Rattle.sv_app.specs.declared.places.Place.{Place}
use Rattle.sv_app.specs.declared.requests.Request.{Request}
use Rattle.sv_app.specs.Accepted.{AcceptedSchema}
use Rattle.sv_app.specs.Schema.{Declaration}
use Rattle.sv_app.specs.Tables.{Tables}
use Rattle.sv_app.specs.Trees.{Transaction}
use Rattle.sv_app.specs.Valid.{Valid}
use Rattle.sv_effect.specs.declared.ops.Op.{Op}
use Rattle.sv_effect.specs.Applied.{changes_of, applied}
use Rattle.sv_effect.specs.BareTables.{bare}
use Rattle.sv_effect.specs.Effects.{with_effects, FindsAll}
use Rattle.sv_effect.specs.Fits.{EffectFits}
use Rattle.sv_effect.specs.Has.{effects_of}
use Rattle.sv_effect.specs.Needs.{needs_of}
use Rattle.sv_effect.specs.Run.{Flow, Goes, Ends, result_of, flow_of_body, body_of, run}
use Rattle.sv_effect.specs.RunChanges.{effect_of}
use Rattle.sv_effect.specs.Takes.{FindsRows}
use Rattle.sv_effect.specs.Threatened.{Unthreatened}
use Rattle.sv_effect.proofs.NewerLaws.{newer_wins}
use Rattle.sv_trace.specs.Laws.{IsShapedRun}
use Rattle.sv_trace.proofs.ChangeLaws.{all_fit}
use Rattle.sv_trace.proofs.MakeLaws.{runs_make_their_tables}
use Rattle.sv_trace.proofs.RunLaws.{runs_are_shaped}
use Rattle.sv_safety.specs.Laws.{DrawsOnce, IsMade, RowsStay}
use Rattle.sv_safety.specs.Runs.{DrawsFrom, RunsMakeOps, BlueRunsAreSafe, FittingRunsHold}
use Rattle.sv_safety.proofs.DrawLaws.{runs_draw}
use Rattle.sv_safety.proofs.Finds.{finds}
use Rattle.sv_safety.proofs.FoundLaws.{finds_bare, unmade}
use Rattle.sv_safety.proofs.HasLaws.{fitting_has}
use Rattle.sv_safety.proofs.KindLaws.{effect_at}
use Rattle.sv_safety.proofs.SafeLaws.{blue_is_safe}
use Rattle.sv_safety.proofs.StandLaws.{stand_fit, stand_rows, stand_kept}

needs_are : (schema : List Declaration) (txns : List Transaction) (request : Request) (first : ℤ) (t : Tables) → (run schema txns request first t).needs ≡ needs_of schema (run schema txns request first t).effects
needs_are schema txns request first t = by (flow_of_body schema (body_of (slice_get txns request.txn)) request.args first t)
  where
    by : (flow : Flow) → (result_of schema flow).needs ≡ needs_of schema (result_of schema flow).effects
    by (Goes st) = λ i. needs_of schema st.effects
    by (Ends o) = λ i. (result_of schema (Ends o)).needs

draws_once : (first : _) (op : Op) → DrawsFrom first (effects_of op) → DrawsOnce op
draws_once first op draws = record {
  once = λ a b d e at_a at_b x y same. draws.apart a b (effect_of d) (effect_of e) (effect_at op a d at_a) (effect_at op b e at_b) x y (ap (λ (p : Place). p.key) same);
}

pub runs_make_ops : RunsMakeOps
runs_make_ops schema txns request first t op asked rows is = record {
  fits = record {
    changes = all_fit schema op.effects (subst (All (EffectFits schema)) (sym is.changes) shaped.changes);
    few = subst (λ n. n ≤ 64) (ap length (sym is.changes) ∙ length-map op.effects effect_of) shaped.few;
    time = is.time;
  };
  needs = is.needs ∙ needs_are schema txns request first t ∙ ap (needs_of schema) (sym is.changes);
  draws = draws_once first op (subst (DrawsFrom first) (sym is.changes) (runs_draw schema txns request first t));
}
  where
    shaped : IsShapedRun schema asked.txn (run schema txns request first t)
    shaped = runs_are_shaped schema txns request asked.txn first t asked.accepted asked.among asked.fits rows

pub blue_runs_are_safe : BlueRunsAreSafe
blue_runs_are_safe schema txns request first t op asked rows is free =
    blue_is_safe schema op asked.accepted.tables (runs_make_ops schema txns request first t op asked rows is) (subst (Unthreatened schema) (sym is.changes) free)

pub rows_stay : RowsStay
rows_stay schema op t accepted made has none_made stand =
    let found : FindsRows schema (changes_of op) t = finds schema op t made has none_made in
    record { finds = found; rows = stand_kept schema op t accepted made.fits found stand }

pub fitting_runs_hold : FittingRunsHold
fitting_runs_hold schema txns request first t op asked is stand newer left = record {
  has = fitting_has schema op t accepted made stand newer found valid;
  unmade = unmade schema op t found;
  finds = found;
  valid = valid;
  rows = stand_kept schema op t accepted made.fits found stand;
}
  where
    accepted : AcceptedSchema schema
    accepted = asked.accepted.tables

    made : IsMade schema op
    made = runs_make_ops schema txns request first (bare t) op asked (stand_rows schema t accepted stand) is

    found : FindsRows schema (changes_of op) t
    found = finds_bare schema op t (subst (λ es. FindsAll schema es (bare t)) (sym is.changes) (runs_make_their_tables schema txns request first (bare t)).find)

    valid : Valid schema (bare (applied schema op t))
    valid = subst (Valid schema) (sym (newer_wins schema op t accepted made.fits (stand_fit schema t stand) newer ∙ ap (λ es. with_effects schema es (bare t)) is.changes)) left

-- The operation of a run on initial rows can be applied to them, where all invariants hold after its changes.
use Rattle.std.proofs.Common.{◌≡◌, ◌∙◌, ℕ, ◌≤◌, ◌||◌, if◌then◌else◌, Bool, true, false, List, [], ◌∷◌, map, length, Option, Some, None, slice_get, sym, ap, subst, arith}
use Rattle.std.specs.Prelude.{ℤ, All}
use Rattle.std.proofs.lemmas.List.Elements.{All-head, All-tail}
use Rattle.std.proofs.lemmas.Option.{get_or_from_slice_get, slice_get_within}
use Rattle.sv_value.specs.declared.values.Val.{Val}
use Rattle.sv_app.specs.declared.acts.Act.{Act}
use Rattle.sv_app.specs.declared.acts.Act.TheVariants as acts
use Rattle.sv_app.specs.declared.apps.App.{App}
use Rattle.sv_app.specs.declared.places.Place.{Place}
use Rattle.sv_app.specs.declared.requests.InitRow.{InitRow}
use Rattle.sv_app.specs.declared.requests.Request.{Request}
use Rattle.sv_app.specs.Accepted.{AcceptedApp}
use Rattle.sv_app.specs.Schema.{Declaration, schema_of}
use Rattle.sv_app.specs.Tables.{Tables}
use Rattle.sv_app.specs.Trees.{Transaction, transactions_of}
use Rattle.sv_app.specs.Valid.{Valid}
use Rattle.sv_effect.specs.declared.ops.Op.{Op}
use Rattle.sv_effect.specs.declared.ops.RowEffect.{RowEffect}
use Rattle.sv_effect.specs.declared.outcomes.Ran.{Ran}
use Rattle.sv_effect.specs.Applied.{columns_in}
use Rattle.sv_effect.specs.BareTables.{bare}
use Rattle.sv_effect.specs.Effects.{FindsAll, with_effects}
use Rattle.sv_effect.specs.Faces.{Face}
use Rattle.sv_effect.specs.Fits.{AllFit}
use Rattle.sv_effect.specs.Follows.{Follows, TableAgrees}
use Rattle.sv_effect.specs.Reads.{ReadValue}
use Rattle.sv_effect.specs.Run.{RunResult, run}
use Rattle.sv_effect.specs.RunChanges.{effect_of}
use Rattle.sv_effect.specs.StampedTables.{StampedRow, StampedTables}
use Rattle.sv_effect.specs.TablesOfCut.{is_place, number_in, init_place, initial}
use Rattle.sv_effect.specs.Takes.{as_insert, inserts}
use Rattle.sv_effect.proofs.InitialLaws.{start_row, get-start}
use Rattle.sv_effect.proofs.PlaceListLaws.{among}
use Rattle.sv_trace.proofs.MakeLaws.{runs_make_their_tables}
use Rattle.sv_safety.specs.Laws.{IsBeginning, IsMade}
use Rattle.sv_safety.specs.Runs.{IsRequest, IsOpOf, HoldsWhereMade}
use Rattle.sv_safety.proofs.Promises as safety
use Rattle.sv_interp.specs.Results.{IsRunOf, RunFits, FitsWhereRunnable}
use Rattle.sv_workload.specs.PartsFit.{IsRequestOf}
use Rattle.sv_calls.specs.Standing.{CanStand}
use Rattle.sv_core.specs.Applying.{CanApply, CanApplyAll}
use Rattle.sv_core.specs.Counts.{IsShort, AddsShort, HasShortValues}
use Rattle.sv_core.specs.Room.{inserts_in}
use Rattle.sv_core.proofs.CountLaws.{TablesWithin, AreWithin, one_within, from_within, bounds_kept, same_row}
use Rattle.sv_apply_trials.specs.Making.{start, IsMadeBy}

-- a fact that was learned of rows holds of their tables, where these are told
pub learned : (o n : Face) (a b : Option (List ReadValue)) (t : Tables) (Fact : Tables → Type 0) → Follows o n a b Fact → o.tables ≡ Some t → Fact t
learned o n a b t Fact f is = f.holds t (subst (λ told. TableAgrees told f.reads) is f.honest)

-- the changes of a run on rows of the application fit it, and are few
run_fits : (is_of : List Declaration → Type 0) (app : App) (request : Request) (ran : Ran) → AcceptedApp (schema_of app.tables.items) (transactions_of app.txns.items)
    → IsRequestOf (transactions_of app.txns.items) request → is_of (schema_of app.tables.items) → FitsWhereRunnable is_of app request.txn request.args ran
    → (txn : Transaction) × RunFits (schema_of app.tables.items) txn ran
run_fits is_of app request ran accepted asked rows fits =
    (asked.txn, fits.fits asked.txn (record { accepted = accepted; among = asked.among; fits = asked.fits }) rows)

pub changes_fit : (is_of : List Declaration → Type 0) (app : App) (request : Request) (ran : Ran) → AcceptedApp (schema_of app.tables.items) (transactions_of app.txns.items)
    → IsRequestOf (transactions_of app.txns.items) request → is_of (schema_of app.tables.items) → FitsWhereRunnable is_of app request.txn request.args ran
    → AllFit (schema_of app.tables.items) ran.effects
changes_fit is_of app request ran accepted asked rows fits = (run_fits is_of app request ran accepted asked rows fits).1.changes

pub changes_few : (is_of : List Declaration → Type 0) (app : App) (request : Request) (ran : Ran) → AcceptedApp (schema_of app.tables.items) (transactions_of app.txns.items)
    → IsRequestOf (transactions_of app.txns.items) request → is_of (schema_of app.tables.items) → FitsWhereRunnable is_of app request.txn request.args ran
    → length ran.effects ≤ 64
changes_few is_of app request ran accepted asked rows fits = (run_fits is_of app request ran accepted asked rows fits).1.few

pub ruleset running = (learned, changes_fit, changes_few)

-- they find their rows
pub found : (app : App) (request : Request) (first : ℤ) (ran : Ran) (t : Tables) → IsRunOf app request.txn request.args first ran t
    → FindsAll (schema_of app.tables.items) (map effect_of ran.effects) t
found app request first ran t is =
    subst (λ (r : RunResult). FindsAll (schema_of app.tables.items) r.effects t) is
    (runs_make_their_tables (schema_of app.tables.items) (transactions_of app.txns.items) request first t).find

pub valid_start : (schema : List Declaration) (init : List InitRow) → CanStand schema init → Valid schema (bare (start schema init))
valid_start schema init stand = stand.valid

pub ruleset making = (found, valid_start)

-- the numbers of the initial rows have 64 bits
short_value : (vs : List Val) (c : ℕ) (v : Val) → All (λ x. IsShort (number_in x)) vs → slice_get vs c ≡ Some v → IsShort (number_in v)
short_value vs c v short at = subst (λ x. IsShort (number_in x)) (get_or_from_slice_get vs c v v at) (short c v (slice_get_within vs c v at))

start_within : (schema : List Declaration) (init : List InitRow) (q : Place) (row : StampedRow) → All HasShortValues init
    → (if among q (map init_place init) then Some (start_row schema q (initial q init)) else None) ≡ Some row → AreWithin 1 row.cells
start_within schema [] q row short e = absurd cc
start_within schema (x ∷ init) q row short e = by (is_place q (init_place x)) e (start_within schema init q row (All-tail HasShortValues x init short))
  where
    by : (b : Bool) → (if b || among q (map init_place init) then Some (start_row schema q (if b then Some x.values else initial q init)) else None) ≡ Some row
        → ((if among q (map init_place init) then Some (start_row schema q (initial q init)) else None) ≡ Some row → AreWithin 1 row.cells)
        → AreWithin 1 row.cells
    by true e ih = subst (λ r. AreWithin 1 r.cells) (same_row (start_row schema q (Some x.values)) row e)
        (from_within 1 (columns_in schema q) x.values
        (λ c column v declared at counter. one_within (number_in v) (short_value x.values c v (All-head HasShortValues x init short) at)))
    by false e ih = ih e

tables_within : (schema : List Declaration) (init : List InitRow) → All HasShortValues init → TablesWithin 1 (start schema init)
tables_within schema init short q row is = start_within schema init q row short (sym (get-start schema init q) ∙ is)

-- the operation can be applied
module _ (app : App) (init : List InitRow) (request : Request) (first : ℤ) (ran : Ran) (op : Op) (accepted : AcceptedApp (schema_of app.tables.items) (transactions_of app.txns.items)) (asked : IsRequestOf (transactions_of app.txns.items) request) (stand : CanStand (schema_of app.tables.items) init) (by_run : IsMadeBy app init request first ran) (changes : op.effects ≡ ran.effects) (needs : op.needs ≡ ran.needs) (time : op.time ≡ 1) where
  abbrev schema : List Declaration
  schema = schema_of app.tables.items

  abbrev made_run : RunResult
  made_run = run schema (transactions_of app.txns.items) request first (bare (start schema init))

  is_request : IsRequest schema (transactions_of app.txns.items) request
  is_request = record { accepted = accepted; txn = asked.txn; among = asked.among; fits = asked.fits }

  is_op : IsOpOf made_run op
  is_op = record {
    changes = ap (map effect_of) changes ∙ ap (λ (r : RunResult). r.effects) (sym by_run.is);
    needs = needs ∙ ap (λ (r : RunResult). r.needs) (sym by_run.is);
    time = omega (arith, time);
  }

  beginning : IsBeginning schema (start schema init)
  beginning = safety.initial_stand schema init accepted.tables stand.fits

  is_made : IsMade schema op
  is_made = safety.runs_make_ops schema (transactions_of app.txns.items) request first (bare (start schema init)) op is_request
      (safety.standing_fits schema (start schema init) accepted.tables beginning.rows).rows is_op

  holds : HoldsWhereMade schema op (start schema init)
  holds = safety.fitting_runs_hold schema (transactions_of app.txns.items) request first (start schema init) op is_request is_op beginning.rows
      (beginning.older op.time (omega (arith, time)))
      (subst (λ es. Valid schema (with_effects schema es (bare (start schema init)))) (ap (λ (r : RunResult). r.effects) (sym by_run.is)) by_run.fits)

  pub can_apply : All HasShortValues init → All AddsShort op.effects → CanApply schema op (start schema init)
  can_apply short adds = record {
    fits = is_made.fits;
    found = holds.finds;
    counts =
        let few : length op.effects ≤ 64 = is_made.fits.few in
        bounds_kept schema op 0 1 op.effects (start schema init) accepted.tables is_made.fits.changes adds (tables_within schema init short) (omega (arith, few));
  }

few_inserts : (es : List RowEffect) → inserts es ≤ length es
few_inserts [] = omega arith
few_inserts (e ∷ es) =
    let rest : inserts es ≤ length es = few_inserts es in
    let one : as_insert e.act ≤ 1 = by e.act in
    omega (arith, rest, one)
  where
    by : (act : Act) → as_insert act ≤ 1
    by acts.Insert = omega arith
    by acts.Fresh = omega arith
    by acts.Update = omega arith
    by acts.Remove = omega arith

pub room_for_all : (schema : List Declaration) (op : Op) (t : StampedTables) → CanApply schema op t → inserts op.effects ≤ 64
room_for_all schema op t can =
    let few : length op.effects ≤ 64 = can.fits.few in
    let most : inserts op.effects ≤ length op.effects = few_inserts op.effects in
    omega (arith, few, most)

-- one operation
pub can_one : (d : List Declaration) (op : Op) (t : StampedTables) → CanApply d op t → CanApplyAll d (op ∷ []) t
can_one d op t can = (can, tt)

pub room_one : (op : Op) → inserts op.effects ≤ 64 → inserts_in (op ∷ []) ≤ 64
room_one op few = omega (arith, few)

pub ruleset one = (can_one, room_one)

-- Operations of runs: what the operation of a run draws, where it holds, and that it is safe if no reason threatens its changes.
use Rattle.std.specs.Prelude.{◌≡◌, ◌≤◌, ◌<◌, ℕ, ℤ, pos, ◌+ℤ◌, true, List, All, Some, None, slice_get}
use Rattle.sv_value.specs.declared.values.Key.{Key}
use Rattle.sv_value.specs.declared.values.Val.TheVariants.{Int}
use Rattle.sv_app.specs.declared.requests.InitRow.{InitRow}
use Rattle.sv_app.specs.declared.requests.Request.{Request}
use Rattle.sv_app.specs.Accepted.{AcceptedSchema, AcceptedApp}
use Rattle.sv_app.specs.Draws.{first_key}
use Rattle.sv_app.specs.Fitting.{ArgsFit}
use Rattle.sv_app.specs.Schema.{Declaration}
use Rattle.sv_app.specs.Tables.{Tables}
use Rattle.sv_app.specs.Trees.{Transaction}
use Rattle.sv_app.specs.Valid.{Valid}
use Rattle.sv_effect.specs.declared.ops.Op.{Op}
use Rattle.sv_effect.specs.Acts.{is_draw}
use Rattle.sv_effect.specs.Applied.{changes_of, applied}
use Rattle.sv_effect.specs.BareTables.{bare}
use Rattle.sv_effect.specs.Commutes.{TablesFit}
use Rattle.sv_effect.specs.Cut.{empty}
use Rattle.sv_effect.specs.Effects.{Fits}
use Rattle.sv_effect.specs.Fits.{OpFits}
use Rattle.sv_effect.specs.Has.{effects_of, Has}
use Rattle.sv_effect.specs.Initial.{InitFits}
use Rattle.sv_effect.specs.Newer.{IsNewer}
use Rattle.sv_effect.specs.RowsFit.{AllStand}
use Rattle.sv_effect.specs.Run.{RunResult, run}
use Rattle.sv_effect.specs.RunChanges.{Effect}
use Rattle.sv_effect.specs.Safe.{Unmade}
use Rattle.sv_effect.specs.StampedTables.{StampedTables}
use Rattle.sv_effect.specs.TablesOfCut.{tables_held}
use Rattle.sv_effect.specs.Takes.{FindsRows}
use Rattle.sv_effect.specs.Threatened.{Unthreatened}
use Rattle.sv_trace.specs.Laws.{RowsAreOf}
use Rattle.sv_safety.specs.Laws.{IsMade, IsBlue, DrawsApart}

-- a request of an accepted application
pub record IsRequest (schema : List Declaration) (txns : List Transaction) (request : Request) : Type 0 where
  pub accepted : AcceptedApp schema txns
  pub txn : Transaction
  pub among : slice_get txns request.txn ≡ Some txn
  pub fits : ArgsFit txn.params request.args

-- the operation has the changes and the needs of the run
pub record IsOpOf (ran : RunResult) (op : Op) : Type 0 where
  pub changes : effects_of op ≡ ran.effects
  pub needs : op.needs ≡ ran.needs
  pub time : 1 ≤ op.time

-- one of the 64 keys from the first on
pub record IsDrawn (first : ℤ) (key : Key) : Type 0 where
  pub number : ℕ
  pub few : number < 64
  pub is : key ≡ record { first = Int (first +ℤ pos number); second = None }

-- the changes draw keys from the first on, and no key twice
pub record DrawsFrom (first : ℤ) (es : List Effect) : Type 0 where
  pub keys : (number : ℕ) (e : Effect) → slice_get es number ≡ Some e → is_draw e.act ≡ true → IsDrawn first e.place.key
  pub apart : (a b : ℕ) (d e : Effect) → slice_get es a ≡ Some d → slice_get es b ≡ Some e → is_draw d.act ≡ true → is_draw e.act ≡ true
      → d.place.key ≡ e.place.key → a ≡ b

-- so do the changes of a run
abbrev pub RunsDraw : Type 0
RunsDraw = (schema : List Declaration) (txns : List Transaction) (request : Request) (first : ℤ) (t : Tables) → DrawsFrom first (run schema txns request first t).effects

-- the operation of a run on rows of the schema fits the schema, has the needs of its changes, and draws no key twice
abbrev pub RunsMakeOps : Type 0
RunsMakeOps = (schema : List Declaration) (txns : List Transaction) (request : Request) (first : ℤ) (t : Tables) (op : Op) → IsRequest schema txns request → RowsAreOf schema t
    → IsOpOf (run schema txns request first t) op → IsMade schema op

-- so it is safe if no reason threatens its changes, whatever its time, its site and its deps
abbrev pub BlueRunsAreSafe : Type 0
BlueRunsAreSafe = (schema : List Declaration) (txns : List Transaction) (request : Request) (first : ℤ) (t : Tables) (op : Op) → IsRequest schema txns request → RowsAreOf schema t
    → IsOpOf (run schema txns request first t) op → Unthreatened schema (run schema txns request first t).effects → IsBlue schema op

-- on these tables its needs hold, no row is kept under a key that it drew, it finds its rows, and it leaves valid tables of rows of the schema
pub record HoldsWhereMade (schema : List Declaration) (op : Op) (t : StampedTables) : Type 0 where
  pub has : Has schema op t
  pub unmade : Unmade op t
  pub finds : FindsRows schema (changes_of op) t
  pub valid : Valid schema (bare (applied schema op t))
  pub rows : AllStand schema (applied schema op t)

-- so is the operation of a run on the tables that it was made on, if its changes fit them and its time is later than all that stands there
abbrev pub FittingRunsHold : Type 0
FittingRunsHold = (schema : List Declaration) (txns : List Transaction) (request : Request) (first : ℤ) (t : StampedTables) (op : Op) → IsRequest schema txns request
    → IsOpOf (run schema txns request first (bare t)) op → AllStand schema t → IsNewer op t → Fits schema (run schema txns request first (bare t)).effects (bare t)
    → HoldsWhereMade schema op t

-- where rows stand their cells fit, and without their stamps they are what runs read
pub record FitForRuns (schema : List Declaration) (t : StampedTables) : Type 0 where
  pub fits : TablesFit schema t
  pub rows : RowsAreOf schema (bare t)

abbrev pub StandingFits : Type 0
StandingFits = (schema : List Declaration) (t : StampedTables) → AcceptedSchema schema → AllStand schema t → FitForRuns schema t

-- the operations of two requests, of one session or of two, draw no key both
abbrev pub RequestsDrawApart : Type 0
RequestsDrawApart = (op other : Op) (s t i j : ℕ) → 1 ≤ s → s ≤ 64 → 1 ≤ t → t ≤ 64 → ((s ≡ t) × (i ≡ j) → ⊥)
    → DrawsFrom (first_key s i) (effects_of op) → DrawsFrom (first_key t j) (effects_of other) → DrawsApart op other

-- and no initial row stands under a key that a request draws
abbrev pub InitialUndrawn : Type 0
InitialUndrawn = (schema : List Declaration) (init : List InitRow) (op : Op) (session index : ℕ) → All (InitFits schema) init → OpFits schema op
    → DrawsFrom (first_key session index) (effects_of op) → Unmade op (tables_held schema init empty)

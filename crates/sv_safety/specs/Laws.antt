-- Safe operations: one whose changes no reason threatens keeps tables valid wherever its needs hold; needs, kept rows, rows of the schema and drawn keys
-- stay what they are under other operations.
use Rattle.std.specs.Prelude.{◌≡◌, ◌≤◌, ◌<◌, ℕ, true, List, All, Some, IsSome, slice_get}
use Rattle.std.specs.FinMap.{get}
use Rattle.sv_value.specs.declared.values.Key.{Key}
use Rattle.sv_app.specs.declared.places.Place.{Place}
use Rattle.sv_app.specs.declared.requests.InitRow.{InitRow}
use Rattle.sv_app.specs.Accepted.{AcceptedSchema}
use Rattle.sv_app.specs.Kinds.{is_grow_only}
use Rattle.sv_app.specs.Schema.{Declaration}
use Rattle.sv_app.specs.Valid.{IsPresent}
use Rattle.sv_effect.specs.declared.ops.Op.{Op}
use Rattle.sv_effect.specs.declared.ops.RowEffect.{RowEffect}
use Rattle.sv_effect.specs.Acts.{is_draw}
use Rattle.sv_effect.specs.Applied.{place_of, changes_of, applied}
use Rattle.sv_effect.specs.BareTables.{bare}
use Rattle.sv_effect.specs.Commutes.{Commutes}
use Rattle.sv_effect.specs.Cut.{empty}
use Rattle.sv_effect.specs.Fits.{OpFits}
use Rattle.sv_effect.specs.Has.{effects_of, Has}
use Rattle.sv_effect.specs.Initial.{InitFits}
use Rattle.sv_effect.specs.Needs.{needs_of}
use Rattle.sv_effect.specs.Newer.{AreOlder}
use Rattle.sv_effect.specs.RowsFit.{AllStand}
use Rattle.sv_effect.specs.Safe.{Unmade, Safe}
use Rattle.sv_effect.specs.StampedTables.{StampedTables}
use Rattle.sv_effect.specs.TablesOfCut.{tables_held}
use Rattle.sv_effect.specs.Takes.{FindsRows}
use Rattle.sv_effect.specs.Threatened.{Unthreatened}

-- no two of its changes draw one key of a table
pub record DrawsOnce (op : Op) : Type 0 where
  pub once : (a b : ℕ) (d e : RowEffect) → slice_get op.effects a ≡ Some d → slice_get op.effects b ≡ Some e → is_draw d.act ≡ true → is_draw e.act ≡ true
      → place_of d ≡ place_of e → a ≡ b

-- the schema allows it, it has the needs of its changes, and it draws no key twice
pub record IsMade (schema : List Declaration) (op : Op) : Type 0 where
  pub fits : OpFits schema op
  pub needs : op.needs ≡ needs_of schema (effects_of op)
  pub draws : DrawsOnce op

-- it leaves valid tables valid wherever its needs hold, and commutes with the operations of other sites
pub record IsBlue (schema : List Declaration) (op : Op) : Type 0 where
  pub safe : Safe schema op
  pub commutes : Commutes schema op

-- so is an operation none of whose changes is threatened
abbrev pub BlueIsSafe : Type 0
BlueIsSafe = (schema : List Declaration) (op : Op) → AcceptedSchema schema → IsMade schema op → Unthreatened schema (effects_of op) → IsBlue schema op

-- needs that hold stay so, whatever operation of the schema is applied
abbrev pub NeedsStay : Type 0
NeedsStay = (schema : List Declaration) (op other : Op) (t : StampedTables) → op.needs ≡ needs_of schema (effects_of op) → OpFits schema other → Has schema op t
    → Has schema op (applied schema other t)

-- stamps that are earlier than a time stay so under operations that are
abbrev pub StampsStayEarlier : Type 0
StampsStayEarlier = (schema : List Declaration) (op : Op) (t : StampedTables) (time : ℕ) → OpFits schema op → op.time < time → AreOlder time t
    → AreOlder time (applied schema op t)

-- an operation finds its rows, and leaves rows of the schema
pub record LeavesRows (schema : List Declaration) (op : Op) (t : StampedTables) : Type 0 where
  pub finds : FindsRows schema (changes_of op) t
  pub rows : AllStand schema (applied schema op t)

-- so it is wherever its needs hold and no row is kept under a key that it drew
abbrev pub RowsStay : Type 0
RowsStay = (schema : List Declaration) (op : Op) (t : StampedTables) → AcceptedSchema schema → IsMade schema op → Has schema op t → Unmade op t → AllStand schema t
    → LeavesRows schema op t

-- initial tables have rows of the schema, whose stamps are earlier than those of every operation
pub record IsBeginning (schema : List Declaration) (t : StampedTables) : Type 0 where
  pub rows : AllStand schema t
  pub older : (time : ℕ) → 1 ≤ time → AreOlder time t

abbrev pub InitialStand : Type 0
InitialStand = (schema : List Declaration) (init : List InitRow) → AcceptedSchema schema → All (InitFits schema) init → IsBeginning schema (tables_held schema init empty)

-- kept rows stay kept
abbrev pub KeptStays : Type 0
KeptStays = (schema : List Declaration) (op : Op) (t : StampedTables) (p : Place) → IsSome (get (bare t) p) → IsSome (get (bare (applied schema op t)) p)

-- and present rows of grow-only tables stay present
abbrev pub GrownStays : Type 0
GrownStays = (schema : List Declaration) (op : Op) (t : StampedTables) (table : ℕ) (d : Declaration) (key : Key) → OpFits schema op → slice_get schema table ≡ Some d
    → is_grow_only d.kind ≡ true → IsPresent (bare t) table key → IsPresent (bare (applied schema op t)) table key

-- the operations draw no key of a table both
pub record DrawsApart (op other : Op) : Type 0 where
  pub apart : (a b : ℕ) (d e : RowEffect) → slice_get op.effects a ≡ Some d → slice_get other.effects b ≡ Some e → is_draw d.act ≡ true → is_draw e.act ≡ true
      → place_of d ≡ place_of e → ⊥

-- under keys that an operation drew no other one keeps a row: it draws other keys, inserts into no table whose keys are drawn, and updates and removes rows that
-- are kept
abbrev pub DrawnStay : Type 0
DrawnStay = (schema : List Declaration) (op other : Op) (t : StampedTables) → OpFits schema op → OpFits schema other → other.needs ≡ needs_of schema (effects_of other)
    → Has schema other t → DrawsApart op other → Unmade op t → Unmade op (applied schema other t)

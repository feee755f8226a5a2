-- The needs of an operation hold on tables: a row that it updates or removes is kept, and a row of a grow-only table that it refers to is present, unless a
-- later change of the operation sets the reference again.
use Rattle.std.specs.Prelude.{◌≡◌, false, ℕ, ◌<◌, List, Some, slice_get, map, IsSome}
use Rattle.std.specs.List.{All, Contains}
use Rattle.std.specs.FinMap.{get}
use Rattle.sv_value.specs.declared.values.Key.{Key}
use Rattle.sv_app.specs.declared.apps.Ident.{Ident}
use Rattle.sv_app.specs.Schema.{Refers, Invariant, Declaration}
use Rattle.sv_app.specs.Tables.{Tables}
use Rattle.sv_app.specs.Valid.{place_at, IsPresent, IsInvariant}
use Rattle.sv_effect.specs.declared.ops.Need.{Need}
use Rattle.sv_effect.specs.declared.ops.Need.TheVariants as needs
use Rattle.sv_effect.specs.declared.ops.Op.{Op}
use Rattle.sv_effect.specs.BareTables.{bare}
use Rattle.sv_effect.specs.Needs.{given}
use Rattle.sv_effect.specs.RunChanges.{Effect, effect_of}
use Rattle.sv_effect.specs.StampedTables.{StampedTables}
use Rattle.sv_effect.specs.Threatened.{write_to, is_set}

abbrev pub effects_of : Op → List Effect
effects_of op = map effect_of op.effects

-- a change asks for the row by a reference of its table, and no later change sets that column of its row again
pub record IsStanding (schema : List Declaration) (es : List Effect) (table : ℕ) (key : Key) : Type 0 where
  pub number : ℕ
  pub e : Effect
  pub at : slice_get es number ≡ Some e
  pub inv : Invariant
  pub among : IsInvariant schema e.place.table inv
  pub column : Ident
  pub parent : Ident
  pub target : Ident
  pub rule : inv.rule ≡ Refers column parent target
  pub refers : parent.num ≡ table
  pub asks : Contains (given among.declaration e column.num) key.first
  pub last : (later : ℕ) (other : Effect) → number < later → slice_get es later ≡ Some other → other.place ≡ e.place
      → is_set (write_to column.num other.writes) ≡ false

abbrev pub NeedHolds : List Declaration → List Effect → Tables → Need → Type 0
NeedHolds schema es t (needs.Kept table key) = IsSome (get t (place_at table key))
NeedHolds schema es t (needs.Present table key) = IsStanding schema es table key → IsPresent t table key

abbrev pub Has : List Declaration → Op → StampedTables → Type 0
Has schema op t = All (NeedHolds schema (effects_of op) (bare t)) op.needs

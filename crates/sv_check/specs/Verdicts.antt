-- What is said of changes: they keep all invariants, or break one, the first, at the least key.
use Rattle.std.specs.Prelude.{◌≡◌, ℕ, ◌<◌, List, Some, slice_get}
use Rattle.sv_value.specs.declared.values.Key.{Key}
use Rattle.sv_app.specs.declared.places.Place.{Place}
use Rattle.sv_app.specs.Schema.{Invariant, Declaration}
use Rattle.sv_app.specs.Tables.{Tables}
use Rattle.sv_app.specs.Valid.{Valid, IsFirstBroken}
use Rattle.sv_effect.specs.declared.left.LeftRow.{LeftRow}
use Rattle.sv_effect.specs.RunChanges.{Effect}
use Rattle.sv_effect.specs.Effects.{with_effects, Fits, FindsAll}
use Rattle.sv_effect.specs.Overlays.{over}
use Rattle.sv_check.specs.declared.verdicts.Verdict.{Verdict}
use Rattle.sv_check.specs.declared.verdicts.Verdict.TheVariants.{Keeps, Breaks}
use Rattle.sv_check.specs.Least.{IsLeast, BrokenAt, IsAfter}
use Rattle.sv_check.specs.Tests.{rules_of}

abbrev pub IsVerdict : List Declaration → List Effect → Tables → Verdict → Type 0
IsVerdict schema es t Keeps = Fits schema es t
IsVerdict schema es t (Breaks number key) = IsFirstBroken schema (with_effects schema es t) number key

-- so it is on valid tables in which each row that is updated or removed is found
abbrev pub Judges : List Declaration → List Effect → Verdict → Tables → Type 0
Judges schema es verdict t = Valid schema t → FindsAll schema es t → IsVerdict schema es t verdict

-- the first invariant of a table that is broken after the changes, where it is broken first, and none before it is
pub record IsFirstIn (schema : List Declaration) (t : Tables) (table number : ℕ) (key : Key) : Type 0 where
  pub place : ℕ
  pub inv : Invariant
  pub at : slice_get (rules_of (slice_get schema table)) place ≡ Some inv
  pub named : inv.number ≡ number
  pub least : IsLeast (BrokenAt schema t table inv.rule) (Some key)
  pub before : (earlier : ℕ) (other : Invariant) → earlier < place → slice_get (rules_of (slice_get schema table)) earlier ≡ Some other → (k : Key) → BrokenAt schema t table other.rule k → ⊥

abbrev pub NoneIn : List Declaration → Tables → ℕ → Type 0
NoneIn schema t table = (place : ℕ) (inv : Invariant) → slice_get (rules_of (slice_get schema table)) place ≡ Some inv → (key : Key) → BrokenAt schema t table inv.rule key → ⊥

-- what is said of one table, and of all
abbrev pub TableSays : List Declaration → List (Place × LeftRow) → ℕ → Verdict → Tables → Type 0
TableSays schema left table Keeps t = IsAfter schema left t → NoneIn schema (over left t) table
TableSays schema left table (Breaks number key) t = IsAfter schema left t → IsFirstIn schema (over left t) table number key

pub record IsFirstOfAll (schema : List Declaration) (t : Tables) (number : ℕ) (key : Key) : Type 0 where
  pub table : ℕ
  pub first : IsFirstIn schema t table number key
  pub before : (earlier : ℕ) → earlier < table → NoneIn schema t earlier

abbrev pub AllSay : List Declaration → List (Place × LeftRow) → Verdict → Tables → Type 0
AllSay schema left Keeps t = IsAfter schema left t → (table : ℕ) → NoneIn schema (over left t) table
AllSay schema left (Breaks number key) t = IsAfter schema left t → IsFirstOfAll schema (over left t) number key

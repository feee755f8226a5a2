-- Which reasons threaten a change: beside changes that other sites make at the same time it may not be merged, or break an invariant.
use Rattle.std.specs.Prelude.{◌≡◌, ◌⊎◌, ℕ, zero, suc, ℤ, pos, ◌+ℤ◌, ◌==◌, ◌&&◌, ◌||◌, not, if◌then◌else◌, Bool, true, false, List, [], ◌∷◌, Option, Some, None, slice_get}
use Rattle.std.specs.List.{All}
use Rattle.sv_value.specs.declared.values.Val.{Val}
use Rattle.sv_app.specs.declared.acts.Act.{Act}
use Rattle.sv_app.specs.declared.acts.Act.TheVariants.{Insert, Fresh, Update, Remove}
use Rattle.sv_app.specs.declared.apps.Ident.{Ident}
use Rattle.sv_app.specs.declared.reasons.Reason.{Reason}
use Rattle.sv_app.specs.declared.reasons.Reason.TheVariants as reasons
use Rattle.sv_app.specs.declared.schemas.Check.{Check}
use Rattle.sv_app.specs.declared.schemas.Column.{Column}
use Rattle.sv_app.specs.declared.schemas.Merge.TheVariants as merges
use Rattle.sv_app.specs.Fitting.{number_in}
use Rattle.sv_app.specs.Kinds.{is_unmerged}
use Rattle.sv_app.specs.Satisfiable.{checks_of, IsMet}
use Rattle.sv_app.specs.Schema.{Rule, Bound, OneOf, Different, Refers, Invariant, Declaration}
use Rattle.sv_app.specs.Valid.{IsListed, IsInvariant}
use Rattle.sv_effect.specs.declared.ops.Write.{Write}
use Rattle.sv_effect.specs.declared.ops.Write.TheVariants.{Delta, Set}
use Rattle.sv_effect.specs.declared.ops.RowEffect.{RowEffect}
use Rattle.sv_effect.specs.Acts.{is_insert, is_draw}
use Rattle.sv_effect.specs.Applied.{columns_in, annotated_in}
use Rattle.sv_effect.specs.BareTables.{got_of}
use Rattle.sv_effect.specs.Needs.{grows}
use Rattle.sv_effect.specs.RowChange.{turn_of}
use Rattle.sv_effect.specs.RunChanges.{Effect, effect_of, merge_of}

abbrev pub is_plain_column : List Column → ℕ → Bool
is_plain_column [] number = false
is_plain_column (column ∷ columns) zero = is_unmerged column.merge
is_plain_column (column ∷ columns) (suc number) = is_plain_column columns number

abbrev pub writes_plain : List Column → List (ℕ × Write) → Bool
writes_plain columns [] = false
writes_plain columns (w ∷ ws) = is_plain_column columns w.0 || writes_plain columns ws

abbrev pub turns : Option Bool → Bool
turns None = false
turns (Some on) = true

-- it writes a plain column, or inserts into or removes from an unannotated table
abbrev pub is_plain_change : List Declaration → Effect → Bool
is_plain_change schema e = writes_plain (columns_in schema e.place) e.writes || (turns (turn_of e.act) && not (annotated_in schema e.place))

abbrev pub threatened_by_plain : List Declaration → RowEffect → Bool
threatened_by_plain schema e = is_plain_change schema (effect_of e)

abbrev pub any_threatened : List Declaration → List RowEffect → Bool
any_threatened schema [] = false
any_threatened schema (e ∷ es) = threatened_by_plain schema e || any_threatened schema es

-- the write to a column
abbrev pub write_to : ℕ → List (ℕ × Write) → Option Write
write_to c [] = None
write_to c (w ∷ ws) = if w.0 == c then Some w.1 else write_to c ws

abbrev pub is_set : Option Write → Bool
is_set None = false
is_set (Some (Delta d)) = false
is_set (Some (Set v)) = true

abbrev pub is_remove : Act → Bool
is_remove Insert = false
is_remove Fresh = false
is_remove Update = false
is_remove Remove = true

-- it inserts into the table, or sets the column
abbrev pub touches : Effect → ℕ → Ident → Bool
touches e table column = e.place.table == table && (is_insert e.act || is_set (write_to column.num e.writes))

abbrev pub removes_from : Effect → ℕ → Bool
removes_from e table = e.place.table == table && is_remove e.act

-- a number after a write that wins or loses; a delta adds in any case
abbrev pub number_after : Bool → Option Write → ℤ → ℤ
number_after wins None n = n
number_after wins (Some (Delta d)) n = n +ℤ d
number_after true (Some (Set v)) n = number_in v
number_after false (Some (Set v)) n = n

-- the numbers of a row after the change, by which columns' writes win
abbrev pub numbers_after : (ℕ → Bool) → Effect → (ℕ → ℤ) → ℕ → ℤ
numbers_after wins e numbers c = number_after (wins c) (write_to c e.writes) (numbers c)

-- some numbers that meet all checks of the table don't meet this one after the change, by a choice of winning or losing for each LWW column
pub record BreaksRow (table : Declaration) (e : Effect) (check : Check) : Type 0 where
  pub found : is_draw e.act ≡ false
  pub numbers : ℕ → ℤ
  pub met : All (IsMet numbers) (checks_of table)
  pub wins : ℕ → Bool
  pub chosen : (c : ℕ) → wins c ≡ false → merge_of table.columns c ≡ merges.Lww
  pub breaks : IsMet (numbers_after wins e numbers) check → ⊥

-- the row that it makes from zeros doesn't meet the check
pub record BreaksZeros (e : Effect) (check : Check) : Type 0 where
  pub made : is_insert e.act ≡ true
  pub breaks : IsMet (numbers_after (λ c. true) e (λ c. pos 0)) check → ⊥

-- it sets the column to a value outside the list
pub record SetsUnlisted (e : Effect) (column : Ident) (texts : List (List ℕ)) : Type 0 where
  pub val : Val
  pub set : write_to column.num e.writes ≡ Some (Set val)
  pub unlisted : IsListed (got_of val) texts → ⊥

-- how a change threatens a rule of the table of that number
abbrev pub ByUnique : Effect → ℕ → Declaration → Rule → Type 0
ByUnique e table d (Different column) = touches e table column ≡ true
ByUnique e table d (Bound check) = ⊥
ByUnique e table d (OneOf column texts) = ⊥
ByUnique e table d (Refers column parent target) = ⊥

abbrev pub ByChild : List Declaration → Effect → ℕ → Declaration → Rule → Type 0
ByChild schema e table d (Refers column parent target) = (grows (slice_get schema parent.num) ≡ false) × (touches e table column ≡ true)
ByChild schema e table d (Bound check) = ⊥
ByChild schema e table d (OneOf column texts) = ⊥
ByChild schema e table d (Different column) = ⊥

abbrev pub ByParent : Effect → ℕ → Declaration → Rule → Type 0
ByParent e table d (Refers column parent target) = removes_from e parent.num ≡ true
ByParent e table d (Bound check) = ⊥
ByParent e table d (OneOf column texts) = ⊥
ByParent e table d (Different column) = ⊥

abbrev pub ByCheck : Effect → ℕ → Declaration → Rule → Type 0
ByCheck e table d (Bound check) = (e.place.table ≡ table) × (BreaksRow d e check ⊎ BreaksZeros e check)
ByCheck e table d (OneOf column texts) = ⊥
ByCheck e table d (Different column) = ⊥
ByCheck e table d (Refers column parent target) = ⊥

abbrev pub ByList : Effect → ℕ → Declaration → Rule → Type 0
ByList e table d (OneOf column texts) = (e.place.table ≡ table) × SetsUnlisted e column texts
ByList e table d (Bound check) = ⊥
ByList e table d (Different column) = ⊥
ByList e table d (Refers column parent target) = ⊥

-- an invariant of this number, whose rule is threatened so
pub record IsThreat (schema : List Declaration) (number : ℕ) (By : ℕ → Declaration → Rule → Type 0) : Type 0 where
  pub table : ℕ
  pub inv : Invariant
  pub among : IsInvariant schema table inv
  pub numbered : inv.number ≡ number
  pub by : By table among.declaration inv.rule

abbrev pub Threatened : List Declaration → Effect → Reason → Type 0
Threatened schema e reasons.Plain = is_plain_change schema e ≡ true
Threatened schema e (reasons.Unique i) = IsThreat schema i (ByUnique e)
Threatened schema e (reasons.Child i) = IsThreat schema i (ByChild schema e)
Threatened schema e (reasons.Parent i) = IsThreat schema i (ByParent e)
Threatened schema e (reasons.Check i) = IsThreat schema i (ByCheck e)
Threatened schema e (reasons.List i) = IsThreat schema i (ByList e)

-- no reason threatens one of the changes
abbrev pub Unthreatened : List Declaration → List Effect → Type 0
Unthreatened schema es = (number : ℕ) (e : Effect) (reason : Reason) → slice_get es number ≡ Some e → Threatened schema e reason → ⊥

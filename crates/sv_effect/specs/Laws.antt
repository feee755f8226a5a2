-- The laws of the definitions: what holds of every cut, and of every operation.
use Rattle.std.specs.Prelude.{◌≡◌, ◌≢◌, ◌⊎◌, ℕ, ◌<◌, ◌≤◌, Bool, false, List, [], ◌∷◌, map, Some, slice_get}
use Rattle.std.specs.Ordering.{is_lt}
use Rattle.sv_value.specs.declared.values.Val.{Val}
use Rattle.sv_value.specs.Orders.{stamp_cmp}
use Rattle.sv_value.specs.Cuts.{counts, more}
use Rattle.sv_app.specs.declared.requests.InitRow.{InitRow}
use Rattle.sv_app.specs.declared.schemas.Column.{Column}
use Rattle.sv_app.specs.declared.schemas.Ty.TheVariants.{Ints}
use Rattle.sv_app.specs.Accepted.{AcceptedSchema}
use Rattle.sv_app.specs.Schema.{Declaration}
use Rattle.sv_effect.specs.declared.ops.Op.{Op}
use Rattle.sv_effect.specs.StampedTables.{Stamped, StampedTables}
use Rattle.sv_effect.specs.Cut.{Cut, Medium, empty}
use Rattle.sv_effect.specs.Applied.{applied}
use Rattle.sv_effect.specs.BareTables.{bare}
use Rattle.sv_effect.specs.Effects.{with_effects}
use Rattle.sv_effect.specs.Fits.{OpFits}
use Rattle.sv_effect.specs.Newer.{IsNewer}
use Rattle.sv_effect.specs.RunChanges.{effect_of}
use Rattle.sv_effect.specs.Threatened.{any_threatened}
use Rattle.sv_effect.specs.TablesOfCut.{greatest, tables_held, tables_of}
use Rattle.sv_effect.specs.Commutes.{TablesFit, Commutes}
use Rattle.sv_effect.specs.Sequences.{Placed, IsSequence, applied_all}

-- the schema allows each operation
abbrev pub AllAllowed : List Declaration → Medium → Type 0
AllAllowed schema m = (o q : ℕ) (op : Op) → slice_get (m o) q ≡ Some op → OpFits schema op

-- no two operations were made at one site at the same time
abbrev pub Differ : Medium → Type 0
Differ m = (o q p r : ℕ) (a b : Op) → slice_get (m o) q ≡ Some a → slice_get (m p) r ≡ Some b → a.time ≡ b.time → a.site ≡ b.site → (o ≡ p) × (q ≡ r)

-- no blue operation writes a plain column, or inserts into or removes from an unannotated table
abbrev pub BluesMerge : List Declaration → Medium → Type 0
BluesMerge schema m = (o q : ℕ) (op : Op) → 1 ≤ o → slice_get (m o) q ≡ Some op → any_threatened schema op.effects ≡ false

-- the next operation of an origin is applied to the tables of the cut, whatever else the cut holds
abbrev pub OneMore : Type 0
OneMore = (schema : List Declaration) (init : List InitRow) (m : Medium) (cut : Cut) (o : ℕ) (op : Op) → AllAllowed schema m → Differ m → BluesMerge schema m
    → o < 9 → slice_get (m o) (cut o) ≡ Some op → tables_of schema init m (more cut o) ≡ applied schema op (tables_of schema init m cut)

-- an operation's deps count just the earlier ones of its own origin
abbrev pub OwnDeps : Medium → Type 0
OwnDeps m = (o q : ℕ) (op : Op) → slice_get (m o) q ≡ Some op → counts op.deps o ≡ q

abbrev pub EightSites : Medium → Type 0
EightSites m = (o : ℕ) → 8 < o → m o ≡ []

-- whatever sequence the operations of a cut are applied in to the initial tables, the tables of the cut come out
abbrev pub AnySequence : Type 0
AnySequence = (schema : List Declaration) (init : List InitRow) (m : Medium) (cut : Cut) (xs : List Placed) → AllAllowed schema m → Differ m → BluesMerge schema m
    → OwnDeps m → EightSites m → IsSequence m cut xs → applied_all schema xs (tables_held schema init empty) ≡ tables_of schema init m cut

abbrev pub IsOneOf : {A : Type 0} → A → List A → Type 0
IsOneOf x [] = ⊥
IsOneOf x (y ∷ ys) = (x ≡ y) ⊎ IsOneOf x ys

-- the greatest is one of those asked, and none of them has a greater stamp
abbrev pub IsGreatest : (A : Type 0) → Type 0
IsGreatest A = (first : Stamped A) (others : List (Stamped A)) → IsOneOf (greatest first others) (first ∷ others)
    × ((x : Stamped A) → IsOneOf x (first ∷ others) → is_lt (stamp_cmp (greatest first others).stamp x.stamp) ≡ false)

-- of the values of cells, and of marks
abbrev pub GreatestIs : Type 0
GreatestIs = IsGreatest Val × IsGreatest Bool

-- an operation that `plain` doesn't threaten commutes
abbrev pub UnthreatenedCommute : Type 0
UnthreatenedCommute = (schema : List Declaration) (op : Op) → OpFits schema op → any_threatened schema op.effects ≡ false → Commutes schema op

-- an operation that is newer than the tables shows there as its changes made in order, each write winning
abbrev pub NewerWins : Type 0
NewerWins = (schema : List Declaration) (op : Op) (t : StampedTables) → AcceptedSchema schema → OpFits schema op → TablesFit schema t → IsNewer op t
    → bare (applied schema op t) ≡ with_effects schema (map effect_of op.effects) (bare t)

-- no column has the type of lists
abbrev pub HasNoLists : List Declaration → Type 0
HasNoLists schema = (number place : ℕ) (table : Declaration) (column : Column) → slice_get schema number ≡ Some table → slice_get table.columns place ≡ Some column → column.ty ≢ Ints

-- an operation that the schema allows leaves tables of the schema
abbrev pub FittingKept : Type 0
FittingKept = (schema : List Declaration) (op : Op) (t : StampedTables) → HasNoLists schema → OpFits schema op → TablesFit schema t → TablesFit schema (applied schema op t)

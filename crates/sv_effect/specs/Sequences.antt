-- A sequence of the operations of a cut: each comes once, and after all those that it was made on.
use Rattle.std.specs.Prelude.{◌≡◌, ◌⊎◌, ℕ, ◌<◌, List, [], ◌∷◌, Some, slice_get}
use Rattle.sv_value.specs.Cuts.{counts}
use Rattle.sv_app.specs.Schema.{Declaration}
use Rattle.sv_effect.specs.declared.ops.Op.{Op}
use Rattle.sv_effect.specs.StampedTables.{StampedTables}
use Rattle.sv_effect.specs.Applied.{applied}
use Rattle.sv_effect.specs.Cut.{Cut, Medium}

-- an operation, and where it stands in the medium
pub record Placed : Type 0 where
  pub origin : ℕ
  pub number : ℕ
  pub op : Op

-- the operation that stands there is one of these
abbrev pub IsAmong : ℕ → ℕ → List Placed → Type 0
IsAmong o q [] = ⊥
IsAmong o q (x ∷ xs) = ((x.origin ≡ o) × (x.number ≡ q)) ⊎ IsAmong o q xs

-- the operation stands in the medium, isn't one of those before it, and finds its deps among them
pub record IsNext (m : Medium) (before : List Placed) (x : Placed) : Type 0 where
  pub stands : slice_get (m x.origin) x.number ≡ Some x.op
  pub new : IsAmong x.origin x.number before → ⊥
  pub finds : (o q : ℕ) → q < counts x.op.deps o → IsAmong o q before

-- each is the next of those before it, of which the latest stands first
abbrev pub Follow : Medium → List Placed → List Placed → Type 0
Follow m before [] = Unit {0}
Follow m before (x ∷ xs) = IsNext m before x × Follow m (x ∷ before) xs

-- a sequence of just the operations that the cut holds
pub record IsSequence (m : Medium) (cut : Cut) (xs : List Placed) : Type 0 where
  pub follow : Follow m [] xs
  pub all : (o q : ℕ) → q < cut o → IsAmong o q xs
  pub only : (o q : ℕ) → IsAmong o q xs → q < cut o

abbrev pub applied_all : List Declaration → List Placed → StampedTables → StampedTables
applied_all schema [] t = t
applied_all schema (x ∷ xs) t = applied_all schema xs (applied schema x.op t)

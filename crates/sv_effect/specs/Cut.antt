-- A medium is a list of operations per origin: origin 0 is the list of reds, origin s the list of blue operations of site s.
-- A cut is a number per origin, and holds the first so many of each list. It is closed if it covers the deps of each operation that it holds.
use Rattle.std.specs.Prelude.{◌≡◌, ℕ, ◌<◌, ◌≤◌, List, [], ◌∷◌, length, take, map, Some, slice_get}
use Rattle.sv_value.specs.declared.cuts.Cut.{Cut as CodeCut}
use Rattle.sv_value.specs.Cuts.{counts, Covers}
use Rattle.sv_effect.specs.declared.ops.Op.{Op}

abbrev pub Cut : Type 0
Cut = ℕ → ℕ

abbrev pub Medium : Type 0
Medium = ℕ → List Op

abbrev pub empty : Medium
empty o = []

-- the operations that a cut holds
abbrev pub held : Medium → Cut → Medium
held m cut o = take (cut o) (m o)

-- all that the cut holds is published
abbrev pub Lies : Medium → Cut → Type 0
Lies m cut = (o : ℕ) → cut o ≤ length (m o)

abbrev pub Closed : Medium → Cut → Type 0
Closed m cut = (o q : ℕ) → (op : Op) → q < cut o → slice_get (m o) q ≡ Some op → Covers cut (counts op.deps)

abbrev pub all_sites : List ℕ
all_sites = 1 ∷ 2 ∷ 3 ∷ 4 ∷ 5 ∷ 6 ∷ 7 ∷ 8 ∷ []

-- a cut as operations carry it
abbrev pub as_deps : Cut → CodeCut
as_deps cut = record { blue = map cut all_sites; reds = cut 0 }

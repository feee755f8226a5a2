-- The one order of red operations is a list, in which the place of an operation is its slot, with the number of further operations for which there is room.
use Rattle.std.specs.Prelude.{ℕ, ◌+◌, ◌<◌, ◌≤◌, ◌^◌, List}
use Rattle.sv_effect.specs.declared.ops.Op.{Op}

pub record Slots : Type 0 where
  pub ops : List Op
  pub room : ℕ

-- there is space for the operations that stand and for those for which there is room, and a number for each of their slots
abbrev pub HasSpace : ℕ → ℕ → ℕ → Type 0
HasSpace standing room space = (standing + room ≤ space) × (standing + room < 2 ^ 32)

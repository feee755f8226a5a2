-- When an operation gets the slot that it expected, and when it is behind others; what then stands.
use Rattle.std.specs.Prelude.{◌≡◌, ℕ, ◌-◌, ◌<◌, ◌++◌, [], ◌∷◌, length, map, slice_get, Some}
use Rattle.sv_effect.specs.declared.ops.Op.{Op}
use Rattle.sv_order.specs.Slots.{Slots}
use Rattle.sv_order.specs.declared.grants.Granted.{Granted}
use Rattle.sv_order.specs.declared.grants.Granted.TheVariants.{Slot, Behind}

-- the operation stands behind those that stood, and takes a place of the room
abbrev pub with_op : Slots → Op → Slots
with_op order op = record { ops = order.ops ++ op ∷ []; room = order.room - 1 }

abbrev pub IsGranted : Slots → ℕ → Op → Granted → Slots → Type 0
IsGranted before expected op (Slot slot) after = (length before.ops ≡ expected) × (slot ≡ expected) × (after ≡ with_op before op)
IsGranted before expected op (Behind slot owner same) after =
    (expected < length before.ops) × (slot ≡ expected) × (slice_get (map (λ standing. standing.site) before.ops) expected ≡ Some owner) × (same ≡ op) × (after ≡ before)

-- The first packet that a cut lacks of what is asked for: of the lowest site of which it has fewer, the next one; where there is no such site, the next red one.
use Rattle.std.specs.Prelude.{◌≡◌, ℕ, ◌<◌, ◌≤◌, Option, Some, None}
use Rattle.sv_value.specs.declared.packets.Packet.{Packet}
use Rattle.sv_value.specs.declared.packets.Packet.TheVariants.{Blue, Red}
use Rattle.sv_value.specs.Cuts.{Covers}

abbrev pub IsFirstMissing : (ℕ → ℕ) → (ℕ → ℕ) → Packet → Type 0
IsFirstMissing cut deps (Blue site seq) = (1 ≤ site) × (seq ≡ cut site) × (cut site < deps site) × ((other : ℕ) → 1 ≤ other → other < site → deps other ≤ cut other)
IsFirstMissing cut deps (Red slot) = (slot ≡ cut 0) × (cut 0 < deps 0) × ((site : ℕ) → 1 ≤ site → deps site ≤ cut site)

-- none is missing where the cut covers what is asked for, and else the first one
abbrev pub IsMissing : (ℕ → ℕ) → (ℕ → ℕ) → Option Packet → Type 0
IsMissing cut deps None = Covers cut deps
IsMissing cut deps (Some packet) = IsFirstMissing cut deps packet

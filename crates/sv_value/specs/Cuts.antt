-- A cut as counts by origin: origin 0 is the list of reds, origin s the list of blue operations of site s.
use Rattle.std.specs.Prelude.{ℕ, zero, suc, ◌≤◌, ◌==◌, if◌then◌else◌, get_or}
use Rattle.sv_value.specs.declared.cuts.Cut.{Cut}
use Rattle.sv_value.specs.declared.packets.Packet.{Packet}
use Rattle.sv_value.specs.declared.packets.Packet.TheVariants.{Blue, Red}

-- where a packet stands: the list that it belongs to, and its number there
abbrev pub origin : Packet → ℕ
origin (Blue site seq) = site
origin (Red slot) = 0

abbrev pub number : Packet → ℕ
number (Blue site seq) = seq
number (Red slot) = slot

-- how many of each origin the code's cut has
abbrev pub counts : Cut → ℕ → ℕ
counts cut zero = cut.reds
counts cut (suc place) = get_or cut.blue place 0

-- one more of the origin
abbrev pub more : (ℕ → ℕ) → ℕ → ℕ → ℕ
more cut o x = if x == o then suc (cut x) else cut x

abbrev pub Covers : (ℕ → ℕ) → (ℕ → ℕ) → Type 0
Covers cut deps = (o : ℕ) → deps o ≤ cut o

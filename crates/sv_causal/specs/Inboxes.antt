-- An inbox is a list of packets, the oldest first, at most 64 of them.
use Rattle.std.specs.Prelude.{ℕ, suc, ◌==◌, ◌&&◌, ◌++◌, nat_le, Bool, false, if◌then◌else◌, List, [], ◌∷◌, take, drop}
use Rattle.std.specs.List.{list_any}
use Rattle.circular_buffer.specs.Buffer.{keep_last}
use Rattle.sv_value.specs.declared.packets.Packet.{Packet}
use Rattle.sv_value.specs.declared.packets.Packet.TheVariants.{Blue, Red}
use Rattle.sv_value.specs.Cuts.{origin, number}

abbrev pub is_same : Packet → Packet → Bool
is_same (Blue s n) (Blue t m) = (s == t) && (n == m)
is_same (Blue s n) (Red m) = false
is_same (Red n) (Blue t m) = false
is_same (Red n) (Red m) = n == m

-- with a packet more: one that is there changes nothing, and behind 64 others the oldest goes
abbrev pub with_packet : List Packet → Packet → List Packet
with_packet inbox packet = if list_any (is_same packet) inbox then inbox else keep_last 64 (inbox ++ packet ∷ [])

-- the cut hasn't the packet
abbrev pub lacks : (ℕ → ℕ) → Packet → Bool
lacks cut packet = nat_le (cut (origin packet)) (number packet)

-- without the packet at a place
abbrev pub without : List Packet → ℕ → List Packet
without inbox place = take place inbox ++ drop (suc place) inbox

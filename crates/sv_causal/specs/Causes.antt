-- When a packet is a duplicate at a site that has a cut, when it may be applied there, and when it is early, where its operation was made on the cut `deps`.
use Rattle.std.specs.Prelude.{◌≡◌, ℕ, ◌<◌}
use Rattle.sv_value.specs.declared.packets.Packet.{Packet}
use Rattle.sv_value.specs.Cuts.{origin, number, Covers}
use Rattle.sv_causal.specs.Missing.{IsFirstMissing}
use Rattle.sv_causal.specs.declared.readiness.Readiness.{Readiness}
use Rattle.sv_causal.specs.declared.readiness.Readiness.TheVariants.{Duplicate, Now, Early}

-- the cut has the packet
abbrev pub Has : (ℕ → ℕ) → Packet → Type 0
Has cut packet = number packet < cut (origin packet)

abbrev pub IsCause : (ℕ → ℕ) → (ℕ → ℕ) → Packet → Readiness → Type 0
IsCause cut deps packet Duplicate = Has cut packet
IsCause cut deps packet Now = (Has cut packet → ⊥) × Covers cut deps
IsCause cut deps packet (Early missing) = (Has cut packet → ⊥) × IsFirstMissing cut deps missing

-- the answer that has its cause, and no other has
pub record IsAnswer (cut deps : ℕ → ℕ) (packet : Packet) (answer : Readiness) : Type 0 where
  pub cause : IsCause cut deps packet answer
  pub alone : (other : Readiness) → IsCause cut deps packet other → other ≡ answer

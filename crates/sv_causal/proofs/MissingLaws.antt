-- What is known of a cut's sites while they are looked at one by one.
use Rattle.std.proofs.Common.{◌≡◌, ℕ, zero, suc, ◌+◌, ◌<◌, ◌≤◌, length, get_or, refl, sym, subst, arith}
use Rattle.sv_value.specs.declared.cuts.Cut.{Cut}
use Rattle.sv_value.specs.declared.packets.Packet.{Packet}
use Rattle.sv_value.specs.declared.packets.Packet.TheVariants.{Blue, Red}
use Rattle.sv_value.specs.Cuts.{counts, Covers}
use Rattle.sv_value.proofs.Below.{Below}
use Rattle.sv_value.proofs.CoverLaws.{below_all}
use Rattle.sv_causal.specs.Missing.{IsFirstMissing}

sites_before : (cut deps : Cut) (place : ℕ) → Below deps.blue cut.blue place → (other : ℕ) → 1 ≤ other → other < suc place → counts deps other ≤ counts cut other
sites_before cut deps place below zero from to = absurd (omega (arith, from))
sites_before cut deps place below (suc k) from to = below k (omega (arith, to))

up_to : (cut deps : Cut) (place : ℕ) → 8 ≤ place → Below deps.blue cut.blue place → Below deps.blue cut.blue 8
up_to cut deps place all below k lt = below k (omega (arith, all, lt))

all_sites : (cut deps : Cut) → length deps.blue ≡ 8 → Below deps.blue cut.blue 8 → (site : ℕ) → 1 ≤ site → counts deps site ≤ counts cut site
all_sites cut deps long below zero from = absurd (omega (arith, from))
all_sites cut deps long below (suc k) from = below_all (record { blue = cut.blue; reds = deps.reds }) deps long (omega arith) below (suc k)

-- a site is short, and none before it
pub blue_missing : (cut deps : Cut) (place : ℕ) (packet : Packet) → packet ≡ Blue (suc place) (get_or cut.blue place 0) → Below deps.blue cut.blue place
    → get_or cut.blue place 0 < get_or deps.blue place 0 → IsFirstMissing (counts cut) (counts deps) packet
blue_missing cut deps place packet is below short =
    let from : 1 ≤ suc place = omega arith in
    subst (λ p. IsFirstMissing (counts cut) (counts deps) p) (sym is) (from, refl, short, sites_before cut deps place below)

-- no site is short, but the reds are
pub red_missing : (cut deps : Cut) (place : ℕ) → length deps.blue ≡ 8 → 8 ≤ place → Below deps.blue cut.blue place → cut.reds < deps.reds → IsFirstMissing (counts cut) (counts deps) (Red cut.reds)
red_missing cut deps place long all below short = (refl, short, all_sites cut deps long (up_to cut deps place all below))

-- nothing is short
pub none_missing : (cut deps : Cut) (place : ℕ) → length deps.blue ≡ 8 → 8 ≤ place → Below deps.blue cut.blue place → deps.reds ≤ cut.reds → Covers (counts cut) (counts deps)
none_missing cut deps place long all below reds = below_all cut deps long reds (up_to cut deps place all below)

pub ruleset missing = (blue_missing, red_missing, none_missing)

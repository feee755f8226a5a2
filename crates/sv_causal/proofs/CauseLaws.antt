-- Of the answers to a packet one alone has its cause.
use Rattle.std.proofs.Common.{◌≡◌, ◌⊎◌, inl, inr, ℕ, zero, suc, ◌+◌, ◌<◌, ◌≤◌, ◌↔◌, Bool, true, false, IsTrue, refl, sym, ap, subst, ◌∙◌, arith}
use Rattle.sv_value.specs.declared.packets.Packet.{Packet}
use Rattle.sv_value.specs.declared.packets.Packet.TheVariants.{Blue, Red}
use Rattle.sv_value.specs.Cuts.{origin, number, Covers}
use Rattle.sv_causal.specs.Missing.{IsFirstMissing}
use Rattle.sv_causal.specs.Causes.{Has, IsCause, IsAnswer}
use Rattle.sv_causal.specs.declared.readiness.Readiness.{Readiness}
use Rattle.sv_causal.specs.declared.readiness.Readiness.TheVariants.{Duplicate, Now, Early}

data Order (a b : ℕ) : Type 0 where
  below : a < b → Order a b
  same : a ≡ b → Order a b
  above : b < a → Order a b

order : (a b : ℕ) → Order a b
order zero zero = same refl
order zero (suc b) = below (omega arith)
order (suc a) zero = above (omega arith)
order (suc a) (suc b) = up (order a b)
  where
    up : Order a b → Order (suc a) (suc b)
    up (below l) = below (omega (arith, l))
    up (same e) = same (ap suc e)
    up (above l) = above (omega (arith, l))

pub same_missing : (cut deps : ℕ → ℕ) (p q : Packet) → IsFirstMissing cut deps p → IsFirstMissing cut deps q → p ≡ q
same_missing cut deps (Blue s n) (Blue t m) (s_from, n_is, s_short, s_first) (t_from, m_is, t_short, t_first) = by (order s t)
  where
    by : Order s t → Blue s n ≡ Blue t m
    by (below l) = absurd (omega (arith, s_short, t_first s s_from l))
    by (same e) = ap (λ x. Blue s x) n_is ∙ ap (λ x. Blue x (cut x)) e ∙ sym (ap (λ x. Blue t x) m_is)
    by (above l) = absurd (omega (arith, t_short, s_first t t_from l))
same_missing cut deps (Blue s n) (Red m) (s_from, n_is, s_short, s_first) (m_is, short, none) = absurd (omega (arith, s_short, none s s_from))
same_missing cut deps (Red n) (Blue t m) (n_is, short, none) (t_from, m_is, t_short, t_first) = absurd (omega (arith, t_short, none t t_from))
same_missing cut deps (Red n) (Red m) (n_is, n_short, n_none) (m_is, m_short, m_none) = ap Red (n_is ∙ sym m_is)

pub not_covered : (cut deps : ℕ → ℕ) (p : Packet) → IsFirstMissing cut deps p → Covers cut deps → ⊥
not_covered cut deps (Blue s n) (s_from, n_is, s_short, s_first) covers = omega (arith, s_short, covers s)
not_covered cut deps (Red n) (n_is, short, none) covers = omega (arith, short, covers 0)

pub only_cause : (cut deps : ℕ → ℕ) (packet : Packet) (a b : Readiness) → IsCause cut deps packet a → IsCause cut deps packet b → a ≡ b
only_cause cut deps packet Duplicate Duplicate x y = refl
only_cause cut deps packet Duplicate Now x y = absurd (y.0 x)
only_cause cut deps packet Duplicate (Early q) x y = absurd (y.0 x)
only_cause cut deps packet Now Duplicate x y = absurd (x.0 y)
only_cause cut deps packet Now Now x y = refl
only_cause cut deps packet Now (Early q) x y = absurd (not_covered cut deps q y.1 x.1)
only_cause cut deps packet (Early p) Duplicate x y = absurd (x.0 y)
only_cause cut deps packet (Early p) Now x y = absurd (not_covered cut deps p x.1 y.1)
only_cause cut deps packet (Early p) (Early q) x y = ap Early (same_missing cut deps p q x.1 y.1)

answered : (cut deps : ℕ → ℕ) (packet : Packet) (answer : Readiness) → IsCause cut deps packet answer → IsAnswer cut deps packet answer
answered cut deps packet answer cause = record { cause = cause; alone = λ other due. only_cause cut deps packet other answer due cause }

clash : (b : Bool) → b ≡ true → b ≡ false → ⊥
clash b is isnt = cc

lacks : (cut : ℕ → ℕ) (packet : Packet) (tested : Bool) → tested ≡ false → (IsTrue tested ↔ (number packet < cut (origin packet))) → Has cut packet → ⊥
lacks cut packet tested untrue means has = clash tested (means.1 has) untrue

pub duplicate : (cut deps : ℕ → ℕ) (packet : Packet) (tested : Bool) → tested ≡ true → (IsTrue tested ↔ (number packet < cut (origin packet))) → IsAnswer cut deps packet Duplicate
duplicate cut deps packet tested holds means = answered cut deps packet Duplicate (means.0 holds)

pub now : (cut deps : ℕ → ℕ) (packet : Packet) (tested : Bool) → tested ≡ false → (IsTrue tested ↔ (number packet < cut (origin packet))) → Covers cut deps → IsAnswer cut deps packet Now
now cut deps packet tested untrue means covers = answered cut deps packet Now (lacks cut packet tested untrue means, covers)

pub early : (cut deps : ℕ → ℕ) (packet missing : Packet) (tested : Bool) → tested ≡ false → (IsTrue tested ↔ (number packet < cut (origin packet))) → IsFirstMissing cut deps missing → IsAnswer cut deps packet (Early missing)
early cut deps packet missing tested untrue means first = answered cut deps packet (Early missing) (lacks cut packet tested untrue means, first)

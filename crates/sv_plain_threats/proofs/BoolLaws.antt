-- Tests of two truth values, and of two numbers.
use Rattle.std.proofs.Common.{◌≡◌, Bool, true, false, ℤ, refl, arith}
use Rattle.std.specs.Prelude.{◌&&◌, not, int_le, ◌≤ℤ◌}
use Rattle.std.proofs.lemmas.Int.{ints}

pub and_left : (a b : Bool) → (a && b) ≡ true → a ≡ true
and_left true b e = refl
and_left false b e = absurd cc

pub and_right : (a b : Bool) → (a && b) ≡ true → b ≡ true
and_right true b e = e
and_right false b e = absurd cc

pub and_both : (a b : Bool) → a ≡ true → b ≡ true → (a && b) ≡ true
and_both a b e f = (λ i. e i && f i)

pub not_false : (b : Bool) → not b ≡ true → b ≡ false
not_false true e = absurd cc
not_false false e = refl

pub apart : {P : Type 0} (b : Bool) → b ≡ true → b ≡ false → P
apart true e f = absurd cc
apart false e f = absurd cc

pub true_le : (a b : ℤ) → int_le a b ≡ true → a ≤ℤ b
true_le a b e = omega (arith, ints, e)

pub le_true : (a b : ℤ) → a ≤ℤ b → int_le a b ≡ true
le_true a b le = by (int_le a b) refl
  where
    by : (t : Bool) → int_le a b ≡ t → int_le a b ≡ true
    by true e = e
    by false e = absurd (omega (arith, ints, e, le))

pub false_gt : (a b : ℤ) → int_le a b ≡ false → a ≤ℤ b → ⊥
false_gt a b e le = apart (int_le a b) (le_true a b le) e

pub gt_false : (a b : ℤ) → (a ≤ℤ b → ⊥) → int_le a b ≡ false
gt_false a b gt = by (int_le a b) refl
  where
    by : (t : Bool) → int_le a b ≡ t → int_le a b ≡ false
    by true e = absurd (gt (true_le a b e))
    by false e = e

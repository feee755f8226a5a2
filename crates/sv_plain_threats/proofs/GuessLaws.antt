-- The guesses are the numbers in reach, each winning and losing.
use Rattle.std.proofs.Common.{◌≡◌, ℕ, zero, suc, ◌<◌, ◌≤◌, ℤ, pos, negsuc, Bool, true, false, [], ◌∷◌, refl, subst, arith}
use Rattle.std.specs.Prelude.{neg_ℤ, nat_lt}
use Rattle.std.specs.List.{All, Contains}
use Rattle.std.proofs.lemmas.Bool.Decides.{nat_tests}
use Rattle.std.proofs.lemmas.Int.{ints}
use Rattle.std.proofs.lemmas.List.Elements.{All-nil, All-cons, All-append, All-contains, Contains-append_left, Contains-append_right}
use Rattle.sv_app.proofs.ListLaws.{contains_at}
use Rattle.sv_plain_threats.specs.declared.guesses.Guess.{Guess}
use Rattle.sv_plain_threats.specs.ThreatenedWithin.{IsNear}
use Rattle.sv_plain_threats.specs.Tries.{both_ways, guesses_below}

abbrev NearGuess : ℕ → Guess → Type 0
NearGuess reach g = IsNear reach g.number

above_near : (reach n : ℕ) → n ≤ reach → IsNear reach (pos n)
above_near reach n le = record { low = omega (arith, ints, le); high = omega (arith, ints, le) }

below_near : (reach n : ℕ) → n ≤ reach → IsNear reach (neg_ℤ (pos n))
below_near reach n le = record { low = omega (arith, ints, le); high = omega (arith, ints, le) }

four : (P : Guess → Type 0) (w x y z : Guess) → P w → P x → P y → P z → All P (w ∷ x ∷ y ∷ z ∷ [])
four P w x y z a b c d = All-cons P w (x ∷ y ∷ z ∷ []) a (All-cons P x (y ∷ z ∷ []) b (All-cons P y (z ∷ []) c (All-cons P z [] d (All-nil P))))

both_near : (reach n : ℕ) → n ≤ reach → All (NearGuess reach) (both_ways n)
both_near reach n le =
    four (NearGuess reach) (record { number = pos n; wins = true }) (record { number = pos n; wins = false }) (record { number = neg_ℤ (pos n); wins = true }) (record { number = neg_ℤ (pos n); wins = false })
    (above_near reach n le) (above_near reach n le) (below_near reach n le) (below_near reach n le)

all_near : (reach n : ℕ) → n ≤ suc reach → All (NearGuess reach) (guesses_below n)
all_near reach zero le = All-nil (NearGuess reach)
all_near reach (suc n) le = All-append (NearGuess reach) (guesses_below n) (both_ways n) (all_near reach n (omega (arith, le))) (both_near reach n (omega (arith, le)))

pub guess_near : (reach : ℕ) (g : Guess) → Contains (guesses_below (suc reach)) g → IsNear reach g.number
guess_near reach g among = All-contains (NearGuess reach) (guesses_below (suc reach)) g (all_near reach (suc reach) (omega arith)) among

lt_of : (n k : ℕ) → nat_lt n k ≡ true → n < k
lt_of n k e = grind (arith, nat_tests)

le_of : (n k : ℕ) → nat_lt n k ≡ false → k ≤ n
le_of n k e = grind (arith, nat_tests)

same_of : (n k : ℕ) → nat_lt n k ≡ false → n < suc k → n ≡ k
same_of n k e less = omega (arith, le_of n k e, less)

has_below : (k n : ℕ) (g : Guess) → n < k → Contains (both_ways n) g → Contains (guesses_below k) g
has_below zero n g less has = absurd (omega (arith, less))
has_below (suc k) n g less has = by (nat_lt n k) refl (λ early. has_below k n g early has)
  where
    by : (b : Bool) → nat_lt n k ≡ b → (n < k → Contains (guesses_below k) g) → Contains (guesses_below (suc k)) g
    by true e ih = Contains-append_left (guesses_below k) (both_ways k) g (ih (lt_of n k e))
    by false e ih = Contains-append_right (guesses_below k) (both_ways k) g (subst (λ m. Contains (both_ways m) g) (same_of n k e less) has)

pub near_guess : (reach : ℕ) (n : ℤ) (wins : Bool) → IsNear reach n → Contains (guesses_below (suc reach)) (record { number = n; wins = wins })
near_guess reach (pos n) true near = has_below (suc reach) n _ (omega (arith, ints, near.high)) (contains_at (both_ways n) 0 _ refl)
near_guess reach (pos n) false near = has_below (suc reach) n _ (omega (arith, ints, near.high)) (contains_at (both_ways n) 1 _ refl)
near_guess reach (negsuc n) true near = has_below (suc reach) (suc n) _ (omega (arith, ints, near.low)) (contains_at (both_ways (suc n)) 2 _ refl)
near_guess reach (negsuc n) false near = has_below (suc reach) (suc n) _ (omega (arith, ints, near.low)) (contains_at (both_ways (suc n)) 3 _ refl)

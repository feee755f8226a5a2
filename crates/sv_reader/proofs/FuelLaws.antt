-- Turns, one at a time: as many are read as there are, if each takes a token.
use Rattle.std.proofs.Common.{◌≡◌, ◌∙◌, ℕ, zero, suc, ◌<◌, Bool, true, false, if◌then◌else◌, List, length, Ok, Err, refl, ap, arith, cond}
use Rattle.sv_lex.specs.declared.tokens.Token.{Token}
use Rattle.sv_reader.specs.declared.faults.ReadFault.{ReadFault}
use Rattle.sv_reader.specs.Reading.{Read, ◌>>=◌, turns_from, turns_at}
use Rattle.sv_reader.proofs.AnswerLaws.{then_ok, then_err}

module _ {S : Type 0} (test : List Token → Bool) (turn end : S → List Token → Read S)
    (shorter : (s : S) (tokens : List Token) (m : S) (rest : List Token) → test tokens ≡ true → turn s tokens ≡ Ok (m, rest) → length rest < length tokens) where
  fuel_same : (n k : ℕ) (s : S) (tokens : List Token) → length tokens < n → length tokens < k → turns_from test turn end n s tokens ≡ turns_from test turn end k s tokens
  unfolding turns_from
  fuel_same zero k s tokens ln lk = absurd (omega (arith, ln))
  fuel_same (suc n) zero s tokens ln lk = absurd (omega (arith, lk))
  fuel_same (suc n) (suc k) s tokens ln lk = by_test (λ m rest a b. fuel_same n k m rest a b) (test tokens) refl
    where
      next : (read : Read S) → ((m : S) (rest : List Token) → read ≡ Ok (m, rest) → turns_from test turn end n m rest ≡ turns_from test turn end k m rest)
          → (read >>= λ m rest. turns_from test turn end n m rest) ≡ (read >>= λ m rest. turns_from test turn end k m rest)
      next (Err fault) same = refl
      next (Ok (m, rest)) same = same m rest refl

      by_turn : ((m : S) (rest : List Token) → length rest < n → length rest < k → turns_from test turn end n m rest ≡ turns_from test turn end k m rest)
          → test tokens ≡ true → (m : S) (rest : List Token) → turn s tokens ≡ Ok (m, rest) → turns_from test turn end n m rest ≡ turns_from test turn end k m rest
      by_turn more t m rest e = let lt = shorter s tokens m rest t e in more m rest (omega (arith, lt, ln)) (omega (arith, lt, lk))

      by_test : ((m : S) (rest : List Token) → length rest < n → length rest < k → turns_from test turn end n m rest ≡ turns_from test turn end k m rest) → (b : Bool) → test tokens ≡ b
          → cond b (turn s tokens >>= λ m rest. turns_from test turn end n m rest) (end s tokens) ≡ cond b (turn s tokens >>= λ m rest. turns_from test turn end k m rest) (end s tokens)
      by_test more false t = refl
      by_test more true t = next (turn s tokens) (by_turn more t)

  -- one turn more, if the test is passed
  pub unrolled : (s : S) (tokens : List Token) → turns_at test turn end s tokens ≡ (if test tokens then (turn s tokens >>= λ m rest. turns_at test turn end m rest) else end s tokens)
  unfolding turns_from
  unrolled s tokens = by_test (test tokens) refl
    where
      next : (read : Read S) → ((m : S) (rest : List Token) → read ≡ Ok (m, rest) → turns_from test turn end (length tokens) m rest ≡ turns_at test turn end m rest)
          → (read >>= λ m rest. turns_from test turn end (length tokens) m rest) ≡ (read >>= λ m rest. turns_at test turn end m rest)
      next (Err fault) same = refl
      next (Ok (m, rest)) same = same m rest refl

      by_test : (b : Bool) → test tokens ≡ b
          → cond b (turn s tokens >>= λ m rest. turns_from test turn end (length tokens) m rest) (end s tokens) ≡ cond b (turn s tokens >>= λ m rest. turns_at test turn end m rest) (end s tokens)
      by_test false t = refl
      by_test true t = next (turn s tokens) (λ m rest e. fuel_same (length tokens) (suc (length rest)) m rest (shorter s tokens m rest t e) (omega arith))

  -- where the test is passed
  pub turn_on : (s : S) (tokens : List Token) → test tokens ≡ true → turns_at test turn end s tokens ≡ (turn s tokens >>= λ m rest. turns_at test turn end m rest)
  turn_on s tokens t = unrolled s tokens ∙ ap (λ b. cond b (turn s tokens >>= λ m rest. turns_at test turn end m rest) (end s tokens)) t

  pub turn_read : (s : S) (tokens : List Token) (m : S) (rest : List Token) → test tokens ≡ true → turn s tokens ≡ Ok (m, rest) → turns_at test turn end s tokens ≡ turns_at test turn end m rest
  turn_read s tokens m rest t e = turn_on s tokens t ∙ then_ok (λ m rest. turns_at test turn end m rest) e

  pub turn_err : (s : S) (tokens : List Token) (fault : ReadFault) → test tokens ≡ true → turn s tokens ≡ Err fault → turns_at test turn end s tokens ≡ Err fault
  turn_err s tokens fault t e = turn_on s tokens t ∙ then_err (λ m rest. turns_at test turn end m rest) e

  pub end_read : (s : S) (tokens : List Token) → test tokens ≡ false → turns_at test turn end s tokens ≡ end s tokens
  end_read s tokens t = unrolled s tokens ∙ ap (λ b. cond b (turn s tokens >>= λ m rest. turns_at test turn end m rest) (end s tokens)) t

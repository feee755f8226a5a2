-- Reading where there is some room, and one turn more of an expression or a condition.
use Rattle.std.proofs.Common.{◌≡◌, ℕ, zero, suc, ◌<◌, ◌≤◌, ◌-◌, true, false, List, length, Ok, Err, refl, ap, subst, arith}
use Rattle.sv_lex.specs.declared.marks.Mark.TheVariants as marks
use Rattle.sv_lex.specs.declared.tokens.Token.{Token}
use Rattle.sv_lex.specs.declared.tokens.TokenKind.TheVariants.{Mark}
use Rattle.sv_reader.specs.declared.faults.ReadFault.{ReadFault}
use Rattle.sv_reader.specs.Reading.{is_next, turns_at}
use Rattle.sv_txn_reader.specs.Grammar.{Products}
use Rattle.sv_reader.specs.Reading.{keep}
use Rattle.sv_txn_reader.specs.Reading.{Graded, factor_with, factor_at, factor_below, products_with, products_at, products_below, sums_with, sums_at, sums_below, product_turn, sum_turn, is_sign}
use Rattle.sv_txn_reader.proofs.ChainLaws.{chain_turning}
use Rattle.sv_txn_reader.proofs.FactorLaws.{Inside, Flat, Nested, Deep, multiplies}
use Rattle.sv_txn_reader.proofs.PlacedLaws.{Law}
use Rattle.sv_txn_reader.proofs.LimitLaws.{depths}
use Rattle.sv_reader.proofs.FuelLaws.{turn_read, turn_err, end_read}
use Rattle.sv_txn_reader.proofs.PieceLaws.{shorter}
use Rattle.sv_txn_reader.proofs.TermLaws.{product_chain, sum_chain, all_laws}

less_one : (n : ℕ) → n ≡ suc n - 1
less_one n = omega arith

pub factor_below_is : (room : ℕ) (tokens : List Token) → 1 ≤ room → factor_below room tokens ≡ factor_at (room - 1) tokens
factor_below_is zero tokens h = absurd (omega (arith, h))
factor_below_is (suc room) tokens h = ap (λ n. factor_at n tokens) (less_one room)

pub products_below_is : (room : ℕ) (tokens : List Token) → 1 ≤ room → products_below room tokens ≡ products_at (room - 1) tokens
products_below_is zero tokens h = absurd (omega (arith, h))
products_below_is (suc room) tokens h = ap (λ n. products_at n tokens) (less_one room)

pub sums_below_is : (room : ℕ) (tokens : List Token) → 1 ≤ room → sums_below room tokens ≡ sums_at (room - 1) tokens
sums_below_is zero tokens h = absurd (omega (arith, h))
sums_below_is (suc room) tokens h = ap (λ n. sums_at n tokens) (less_one room)

pub factor_read : (room : ℕ) (tokens : List Token) → factor_at room tokens ≡ factor_with room (factor_below room) (sums_below room) tokens
unfolding factor_at
factor_read zero tokens = refl
factor_read (suc room) tokens = refl

pub products_read : (room : ℕ) (tokens : List Token) → products_at room tokens ≡ products_with room (factor_at room) (factor_below room) tokens
unfolding factor_at
products_read zero tokens = refl
products_read (suc room) tokens = refl

pub sums_read : (room : ℕ) (tokens : List Token) → sums_at room tokens ≡ sums_with room (products_at room) (products_below room) tokens
unfolding factor_at
sums_read zero tokens = refl
sums_read (suc room) tokens = refl

inside : (room : ℕ) → Inside room (factor_below room) (sums_below room)
inside zero = Flat
inside (suc room) = Nested room (factor_at room) (sums_at room) (all_laws room).factor (all_laws room).sums

-- products

pub product_more : (room : ℕ) (a m : Graded) (tokens rest : List Token) → (is_next (Mark marks.Star)) tokens ≡ true → product_turn room (factor_below room) a tokens ≡ Ok (m, rest)
    → turns_at (is_next (Mark marks.Star)) (product_turn room (factor_below room)) keep a tokens ≡ turns_at (is_next (Mark marks.Star)) (product_turn room (factor_below room)) keep m rest
product_more room a m tokens rest t e = turn_read (is_next (Mark marks.Star)) (product_turn room (factor_below room)) keep (shorter false (chain_turning (product_chain room (factor_below room) (sums_below room) (inside room)))) a tokens m rest t e

pub product_less : (room : ℕ) (a m : Graded) (tokens rest : List Token) → (is_next (Mark marks.Star)) tokens ≡ true → product_turn room (factor_below room) a tokens ≡ Ok (m, rest) → length rest < length tokens
product_less room a m tokens rest t e = shorter false (chain_turning (product_chain room (factor_below room) (sums_below room) (inside room))) a tokens m rest t e

pub product_err : (room : ℕ) (a : Graded) (tokens : List Token) (fault : ReadFault) → (is_next (Mark marks.Star)) tokens ≡ true → product_turn room (factor_below room) a tokens ≡ Err fault
    → turns_at (is_next (Mark marks.Star)) (product_turn room (factor_below room)) keep a tokens ≡ Err fault
product_err room a tokens fault t e = turn_err (is_next (Mark marks.Star)) (product_turn room (factor_below room)) keep (shorter false (chain_turning (product_chain room (factor_below room) (sums_below room) (inside room)))) a tokens fault t e

pub product_end : (room : ℕ) (a : Graded) (tokens : List Token) → (is_next (Mark marks.Star)) tokens ≡ false → turns_at (is_next (Mark marks.Star)) (product_turn room (factor_below room)) keep a tokens ≡ Ok (a, tokens)
product_end room a tokens t = end_read (is_next (Mark marks.Star)) (product_turn room (factor_below room)) keep (shorter false (chain_turning (product_chain room (factor_below room) (sums_below room) (inside room)))) a tokens t

pub ruleset products = (products_read, product_more, product_less, product_err, product_end)

products_inside : (room n : ℕ) → room ≡ suc n → Law depths multiplies (Deep Products n) (products_below room)
products_inside zero n e = absurd (omega (arith, e))
products_inside (suc room) n e = let same : room ≡ n = omega (arith, e) in subst (λ x. Law depths multiplies (Deep Products x) (products_at room)) same (all_laws room).products

-- sums

pub sum_more : (room : ℕ) (a m : Graded) (tokens rest : List Token) → is_sign tokens ≡ true → sum_turn room (products_below room) a tokens ≡ Ok (m, rest)
    → turns_at is_sign (sum_turn room (products_below room)) keep a tokens ≡ turns_at is_sign (sum_turn room (products_below room)) keep m rest
sum_more room a m tokens rest t e = turn_read is_sign (sum_turn room (products_below room)) keep (shorter false (chain_turning (sum_chain room (products_below room) (products_inside room)))) a tokens m rest t e

pub sum_less : (room : ℕ) (a m : Graded) (tokens rest : List Token) → is_sign tokens ≡ true → sum_turn room (products_below room) a tokens ≡ Ok (m, rest) → length rest < length tokens
sum_less room a m tokens rest t e = shorter false (chain_turning (sum_chain room (products_below room) (products_inside room))) a tokens m rest t e

pub sum_err : (room : ℕ) (a : Graded) (tokens : List Token) (fault : ReadFault) → is_sign tokens ≡ true → sum_turn room (products_below room) a tokens ≡ Err fault
    → turns_at is_sign (sum_turn room (products_below room)) keep a tokens ≡ Err fault
sum_err room a tokens fault t e = turn_err is_sign (sum_turn room (products_below room)) keep (shorter false (chain_turning (sum_chain room (products_below room) (products_inside room)))) a tokens fault t e

pub sum_end : (room : ℕ) (a : Graded) (tokens : List Token) → is_sign tokens ≡ false → turns_at is_sign (sum_turn room (products_below room)) keep a tokens ≡ Ok (a, tokens)
sum_end room a tokens t = end_read is_sign (sum_turn room (products_below room)) keep (shorter false (chain_turning (sum_chain room (products_below room) (products_inside room)))) a tokens t

pub ruleset sums = (sums_read, sum_more, sum_less, sum_err, sum_end)

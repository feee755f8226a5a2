-- Reading conditions where there is some room, and one turn more of them.
use Rattle.std.proofs.Common.{◌≡◌, ◌∙◌, ℕ, zero, suc, ◌<◌, ◌≤◌, ◌-◌, true, false, List, length, Ok, Err, refl, sym, ap, subst, arith, codes}
use Rattle.sv_lex.specs.declared.tokens.Token.{Token}
use Rattle.sv_lex.specs.declared.tokens.TokenKind.TheVariants.{Name}
use Rattle.sv_reader.specs.declared.faults.ReadFault.{ReadFault}
use Rattle.sv_reader.specs.Reading.{is_next, turns_at}
use Rattle.sv_txn_reader.specs.Grammar.{Conjunctions}
use Rattle.sv_reader.specs.Reading.{keep}
use Rattle.sv_txn_reader.specs.Reading.{Judged, sums_at, literal_with, literal_at, literal_below, and_turn, conjunctions_with, conjunctions_at, conjunctions_below, or_turn, disjunctions_with, disjunctions_at, disjunctions_below}
use Rattle.sv_txn_reader.proofs.ChainLaws.{chain_turning}
use Rattle.sv_reader.proofs.AnswerLaws.{then_ok}
use Rattle.sv_txn_reader.proofs.PlacedLaws.{Law}
use Rattle.sv_txn_reader.proofs.LimitLaws.{depths}
use Rattle.sv_txn_reader.proofs.LiteralLaws.{DeepTest, InsideTest, FlatTest, NestedTest, conjoins}
use Rattle.sv_reader.proofs.FuelLaws.{turn_read, turn_err, end_read}
use Rattle.sv_txn_reader.proofs.PieceLaws.{shorter}
use Rattle.sv_txn_reader.proofs.TermLaws.{all_laws}
use Rattle.sv_txn_reader.proofs.TestLaws.{and_chain, or_chain, all_tests}

less_one : (n : ℕ) → n ≡ suc n - 1
less_one n = omega arith

pub literal_below_is : (room : ℕ) (tokens : List Token) → 1 ≤ room → literal_below room tokens ≡ literal_at (room - 1) tokens
literal_below_is zero tokens h = absurd (omega (arith, h))
literal_below_is (suc room) tokens h = ap (λ n. literal_at n tokens) (less_one room)

pub conjunctions_below_is : (room : ℕ) (tokens : List Token) → 1 ≤ room → conjunctions_below room tokens ≡ conjunctions_at (room - 1) tokens
conjunctions_below_is zero tokens h = absurd (omega (arith, h))
conjunctions_below_is (suc room) tokens h = ap (λ n. conjunctions_at n tokens) (less_one room)

pub disjunctions_below_is : (room : ℕ) (tokens : List Token) → 1 ≤ room → disjunctions_below room tokens ≡ disjunctions_at (room - 1) tokens
disjunctions_below_is zero tokens h = absurd (omega (arith, h))
disjunctions_below_is (suc room) tokens h = ap (λ n. disjunctions_at n tokens) (less_one room)

pub literal_read : (room : ℕ) (tokens : List Token) → literal_at room tokens ≡ literal_with room (sums_at room) (literal_below room) (disjunctions_below room) tokens
unfolding literal_at
literal_read zero tokens = refl
literal_read (suc room) tokens = refl

pub conjunctions_read : (room : ℕ) (tokens : List Token) → conjunctions_at room tokens ≡ conjunctions_with room (literal_at room) (literal_below room) tokens
unfolding literal_at
conjunctions_read zero tokens = refl
conjunctions_read (suc room) tokens = refl

pub disjunctions_read : (room : ℕ) (tokens : List Token) → disjunctions_at room tokens ≡ disjunctions_with room (conjunctions_at room) (conjunctions_below room) tokens
unfolding literal_at
disjunctions_read zero tokens = refl
disjunctions_read (suc room) tokens = refl

inside : (room : ℕ) → InsideTest room (sums_at room) (literal_below room) (disjunctions_below room)
inside zero = FlatTest (sums_at 0) (all_laws 0).sums
inside (suc room) = NestedTest room (sums_at (suc room)) (literal_at room) (disjunctions_at room) (all_laws (suc room)).sums (all_tests room).literal (all_tests room).disjunctions

-- conjunctions

pub and_more : (room : ℕ) (a m : Judged) (tokens rest : List Token) → (is_next (Name (codes "and"))) tokens ≡ true → and_turn room (literal_below room) a tokens ≡ Ok (m, rest)
    → turns_at (is_next (Name (codes "and"))) (and_turn room (literal_below room)) keep a tokens ≡ turns_at (is_next (Name (codes "and"))) (and_turn room (literal_below room)) keep m rest
and_more room a m tokens rest t e = turn_read (is_next (Name (codes "and"))) (and_turn room (literal_below room)) keep (shorter false (chain_turning (and_chain room (sums_at room) (literal_below room) (disjunctions_below room) (inside room)))) a tokens m rest t e

pub and_less : (room : ℕ) (a m : Judged) (tokens rest : List Token) → (is_next (Name (codes "and"))) tokens ≡ true → and_turn room (literal_below room) a tokens ≡ Ok (m, rest) → length rest < length tokens
and_less room a m tokens rest t e = shorter false (chain_turning (and_chain room (sums_at room) (literal_below room) (disjunctions_below room) (inside room))) a tokens m rest t e

pub and_err : (room : ℕ) (a : Judged) (tokens : List Token) (fault : ReadFault) → (is_next (Name (codes "and"))) tokens ≡ true → and_turn room (literal_below room) a tokens ≡ Err fault
    → turns_at (is_next (Name (codes "and"))) (and_turn room (literal_below room)) keep a tokens ≡ Err fault
and_err room a tokens fault t e = turn_err (is_next (Name (codes "and"))) (and_turn room (literal_below room)) keep (shorter false (chain_turning (and_chain room (sums_at room) (literal_below room) (disjunctions_below room) (inside room)))) a tokens fault t e

pub and_end : (room : ℕ) (a : Judged) (tokens : List Token) → (is_next (Name (codes "and"))) tokens ≡ false → turns_at (is_next (Name (codes "and"))) (and_turn room (literal_below room)) keep a tokens ≡ Ok (a, tokens)
and_end room a tokens t = end_read (is_next (Name (codes "and"))) (and_turn room (literal_below room)) keep (shorter false (chain_turning (and_chain room (sums_at room) (literal_below room) (disjunctions_below room) (inside room)))) a tokens t

-- the first part, turns behind it, and their end
pub and_done : (room : ℕ) (tokens : List Token) (a : Judged) (r : List Token) (m : Judged) (rest : List Token) → literal_at room tokens ≡ Ok (a, r)
    → turns_at (is_next (Name (codes "and"))) (and_turn room (literal_below room)) keep m rest ≡ turns_at (is_next (Name (codes "and"))) (and_turn room (literal_below room)) keep a r → is_next (Name (codes "and")) rest ≡ false → conjunctions_at room tokens ≡ Ok (m, rest)
unfolding conjunctions_with
and_done room tokens a r m rest e same t = conjunctions_read room tokens ∙ then_ok (λ a r. turns_at (is_next (Name (codes "and"))) (and_turn room (literal_below room)) keep a r) e ∙ sym same ∙ and_end room m rest t

pub ruleset ands = (conjunctions_read, and_more, and_less, and_err, and_done)

-- disjunctions

conjunctions_inside : (room n : ℕ) → room ≡ suc n → Law depths conjoins (DeepTest Conjunctions n) (conjunctions_below room)
conjunctions_inside zero n e = absurd (omega (arith, e))
conjunctions_inside (suc room) n e = let same : room ≡ n = omega (arith, e) in subst (λ x. Law depths conjoins (DeepTest Conjunctions x) (conjunctions_at room)) same (all_tests room).conjunctions

pub or_more : (room : ℕ) (a m : Judged) (tokens rest : List Token) → (is_next (Name (codes "or"))) tokens ≡ true → or_turn room (conjunctions_below room) a tokens ≡ Ok (m, rest)
    → turns_at (is_next (Name (codes "or"))) (or_turn room (conjunctions_below room)) keep a tokens ≡ turns_at (is_next (Name (codes "or"))) (or_turn room (conjunctions_below room)) keep m rest
or_more room a m tokens rest t e = turn_read (is_next (Name (codes "or"))) (or_turn room (conjunctions_below room)) keep (shorter false (chain_turning (or_chain room (conjunctions_below room) (conjunctions_inside room)))) a tokens m rest t e

pub or_less : (room : ℕ) (a m : Judged) (tokens rest : List Token) → (is_next (Name (codes "or"))) tokens ≡ true → or_turn room (conjunctions_below room) a tokens ≡ Ok (m, rest) → length rest < length tokens
or_less room a m tokens rest t e = shorter false (chain_turning (or_chain room (conjunctions_below room) (conjunctions_inside room))) a tokens m rest t e

pub or_err : (room : ℕ) (a : Judged) (tokens : List Token) (fault : ReadFault) → (is_next (Name (codes "or"))) tokens ≡ true → or_turn room (conjunctions_below room) a tokens ≡ Err fault
    → turns_at (is_next (Name (codes "or"))) (or_turn room (conjunctions_below room)) keep a tokens ≡ Err fault
or_err room a tokens fault t e = turn_err (is_next (Name (codes "or"))) (or_turn room (conjunctions_below room)) keep (shorter false (chain_turning (or_chain room (conjunctions_below room) (conjunctions_inside room)))) a tokens fault t e

pub or_end : (room : ℕ) (a : Judged) (tokens : List Token) → (is_next (Name (codes "or"))) tokens ≡ false → turns_at (is_next (Name (codes "or"))) (or_turn room (conjunctions_below room)) keep a tokens ≡ Ok (a, tokens)
or_end room a tokens t = end_read (is_next (Name (codes "or"))) (or_turn room (conjunctions_below room)) keep (shorter false (chain_turning (or_chain room (conjunctions_below room) (conjunctions_inside room)))) a tokens t

-- the first part, turns behind it, and their end
pub or_done : (room : ℕ) (tokens : List Token) (a : Judged) (r : List Token) (m : Judged) (rest : List Token) → conjunctions_at room tokens ≡ Ok (a, r)
    → turns_at (is_next (Name (codes "or"))) (or_turn room (conjunctions_below room)) keep m rest ≡ turns_at (is_next (Name (codes "or"))) (or_turn room (conjunctions_below room)) keep a r → is_next (Name (codes "or")) rest ≡ false → disjunctions_at room tokens ≡ Ok (m, rest)
unfolding disjunctions_with
or_done room tokens a r m rest e same t = disjunctions_read room tokens ∙ then_ok (λ a r. turns_at (is_next (Name (codes "or"))) (or_turn room (conjunctions_below room)) keep a r) e ∙ sym same ∙ or_end room m rest t

pub ruleset ors = (disjunctions_read, or_more, or_less, or_err, or_done)

-- Reading blocks where some may nest, and one statement more.
use Rattle.std.proofs.Common.{◌≡◌, ℕ, zero, suc, ◌<◌, ◌≤◌, ◌-◌, Bool, true, false, if◌then◌else◌, List, length, Ok, Err, refl, ap, arith}
use Rattle.sv_lex.specs.declared.marks.Mark.TheVariants as marks
use Rattle.sv_lex.specs.declared.tokens.Token.{Token}
use Rattle.sv_lex.specs.declared.tokens.TokenKind.TheVariants.{Mark}
use Rattle.sv_app.specs.declared.refusals.Code.TheVariants.{Syntax, Many}
use Rattle.sv_reader.specs.declared.faults.ReadFault.{ReadFault}
use Rattle.sv_reader.specs.Reading.{refuse, is_next, turns_at}
use Rattle.sv_txn_reader.specs.declared.counts.Counts.{Counts}
use Rattle.sv_reader.specs.Reading.{keep}
use Rattle.sv_txn_reader.specs.Reading.{Several, goes_on, statement_step, inside_at, braces_at, block_at}
use Rattle.sv_txn_reader.proofs.BlockLaws.{statement_turning, block_law}
use Rattle.sv_reader.proofs.FuelLaws.{turn_read, turn_err, end_read}
use Rattle.sv_txn_reader.proofs.PieceLaws.{shorter}

pub block_none : (room : ℕ) (looped : Bool) (n : Counts) (tokens : List Token) → room ≡ 0 → block_at room looped n tokens ≡ (if is_next (Mark marks.LeftBrace) tokens then refuse Many tokens else refuse Syntax tokens)
unfolding block_at
block_none zero looped n tokens e = refl
block_none (suc room) looped n tokens e = absurd (omega (arith, e))

pub block_some : (room : ℕ) (looped : Bool) (n : Counts) (tokens : List Token) → 1 ≤ room → block_at room looped n tokens ≡ braces_at (inside_at (block_at (room - 1))) looped n tokens
unfolding block_at
block_some zero looped n tokens h = absurd (omega (arith, h))
block_some (suc room) looped n tokens h = let e : room ≡ suc room - 1 = omega arith in ap (λ r. braces_at (inside_at (block_at r)) looped n tokens) e

pub ruleset block_read = (block_none, block_some)

statement_less : (room : ℕ) (looped : Bool) (a m : Several) (tokens rest : List Token) → room < 8 → goes_on tokens ≡ true → statement_step (block_at room) looped a tokens ≡ Ok (m, rest) → length rest < length tokens
statement_less room looped a m tokens rest few t e = shorter 0 (statement_turning (8 - room) looped (block_at room) (block_law room (8 - room) (omega (arith, few)))) a tokens m rest t e

pub one_less : (room : ℕ) (looped : Bool) (a m : Several) (tokens rest : List Token) → room < 8 → goes_on tokens ≡ true → statement_step (block_at room) looped a tokens ≡ Ok (m, rest) → length rest < length tokens
one_less room looped a m tokens rest few t e = statement_less room looped a m tokens rest few t e

pub one_more : (room : ℕ) (looped : Bool) (a m : Several) (tokens rest : List Token) → room < 8 → goes_on tokens ≡ true → statement_step (block_at room) looped a tokens ≡ Ok (m, rest)
    → turns_at goes_on (statement_step (block_at room) looped) keep a tokens ≡ turns_at goes_on (statement_step (block_at room) looped) keep m rest
one_more room looped a m tokens rest few t e = turn_read goes_on (statement_step (block_at room) looped) keep (λ s l m r t e. statement_less room looped s m l r few t e) a tokens m rest t e

pub one_err : (room : ℕ) (looped : Bool) (a : Several) (tokens : List Token) (fault : ReadFault) → room < 8 → goes_on tokens ≡ true → statement_step (block_at room) looped a tokens ≡ Err fault
    → turns_at goes_on (statement_step (block_at room) looped) keep a tokens ≡ Err fault
one_err room looped a tokens fault few t e = turn_err goes_on (statement_step (block_at room) looped) keep (λ s l m r t e. statement_less room looped s m l r few t e) a tokens fault t e

pub one_end : (room : ℕ) (looped : Bool) (a : Several) (tokens : List Token) → room < 8 → goes_on tokens ≡ false → turns_at goes_on (statement_step (block_at room) looped) keep a tokens ≡ Ok (a, tokens)
one_end room looped a tokens few t = end_read goes_on (statement_step (block_at room) looped) keep (λ s l m r t e. statement_less room looped s m l r few t e) a tokens t

pub ruleset statements = (one_less, one_more, one_err, one_end)

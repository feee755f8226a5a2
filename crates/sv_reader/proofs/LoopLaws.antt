-- One turn more of a loop that reads elements behind commas.
use Rattle.std.proofs.Common.{◌≡◌, ◌∙◌, ◌<◌, Bool, true, false, List, length, Ok, Err}
use Rattle.sv_value.specs.declared.spots.Spot.{Spot}
use Rattle.sv_lex.specs.declared.marks.Mark.TheVariants.{RightParen, Comma}
use Rattle.sv_lex.specs.declared.tokens.Token.{Token}
use Rattle.sv_lex.specs.declared.tokens.TokenKind.TheVariants.{Mark}
use Rattle.sv_reader.proofs.MatterLaws.{Matter}
use Rattle.sv_reader.specs.declared.faults.ReadFault.{ReadFault}
use Rattle.sv_reader.specs.Reading.{Read, is_next, kind_at, comma_turn, closed_at, others_at}
use Rattle.sv_reader.proofs.AnswerLaws.{anything, then_ok, then_err}
use Rattle.sv_reader.proofs.TurnLaws.{Turning, shorter, turn_read, turn_err, end_read}

-- what one turn more does, and the end
pub record Loops {S : Type 0} (step : S → List Token → Read S) : Type 0 where
  pub more : (s : S) (tokens : List Token) (spot : Spot) (r : List Token) (m : S) (rest : List Token) → is_next (Mark Comma) tokens ≡ true → kind_at (Mark Comma) tokens ≡ Ok (spot, r) → step s r ≡ Ok (m, rest)
      → others_at step s tokens ≡ others_at step m rest
  pub less : (s : S) (tokens : List Token) (spot : Spot) (r : List Token) (m : S) (rest : List Token) → is_next (Mark Comma) tokens ≡ true → kind_at (Mark Comma) tokens ≡ Ok (spot, r) → step s r ≡ Ok (m, rest)
      → length rest < length tokens
  pub comma_err : (s : S) (tokens : List Token) (fault : ReadFault) → is_next (Mark Comma) tokens ≡ true → kind_at (Mark Comma) tokens ≡ Err fault → others_at step s tokens ≡ Err fault
  pub step_err : (s : S) (tokens : List Token) (spot : Spot) (r : List Token) (fault : ReadFault) → is_next (Mark Comma) tokens ≡ true → kind_at (Mark Comma) tokens ≡ Ok (spot, r) → step s r ≡ Err fault → others_at step s tokens ≡ Err fault
  pub close : (s : S) (tokens : List Token) (spot : Spot) (r : List Token) → is_next (Mark Comma) tokens ≡ false → kind_at (Mark RightParen) tokens ≡ Ok (spot, r) → others_at step s tokens ≡ Ok (s, r)
  pub close_err : (s : S) (tokens : List Token) (fault : ReadFault) → is_next (Mark Comma) tokens ≡ false → kind_at (Mark RightParen) tokens ≡ Err fault → others_at step s tokens ≡ Err fault

pub loops_of : {matter : Matter} {S : Type 0} {before : List Token → Bool} {step : S → List Token → Read S} {T TS : S → S → List Token → Type 0} {E : List Token → Type 0}
    → Turning matter before anything (is_next (Mark Comma)) (comma_turn step) closed_at T TS E → Loops step
loops_of {matter} {S} {before} {step} law = record {
  more = λ s tokens spot r m rest t k e. turn_read law s tokens m rest t (then_ok (λ _ x. step s x) k ∙ e);
  less = λ s tokens spot r m rest t k e. shorter law s tokens m rest t (then_ok (λ _ x. step s x) k ∙ e);
  comma_err = λ s tokens fault t k. turn_err law s tokens fault t (then_err (λ _ x. step s x) k);
  step_err = λ s tokens spot r fault t k e. turn_err law s tokens fault t (then_ok (λ _ x. step s x) k ∙ e);
  close = λ s tokens spot r t k. end_read law s tokens t ∙ then_ok (λ _ x. Ok (s, x)) k;
  close_err = λ s tokens fault t k. end_read law s tokens t ∙ then_err (λ _ x. Ok (s, x)) k;
}

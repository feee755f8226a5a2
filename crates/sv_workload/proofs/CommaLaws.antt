-- One turn more of a loop that reads elements behind commas.
use Rattle.std.proofs.Common.{◌≡◌, ◌<◌, true, false, List, length, Ok, Err, refl}
use Rattle.sv_value.specs.declared.spots.Spot.{Spot}
use Rattle.sv_value.specs.declared.values.Val.{Val}
use Rattle.sv_lex.specs.declared.marks.Mark.TheVariants.{RightParen, Comma}
use Rattle.sv_lex.specs.declared.tokens.Token.{Token}
use Rattle.sv_lex.specs.declared.tokens.TokenKind.TheVariants.{Mark}
use Rattle.sv_reader.specs.declared.faults.ReadFault.{ReadFault}
use Rattle.sv_reader.specs.Reading.{is_next, kind_at, others_at}
use Rattle.sv_reader.proofs.LoopLaws.{Loops, loops_of}
use Rattle.sv_reader.proofs.StepLaws.{comma_turning}
use Rattle.sv_reader.proofs.ListLaws.{snoc}
use Rattle.sv_workload.specs.Reading.{value_step}
use Rattle.sv_workload.proofs.ElementLaws.{stepping}
use Rattle.sv_workload.proofs.ValueLaws.{value_law, value_some, value_comma}

value_loops : Loops value_step
unfolding value_step
value_loops = loops_of (comma_turning (stepping value_law value_some value_comma) snoc (λ token l e. refl) (λ token l e. refl))

pub value_more : (s : List Val) (tokens : List Token) (spot : Spot) (r : List Token) (m : List Val) (rest : List Token)
    → is_next (Mark Comma) tokens ≡ true → kind_at (Mark Comma) tokens ≡ Ok (spot, r) → value_step s r ≡ Ok (m, rest) → others_at value_step s tokens ≡ others_at value_step m rest
value_more s tokens spot r m rest t k e = value_loops.more s tokens spot r m rest t k e

pub value_less : (s : List Val) (tokens : List Token) (spot : Spot) (r : List Token) (m : List Val) (rest : List Token)
    → is_next (Mark Comma) tokens ≡ true → kind_at (Mark Comma) tokens ≡ Ok (spot, r) → value_step s r ≡ Ok (m, rest) → length rest < length tokens
value_less s tokens spot r m rest t k e = value_loops.less s tokens spot r m rest t k e

pub value_comma_err : (s : List Val) (tokens : List Token) (fault : ReadFault) → is_next (Mark Comma) tokens ≡ true → kind_at (Mark Comma) tokens ≡ Err fault → others_at value_step s tokens ≡ Err fault
value_comma_err s tokens fault t k = value_loops.comma_err s tokens fault t k

pub value_step_err : (s : List Val) (tokens : List Token) (spot : Spot) (r : List Token) (fault : ReadFault)
    → is_next (Mark Comma) tokens ≡ true → kind_at (Mark Comma) tokens ≡ Ok (spot, r) → value_step s r ≡ Err fault → others_at value_step s tokens ≡ Err fault
value_step_err s tokens spot r fault t k e = value_loops.step_err s tokens spot r fault t k e

pub value_close : (s : List Val) (tokens : List Token) (spot : Spot) (r : List Token) → is_next (Mark Comma) tokens ≡ false → kind_at (Mark RightParen) tokens ≡ Ok (spot, r) → others_at value_step s tokens ≡ Ok (s, r)
value_close s tokens spot r t k = value_loops.close s tokens spot r t k

pub value_close_err : (s : List Val) (tokens : List Token) (fault : ReadFault) → is_next (Mark Comma) tokens ≡ false → kind_at (Mark RightParen) tokens ≡ Err fault → others_at value_step s tokens ≡ Err fault
value_close_err s tokens fault t k = value_loops.close_err s tokens fault t k

pub ruleset values = (value_more, value_less, value_comma_err, value_step_err, value_close, value_close_err)

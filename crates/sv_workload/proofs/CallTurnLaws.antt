-- One turn more of the loops that read elements of a list and arguments of a call.
use Rattle.std.proofs.Common.{◌≡◌, ◌<◌, ℤ, true, false, List, [], ◌∷◌, ◌++◌, length, Ok, Err, refl}
use Rattle.sv_value.specs.declared.spots.Spot.{Spot}
use Rattle.sv_lex.specs.declared.marks.Mark.TheVariants.{RightParen, RightBracket, Comma}
use Rattle.sv_lex.specs.declared.tokens.Token.{Token}
use Rattle.sv_lex.specs.declared.tokens.TokenKind.TheVariants.{Mark}
use Rattle.sv_app.specs.declared.requests.Arg.{Arg}
use Rattle.sv_reader.specs.declared.faults.ReadFault.{ReadFault}
use Rattle.sv_reader.specs.Reading.{is_next, kind_at}
use Rattle.sv_workload.specs.Reading.{comma_before, more_to, integer_at, argument_at}
use Rattle.sv_workload.proofs.CallLaws.{integer_mark, argument_law, argument_mark}
use Rattle.sv_workload.proofs.ManyLaws.{more_turn, less_turn, turn_fault, turn_close, turn_close_fault}
use Rattle.sv_workload.proofs.ValueLaws.{integer_law}

-- integer

pub integer_more : (xs : List ℤ) (tokens : List Token) (a : ℤ) (rest : List Token) → is_next (Mark Comma) tokens ≡ true → comma_before integer_at tokens ≡ Ok (a, rest)
    → more_to (Mark RightBracket) integer_at xs tokens ≡ more_to (Mark RightBracket) integer_at (xs ++ a ∷ []) rest
integer_more xs tokens a rest t e = more_turn (Mark RightBracket) integer_law refl (integer_mark RightBracket refl) xs tokens a rest t e

pub integer_less : (xs : List ℤ) (tokens : List Token) (a : ℤ) (rest : List Token) → is_next (Mark Comma) tokens ≡ true → comma_before integer_at tokens ≡ Ok (a, rest) → length rest < length tokens
integer_less xs tokens a rest t e = less_turn (Mark RightBracket) integer_law refl (integer_mark RightBracket refl) xs tokens a rest t e

pub integer_fault : (xs : List ℤ) (tokens : List Token) (fault : ReadFault) → is_next (Mark Comma) tokens ≡ true → comma_before integer_at tokens ≡ Err fault → more_to (Mark RightBracket) integer_at xs tokens ≡ Err fault
integer_fault xs tokens fault t e = turn_fault (Mark RightBracket) integer_law refl (integer_mark RightBracket refl) xs tokens fault t e

pub integer_close : (xs : List ℤ) (tokens : List Token) (spot : Spot) (r : List Token) → is_next (Mark Comma) tokens ≡ false → kind_at (Mark RightBracket) tokens ≡ Ok (spot, r) → more_to (Mark RightBracket) integer_at xs tokens ≡ Ok (xs, r)
integer_close xs tokens spot r t k = turn_close (Mark RightBracket) integer_law refl (integer_mark RightBracket refl) xs tokens spot r t k

pub integer_close_fault : (xs : List ℤ) (tokens : List Token) (fault : ReadFault) → is_next (Mark Comma) tokens ≡ false → kind_at (Mark RightBracket) tokens ≡ Err fault → more_to (Mark RightBracket) integer_at xs tokens ≡ Err fault
integer_close_fault xs tokens fault t k = turn_close_fault (Mark RightBracket) integer_law refl (integer_mark RightBracket refl) xs tokens fault t k

pub ruleset integers = (integer_more, integer_less, integer_fault, integer_close, integer_close_fault)

-- argument

pub argument_more : (xs : List Arg) (tokens : List Token) (a : Arg) (rest : List Token) → is_next (Mark Comma) tokens ≡ true → comma_before argument_at tokens ≡ Ok (a, rest)
    → more_to (Mark RightParen) argument_at xs tokens ≡ more_to (Mark RightParen) argument_at (xs ++ a ∷ []) rest
argument_more xs tokens a rest t e = more_turn (Mark RightParen) argument_law refl argument_mark xs tokens a rest t e

pub argument_less : (xs : List Arg) (tokens : List Token) (a : Arg) (rest : List Token) → is_next (Mark Comma) tokens ≡ true → comma_before argument_at tokens ≡ Ok (a, rest) → length rest < length tokens
argument_less xs tokens a rest t e = less_turn (Mark RightParen) argument_law refl argument_mark xs tokens a rest t e

pub argument_fault : (xs : List Arg) (tokens : List Token) (fault : ReadFault) → is_next (Mark Comma) tokens ≡ true → comma_before argument_at tokens ≡ Err fault → more_to (Mark RightParen) argument_at xs tokens ≡ Err fault
argument_fault xs tokens fault t e = turn_fault (Mark RightParen) argument_law refl argument_mark xs tokens fault t e

pub argument_close : (xs : List Arg) (tokens : List Token) (spot : Spot) (r : List Token) → is_next (Mark Comma) tokens ≡ false → kind_at (Mark RightParen) tokens ≡ Ok (spot, r) → more_to (Mark RightParen) argument_at xs tokens ≡ Ok (xs, r)
argument_close xs tokens spot r t k = turn_close (Mark RightParen) argument_law refl argument_mark xs tokens spot r t k

pub argument_close_fault : (xs : List Arg) (tokens : List Token) (fault : ReadFault) → is_next (Mark Comma) tokens ≡ false → kind_at (Mark RightParen) tokens ≡ Err fault → more_to (Mark RightParen) argument_at xs tokens ≡ Err fault
argument_close_fault xs tokens fault t k = turn_close_fault (Mark RightParen) argument_law refl argument_mark xs tokens fault t k

pub ruleset arguments = (argument_more, argument_less, argument_fault, argument_close, argument_close_fault)

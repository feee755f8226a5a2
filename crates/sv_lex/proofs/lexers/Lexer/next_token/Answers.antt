use Rattle.std.proofs.Common.{◌∙◌, sym, length, arith}
use Rattle.sv_lex.proofs.LexLaws.{Moves, found_is, token_moves, at_token}
use Rattle.sv_lex.proofs.lexers.Lexer.next_token.Goals as goal

pub overflow_add-token : goal.overflow_add-token
overflow_add-token c =
    let moves : Moves c.skip_gaps.new.self.at c.in-Some.found.len (length c.skip_gaps.new.self.bytes.now) = token_moves c.skip_gaps.new.self.bytes.now c.skip_gaps.new.self.at c.in-Some.found.kind c.in-Some.found.len (rw (← c.rest.ensures) (found_is c.in_ok-found.field-0 c.in-Some.found c.in_ok-found.ensures c.in-Some.is)) in
    omega (arith, moves.fits, c.skip_gaps.new.self.short)

pub overflow_cast-token-2 : goal.overflow_cast-token-2
overflow_cast-token-2 c =
    let moves : Moves c.skip_gaps.new.self.at c.in-Some.found.len (length c.skip_gaps.new.self.bytes.now) = token_moves c.skip_gaps.new.self.bytes.now c.skip_gaps.new.self.at c.in-Some.found.kind c.in-Some.found.len (rw (← c.rest.ensures) (found_is c.in_ok-found.field-0 c.in-Some.found c.in_ok-found.ensures c.in-Some.is)) in
    omega (arith, moves.fits, c.skip_gaps.new.self.short)

pub pass-requires : goal.pass-requires
pass-requires c = (token_moves c.skip_gaps.new.self.bytes.now c.skip_gaps.new.self.at c.in-Some.found.kind c.in-Some.found.len (rw (← c.rest.ensures) (found_is c.in_ok-found.field-0 c.in-Some.found c.in_ok-found.ensures c.in-Some.is))).fits

pub returns-clause-gives : goal.returns-clause-gives
returns-clause-gives c =
    rw (c.pass.ensures.bytes, c.pass.ensures.at, c.skip_gaps.new.self.placed)
    (sym c.skip_gaps.ensures.same ∙ at_token c.skip_gaps.new.self.bytes.now c.skip_gaps.new.self.at c.in-Some.found.kind c.in-Some.found.len c.skip_gaps.ensures.none (rw (← c.rest.ensures) (found_is c.in_ok-found.field-0 c.in-Some.found c.in_ok-found.ensures c.in-Some.is)))

pub returns-clause-later : goal.returns-clause-later
returns-clause-later c =
    let moves : Moves c.skip_gaps.new.self.at c.in-Some.found.len (length c.skip_gaps.new.self.bytes.now) = token_moves c.skip_gaps.new.self.bytes.now c.skip_gaps.new.self.at c.in-Some.found.kind c.in-Some.found.len (rw (← c.rest.ensures) (found_is c.in_ok-found.field-0 c.in-Some.found c.in_ok-found.ensures c.in-Some.is)) in
    omega (arith, moves.some, c.pass.ensures.at, c.skip_gaps.ensures.later)

use Rattle.std.proofs.Common.{arith, sym}
use Rattle.sv_lex.proofs.SpotLaws.{past_none}
use Rattle.sv_lex.proofs.lexers.Lexer.new.Goals as goal

pub invariant_of-result : goal.invariant_of-result
invariant_of-result c = record { short = c.requires; within = omega arith; placed = sym past_none }

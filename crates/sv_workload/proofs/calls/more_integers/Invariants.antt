use Rattle.std.proofs.Common.{◌≡◌, length}
use Rattle.sv_lex.specs.declared.marks.Mark.TheVariants.{RightBracket}
use Rattle.sv_lex.specs.declared.tokens.TokenKind.TheVariants.{Mark}
use Rattle.sv_workload.specs.Reading.{more_to, integer_at}
use Rattle.sv_workload.proofs.calls.more_integers.Given as goal

abbrev pub invariant-loop-reader : goal.invariant-loop-reader
invariant-loop-reader l = more_to (Mark RightBracket) integer_at l.read l.reader.rest.now ≡ more_to (Mark RightBracket) integer_at l.initial.read l.initial.reader.rest.now

abbrev pub decreases-loop-reader : goal.decreases-loop-reader
decreases-loop-reader l = length l.reader.rest.now

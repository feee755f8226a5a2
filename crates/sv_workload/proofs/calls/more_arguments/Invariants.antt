use Rattle.std.proofs.Common.{◌≡◌, length}
use Rattle.sv_lex.specs.declared.marks.Mark.TheVariants.{RightParen}
use Rattle.sv_lex.specs.declared.tokens.TokenKind.TheVariants.{Mark}
use Rattle.sv_workload.specs.Reading.{more_to, argument_at}
use Rattle.sv_workload.proofs.calls.more_arguments.Given as goal

abbrev pub invariant-loop-alloc : goal.invariant-loop-alloc
invariant-loop-alloc l = more_to (Mark RightParen) argument_at l.read l.reader.rest.now ≡ more_to (Mark RightParen) argument_at l.initial.read l.initial.reader.rest.now

abbrev pub decreases-loop-alloc : goal.decreases-loop-alloc
decreases-loop-alloc l = length l.reader.rest.now

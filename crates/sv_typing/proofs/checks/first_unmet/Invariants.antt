use Rattle.sv_app.specs.Schema.{schema_of}
use Rattle.sv_typing.proofs.UnmetLaws.{AreMetBefore}
use Rattle.sv_typing.proofs.checks.first_unmet.Given as goal

abbrev pub invariant-loop-number : goal.invariant-loop-number
invariant-loop-number l = AreMetBefore (schema_of l.tables) l.number

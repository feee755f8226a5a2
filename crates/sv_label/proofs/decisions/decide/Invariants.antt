use Rattle.sv_app.specs.Schema.{schema_of}
use Rattle.sv_label.proofs.DecideLaws.{NoneBefore}
use Rattle.sv_label.proofs.decisions.decide.Given as goal

abbrev pub invariant-loop-number : goal.invariant-loop-number
invariant-loop-number l = NoneBefore (schema_of l.app.tables.items) l.dict l.txn l.trace l.number

use Rattle.sv_app.specs.Schema.{schema_of}
use Rattle.sv_typing.specs.Reached.{AreLedTo}
use Rattle.sv_typing.proofs.CycleLaws.{outside}
use Rattle.sv_typing.proofs.cycles.reach.Given as goal

abbrev pub invariant-loop-table : goal.invariant-loop-table
invariant-loop-table l = AreLedTo (schema_of l.tables) l.start l.reached

abbrev pub decreases-loop-table : goal.decreases-loop-table
decreases-loop-table l = outside l.reached

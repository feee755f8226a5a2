use Rattle.std.proofs.Common.{ℕ, ◌<◌}
use Rattle.sv_app.specs.Schema.{schema_of}
use Rattle.sv_app.specs.References.{IsOnCycle}
use Rattle.sv_typing.proofs.cycles.first_cycle.Given as goal

abbrev pub invariant-loop-table : goal.invariant-loop-table
invariant-loop-table l = (k : ℕ) → k < l.table → IsOnCycle (schema_of l.tables) k → ⊥

use Rattle.std.proofs.Common.{◌≡◌, ℕ, ◌<◌, false}
use Rattle.sv_app.specs.Schema.{schema_of}
use Rattle.sv_typing.specs.Reached.{is_in, IsApart}
use Rattle.sv_typing.proofs.cycles.missing.Given as goal

abbrev pub invariant-loop-table : goal.invariant-loop-table
invariant-loop-table l = (k : ℕ) → k < l.table → is_in l.reached k ≡ false → IsApart (schema_of l.tables) l.start l.reached k

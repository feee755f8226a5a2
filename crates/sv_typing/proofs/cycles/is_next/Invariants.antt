use Rattle.std.proofs.Common.{◌≡◌, ℕ, ◌<◌, true, false}
use Rattle.sv_app.specs.References.{refers}
use Rattle.sv_app.specs.Schema.{schema_of}
use Rattle.sv_typing.specs.Reached.{is_in}
use Rattle.sv_typing.proofs.cycles.is_next.Given as goal

abbrev pub invariant-loop-from : goal.invariant-loop-from
invariant-loop-from l = (k : ℕ) → k < l.from → is_in l.reached k ≡ true → refers (schema_of l.tables) k l.table ≡ false

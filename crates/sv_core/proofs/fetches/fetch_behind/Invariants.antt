use Rattle.std.proofs.Common.{◌≤◌, ◌*◌}
use Rattle.sv_app.specs.Schema.{schema_of}
use Rattle.sv_effect.specs.BareTables.{bare}
use Rattle.sv_core.proofs.FetchLaws.{FetchesBehind}
use Rattle.sv_core.proofs.fetches.fetch_behind.Given as goal

abbrev pub invariant-loop : goal.invariant-loop
invariant-loop g l = FetchesBehind (bare (g.S.RowStore.stamped l.store)) l.table l.after l.last l.fn.sheet l.count l.sheet × (l.count ≤ 2 * l.counter)

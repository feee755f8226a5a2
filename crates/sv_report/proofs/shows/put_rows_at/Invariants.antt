use Rattle.std.proofs.Common.{◌≡◌, ◌++◌, take}
use Rattle.std.specs.List.{flat_map}
use Rattle.sv_effect.specs.BareTables.{bare}
use Rattle.sv_report.specs.Shows.{line_at}
use Rattle.sv_report.proofs.shows.put_rows_at.Given as goal

abbrev pub invariant-loop-key : goal.invariant-loop-key
invariant-loop-key l = record {
  text : l.out.items ≡ l.initial.out.items ++ flat_map (line_at (bare l.initial.rows.store.now.tables) l.table) (take l.key-index l.keys);
  same : l.rows.store.now ≡ l.initial.rows.store.now;
}

use Rattle.sv_app.specs.Schema.{schema_of}
use Rattle.sv_effect.specs.Follows.{Follows}
use Rattle.sv_check.proofs.VerdictLaws.{PassedTables}
use Rattle.sv_check.proofs.after.first_broken.Given as goal

abbrev pub invariant-loop-table : goal.invariant-loop-table
invariant-loop-table g l =
    let R = g.R.Rows in
    record {
      passed : Follows (R.face l.fn.rows) (R.face l.rows) (R.noted l.fn.rows) (R.noted l.rows) (PassedTables (schema_of l.app.tables.items) l.left l.table);
      stays : R.stays l.fn.rows l.rows;
    }

use Rattle.sv_app.specs.Schema.{schema_of}
use Rattle.sv_effect.specs.Follows.{Follows}
use Rattle.sv_check.proofs.VerdictLaws.{PassedIn}
use Rattle.sv_check.proofs.after.first_in.Given as goal

abbrev pub invariant-loop-inv : goal.invariant-loop-inv
invariant-loop-inv g l =
    let R = g.R.Rows in
    record {
      passed : Follows (R.face l.fn.rows) (R.face l.rows) (R.noted l.fn.rows) (R.noted l.rows) (PassedIn (schema_of l.app.tables.items) l.left l.table l.inv-index);
      stays : R.stays l.fn.rows l.rows;
    }

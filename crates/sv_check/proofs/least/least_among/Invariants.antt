use Rattle.std.proofs.Common.{take}
use Rattle.sv_app.specs.Schema.{schema_of, rule_of}
use Rattle.sv_effect.specs.Follows.{Follows}
use Rattle.sv_check.specs.Least.{LeastAmong}
use Rattle.sv_check.proofs.least.least_among.Given as goal

abbrev pub invariant-loop-key : goal.invariant-loop-key
invariant-loop-key g l =
    let R = g.R.Rows in
    record {
      looked : Follows (R.face l.fn.rows) (R.face l.rows) (R.noted l.fn.rows) (R.noted l.rows) (LeastAmong (schema_of l.app.tables.items) l.left l.table (rule_of l.inv.body) (take l.key-index l.keys) l.found);
      stays : R.stays l.fn.rows l.rows;
    }

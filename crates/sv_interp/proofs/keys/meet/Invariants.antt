use Rattle.std.proofs.Common.{drop}
use Rattle.sv_app.specs.Trees.{test_of}
use Rattle.sv_interp.proofs.MeetLaws.{Judged}
use Rattle.sv_interp.proofs.keys.meet.Given as goal

abbrev pub invariant-loop-key : goal.invariant-loop-key
invariant-loop-key g l =
    let R = g.R.Rows in
    record {
      judged : Judged l.filter.own.now l.filter.row l.filter.table (test_of l.filter.test.now) l.keys (drop l.key-index l.keys) l.met (R.face l.fn.rows) (R.face l.rows) (R.noted l.fn.rows) (R.noted l.rows) l.fn.scope l.scope;
      stays : R.stays l.fn.rows l.rows;
    }

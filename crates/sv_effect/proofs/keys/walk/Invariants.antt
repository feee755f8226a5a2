use Rattle.std.proofs.Common.{None}
use Rattle.sv_effect.proofs.KeyLaws.{WalkedTo}
use Rattle.sv_effect.proofs.keys.walk.Given as goal

abbrev pub invariant-loop-key : goal.invariant-loop-key
invariant-loop-key g l =
    let R = g.R.Rows in
    record {
      walked : WalkedTo (R.face l.fn.rows) (R.face l.rows) (R.noted l.fn.rows) (R.noted l.rows) l.table None l.after l.fn.keys l.keys;
      stays : R.stays l.fn.rows l.rows;
    }

abbrev pub decreases-loop-key : goal.decreases-loop-key
decreases-loop-key g l = (g.R.Rows.face l.rows).rest l.table l.after

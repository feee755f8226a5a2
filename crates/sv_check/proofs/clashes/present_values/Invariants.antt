use Rattle.std.proofs.Common.{◌≡◌, take}
use Rattle.sv_effect.specs.Follows.{Follows}
use Rattle.sv_effect.specs.Overlays.{over}
use Rattle.sv_check.specs.Clashes.{values_at}
use Rattle.sv_check.proofs.clashes.present_values.Given as goal

abbrev pub invariant-loop-key : goal.invariant-loop-key
invariant-loop-key g l =
    let R = g.R.Rows in
    record {
      paired : Follows (R.face l.fn.rows) (R.face l.rows) (R.noted l.fn.rows) (R.noted l.rows) (λ t. l.pairs.items ≡ values_at (over l.left t) l.table l.column (take l.key-index l.keys));
      stays : R.stays l.fn.rows l.rows;
    }

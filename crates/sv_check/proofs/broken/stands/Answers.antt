use Rattle.std.proofs.Common.{refl}
use Rattle.sv_effect.specs.Overlays.{lent}
use Rattle.sv_check.proofs.BrokenLaws.{stands_left, stands_surely}
use Rattle.std.proofs.Common.{ap}
use Rattle.sv_check.proofs.broken.stands.Goals as goal

pub returns-then-sure-clause-followed : goal.returns-then-sure-clause-followed
returns-then-sure-clause-followed g c = stands_surely _ _ _ _ c.args.left.now c.args.place.now (lent c.left_at.result) c.args.sure refl refl c.left_at.ensures (ap lent c.in-None.is) c.if-sure.true

pub returns-in-Some-clause-followed : goal.returns-in-Some-clause-followed
returns-in-Some-clause-followed g c = stands_left _ _ _ _ c.args.left.now c.args.place.now c.in-Some.row.now (lent c.left_at.result) c.args.sure refl refl c.left_at.ensures (ap lent c.in-Some.is)

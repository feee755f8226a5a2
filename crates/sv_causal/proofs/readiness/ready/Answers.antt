use Rattle.std.proofs.Common.{subst}
use Rattle.sv_value.specs.Cuts.{counts}
use Rattle.sv_causal.specs.Missing.{IsMissing}
use Rattle.sv_causal.proofs.CauseLaws.{now, early}
use Rattle.sv_causal.proofs.readiness.ready.Goals as goal

pub returns-in-Some : goal.returns-in-Some
returns-in-Some c =
    let cut = counts c.args.cut.now in
    let deps = counts c.args.op.now.deps in
    early cut deps c.args.packet c.in-Some.missing c.has.result c.if-has.false c.has.ensures (subst (λ o. IsMissing cut deps o) c.in-Some.is c.first_missing.ensures)

pub returns-in-None : goal.returns-in-None
returns-in-None c =
    let cut = counts c.args.cut.now in
    let deps = counts c.args.op.now.deps in
    now cut deps c.args.packet c.has.result c.if-has.false c.has.ensures (subst (λ o. IsMissing cut deps o) c.in-None.is c.first_missing.ensures)

use Rattle.std.proofs.Common.{rules}
use Rattle.sv_live.proofs.ReceiptLaws.{seen_later}
use Rattle.sv_live.proofs.deliveries.settle.Goals as goal

pub returns-clause-seen : goal.returns-clause-seen
returns-clause-seen g c =
    seen_later c.args.pass.seen c.enter-turn.result.pass.seen c.value_mut.result.now.medium.history c.settle_all.new.w.medium.history c.leave.result.seen c.enter-turn.ensures.seen (search rules)
    c.settle_all.ensures.grows c.leave.ensures.seen

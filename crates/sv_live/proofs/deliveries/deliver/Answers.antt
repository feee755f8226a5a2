use Rattle.std.proofs.Common.{rules}
use Rattle.sv_live.proofs.ReceiptLaws.{seen_later}
use Rattle.sv_live.proofs.deliveries.deliver.Goals as goal

pub returns-clause-seen : goal.returns-clause-seen
returns-clause-seen g c =
    seen_later c.args.pass.seen c.enter-turn.result.pass.seen c.value_mut.result.now.medium.history c.take_to.new.w.medium.history c.leave.result.seen c.enter-turn.ensures.seen (search rules)
    c.take_to.ensures.grows c.leave.ensures.seen

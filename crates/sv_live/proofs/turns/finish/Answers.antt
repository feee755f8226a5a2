use Rattle.std.proofs.Common.{rules}
use Rattle.sv_live.proofs.ReceiptLaws.{entry_there}
use Rattle.sv_live.proofs.turns.finish.Goals as goal

pub returns-clause-entered : goal.returns-clause-entered
returns-clause-entered g c =
    entry_there c.args.pass.seen c.value_mut.result.now.medium.history c.commit_due-entered.new.w.medium.history c.leave.result.seen c.args.session c.commit_due-entered.result
    (search rules) (search rules) c.commit_due-entered.ensures.entered

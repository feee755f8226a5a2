use Rattle.sv_post.proofs.LogLaws.{learns, takes}
use Rattle.sv_post.proofs.mailboxes.Mailbox.take.Goals as goal

pub pop_as-requires-clause-rule : goal.pop_as-requires-clause-rule
pop_as-requires-clause-rule g c = (takes _ _, learns _ _)

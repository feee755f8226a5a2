use Rattle.sv_post.proofs.LogLaws.{forks}
use Rattle.sv_post.proofs.mailboxes.Mailbox.twin.Goals as goal

pub another-requires-clause-rule : goal.another-requires-clause-rule
another-requires-clause-rule c = forks _ _

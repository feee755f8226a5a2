use Rattle.std.proofs.Common.{subst}
use Rattle.sv_hub.specs.Extends.{Extends}
use Rattle.sv_post.proofs.LogLaws.{learns, put_extends, puts}
use Rattle.sv_post.proofs.mailboxes.Mailbox.put.Goals as goal

pub push_as-requires-clause-rule : goal.push_as-requires-clause-rule
push_as-requires-clause-rule g c = (puts _ _ _ _, learns _ _)

pub returns-clause-seen : goal.returns-clause-seen
returns-clause-seen g c = subst (λ l. Extends c.push_as.new.pass.me.0.client.seen l.seen) c.lane.view_is (put_extends c.push_as.result _ _ _ _ c.push_as.ensures.rule)

use Rattle.std.proofs.Common.{◌≡◌, ◌≤◌}
use Rattle.sv_hub.specs.Extends.{Extends}
use Rattle.sv_post.proofs.mailboxes.Mailbox.offer.Given as goal

abbrev pub invariant-loop : goal.invariant-loop
invariant-loop g l = (l.lane.table ≡ l.fn.self) × Extends l.lane.seen l.fn.lane.seen × (l.count ≤ l.counter) × (l.end ≤ 2)

use Rattle.sv_causal.proofs.PassLaws.{taken_out}
use Rattle.sv_causal.proofs.inboxes.Inbox.remove.Goals as goal

pub returns-clause-rest : goal.returns-clause-rest
returns-clause-rest c =
    taken_out c.args.self.now c.self.inside.packets c.turn.new.packets c.pop_front-removed.new.self c.turn-2.new.packets c.len-many.result c.args.place c.self.view_is c.len-many.ensures.len
    c.if-place-many.false c.turn.ensures c.pop_front-removed.ensures.items c.turn-2.ensures

use Rattle.std.proofs.lemmas.Result.{on_ok_weaker}
use Rattle.sv_report.proofs.AskLaws.{asks, tells}
use Rattle.sv_report.proofs.replays.make_ask.Goals as goal

pub put_commit-requires-clause-told : goal.put_commit-requires-clause-told
put_commit-requires-clause-told c =
    tells c.args.w.now.medium c.commit-c.new.self.medium c.args.session c.in_ok-p.p c.commit-c.result c.in_ok-p.ensures.ready c.requires.places c.in_ok-p.ensures.whose c.commit-c.ensures.answer

pub returns : goal.returns
returns c = on_ok_weaker c.put_commit.result (λ grown.
    asks c.args.out.now.items c.put_commit.new.out.items c.args.w.now c.commit-c.new.self c.args.session c.args.request.now c.in_ok-p.p c.commit-c.result c.in_ok-p.ensures.ready c.requires.places
    c.in_ok-p.ensures.whose c.in_ok-p.ensures.asked c.commit-c.ensures.answer c.commit-c.ensures.inboxes grown) c.put_commit.ensures

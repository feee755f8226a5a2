use Rattle.std.proofs.Common.{rules, map, subst}
use Rattle.sv_effect.specs.Agrees.{Agrees}
use Rattle.sv_effect.specs.BareTables.{bare}
use Rattle.sv_effect.specs.Reads.{read_of}
use Rattle.sv_report.proofs.AskLaws.{is_ready}
use Rattle.sv_report.proofs.replays.prepared.Goals as goal

pub returns-in-Ok-clause-ready : goal.returns-in-Ok-clause-ready
returns-in-Ok-clause-ready c =
    is_ready c.args.w.now.medium c.args.session c.site_of-site.result c.answered-index.result c.args.request.now c.in-Ok.p c.tell_lawful.ensures c.in-Ok.ensures.given (search rules)
    c.site_of-site.ensures.site c.answered-index.ensures (subst (λ t. Agrees (bare t) (map read_of c.in-Ok.p.reads)) c.site_rows-rows.ensures.tables c.in-Ok.ensures.honest)

use Rattle.std.proofs.Common.{sym, ◌∙◌}
use Rattle.sv_app.specs.References.{Step, Further}
use Rattle.sv_typing.proofs.cycles.is_next.Goals as goal

pub returns-then-refers-clause-found : goal.returns-then-refers-clause-found
returns-then-refers-clause-found c = λ _. Step c.args.start c.args.table (sym c.refers.ensures ∙ c.if-refers.true)

pub returns-then-refers-2-clause-found : goal.returns-then-refers-2-clause-found
returns-then-refers-2-clause-found c = λ _.
    Further c.args.start c.loop-from.from c.args.table (c.requires.led c.loop-from.from c.if-reached-from.true) (sym c.refers-then-reached-from.ensures ∙ c.if-refers-2.true)

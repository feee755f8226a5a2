use Rattle.sv_app.specs.Schema.{declaration_of}
use Rattle.sv_typing.proofs.UnmetLaws.{answer_meets, answer_cycle}
use Rattle.sv_typing.proofs.checks.cycle_of.Goals as goal

pub returns-in-Values : goal.returns-in-Values
returns-in-Values c = answer_meets (declaration_of c.args.table.now) c.in_ok-system.system _ _ c.in_ok-system.ensures.rows c.in_ok-solve.ensures.answer c.in-Values.is

pub returns : goal.returns
returns c = answer_cycle (declaration_of c.args.table.now) c.in_ok-system.system _ _ c.in_ok-system.ensures.rows c.in_ok-solve.ensures.answer c.in-Cycle.is

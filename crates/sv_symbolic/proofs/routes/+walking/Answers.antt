use Rattle.std.proofs.Common.{rules}
use Rattle.sv_app.specs.Trees.{command_of, block_of, test_of}
use Rattle.sv_symbolic.specs.States.{names_for, schema_for}
use Rattle.sv_symbolic.proofs.ToldLaws.{told_aborts, told_short, told_yes, told_no, if_ok}
use Rattle.sv_symbolic.proofs.routes.+walking.Goals as goal

pub walk_block-returns-in-Aborted-clause-told : goal.walk_block-returns-in-Aborted-clause-told
walk_block-returns-in-Aborted-clause-told t c =
    told_aborts (schema_for c.args.setting.now) (names_for c.args.setting.now) (block_of c.args.stmts.now) (command_of c.in-Some.first.now) (block_of c.in-Some.rest.now)
    c.args.state.now c.walk_command.new.state c.in_ok-flow-in-Some.flow (search rules) c.in-Aborted.is c.in_ok-flow-in-Some.ensures.told

pub walk_block-returns-in-Short-clause-told : goal.walk_block-returns-in-Short-clause-told
walk_block-returns-in-Short-clause-told t c =
    told_short (schema_for c.args.setting.now) (names_for c.args.setting.now) (block_of c.args.stmts.now) (command_of c.in-Some.first.now) (block_of c.in-Some.rest.now)
    c.args.state.now c.walk_command.new.state c.in_ok-flow-in-Some.flow (search rules) c.in-Short.is c.in_ok-flow-in-Some.ensures.told

pub walk_command-returns-then-holds-clause-told : goal.walk_command-returns-then-holds-clause-told
walk_command-returns-then-holds-clause-told t c =
    if_ok c.walk_block.result _ _
    (λ flow told. told_yes (schema_for c.args.setting.now) (names_for c.args.setting.now) (command_of c.args.stmt.now) (test_of c.in-If.cond.now) (block_of c.in-If.yes.now) (block_of c.in-If.no.now)
    c.args.state.now c.truth.new.state c.walk_block.new.state c.in_ok-holds-in-If.field-0 c.in-Some.holds flow (search rules) c.in-Some.is c.if-holds.true c.in_ok-holds-in-If.ensures.told told)
    c.walk_block.ensures.told

pub walk_command-returns-else-holds-clause-told : goal.walk_command-returns-else-holds-clause-told
walk_command-returns-else-holds-clause-told t c =
    if_ok c.walk_block-else-holds.result _ _
    (λ flow told. told_no (schema_for c.args.setting.now) (names_for c.args.setting.now) (command_of c.args.stmt.now) (test_of c.in-If.cond.now) (block_of c.in-If.yes.now) (block_of c.in-If.no.now)
    c.args.state.now c.truth.new.state c.walk_block-else-holds.new.state c.in_ok-holds-in-If.field-0 c.in-Some.holds flow (search rules) c.in-Some.is c.if-holds.false c.in_ok-holds-in-If.ensures.told told)
    c.walk_block-else-holds.ensures.told

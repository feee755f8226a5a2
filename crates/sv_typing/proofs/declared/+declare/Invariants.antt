use Rattle.std.proofs.Common.{◌≡◌, ◌++◌, drop}
use Rattle.std.specs.List.{flat_map}
use Rattle.sv_app.specs.Statements.{block_statements}
use Rattle.sv_app.specs.Trees.{command_of, block_of}
use Rattle.sv_app.specs.TxnNames.{declared_by}
use Rattle.sv_app.specs.Weights.{command_weight, block_weight}
use Rattle.sv_typing.proofs.declared.+declare.Given as goal

abbrev pub decreases-put_all : goal.decreases-put_all
decreases-put_all l = block_weight (block_of l.stmts.now)

abbrev pub decreases-put_inner : goal.decreases-put_inner
decreases-put_inner l = command_weight (command_of l.stmt.now)

abbrev pub invariant-put_all-loop-stmt : goal.invariant-put_all-loop-stmt
invariant-put_all-loop-stmt l =
    l.names.items ++ flat_map declared_by (block_statements (block_of (drop l.stmt-index l.stmts)))
    ≡ l.initial.names.items ++ flat_map declared_by (block_statements (block_of l.stmts))

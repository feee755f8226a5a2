use Rattle.std.proofs.Common.{arith, ap, ◌∙◌, List, map}
use Rattle.std.proofs.lemmas.List.{take_all}
use Rattle.sv_app.specs.declared.txns.Stmt.{Stmt}
use Rattle.sv_app.specs.Trees.{command_of}
use Rattle.sv_app.specs.TxnNumbers.{numbered_command}
use Rattle.sv_typing.specs.Standing.{naming_of}
use Rattle.sv_typing.proofs.FillLaws.{filled_map}
use Rattle.sv_typing.proofs.copies.+fill.Goals as goal

pub fill_block-returns : goal.fill_block-returns
fill_block-returns t c =
    filled_map (naming_of c.args.by.now) c.loop-stmt.copies.items c.args.stmts.now
    (c.loop-stmt.invariant ∙ ap (λ (ss : List Stmt). map (numbered_command (naming_of c.args.by.now)) (map command_of ss)) (take_all c.loop-stmt.stmt-index c.args.stmts.now (omega (arith, c.loop-stmt-test.false))))

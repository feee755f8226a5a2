use Rattle.std.proofs.Common.{◌∙◌, arith}
use Rattle.sv_threat.proofs.PlainLaws.{plain_there, past_test}
use Rattle.sv_threat.proofs.rules.is_plain_column.Goals as goal

pub returns-then-place-columns : goal.returns-then-place-columns
returns-then-place-columns c =
    c.is_unmerged.ensures ∙ plain_there c.args.columns.now c.args.number c.index-columns-place.result (omega (arith, c.if-place-columns.true))

pub returns-else-place-columns : goal.returns-else-place-columns
returns-else-place-columns c = past_test c.args.columns.now c.args.number (omega (arith, c.if-place-columns.false))

use Rattle.std.proofs.Common.{◌∙◌, sym, arith}
use Rattle.sv_threat.proofs.PlainLaws.{plain_there, past_test}
use Rattle.sv_wp.proofs.Others.{plain_same}
use Rattle.sv_wp.proofs.writes.is_plain_at.Goals as goal

pub returns-then-place-columns : goal.returns-then-place-columns
returns-then-place-columns c =
    c.is_unmerged.ensures ∙ plain_there c.args.columns.now c.args.number c.index-columns-place.result (omega (arith, c.if-place-columns.true)) ∙ sym (plain_same c.args.columns.now c.args.number)

pub returns-else-place-columns : goal.returns-else-place-columns
returns-else-place-columns c = past_test c.args.columns.now c.args.number (omega (arith, c.if-place-columns.false)) ∙ sym (plain_same c.args.columns.now c.args.number)

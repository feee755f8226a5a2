use Rattle.std.proofs.Common.{arith}
use Rattle.sv_app.specs.Schema.{declaration_of}
use Rattle.sv_typing.specs.Standing.{scope_of}
use Rattle.sv_typing.proofs.ValueLaws.{no_value}
use Rattle.sv_typing.proofs.values.note_types.Goals as goal

pub returns-then-exprs-number : goal.returns-then-exprs-number
returns-then-exprs-number g c =
    no_value g.T.Named.ident (scope_of c.args.at.now) (declaration_of c.args.table.now) c.args.place c.args.columns.now c.args.exprs.now c.loop-number.number c.loop-number.first.held _
    (omega (arith, c.if-exprs-number.true)) c.loop-number.invariant

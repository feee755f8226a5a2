use Rattle.std.proofs.Common.{arith}
use Rattle.sv_app.specs.declared.refusals.Code.TheVariants.{Twice}
use Rattle.sv_app.specs.Lookups.{is_named}
use Rattle.sv_app.specs.Typing.{fault_if}
use Rattle.sv_typing.proofs.NotedLaws.{noted_mapped}
use Rattle.sv_typing.proofs.named.note_second.Goals as goal

pub loop-item-preserved : goal.loop-item-preserved
loop-item-preserved g c =
    noted_mapped g.T.Named.ident (λ later. fault_if (is_named later c.args.name.now) later.spot Twice) c.args.items.now c.loop-item.item-index c.item-item.result
    c.args.first.now.held c.loop-item.first.held c.note_if.new.self.held (omega (arith, c.loop-item-test.true)) c.item-item.is c.loop-item.invariant
    (rw (← c.ident-later.ensures, ← c.is_named.ensures) c.note_if.ensures)

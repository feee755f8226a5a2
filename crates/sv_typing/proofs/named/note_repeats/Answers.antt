use Rattle.std.proofs.Common.{arith}
use Rattle.sv_app.specs.Typing.{repeats}
use Rattle.sv_typing.specs.Noted.{noted}
use Rattle.std.specs.Prelude.{map}
use Rattle.sv_typing.proofs.NotedLaws.{noted_repeats}
use Rattle.sv_typing.proofs.named.note_repeats.Goals as goal

pub loop-place-preserved : goal.loop-place-preserved
loop-place-preserved g c =
    noted_repeats g.T.Named.ident c.args.items.now c.loop-place.place c.index-items-place.result c.loop-place.first.held c.note_second.new.first.held
    (noted c.args.first.now.held (repeats (map g.T.Named.ident c.args.items.now))) (omega (arith, c.loop-place-test.true)) c.index-items-place.is c.loop-place.invariant
    (rw (← c.ident-name.ensures, ← c.behind.ensures) c.note_second.ensures)

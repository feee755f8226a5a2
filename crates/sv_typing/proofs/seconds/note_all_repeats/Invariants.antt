use Rattle.std.specs.Prelude.{map}
use Rattle.std.proofs.Common.{drop}
use Rattle.sv_app.specs.Typing.{repeats}
use Rattle.sv_typing.specs.Noted.{noted}
use Rattle.sv_typing.proofs.SecondLaws.{Notes}
use Rattle.sv_typing.proofs.seconds.note_all_repeats.Given as goal

abbrev pub invariant-loop-item : goal.invariant-loop-item
invariant-loop-item g l = Notes (map g.T.Named.ident (drop l.item-index l.items)) l.seen l.first.held (noted l.initial.first.held (repeats (map g.T.Named.ident l.items)))

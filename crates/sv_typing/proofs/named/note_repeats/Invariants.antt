use Rattle.std.proofs.Common.{◌≡◌, map, drop}
use Rattle.sv_app.specs.Typing.{repeats}
use Rattle.sv_typing.specs.Noted.{noted}
use Rattle.sv_typing.proofs.named.note_repeats.Given as goal

abbrev pub invariant-loop-place : goal.invariant-loop-place
invariant-loop-place g l = noted l.first.held (repeats (map g.T.Named.ident (drop l.place l.items))) ≡ noted l.initial.first.held (repeats (map g.T.Named.ident l.items))

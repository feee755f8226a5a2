use Rattle.std.proofs.Common.{◌≡◌, map, take}
use Rattle.std.specs.List.{flat_map}
use Rattle.sv_app.specs.declared.refusals.Code.TheVariants.{Twice}
use Rattle.sv_app.specs.Lookups.{is_named}
use Rattle.sv_app.specs.Typing.{fault_if}
use Rattle.sv_typing.specs.Noted.{noted}
use Rattle.sv_typing.proofs.named.note_second.Given as goal

abbrev pub invariant-loop-item : goal.invariant-loop-item
invariant-loop-item g l = l.first.held ≡ noted l.initial.first.held (flat_map (λ later. fault_if (is_named later l.name) later.spot Twice) (map g.T.Named.ident (take l.item-index l.items)))

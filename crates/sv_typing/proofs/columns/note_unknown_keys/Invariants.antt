use Rattle.std.proofs.Common.{◌≡◌, take}
use Rattle.std.specs.List.{flat_map}
use Rattle.sv_app.specs.Schema.{declaration_of}
use Rattle.sv_app.specs.Typing.{no_column}
use Rattle.sv_typing.specs.Noted.{noted}
use Rattle.sv_typing.proofs.columns.note_unknown_keys.Given as goal

abbrev pub invariant-loop-name : goal.invariant-loop-name
invariant-loop-name l = l.first.held ≡ noted l.initial.first.held (flat_map (λ name. no_column (declaration_of l.table) name) (take l.name-index l.table.key.items))

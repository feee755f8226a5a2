use Rattle.std.proofs.Common.{◌≡◌, take}
use Rattle.std.specs.List.{flat_map}
use Rattle.sv_app.specs.Schema.{declaration_of}
use Rattle.sv_app.specs.Trees.{sets_of}
use Rattle.sv_app.specs.TxnTyping.{set_faults}
use Rattle.sv_typing.specs.Noted.{noted}
use Rattle.sv_typing.specs.Standing.{scope_of}
use Rattle.sv_typing.proofs.values.note_sets.Given as goal

abbrev pub invariant-loop-column : goal.invariant-loop-column
invariant-loop-column l = l.first.held ≡ noted l.initial.first.held (flat_map (λ set. set_faults (scope_of l.at) (declaration_of l.table) set) (sets_of (take l.column-index l.sets)))

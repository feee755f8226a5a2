use Rattle.std.proofs.Common.{◌≡◌, take}
use Rattle.std.specs.List.{flat_map}
use Rattle.sv_app.specs.declared.refusals.Code.TheVariants.{Typing}
use Rattle.sv_app.specs.Schema.{declaration_of}
use Rattle.sv_app.specs.Typing.{fault_if, is_merged_wrong}
use Rattle.sv_typing.specs.Noted.{noted}
use Rattle.sv_typing.proofs.columns.note_merges.Given as goal

abbrev pub invariant-loop-column : goal.invariant-loop-column
invariant-loop-column l = l.first.held ≡ noted l.initial.first.held (flat_map (λ c. fault_if (is_merged_wrong (declaration_of l.table) c) c.name.spot Typing) (take l.column-index l.table.columns.items))

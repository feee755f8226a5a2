use Rattle.std.proofs.Common.{◌≡◌, map, take}
use Rattle.sv_app.specs.Trees.{sets_of}
use Rattle.sv_app.specs.TxnNumbers.{numbered_set}
use Rattle.sv_typing.specs.Standing.{naming_of}
use Rattle.sv_typing.proofs.fills.fill_sets.Given as goal

abbrev pub invariant-loop-column : goal.invariant-loop-column
invariant-loop-column l = sets_of l.copies.items ≡ map (numbered_set (naming_of l.by)) (sets_of (take l.column-index l.sets))

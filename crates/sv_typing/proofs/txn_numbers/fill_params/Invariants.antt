use Rattle.std.proofs.Common.{◌≡◌, map, take}
use Rattle.sv_app.specs.TxnNumbers.{numbered_parameter}
use Rattle.sv_typing.specs.Standing.{naming_of}
use Rattle.sv_typing.proofs.txn_numbers.fill_params.Given as goal

abbrev pub invariant-loop-name : goal.invariant-loop-name
invariant-loop-name l = l.copies.items ≡ map (numbered_parameter (naming_of l.by)) (take l.name-index l.params)

-- A unit that `units` answers for a transaction.
use Rattle.std.specs.Prelude.{List}
use Rattle.std.specs.List.{Contains}
use Rattle.sv_app.specs.declared.txns.Txn.{Txn}
use Rattle.sv_paths.specs.declared.bodies.Unit.{Unit}
use Rattle.sv_paths.specs.Numbered.{part_of}
use Rattle.sv_symbolic.specs.Executes.{parts_in}

pub record IsUnitIn (txns : List Txn) (unit : Unit) : Type 0 where
  pub among : Contains (parts_in txns unit.txn) (part_of unit)

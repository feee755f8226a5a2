-- The units of a transaction with their numbers, from 0.
use Rattle.std.specs.Prelude.{ℕ, suc, List, [], ◌∷◌, Option, Some, None, map, slice_get}
use Rattle.std.specs.Borrow.{Bor}
use Rattle.sv_app.specs.declared.txns.Stmt.{Stmt}
use Rattle.sv_app.specs.declared.txns.Txn.{Txn}
use Rattle.sv_app.specs.Trees.{Block, Transaction, block_of, transactions_of}
use Rattle.sv_app.specs.Units.{Loop, units}
use Rattle.sv_paths.specs.declared.bodies.Unit.{Unit as UnitValue}

-- a unit: the number of its transaction, its own number, and its statements
pub record Part : Type 0 where
  pub txn : ℕ
  pub number : ℕ
  pub body : Block

abbrev pub part_of : UnitValue → Part
part_of unit = record { txn = unit.txn; number = unit.number; body = block_of unit.body.now }

abbrev pub numbered_from : ℕ → ℕ → List Block → List Part
numbered_from number txn [] = []
numbered_from number txn (body ∷ bodies) = record { txn = txn; number = number; body = body } ∷ numbered_from (suc number) txn bodies

abbrev pub bodies_of : Option Transaction → List Block
bodies_of None = []
bodies_of (Some txn) = units txn.body

abbrev pub bodies_in : List Txn → ℕ → List Block
bodies_in txns txn = bodies_of (slice_get (transactions_of txns) txn)

abbrev pub said : List (Bor (List Stmt)) → List Block
said bodies = map (λ b. block_of b.now) bodies

abbrev pub loop_bodies : List Loop → List Block
loop_bodies loops = map (λ l. l.body) loops

-- Transactions without where they lie in memory, and a statement list as a type of its own.
use Rattle.std.specs.Prelude.{ℕ, ℤ, List, [], ◌∷◌, map, Option}
use Rattle.std.specs.Option.{option_map}
use Rattle.sv_value.specs.declared.spots.Spot.{Spot}
use Rattle.sv_app.specs.declared.apps.Ident.{Ident}
use Rattle.sv_app.specs.declared.schemas.Ty.{Ty}
use Rattle.sv_app.specs.declared.txns.Expr.{Expr, Int, Text, Var, Field as Field', Old as Old', Neg', Add', Sub', Mul'}
use Rattle.sv_app.specs.declared.txns.Rel.{Rel}
use Rattle.sv_app.specs.declared.txns.Cond.{Cond, Cmp, Not', And', Or'}
use Rattle.sv_app.specs.declared.txns.Txn.{Txn}
use Rattle.sv_app.specs.declared.txns.Stmt.{Stmt, Row_of-Stmt, end_of-Stmt, more_of-Stmt}
use Rattle.sv_app.specs.declared.txns.Stmt as stmts

-- an expression; each has the place of its first token
pub data Term : Type 0 where
  Number : ℤ → Spot → Term
  Words : List ℕ → Spot → Term
  Variable : Ident → Spot → Term
  Field : Ident → Ident → Spot → Term
  Old : Ident → Spot → Term
  Minus : Term → Spot → Term
  Sum : Term → Term → Spot → Term
  Difference : Term → Term → Spot → Term
  Product : Term → Term → Spot → Term

pub data Test : Type 0 where
  Compare : Term → Rel → Term → Test
  Negation : Test → Test
  Both : Test → Test → Test
  Either : Test → Test → Test

mutual
  pub data Command : Type 0 where
    Declare : Ident → Term → Command
    Assign : Ident → Term → Command
    Fetch : Ident → Ident → List Term → Command
    Choose : Test → Block → Block → Command
    ForRows : Ident → Ident → Option Test → Block → Command
    ForEach : Ident → Ident → Block → Command
    Insert : Ident → List Term → Command
    Fresh : Ident → Ident → List Term → Command
    Update : Ident → List Term → List (Ident × Term) → Command
    Remove : Ident → List Term → Command
    Abort : ℕ → Command
    Reply : Term → Command

  pub data Block : Type 0 where
    Finish : Block
    Then : Command → Block → Block

pub record Transaction : Type 0 where
  pub name : Ident
  pub params : List (Ident × Ty)
  pub body : Block

abbrev pub term_of : Expr → Term
term_of (Int n s) = Number n s
term_of (Text t s) = Words t s
term_of (Var x s) = Variable x s
term_of (Field' r c s) = Field r c s
term_of (Old' c s) = Old c s
term_of (Neg' p a s) = Minus (term_of a) s
term_of (Add' p a q b s) = Sum (term_of a) (term_of b) s
term_of (Sub' p a q b s) = Difference (term_of a) (term_of b) s
term_of (Mul' p a q b s) = Product (term_of a) (term_of b) s

abbrev pub test_of : Cond → Test
test_of (Cmp a r b) = Compare (term_of a) r (term_of b)
test_of (Not' p c) = Negation (test_of c)
test_of (And' p c q d) = Both (test_of c) (test_of d)
test_of (Or' p c q d) = Either (test_of c) (test_of d)

abbrev pub terms_of : List Expr → List Term
terms_of es = map term_of es

abbrev pub sets_of : List (Ident × Expr) → List (Ident × Term)
sets_of sets = map (λ s. (s.0, term_of s.1)) sets

abbrev mutual
  pub command_of : Stmt → Command
  command_of (stmts.Let x e) = Declare x (term_of e)
  command_of (stmts.Assign x e) = Assign x (term_of e)
  command_of (stmts.Get r t k) = Fetch r t (terms_of k.items)
  command_of (stmts.If' c p ys q ns) = Choose (test_of c) (block_of_row ys) (block_of_row ns)
  command_of (stmts.Rows' r t c p body) = ForRows r t (option_map test_of c) (block_of_row body)
  command_of (stmts.Each' x l p body) = ForEach x l (block_of_row body)
  command_of (stmts.Insert t vs) = Insert t (terms_of vs.items)
  command_of (stmts.Fresh x t vs) = Fresh x t (terms_of vs.items)
  command_of (stmts.Update t k ss) = Update t (terms_of k.items) (sets_of ss.items)
  command_of (stmts.Remove t k) = Remove t (terms_of k.items)
  command_of (stmts.Abort n) = Abort n
  command_of (stmts.Reply e) = Reply (term_of e)

  pub block_of_row : {m : _} → Row_of-Stmt m → Block
  block_of_row end_of-Stmt = Finish
  block_of_row (more_of-Stmt s rest) = Then (command_of s) (block_of_row rest)

abbrev pub block_from : List Command → Block
block_from [] = Finish
block_from (c ∷ cs) = Then c (block_from cs)

-- what a list of statements says
abbrev pub block_of : List Stmt → Block
block_of ss = block_from (map command_of ss)

abbrev pub transaction_of : Txn → Transaction
transaction_of txn = record { name = txn.name; params = txn.params.items; body = block_of txn.body.items }

abbrev pub transactions_of : List Txn → List Transaction
transactions_of txns = map transaction_of txns

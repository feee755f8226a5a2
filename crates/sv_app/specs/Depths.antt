-- How deep expressions, conditions and blocks are; parentheses and brackets have no place in the trees.
use Rattle.std.specs.Prelude.{ℕ, ◌+◌, List, [], ◌∷◌, ◌++◌, map, max, Some, None}
use Rattle.sv_app.specs.Trees.{
  Term,
  Number,
  Words,
  Variable,
  Field,
  Old,
  Minus,
  Sum,
  Difference,
  Product,
  Test,
  Compare,
  Negation,
  Both,
  Either,
  Command,
  Declare,
  Assign,
  Fetch,
  Choose,
  ForRows,
  ForEach,
  Insert,
  Fresh,
  Update,
  Remove,
  Abort,
  Reply,
  Block,
  Finish,
  Then,
}

abbrev pub term_depth : Term → ℕ
term_depth (Number n s) = 1
term_depth (Words t s) = 1
term_depth (Variable x s) = 1
term_depth (Field r c s) = 1
term_depth (Old c s) = 1
term_depth (Minus a s) = 1 + term_depth a
term_depth (Sum a b s) = 1 + max (term_depth a) (term_depth b)
term_depth (Difference a b s) = 1 + max (term_depth a) (term_depth b)
term_depth (Product a b s) = 1 + max (term_depth a) (term_depth b)

abbrev pub test_depth : Test → ℕ
test_depth (Compare a rel b) = 1 + max (term_depth a) (term_depth b)
test_depth (Negation t) = 1 + test_depth t
test_depth (Both t u) = 1 + max (test_depth t) (test_depth u)
test_depth (Either t u) = 1 + max (test_depth t) (test_depth u)

-- of the expressions and conditions of a statement, those of the blocks in it not counted
abbrev pub depths : Command → List ℕ
depths (Declare x e) = term_depth e ∷ []
depths (Assign x e) = term_depth e ∷ []
depths (Fetch r t k) = map term_depth k
depths (Choose c ys ns) = test_depth c ∷ []
depths (ForRows r t None body) = []
depths (ForRows r t (Some c) body) = test_depth c ∷ []
depths (ForEach x l body) = []
depths (Insert t vs) = map term_depth vs
depths (Fresh x t vs) = map term_depth vs
depths (Update t k ss) = map term_depth k ++ map (λ s. term_depth s.1) ss
depths (Remove t k) = map term_depth k
depths (Abort n) = []
depths (Reply e) = term_depth e ∷ []

-- a block is one deeper than the deepest that stands in it
abbrev mutual
  pub inner_depth : Command → ℕ
  inner_depth (Declare x e) = 0
  inner_depth (Assign x e) = 0
  inner_depth (Fetch r t k) = 0
  inner_depth (Choose c ys ns) = max (block_depth ys) (block_depth ns)
  inner_depth (ForRows r t c body) = block_depth body
  inner_depth (ForEach x l body) = block_depth body
  inner_depth (Insert t vs) = 0
  inner_depth (Fresh x t vs) = 0
  inner_depth (Update t k ss) = 0
  inner_depth (Remove t k) = 0
  inner_depth (Abort n) = 0
  inner_depth (Reply e) = 0

  pub block_depth : Block → ℕ
  block_depth Finish = 1
  block_depth (Then c rest) = max (1 + inner_depth c) (block_depth rest)

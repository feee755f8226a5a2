-- Units: unit 0 is a transaction's body outside loops, unit k the body of the k-th loop of its text. A loop is known by the number of its variable.
use Rattle.std.specs.Prelude.{ℕ, suc, ◌==◌, if◌then◌else◌, List, [], ◌∷◌, ◌++◌, map}
use Rattle.sv_app.specs.Trees.{Command, Declare, Assign, Fetch, Choose, ForRows, ForEach, Insert, Fresh, Update, Remove, Abort, Reply, Block, Finish, Then}

-- a loop: its variable's number, and its body
pub record Loop : Type 0 where
  pub variable : ℕ
  pub body : Block

-- the loops, in the order of the text
abbrev mutual
  pub command_loops : Command → List Loop
  command_loops (Declare x e) = []
  command_loops (Assign x e) = []
  command_loops (Fetch r t k) = []
  command_loops (Choose c ys ns) = block_loops ys ++ block_loops ns
  command_loops (ForRows r t c body) = record { variable = r.num; body = body } ∷ block_loops body
  command_loops (ForEach x l body) = record { variable = x.num; body = body } ∷ block_loops body
  command_loops (Insert t vs) = []
  command_loops (Fresh x t vs) = []
  command_loops (Update t k ss) = []
  command_loops (Remove t k) = []
  command_loops (Abort n) = []
  command_loops (Reply e) = []

  pub block_loops : Block → List Loop
  block_loops Finish = []
  block_loops (Then c b) = command_loops c ++ block_loops b

abbrev pub units : Block → List Block
units body = body ∷ map (λ l. l.body) (block_loops body)

abbrev pub loop_variables : Block → List ℕ
loop_variables body = map (λ l. l.variable) (block_loops body)

-- the number of the unit of the loop over a variable
abbrev pub unit_of : List ℕ → ℕ → ℕ
unit_of [] x = 1
unit_of (y ∷ ys) x = if y == x then 1 else suc (unit_of ys x)

-- All statements of a block, nested ones too, in the order of their first tokens.
use Rattle.std.specs.Prelude.{List, [], ◌∷◌, ◌++◌}
use Rattle.sv_app.specs.Trees.{Command, Declare, Assign, Fetch, Choose, ForRows, ForEach, Insert, Fresh, Update, Remove, Abort, Reply, Block, Finish, Then}

abbrev mutual
  -- those in the blocks of a statement
  pub inner_statements : Command → List Command
  inner_statements (Declare x e) = []
  inner_statements (Assign x e) = []
  inner_statements (Fetch r t k) = []
  inner_statements (Choose c ys ns) = block_statements ys ++ block_statements ns
  inner_statements (ForRows r t c body) = block_statements body
  inner_statements (ForEach x l body) = block_statements body
  inner_statements (Insert t vs) = []
  inner_statements (Fresh x t vs) = []
  inner_statements (Update t k ss) = []
  inner_statements (Remove t k) = []
  inner_statements (Abort n) = []
  inner_statements (Reply e) = []

  pub block_statements : Block → List Command
  block_statements Finish = []
  block_statements (Then c rest) = (c ∷ inner_statements c) ++ block_statements rest

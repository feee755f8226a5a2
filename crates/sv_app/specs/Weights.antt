-- Weights of commands and blocks: each part of a block is lighter than the block, so that walks over blocks end.
use Rattle.std.specs.Prelude.{ℕ, ◌+◌}
use Rattle.sv_app.specs.Trees.{Command, Declare, Assign, Fetch, Choose, ForRows, ForEach, Insert, Fresh, Update, Remove, Abort, Reply, Block, Finish, Then}

abbrev mutual
  pub command_weight : Command → ℕ
  command_weight (Declare x e) = 1
  command_weight (Assign x e) = 1
  command_weight (Fetch r t k) = 1
  command_weight (Choose c ys ns) = 1 + (block_weight ys + block_weight ns)
  command_weight (ForRows r t c body) = 1 + block_weight body
  command_weight (ForEach x l body) = 1 + block_weight body
  command_weight (Insert t vs) = 1
  command_weight (Fresh x t vs) = 1
  command_weight (Update t k ss) = 1
  command_weight (Remove t k) = 1
  command_weight (Abort n) = 1
  command_weight (Reply e) = 1

  pub block_weight : Block → ℕ
  block_weight Finish = 0
  block_weight (Then s rest) = 1 + (command_weight s + block_weight rest)

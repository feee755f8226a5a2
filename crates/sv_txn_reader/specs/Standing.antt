-- Where a statement stands in its transaction: how deep, whether in a loop, and how many statements, loops and variables begin before it.
use Rattle.std.specs.Prelude.{ℕ, suc, ◌+◌, Bool, true, false}
use Rattle.sv_app.specs.Trees.{Command, Declare, Assign, Fetch, Choose, ForRows, ForEach, Insert, Fresh, Update, Remove, Abort, Reply, Block, Finish, Then}
use Rattle.sv_txn_reader.specs.declared.counts.Counts.{Counts}

pub record Standing : Type 0 where
  pub depth : ℕ
  pub looped : Bool
  pub before : Counts

abbrev pub counts : ℕ → ℕ → ℕ → Counts
counts s l v = record { statements = s; loops = l; variables = v }

abbrev pub plus : Counts → Counts → Counts
plus a b = counts (a.statements + b.statements) (a.loops + b.loops) (a.variables + b.variables)

-- how many begin in a statement, and in a block
abbrev mutual
  pub command_counts : Command → Counts
  command_counts (Declare x e) = counts 1 0 1
  command_counts (Assign x e) = counts 1 0 0
  command_counts (Fetch r t k) = counts 1 0 0
  command_counts (Choose c ys ns) = plus (counts 1 0 0) (plus (block_counts ys) (block_counts ns))
  command_counts (ForRows r t c body) = plus (counts 1 1 0) (block_counts body)
  command_counts (ForEach x l body) = plus (counts 1 1 0) (block_counts body)
  command_counts (Insert t vs) = counts 1 0 0
  command_counts (Fresh x t vs) = counts 1 0 1
  command_counts (Update t k sets) = counts 1 0 0
  command_counts (Remove t k) = counts 1 0 0
  command_counts (Abort n) = counts 1 0 0
  command_counts (Reply e) = counts 1 0 0

  pub block_counts : Block → Counts
  block_counts Finish = counts 0 0 0
  block_counts (Then c rest) = plus (command_counts c) (block_counts rest)

-- outside all blocks
abbrev pub outside : Standing
outside = record { depth = 0; looped = false; before = counts 0 0 0 }

-- behind something in which so many begin
abbrev pub past : Standing → Counts → Standing
past at more = record { depth = at.depth; looped = at.looped; before = plus at.before more }

abbrev pub one_statement : Standing → Standing
one_statement at = past at (counts 1 0 0)

-- in a block
abbrev pub deeper : Standing → Standing
deeper at = record { depth = suc at.depth; looped = at.looped; before = at.before }

-- in the block of a loop
abbrev pub in_loop : Standing → Standing
in_loop at = record { depth = suc at.depth; looped = true; before = plus at.before (counts 0 1 0) }

abbrev pub behind : Standing → Block → Standing
behind at b = past at (block_counts b)

abbrev pub past_command : Standing → Command → Standing
past_command at c = past at (command_counts c)

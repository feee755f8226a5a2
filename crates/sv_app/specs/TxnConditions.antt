-- What transactions keep before their names and types are looked at: the grammar and the limits.
use Rattle.std.specs.Prelude.{◌≡◌, ◌≤◌, Bool, true, false, List, length}
use Rattle.std.specs.List.{All, flat_map, filter}
use Rattle.sv_app.specs.Depths.{depths, block_depth}
use Rattle.sv_app.specs.Limits.{most_txns, most_params, most_statements, most_loops, most_variables, most_blocks, most_depth, most_code}
use Rattle.sv_app.specs.Statements.{block_statements}
use Rattle.sv_app.specs.Trees.{Term, Command, Declare, Assign, Fetch, Choose, ForRows, ForEach, Insert, Fresh, Update, Remove, Abort, Reply, Block, Transaction}

abbrev pub is_loop : Command → Bool
is_loop (Declare x e) = false
is_loop (Assign x e) = false
is_loop (Fetch r t k) = false
is_loop (Choose c ys ns) = false
is_loop (ForRows r t c body) = true
is_loop (ForEach x l body) = true
is_loop (Insert t vs) = false
is_loop (Fresh x t vs) = false
is_loop (Update t k ss) = false
is_loop (Remove t k) = false
is_loop (Abort n) = false
is_loop (Reply e) = false

abbrev pub is_declaration : Command → Bool
is_declaration (Declare x e) = true
is_declaration (Assign x e) = false
is_declaration (Fetch r t k) = false
is_declaration (Choose c ys ns) = false
is_declaration (ForRows r t c body) = false
is_declaration (ForEach x l body) = false
is_declaration (Insert t vs) = false
is_declaration (Fresh x t vs) = true
is_declaration (Update t k ss) = false
is_declaration (Remove t k) = false
is_declaration (Abort n) = false
is_declaration (Reply e) = false

abbrev pub loops_of : Block → List Command
loops_of block = filter is_loop (block_statements block)

-- one or two keys
pub record IsKey (terms : List Term) : Type 0 where
  pub some : 1 ≤ length terms
  pub few : length terms ≤ 2

-- keys, values and sets are written; no loop stands in a loop; an abort has a number up to 999
abbrev pub KeepsStatement : Command → Type 0
KeepsStatement (Declare x e) = Unit {0}
KeepsStatement (Assign x e) = Unit {0}
KeepsStatement (Fetch r t k) = IsKey k
KeepsStatement (Choose c ys ns) = Unit {0}
KeepsStatement (ForRows r t c body) = length (loops_of body) ≡ 0
KeepsStatement (ForEach x l body) = length (loops_of body) ≡ 0
KeepsStatement (Insert t vs) = 1 ≤ length vs
KeepsStatement (Fresh x t vs) = Unit {0}
KeepsStatement (Update t k ss) = IsKey k × (1 ≤ length ss)
KeepsStatement (Remove t k) = IsKey k
KeepsStatement (Abort n) = n ≤ most_code
KeepsStatement (Reply e) = Unit {0}

abbrev pub KeepsTxnGrammar : List Transaction → Type 0
KeepsTxnGrammar txns = All (λ txn. All KeepsStatement (block_statements txn.body)) txns

pub record IsSmallTxn (txn : Transaction) : Type 0 where
  pub params : length txn.params ≤ most_params
  pub statements : length (block_statements txn.body) ≤ most_statements
  pub blocks : block_depth txn.body ≤ most_blocks
  pub loops : length (loops_of txn.body) ≤ most_loops
  pub variables : length (filter is_declaration (block_statements txn.body)) ≤ most_variables
  pub expressions : All (λ depth. depth ≤ most_depth) (flat_map depths (block_statements txn.body))

pub record KeepsTxnLimits (txns : List Transaction) : Type 0 where
  pub count : length txns ≤ most_txns
  pub each : All IsSmallTxn txns

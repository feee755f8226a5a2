-- What a statement with lists inside says, by their items; and weights, by which each part of a block is lighter than the block.
use Rattle.std.proofs.Common.{◌≡◌, ℕ, List, [], ◌∷◌, Option, refl, ap, ◌∙◌, Global, zero, suc, ◌<◌, length, get_or, arith}
use Rattle.std.specs.Option.{option_map}
use Rattle.std.specs.declared.vec.Vec.{Vec}
use Rattle.sv_app.specs.declared.apps.Ident.{Ident}
use Rattle.sv_app.specs.declared.txns.Cond.{Cond}
use Rattle.sv_app.specs.declared.txns.Stmt.{Stmt, If, Rows, Each, Row_of-Stmt, end_of-Stmt, more_of-Stmt, items-the_row-Stmt, items_hidden-the_row-Stmt-0}
use Rattle.sv_app.specs.declared.txns.Stmt.TheBlock.{hidden-the_row-Stmt-0}
use Rattle.sv_app.specs.Trees.{Choose, ForRows, ForEach, Then, test_of, command_of, block_of_row, block_of}
use Rattle.sv_app.specs.Weights.{command_weight, block_weight}

pub row_is : {m : _} (k : Row_of-Stmt m) → block_of_row k ≡ block_of (items-the_row-Stmt m k)
row_is end_of-Stmt = refl
row_is (more_of-Stmt s k) = ap (λ b. Then (command_of s) b) (row_is k)

pub hidden_is : (v : Vec Stmt Global) → block_of_row (hidden-the_row-Stmt-0 v) ≡ block_of v.items
hidden_is v = row_is (hidden-the_row-Stmt-0 v) ∙ ap block_of (items_hidden-the_row-Stmt-0 v)

pub command_if : (c : Cond) (ys ns : Vec Stmt Global) → command_of (If c ys ns) ≡ Choose (test_of c) (block_of ys.items) (block_of ns.items)
command_if c ys ns = ap (λ b. Choose (test_of c) b (block_of_row (hidden-the_row-Stmt-0 ns))) (hidden_is ys) ∙ ap (Choose (test_of c) (block_of ys.items)) (hidden_is ns)

pub command_rows : (r t : Ident) (c : Option Cond) (body : Vec Stmt Global) → command_of (Rows r t c body) ≡ ForRows r t (option_map test_of c) (block_of body.items)
command_rows r t c body = ap (ForRows r t (option_map test_of c)) (hidden_is body)

pub command_each : (x l : Ident) (body : Vec Stmt Global) → command_of (Each x l body) ≡ ForEach x l (block_of body.items)
command_each x l body = ap (ForEach x l) (hidden_is body)

-- the same of a statement that is known to be of that kind
pub if_is : (s : Stmt) (c : Cond) (ys ns : Vec Stmt Global) → s ≡ If c ys ns → command_of s ≡ Choose (test_of c) (block_of ys.items) (block_of ns.items)
if_is s c ys ns e = ap command_of e ∙ command_if c ys ns

pub rows_is : (s : Stmt) (r t : Ident) (c : Option Cond) (body : Vec Stmt Global) → s ≡ Rows r t c body → command_of s ≡ ForRows r t (option_map test_of c) (block_of body.items)
rows_is s r t c body e = ap command_of e ∙ command_rows r t c body

pub each_is : (s : Stmt) (x l : Ident) (body : Vec Stmt Global) → s ≡ Each x l body → command_of s ≡ ForEach x l (block_of body.items)
each_is s x l body e = ap command_of e ∙ command_each x l body

-- a statement is lighter than the list that it stands in
pub weight_at : (ss : List Stmt) (i : ℕ) (d : Stmt) → i < length ss → command_weight (command_of (get_or ss i d)) < block_weight (block_of ss)
weight_at [] i d h = absurd (omega arith)
weight_at (s ∷ ss) zero d h = omega arith
weight_at (s ∷ ss) (suc i) d h = let k : i < length ss = omega arith in omega (arith, weight_at ss i d k)

-- An accepted transaction has few units: its loops are the loop statements among its statements.
use Rattle.std.proofs.Common.{◌≡◌, ℕ, zero, suc, ◌+◌, ◌≤◌, List, [], ◌∷◌, ◌++◌, length, filter, slice_get, refl, sym, ap, ap₂, ◌∙◌, arith, length-append, All}
use Rattle.std.proofs.lemmas.List.{length-map}
use Rattle.std.proofs.lemmas.List.Elements.{filter-append}
use Rattle.sv_app.specs.Statements.{inner_statements, block_statements}
use Rattle.sv_app.specs.Trees.{Command, Declare, Assign, Fetch, Choose, ForRows, ForEach, Insert, Fresh, Update, Remove, Abort, Reply, Block, Finish, Then, Transaction}
use Rattle.sv_app.specs.TxnConditions.{is_loop, IsSmallTxn}
use Rattle.sv_app.specs.Units.{command_loops, block_loops}
use Rattle.sv_paths.specs.Laws.{UnitsAreFew}
use Rattle.sv_paths.specs.Numbered.{bodies_of}

abbrev loops_among : List Command → ℕ
loops_among cs = length (filter is_loop cs)

among_both : (xs ys : List Command) → loops_among (xs ++ ys) ≡ loops_among xs + loops_among ys
among_both xs ys = ap length (filter-append is_loop xs ys) ∙ length-append (filter is_loop xs) (filter is_loop ys)

mutual
  command_few : (c : Command) → length (command_loops c) ≡ loops_among (c ∷ inner_statements c)
  command_few (Declare x e) = refl
  command_few (Assign x e) = refl
  command_few (Fetch r t k) = refl
  command_few (Choose c ys ns) = length-append (block_loops ys) (block_loops ns) ∙ ap₂ (λ a b. a + b) (block_few ys) (block_few ns) ∙ sym (among_both (block_statements ys) (block_statements ns))
  command_few (ForRows r t c body) = ap suc (block_few body)
  command_few (ForEach x l body) = ap suc (block_few body)
  command_few (Insert t vs) = refl
  command_few (Fresh x t vs) = refl
  command_few (Update t k ss) = refl
  command_few (Remove t k) = refl
  command_few (Abort n) = refl
  command_few (Reply e) = refl

  block_few : (b : Block) → length (block_loops b) ≡ loops_among (block_statements b)
  block_few Finish = refl
  block_few (Then c b) = length-append (command_loops c) (block_loops b) ∙ ap₂ (λ a b. a + b) (command_few c) (block_few b) ∙ sym (among_both (c ∷ inner_statements c) (block_statements b))

few_at : (txns : List Transaction) (n : ℕ) → All IsSmallTxn txns → length (bodies_of (slice_get txns n)) ≤ 16
few_at [] n h = omega arith
few_at (t ∷ ts) zero h =
    let small : loops_among (block_statements t.body) ≤ 15 = (h 0 t (omega arith)).loops in
    omega (arith, length-map (block_loops t.body) (λ l. l.body), block_few t.body, small)
few_at (t ∷ ts) (suc n) h = few_at ts n (λ k d less. h (suc k) d (omega (arith, less)))

pub units_are_few : UnitsAreFew
units_are_few schema txns n accepted = few_at txns n accepted.limits.each

-- Blocks with numbers, statement by statement, and how few the names of a transaction are.
use Rattle.std.proofs.Common.{◌≡◌, ℕ, zero, suc, ◌+◌, ◌<◌, ◌≤◌, List, [], ◌∷◌, ◌++◌, length, get_or, refl, sym, ap, ◌∙◌, map, subst, arith}
use Rattle.std.specs.List.{All, flat_map}
use Rattle.std.proofs.lemmas.List.{length-map, length-append}
use Rattle.sv_app.specs.declared.apps.Ident.{Ident}
use Rattle.sv_app.specs.declared.names.Declared.{Declared}
use Rattle.sv_app.specs.declared.schemas.Ty.{Ty}
use Rattle.sv_app.specs.declared.txns.Stmt.{Stmt}
use Rattle.sv_app.specs.declared.txns.Txn.{Txn}
use Rattle.sv_app.specs.Statements.{block_statements}
use Rattle.sv_app.specs.Trees.{Then, Command, Declare, Assign, Fetch, Choose, ForRows, ForEach, Insert, Fresh, Update, Remove, Abort, Reply, Transaction, command_of, block_of, block_from, transaction_of, transactions_of}
use Rattle.sv_app.specs.TxnConditions.{IsSmallTxn}
use Rattle.sv_app.specs.TxnNames.{plain_name, declared_by, declares}
use Rattle.sv_app.specs.TxnNumbers.{Naming, numbered_command, numbered_block}

filled_from : (by : Naming) (cs : List Command) → block_from (map (numbered_command by) cs) ≡ numbered_block by (block_from cs)
filled_from by [] = refl
filled_from by (c ∷ cs) = ap (Then (numbered_command by c)) (filled_from by cs)

-- a block has its numbers where each of its statements has
pub filled_map : (by : Naming) (xs ys : List Stmt) → map command_of xs ≡ map (numbered_command by) (map command_of ys) → block_of xs ≡ numbered_block by (block_of ys)
filled_map by xs ys e = ap block_from e ∙ filled_from by (map command_of ys)

one_each : (c : Command) → length (declared_by c) ≤ 1
one_each (Declare x e) = omega arith
one_each (Assign x e) = omega arith
one_each (Fetch r t k) = omega arith
one_each (Choose c ys ns) = omega arith
one_each (ForRows r t c body) = omega arith
one_each (ForEach x l body) = omega arith
one_each (Insert t vs) = omega arith
one_each (Fresh x t vs) = omega arith
one_each (Update t k ss) = omega arith
one_each (Remove t k) = omega arith
one_each (Abort n) = omega arith
one_each (Reply e) = omega arith

-- a statement declares at most one name
few_declared : (cs : List Command) → length (flat_map declared_by cs) ≤ length cs
few_declared [] = omega arith
few_declared (c ∷ cs) =
    let whole : length (declared_by c ++ flat_map declared_by cs) ≡ length (declared_by c) + length (flat_map declared_by cs) = length-append (declared_by c) (flat_map declared_by cs) in
    omega (arith, whole, one_each c, few_declared cs)

pub few_names : (txn : Transaction) (names : List Declared) → IsSmallTxn txn → names ≡ declares txn → length names ≤ 144
few_names txn names small e =
    let front : List Declared = map (λ (p : Ident × Ty). plain_name p.0) txn.params in
    let back : List Declared = flat_map declared_by (block_statements txn.body) in
    let whole : length (front ++ back) ≡ length front + length back = length-append front back in
    let params : length front ≡ length txn.params = length-map txn.params (λ (p : Ident × Ty). plain_name p.0) in
    let same : length names ≡ length (front ++ back) = ap (λ (l : List Declared). length l) e in
    omega (arith, same, whole, params, small.params, small.statements, few_declared (block_statements txn.body))

-- each of small transactions is small
pub small_at : (txns : List Txn) (i : ℕ) (t : Txn) → i < length txns → t ≡ get_or txns i t → All IsSmallTxn (transactions_of txns) → IsSmallTxn (transaction_of t)
small_at [] i t h e each = absurd (omega (arith, h))
small_at (x ∷ xs) zero t h e each = subst (λ (u : Txn). IsSmallTxn (transaction_of u)) (sym e) (each 0 (transaction_of x) (omega arith))
small_at (x ∷ xs) (suc i) t h e each = small_at xs i t (omega (arith, h)) e (λ k d less. each (suc k) d (omega (arith, less)))

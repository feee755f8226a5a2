-- Accepted applications keep the limits of a run: their tables have few columns, and their transactions few loops.
use Rattle.std.proofs.Common.{◌≡◌, ◌<◌, ◌≤◌, ◌∙◌, ℕ, zero, suc, List, [], ◌∷◌, length, Option, Some, None, slice_get, refl, sym, ap, subst, arith, length-append}
use Rattle.std.proofs.lemmas.List.{length-map}
use Rattle.std.proofs.lemmas.List.Elements.{All-head, All-tail}
use Rattle.std.specs.Borrow.{Bor}
use Rattle.std.specs.List.{All}
use Rattle.std.specs.Prelude.{IfSome}
use Rattle.sv_app.specs.declared.schemas.Table.{Table}
use Rattle.sv_app.specs.Accepted.{AcceptedApp}
use Rattle.sv_app.specs.Conditions.{IsSmallTable}
use Rattle.sv_app.specs.Schema.{Declaration, declaration_of}
use Rattle.sv_app.specs.Statements.{inner_statements, block_statements}
use Rattle.sv_app.specs.Trees.{Command, Declare, Assign, Fetch, Choose, ForRows, ForEach, Insert, Fresh, Update, Remove, Abort, Reply, Block, Finish, Then, Transaction}
use Rattle.sv_app.specs.TxnConditions.{IsSmallTxn}
use Rattle.sv_app.specs.Units.{command_loops, block_loops, loop_variables}
use Rattle.sv_effect.specs.Run.{body_of}
use Rattle.sv_interp.specs.Limits.{AreNarrow}
use Rattle.sv_interp.specs.Machine.{declared}

pub narrow_at : (schema : List Declaration) (number : ℕ) (found : Option (Bor Table)) → AreNarrow schema → slice_get schema number ≡ declared found → IfSome found (λ table. length (declaration_of table.now).columns ≤ 16)
narrow_at schema number None narrow is = tt
narrow_at schema number (Some table) narrow is = narrow.each number (declaration_of table.now) is

all_at : {A : Type 0} (P : A → Type 0) (xs : List A) (n : ℕ) (x : A) → All P xs → slice_get xs n ≡ Some x → P x
all_at P [] n x all is = absurd cc
all_at P (y ∷ xs) zero x all is = let same : y ≡ x = cc in subst P same (All-head P y xs all)
all_at P (y ∷ xs) (suc n) x all is = all_at P xs n x (All-tail P y xs all) is

pub accepted_narrow : (schema same : List Declaration) (txns : List Transaction) → AcceptedApp schema txns → same ≡ schema → AreNarrow same
accepted_narrow schema same txns accepted is = record {
  each = λ number table at. (all_at IsSmallTable schema number table accepted.tables.limits.each (ap (λ l. slice_get l number) (sym is) ∙ at)).columns;
}

mutual
  command_few : (c : Command) → length (command_loops c) ≤ suc (length (inner_statements c))
  command_few (Declare x e) = omega arith
  command_few (Assign x e) = omega arith
  command_few (Fetch r t k) = omega arith
  command_few (Choose c ys ns) =
      let first = block_few ys in
      let second = block_few ns in
      let loops = length-append (block_loops ys) (block_loops ns) in
      let statements = length-append (block_statements ys) (block_statements ns) in
      omega (arith, first, second, loops, statements)
  command_few (ForRows r t c body) = let inner = block_few body in omega (arith, inner)
  command_few (ForEach x l body) = let inner = block_few body in omega (arith, inner)
  command_few (Insert t vs) = omega arith
  command_few (Fresh x t vs) = omega arith
  command_few (Update t k ss) = omega arith
  command_few (Remove t k) = omega arith
  command_few (Abort n) = omega arith
  command_few (Reply e) = omega arith

  block_few : (b : Block) → length (block_loops b) ≤ length (block_statements b)
  block_few Finish = omega arith
  block_few (Then c b) =
      let first = command_few c in
      let second = block_few b in
      let loops = length-append (command_loops c) (block_loops b) in
      let statements = length-append (inner_statements c) (block_statements b) in
      omega (arith, first, second, loops, statements)

few_in : (txns : List Transaction) (number : ℕ) (found : Option Transaction) → All IsSmallTxn txns → slice_get txns number ≡ found → length (loop_variables (body_of found)) < 65535
few_in txns number None small is = omega arith
few_in txns number (Some txn) small is =
    let few = (all_at IsSmallTxn txns number txn small is).statements in
    let loops = block_few txn.body in
    let same = length-map (block_loops txn.body) (λ l. l.variable) in
    omega (arith, few, loops, same)

pub accepted_few : (schema : List Declaration) (txns : List Transaction) (number : ℕ) (body : Block) (loops : List ℕ) → AcceptedApp schema txns → body ≡ body_of (slice_get txns number) → loops ≡ loop_variables body → length loops < 65535
accepted_few schema txns number body loops accepted same is =
    subst (λ ls. length ls < 65535) (sym (is ∙ ap loop_variables same)) (few_in txns number (slice_get txns number) accepted.limits.each refl)

one_at : (t table : Declaration) (number : ℕ) → length t.columns ≡ 3 → slice_get (t ∷ []) number ≡ Some table → length table.columns ≤ 16
one_at t table zero three is = let same : t ≡ table = cc in subst (λ d. length d.columns ≤ 16) same (omega (arith, three))
one_at t table (suc n) three is = absurd cc

-- a schema of one table of three columns
pub one_narrow : (t : Declaration) (schema : List Declaration) → length t.columns ≡ 3 → schema ≡ t ∷ [] → AreNarrow schema
one_narrow t schema three is = record { each = λ number table at. one_at t table number three (ap (λ l. slice_get l number) (sym is) ∙ at) }

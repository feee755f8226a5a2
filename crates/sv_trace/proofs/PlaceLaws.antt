-- In an accepted transaction names have their places as numbers, and no loop stands in a loop.
use Rattle.std.proofs.Common.{◌≡◌, ◌∙◌, inl, inr, ℕ, suc, ◌<◌, Bool, true, false, List, [], ◌∷◌, ◌++◌, filter, None, refl, sym, ap, subst, arith}
use Rattle.std.specs.List.{All}
use Rattle.sv_app.specs.declared.names.Known.{Known}
use Rattle.sv_app.specs.declared.names.Meaning.{Meaning}
use Rattle.sv_app.specs.declared.names.Meaning.TheVariants.{Row as RowOf, Constant}
use Rattle.sv_app.specs.declared.refusals.Refusal.{Refusal}
use Rattle.sv_app.specs.Accepted.{AcceptedSchema}
use Rattle.sv_app.specs.Scopes.{Scope, knowing, opening}
use Rattle.sv_app.specs.Statements.{inner_statements, block_statements}
use Rattle.sv_app.specs.Trees.{Command, Declare, Assign, Fetch, Choose, ForRows, ForEach, Insert, Fresh, Update, Remove, Abort, Reply, Block, Finish, Then, Transaction}
use Rattle.sv_app.specs.TxnConditions.{is_loop, KeepsStatement}
use Rattle.sv_app.specs.TxnNames.{plain_name, row_name, declares}
use Rattle.sv_app.specs.TxnNames as txn_names
use Rattle.sv_app.specs.TxnNumbers.{numbered_name, numbered_table_name, numbered_command, numbered_block}
use Rattle.sv_app.specs.TxnTyping.{behind, no_table, condition_faults, command_faults, inner_faults, block_faults}
use Rattle.sv_app.specs.Typing.{repeats}
use Rattle.sv_app.proofs.AcceptedLaws.{all_at, front_none, back_none}
use Rattle.sv_trace.specs.Standing.{Frame, IsFrame, Means, IsValue, IsRow, Suits, BlockSuits}
use Rattle.sv_trace.proofs.BodyLaws.{scope_is, known_behind, value_known, there}
use Rattle.sv_trace.proofs.DeclareLaws.{command_declares, block_declares, after, after_append, not_before, HereFrom, here_split, here_number, here_table}
use Rattle.sv_trace.proofs.KeepLaws.{Keep, each_of, keep_left, keep_right, keep_inner, no_length}
use Rattle.sv_trace.proofs.NamingLaws.{all, KnownIs, AllKnown, known_more, IsTable}
use Rattle.sv_trace.proofs.OpeningLaws.{once, right, body_own, first, here, known, body_in}
use Rattle.sv_trace.specs.Places.{next, block_next, Placed, BlockPlaced, ScopeBelow}

mutual
  next_after : (c : Command) (k : ℕ) → next k c ≡ after k (command_declares c)
  next_after (Declare x e) k = refl
  next_after (Assign x e) k = refl
  next_after (Fetch r t key) k = refl
  next_after (Choose c ys ns) k = ap (λ j. block_next j ns) (block_next_after ys k) ∙ block_next_after ns (after k (block_declares ys)) ∙ sym (after_append k (block_declares ys) (block_declares ns))
  next_after (ForRows r t c body) k = block_next_after body (suc k)
  next_after (ForEach x l body) k = block_next_after body (suc k)
  next_after (Insert t vs) k = refl
  next_after (Fresh x t vs) k = refl
  next_after (Update t key ss) k = refl
  next_after (Remove t key) k = refl
  next_after (Abort n) k = refl
  next_after (Reply e) k = refl

  block_next_after : (b : Block) (k : ℕ) → block_next k b ≡ after k (block_declares b)
  block_next_after Finish k = refl
  block_next_after (Then c b) k = ap (λ j. block_next j b) (next_after c k) ∙ block_next_after b (after k (command_declares c)) ∙ sym (after_append k (command_declares c) (block_declares b))

-- names that may be used have earlier numbers
below_known : (f : Frame) (k : ℕ) (names : List Known) (P : Meaning → Type 0) → AllKnown f k names → (x : ℕ) → Means P names x → x < k
below_known f k [] P is x means = absurd means
below_known f k (n ∷ names) P is x (inl here) = subst (λ m. m < k) here.0 is.0.below
below_known f k (n ∷ names) P is x (inr more) = below_known f k names P is.1 x more

module _ (f : Frame) (accepted : AcceptedSchema f.schema) (named : repeats (txn_names.names_of f.txn) ≡ []) where
  abbrev at : List Known → Scope
  at known = record { schema = f.schema; known = known; updated = None }

  mutual
    command_placed : (outer : Bool) (c : Command) (known : List Known) (k : ℕ) → AllKnown f k known → numbered_command (all f) c ≡ c → HereFrom f k (command_declares c) → command_faults (at known) c ≡ [] → inner_faults (at known) c ≡ []
        → Suits f (at known) c → Keep outer (c ∷ inner_statements c) → Placed outer k c
    command_placed outer (Declare x e) known k is own here right inner suits kept = here_number f named k (plain_name x) here.0 (let same : numbered_name (all f) x ≡ x = cc in same)
    command_placed outer (Assign x e) known k is own here right inner suits kept = below_known f k known IsValue is x.num suits.2
    command_placed outer (Fetch r t key) known k is own here right inner suits kept = here_number f named k (row_name r t) here.0 (let same : numbered_name (all f) r ≡ r = cc in same)
    command_placed outer (Choose test ys ns) known k is own here right inner suits kept =
        let one : numbered_block (all f) ys ≡ ys = cc in
        let two : numbered_block (all f) ns ≡ ns = cc in
        let split = here_split f k (block_declares ys) (block_declares ns) here in
        let mid_k : ℕ = after k (block_declares ys) in
        let inside = keep_inner outer (Choose test ys ns) kept in (
          block_placed outer ys known k is one split.0 (front_none (block_faults (at known) ys) (block_faults (at known) ns) inner) suits.1 (keep_left outer (block_statements ys) (block_statements ns) inside),
          subst (λ j. BlockPlaced outer j ns) (sym (block_next_after ys k))
              (block_placed outer ns known mid_k (known_more f k mid_k known (not_before k (block_declares ys)) is) two split.1 (back_none (block_faults (at known) ys) (block_faults (at known) ns) inner) suits.2
              (keep_right outer (block_statements ys) (block_statements ns) inside)),
        )
    command_placed true (ForRows r t test body) known k is own here right inner suits kept =
        let same : numbered_name (all f) r ≡ r = cc in
        let body_is : numbered_block (all f) body ≡ body = cc in
        let number : r.num ≡ k = here_number f named k (row_name r t) here.0 same in
        let table_own : numbered_table_name (all f) t ≡ t = cc in
        let of_table : IsTable f.schema t = there f.schema t table_own (front_none (no_table f.schema t) (condition_faults (knowing (at known) r (RowOf t)) test) right) in
        let row : KnownIs f (suc k) (record { name = r; meaning = RowOf t }) = value_known f accepted named k r (RowOf t) same number (suits.0, of_table, here_table f named k r t here.0) in (
          refl,
          number,
          block_placed false body (record { name = r; meaning = RowOf t } ∷ known) (suc k) (row, known_more f k (suc k) known (omega arith) is) body_is here.1 inner suits.2
              (no_length (filter is_loop (block_statements body)) kept.0),
        )
    command_placed false (ForRows r t test body) known k is own here right inner suits kept = absurd cc
    command_placed true (ForEach x l body) known k is own here right inner suits kept =
        let same : numbered_name (all f) x ≡ x = cc in
        let body_is : numbered_block (all f) body ≡ body = cc in
        let number : x.num ≡ k = here_number f named k (plain_name x) here.0 same in (
          refl,
          number,
          block_placed false body (record { name = x; meaning = Constant } ∷ known) (suc k) (value_known f accepted named k x Constant same number suits.0, known_more f k (suc k) known (omega arith) is) body_is here.1 inner suits.2
              (no_length (filter is_loop (block_statements body)) kept.0),
        )
    command_placed false (ForEach x l body) known k is own here right inner suits kept = absurd cc
    command_placed outer (Insert t es) known k is own here right inner suits kept = tt
    command_placed outer (Fresh x t es) known k is own here right inner suits kept = here_number f named k (plain_name x) here.0 (let same : numbered_name (all f) x ≡ x = cc in same)
    command_placed outer (Update t key sets) known k is own here right inner suits kept = tt
    command_placed outer (Remove t key) known k is own here right inner suits kept = tt
    command_placed outer (Abort n) known k is own here right inner suits kept = tt
    command_placed outer (Reply e) known k is own here right inner suits kept = tt

    block_placed : (outer : Bool) (b : Block) (known : List Known) (k : ℕ) → AllKnown f k known → numbered_block (all f) b ≡ b → HereFrom f k (block_declares b) → block_faults (at known) b ≡ [] → BlockSuits f (at known) b
        → Keep outer (block_statements b) → BlockPlaced outer k b
    block_placed outer Finish known k is own here right suits kept = tt
    block_placed outer (Then c b) known k is own here right suits kept =
        let one : numbered_command (all f) c ≡ c = cc in
        let two : numbered_block (all f) b ≡ b = cc in
        let split = here_split f k (command_declares c) (block_declares b) here in
        let own_faults : List Refusal = command_faults (at known) c in
        let nested : List Refusal = inner_faults (at known) c in
        let behind_faults : List Refusal = block_faults (behind (at known) c) b in
        let front = front_none (own_faults ++ nested) behind_faults right in
        let c_right = front_none own_faults nested front in
        let rest_right = subst (λ s. block_faults s b ≡ []) (scope_is f accepted named known c) (back_none (own_faults ++ nested) behind_faults right) in
        let rest_suits = subst (λ s. BlockSuits f s b) (scope_is f accepted named known c) suits.1 in (
          command_placed outer c known k is one split.0 c_right (back_none own_faults nested front) suits.0 (keep_left outer (c ∷ inner_statements c) (block_statements b) kept),
          subst (λ j. BlockPlaced outer j b) (sym (next_after c k))
              (block_placed outer b (behind (at known) c).known (after k (command_declares c)) (known_behind f accepted named c known k is one split.0 c_right suits.0) two split.1 rest_right rest_suits
              (keep_right outer (c ∷ inner_statements c) (block_statements b) kept)),
        )

module _ (f : Frame) (is : IsFrame f) where
  abbrev pub params_end : ℕ
  params_end = after 0 (first f is)

  pub placed : BlockPlaced true params_end f.txn.body
  placed = block_placed f is.accepted.tables (once f is) true f.txn.body (opening f.schema f.txn.params).known params_end (known f is) (body_own f is) (here f is).1 (right f is) (body_in f is).suits
      (each_of KeepsStatement (block_statements f.txn.body) (all_at (λ (txn : Transaction). All KeepsStatement (block_statements txn.body)) f.txns f.number f.txn is.accepted.grammar is.among))

  pub scope_below : ScopeBelow params_end (opening f.schema f.txn.params).known
  scope_below = record { values = below_known f params_end (opening f.schema f.txn.params).known IsValue (known f is); rows = below_known f params_end (opening f.schema f.txn.params).known IsRow (known f is) }

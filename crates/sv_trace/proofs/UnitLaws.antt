-- Each loop of a transaction is the unit of its variable's number.
use Rattle.std.proofs.Common.{◌≡◌, ◌∙◌, ℕ, suc, ◌≤◌, ◌==◌, true, false, if◌then◌else◌, List, [], ◌∷◌, ◌++◌, map, Some, slice_get, refl, sym, ap, subst, arith, append_assoc, append-nil}
use Rattle.sv_app.specs.TxnNames.{plain_name, row_name, names_of}
use Rattle.sv_app.specs.TxnNumbers.{numbered_name, numbered_command, numbered_block}
use Rattle.sv_app.specs.Trees.{Command, Declare, Assign, Fetch, Choose, ForRows, ForEach, Insert, Fresh, Update, Remove, Abort, Reply, Block, Finish, Then}
use Rattle.sv_app.specs.Typing.{repeats}
use Rattle.sv_app.specs.Units.{Loop, command_loops, block_loops, units, loop_variables, unit_of}
use Rattle.sv_app.proofs.TestLaws.{same_test, other_test}
use Rattle.sv_trace.specs.Standing.{Frame}
use Rattle.sv_trace.proofs.DeclareLaws.{command_declares, block_declares, after, after_append, HereFrom, here_split, here_number}
use Rattle.sv_trace.proofs.NamingLaws.{all}

abbrev pub Each : {A : Type 0} → (A → Type 0) → List A → Type 0
Each P [] = Unit {0}
Each P (x ∷ xs) = P x × Each P xs

pub each_left : {A : Type 0} (P : A → Type 0) (xs ys : List A) → Each P (xs ++ ys) → Each P xs
each_left P [] ys each = tt
each_left P (x ∷ xs) ys each = (each.0, each_left P xs ys each.1)

pub each_right : {A : Type 0} (P : A → Type 0) (xs ys : List A) → Each P (xs ++ ys) → Each P ys
each_right P [] ys each = each
each_right P (x ∷ xs) ys each = each_right P xs ys each.1

-- the variables of loops have greater and greater numbers
abbrev LoopsFrom : ℕ → List Loop → Type 0
LoopsFrom k [] = Unit {0}
LoopsFrom k (l ∷ ls) = (k ≤ l.variable) × LoopsFrom (suc l.variable) ls

loops_fewer : (j k : ℕ) (ls : List Loop) → j ≤ k → LoopsFrom k ls → LoopsFrom j ls
loops_fewer j k [] le from = tt
loops_fewer j k (l ∷ ls) le from = let b : k ≤ l.variable = from.0 in (omega (arith, le, b), from.1)

loops_above : (k : ℕ) (ls : List Loop) → LoopsFrom k ls → Each (λ l. k ≤ l.variable) ls
loops_above k [] from = tt
loops_above k (l ∷ ls) from = (from.0, loops_above k ls (loops_fewer k (suc l.variable) ls (let b : k ≤ l.variable = from.0 in omega (arith, b)) from.1))

abbrev IsFound : Block → List Loop → Loop → Type 0
IsFound body ls l = slice_get (body ∷ map (λ x. x.body) ls) (unit_of (map (λ x. x.variable) ls) l.variable) ≡ Some l.body

found_behind : (body : Block) (first : Loop) (ls more : List Loop) → Each (λ l. suc first.variable ≤ l.variable) more → Each (IsFound first.body ls) more → Each (IsFound body (first ∷ ls)) more
found_behind body first ls [] above each = tt
found_behind body first ls (l ∷ more) above each =
    let other : (first.variable == l.variable) ≡ false = other_test first.variable l.variable (λ same. let b : suc first.variable ≤ l.variable = above.0 in omega (arith, b, same)) in
    (ap (λ b. slice_get (body ∷ first.body ∷ map (λ x. x.body) ls) (if b then 1 else suc (unit_of (map (λ x. x.variable) ls) l.variable))) other ∙ each.0, found_behind body first ls more above.1 each.1)

all_found : (k : ℕ) (body : Block) (ls : List Loop) → LoopsFrom k ls → Each (IsFound body ls) ls
all_found k body [] from = tt
all_found k body (l ∷ ls) from =
    let here : (l.variable == l.variable) ≡ true = same_test l.variable l.variable refl in (
      ap (λ b. slice_get (body ∷ l.body ∷ map (λ x. x.body) ls) (if b then 1 else suc (unit_of (map (λ x. x.variable) ls) l.variable))) here,
      found_behind body l ls ls (loops_above (suc l.variable) ls from.1) (all_found (suc l.variable) l.body ls from.1),
    )

module _ (f : Frame) (once : repeats (names_of f.txn) ≡ []) where
  mutual
    command_from : (c : Command) (k : ℕ) (more : List Loop) → numbered_command (all f) c ≡ c → HereFrom f k (command_declares c) → LoopsFrom (after k (command_declares c)) more → LoopsFrom k (command_loops c ++ more)
    command_from (Declare x e) k more own here from = loops_fewer k (suc k) more (omega arith) from
    command_from (Assign x e) k more own here from = from
    command_from (Fetch r t key) k more own here from = loops_fewer k (suc k) more (omega arith) from
    command_from (Choose test ys ns) k more own here from =
        let one : numbered_block (all f) ys ≡ ys = cc in
        let two : numbered_block (all f) ns ≡ ns = cc in
        let split = here_split f k (block_declares ys) (block_declares ns) here in
        let rest = block_from ns (after k (block_declares ys)) more two split.1 (subst (λ n. LoopsFrom n more) (after_append k (block_declares ys) (block_declares ns)) from) in
        subst (LoopsFrom k) (sym (append_assoc (block_loops ys) (block_loops ns) more)) (block_from ys k (block_loops ns ++ more) one split.0 rest)
    command_from (ForRows r t test body) k more own here from =
        let same : numbered_name (all f) r ≡ r = cc in
        let inner : numbered_block (all f) body ≡ body = cc in
        let number : r.num ≡ k = here_number f once k (row_name r t) here.0 same in
        (omega (arith, number), subst (λ n. LoopsFrom (suc n) (block_loops body ++ more)) (sym number) (block_from body (suc k) more inner here.1 from))
    command_from (ForEach x l body) k more own here from =
        let same : numbered_name (all f) x ≡ x = cc in
        let inner : numbered_block (all f) body ≡ body = cc in
        let number : x.num ≡ k = here_number f once k (plain_name x) here.0 same in
        (omega (arith, number), subst (λ n. LoopsFrom (suc n) (block_loops body ++ more)) (sym number) (block_from body (suc k) more inner here.1 from))
    command_from (Insert t es) k more own here from = from
    command_from (Fresh x t es) k more own here from = loops_fewer k (suc k) more (omega arith) from
    command_from (Update t key sets) k more own here from = from
    command_from (Remove t key) k more own here from = from
    command_from (Abort n) k more own here from = from
    command_from (Reply e) k more own here from = from

    block_from : (b : Block) (k : ℕ) (more : List Loop) → numbered_block (all f) b ≡ b → HereFrom f k (block_declares b) → LoopsFrom (after k (block_declares b)) more → LoopsFrom k (block_loops b ++ more)
    block_from Finish k more own here from = from
    block_from (Then c b) k more own here from =
        let one : numbered_command (all f) c ≡ c = cc in
        let two : numbered_block (all f) b ≡ b = cc in
        let split = here_split f k (command_declares c) (block_declares b) here in
        let rest = block_from b (after k (command_declares c)) more two split.1 (subst (λ n. LoopsFrom n more) (after_append k (command_declares c) (block_declares b)) from) in
        subst (LoopsFrom k) (sym (append_assoc (command_loops c) (block_loops b) more)) (command_from c k (block_loops b ++ more) one split.0 rest)

  -- the body of each loop is the unit of its number
  pub units_found : (k : ℕ) → numbered_block (all f) f.txn.body ≡ f.txn.body → HereFrom f k (block_declares f.txn.body)
      → Each (λ l. slice_get (units f.txn.body) (unit_of (loop_variables f.txn.body) l.variable) ≡ Some l.body) (block_loops f.txn.body)
  units_found k own here = all_found k f.txn.body (block_loops f.txn.body) (subst (LoopsFrom k) (append-nil (block_loops f.txn.body)) (block_from f.txn.body k [] own here tt))

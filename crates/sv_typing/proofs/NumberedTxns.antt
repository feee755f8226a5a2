-- Numbering transactions changes numbers alone, and a second time nothing.
use Rattle.std.proofs.Common.{◌≡◌, ℕ, suc, ◌+◌, ◌≤◌, arith, Bool, true, false, List, [], ◌∷◌, ◌++◌, length, refl, sym, ap, ◌∙◌, map, max, subst, Option, Some, None}
use Rattle.std.specs.Prelude.{if◌then◌else◌}
use Rattle.std.specs.List.{All, find, filter, flat_map}
use Rattle.std.specs.Option.{option_map, option_and_then}
use Rattle.std.proofs.lemmas.List.{length-map, map-append}
use Rattle.sv_app.specs.declared.apps.Ident.{Ident}
use Rattle.sv_app.specs.declared.names.Declared.{Declared}
use Rattle.sv_app.specs.Depths.{term_depth, test_depth, depths, inner_depth, block_depth}
use Rattle.sv_app.specs.Lookups.{is_named}
use Rattle.sv_app.specs.Numbers.{numbered, numbered_in}
use Rattle.sv_app.specs.Schema.{Declaration}
use Rattle.sv_app.specs.Statements.{inner_statements, block_statements}
use Rattle.sv_app.specs.Trees.{
  Term,
  Number,
  Words,
  Variable,
  Field,
  Old,
  Minus,
  Sum,
  Difference,
  Product,
  Test,
  Compare,
  Negation,
  Both,
  Either,
  Command,
  Declare,
  Assign,
  Fetch,
  Choose,
  ForRows,
  ForEach,
  Insert,
  Fresh,
  Update,
  Remove,
  Abort,
  Reply,
  Block,
  Finish,
  Then,
  Transaction,
}
use Rattle.sv_app.specs.TxnConditions.{is_loop, is_declaration, loops_of, IsKey, KeepsStatement, KeepsTxnGrammar, IsSmallTxn, KeepsTxnLimits}
use Rattle.sv_app.specs.TxnNumbers.{
  Naming,
  columns_of,
  columns_of_row,
  numbered_table_name,
  numbered_name,
  numbered_term,
  numbered_test,
  numbered_terms,
  updating,
  numbered_set,
  numbered_command,
  numbered_block,
  numbered_parameter,
  naming,
  txn_names,
  numbered_txn,
  numbered_txns,
}
use Rattle.sv_app.specs.TxnTyping.{txns_faults}
use Rattle.sv_app.proofs.ListLaws.{map_map}
use Rattle.sv_typing.proofs.Erased.{bare, bare_schema, find_map}
use Rattle.sv_typing.proofs.ErasedTxns.{bare_term, bare_test, bare_set, bare_command, bare_block, bare_param, bare_txn, bare_txns, bare_declared, declares_bare, txns_bare}
use Rattle.sv_typing.proofs.NumberedSchema.{map_same, option_same, in_bare, in_tables_bare, meant_columns_bare, all_map, bare_numbered}

abbrev bare_naming : Naming → Naming
bare_naming by = record { schema = bare_schema by.schema; names = map bare_declared by.names; updated = map bare by.updated }

-- the numbers don't come from numbers
name_from : (by : Naming) (x : Ident) → numbered_name (bare_naming by) (bare x) ≡ numbered_name by x
name_from by x =
    ap (λ names. numbered_in names (bare x)) (map_same bare_declared (λ (d : Declared). d.name) (λ d. bare d.name) by.names (λ d. refl) ∙ sym (map_map (λ (d : Declared). d.name) bare by.names))
    ∙ in_bare (map (λ (d : Declared). d.name) by.names) x

table_from : (by : Naming) (t : Ident) → numbered_table_name (bare_naming by) (bare t) ≡ numbered_table_name by t
table_from by t = in_tables_bare by.schema t

columns_from : (schema : List Declaration) (o : Option Ident) → columns_of (bare_schema schema) (option_map bare o) ≡ map bare (columns_of schema o)
columns_from schema None = refl
columns_from schema (Some table) = meant_columns_bare schema table

row_table_from : (o : Option Declared) → option_and_then (λ (d : Declared). d.table) (option_map bare_declared o) ≡ option_map bare (option_and_then (λ (d : Declared). d.table) o)
row_table_from None = refl
row_table_from (Some d) = refl

row_columns_from : (by : Naming) (r : Ident) → columns_of_row (bare_naming by) (bare r) ≡ map bare (columns_of_row by r)
row_columns_from by r =
    ap (λ o. columns_of (bare_schema by.schema) (option_and_then (λ (d : Declared). d.table) o)) (find_map bare_declared (λ (d : Declared). is_named d.name r) by.names)
    ∙ ap (columns_of (bare_schema by.schema)) (row_table_from (find (λ (d : Declared). is_named d.name r) by.names))
    ∙ columns_from by.schema (option_and_then (λ (d : Declared). d.table) (find (λ (d : Declared). is_named d.name r) by.names))

term_from : (by : Naming) (e : Term) → numbered_term (bare_naming by) (bare_term e) ≡ numbered_term by e
term_from by (Number n s) = refl
term_from by (Words t s) = refl
term_from by (Variable x s) = ap (λ n. Variable n s) (name_from by x)
term_from by (Field r c s) =
    let column = ap (λ names. numbered_in names (bare c)) (row_columns_from by r) ∙ in_bare (columns_of_row by r) c in
    (λ i. Field (name_from by r i) (column i) s)
term_from by (Old c s) = ap (λ n. Old n s) (in_bare by.updated c)
term_from by (Minus a s) = ap (λ e. Minus e s) (term_from by a)
term_from by (Sum a b s) = (λ i. Sum (term_from by a i) (term_from by b i) s)
term_from by (Difference a b s) = (λ i. Difference (term_from by a i) (term_from by b i) s)
term_from by (Product a b s) = (λ i. Product (term_from by a i) (term_from by b i) s)

test_from : (by : Naming) (t : Test) → numbered_test (bare_naming by) (bare_test t) ≡ numbered_test by t
test_from by (Compare a rel b) = (λ i. Compare (term_from by a i) rel (term_from by b i))
test_from by (Negation t) = ap Negation (test_from by t)
test_from by (Both t u) = (λ i. Both (test_from by t i) (test_from by u i))
test_from by (Either t u) = (λ i. Either (test_from by t i) (test_from by u i))

terms_from : (by : Naming) (es : List Term) → numbered_terms (bare_naming by) (map bare_term es) ≡ numbered_terms by es
terms_from by es = map_same bare_term (numbered_term (bare_naming by)) (numbered_term by) es (term_from by)

set_from : (by : Naming) (set : Ident × Term) → numbered_set (bare_naming by) (bare_set set) ≡ numbered_set by set
set_from by set = (λ i. (in_bare by.updated set.0 i, term_from by set.1 i))

updating_from : (by : Naming) (t : Ident) → updating (bare_naming by) (bare t) ≡ bare_naming (updating by t)
updating_from by t = ap (λ u. let n : Naming = record { schema = bare_schema by.schema; names = map bare_declared by.names; updated = u } in n) (columns_from by.schema (Some t))

sets_from : (by : Naming) (t : Ident) (ss : List (Ident × Term)) → map (numbered_set (updating (bare_naming by) (bare t))) (map bare_set ss) ≡ map (numbered_set (updating by t)) ss
sets_from by t ss =
    ap (λ n. map (numbered_set n) (map bare_set ss)) (updating_from by t)
    ∙ map_same bare_set (numbered_set (bare_naming (updating by t))) (numbered_set (updating by t)) ss (set_from (updating by t))

mutual
  command_from : (by : Naming) (c : Command) → numbered_command (bare_naming by) (bare_command c) ≡ numbered_command by c
  command_from by (Declare x e) = (λ i. Declare (name_from by x i) (term_from by e i))
  command_from by (Assign x e) = (λ i. Assign (name_from by x i) (term_from by e i))
  command_from by (Fetch r t k) = (λ i. Fetch (name_from by r i) (table_from by t i) (terms_from by k i))
  command_from by (Choose c ys ns) = (λ i. Choose (test_from by c i) (block_from by ys i) (block_from by ns i))
  command_from by (ForRows r t c body) =
      let test = option_same bare_test (numbered_test (bare_naming by)) (numbered_test by) c (test_from by) in
      (λ i. ForRows (name_from by r i) (table_from by t i) (test i) (block_from by body i))
  command_from by (ForEach x l body) = (λ i. ForEach (name_from by x i) (name_from by l i) (block_from by body i))
  command_from by (Insert t vs) = (λ i. Insert (table_from by t i) (terms_from by vs i))
  command_from by (Fresh x t vs) = (λ i. Fresh (name_from by x i) (table_from by t i) (terms_from by vs i))
  command_from by (Update t k ss) = (λ i. Update (table_from by t i) (terms_from by k i) (sets_from by t ss i))
  command_from by (Remove t k) = (λ i. Remove (table_from by t i) (terms_from by k i))
  command_from by (Abort n) = refl
  command_from by (Reply e) = ap Reply (term_from by e)

  block_from : (by : Naming) (b : Block) → numbered_block (bare_naming by) (bare_block b) ≡ numbered_block by b
  block_from by Finish = refl
  block_from by (Then c rest) = (λ i. Then (command_from by c i) (block_from by rest i))

naming_from : (schema : List Declaration) (txn : Transaction) → naming (bare_schema schema) (bare_txn txn) ≡ bare_naming (naming schema txn)
naming_from schema txn = ap (λ names. let n : Naming = record { schema = bare_schema schema; names = names; updated = [] } in n) (declares_bare txn)

names_from : (txns : List Transaction) → txn_names (bare_txns txns) ≡ map bare (txn_names txns)
names_from txns = map_same bare_txn (λ (t : Transaction). t.name) (λ t. bare t.name) txns (λ t. refl) ∙ sym (map_map (λ (t : Transaction). t.name) bare txns)

txn_from : (schema : List Declaration) (txns : List Transaction) (txn : Transaction) → numbered_txn (bare_schema schema) (bare_txns txns) (bare_txn txn) ≡ numbered_txn schema txns txn
txn_from schema txns txn =
    let by : Naming = naming schema txn in
    let name = ap (λ names. numbered_in names (bare txn.name)) (names_from txns) ∙ in_bare (txn_names txns) txn.name in
    let params = ap (λ n. map (numbered_parameter n) (map bare_param txn.params)) (naming_from schema txn)
    ∙ map_same bare_param (numbered_parameter (bare_naming by)) (numbered_parameter by) txn.params (λ p. ap (λ n. (n, p.1)) (name_from by p.0)) in
    let body = ap (λ n. numbered_block n (bare_block txn.body)) (naming_from schema txn) ∙ block_from by txn.body in
    (λ i. record { name = name i; params = params i; body = body i })

txns_from : (schema : List Declaration) (txns : List Transaction) → numbered_txns (bare_schema schema) (bare_txns txns) ≡ numbered_txns schema txns
txns_from schema txns = map_same bare_txn (numbered_txn (bare_schema schema) (bare_txns txns)) (numbered_txn schema txns) txns (txn_from schema txns)

-- without numbers they are what they were
bare_terms : (by : Naming) (e : Term) → bare_term (numbered_term by e) ≡ bare_term e
bare_terms by (Number n s) = refl
bare_terms by (Words t s) = refl
bare_terms by (Variable x s) = refl
bare_terms by (Field r c s) = refl
bare_terms by (Old c s) = refl
bare_terms by (Minus a s) = ap (λ e. Minus e s) (bare_terms by a)
bare_terms by (Sum a b s) = (λ i. Sum (bare_terms by a i) (bare_terms by b i) s)
bare_terms by (Difference a b s) = (λ i. Difference (bare_terms by a i) (bare_terms by b i) s)
bare_terms by (Product a b s) = (λ i. Product (bare_terms by a i) (bare_terms by b i) s)

bare_tests : (by : Naming) (t : Test) → bare_test (numbered_test by t) ≡ bare_test t
bare_tests by (Compare a rel b) = (λ i. Compare (bare_terms by a i) rel (bare_terms by b i))
bare_tests by (Negation t) = ap Negation (bare_tests by t)
bare_tests by (Both t u) = (λ i. Both (bare_tests by t i) (bare_tests by u i))
bare_tests by (Either t u) = (λ i. Either (bare_tests by t i) (bare_tests by u i))

bare_term_lists : (by : Naming) (es : List Term) → map bare_term (numbered_terms by es) ≡ map bare_term es
bare_term_lists by es = map_same (numbered_term by) bare_term bare_term es (bare_terms by)

mutual
  bare_commands : (by : Naming) (c : Command) → bare_command (numbered_command by c) ≡ bare_command c
  bare_commands by (Declare x e) = ap (Declare (bare x)) (bare_terms by e)
  bare_commands by (Assign x e) = ap (Assign (bare x)) (bare_terms by e)
  bare_commands by (Fetch r t k) = ap (Fetch (bare r) (bare t)) (bare_term_lists by k)
  bare_commands by (Choose c ys ns) = (λ i. Choose (bare_tests by c i) (bare_blocks by ys i) (bare_blocks by ns i))
  bare_commands by (ForRows r t c body) =
      let test = option_same (numbered_test by) bare_test bare_test c (bare_tests by) in (λ i. ForRows (bare r) (bare t) (test i) (bare_blocks by body i))
  bare_commands by (ForEach x l body) = ap (ForEach (bare x) (bare l)) (bare_blocks by body)
  bare_commands by (Insert t vs) = ap (Insert (bare t)) (bare_term_lists by vs)
  bare_commands by (Fresh x t vs) = ap (Fresh (bare x) (bare t)) (bare_term_lists by vs)
  bare_commands by (Update t k ss) =
      let sets = map_same (numbered_set (updating by t)) bare_set bare_set ss (λ s. ap (λ e. (bare s.0, e)) (bare_terms (updating by t) s.1)) in
      (λ i. Update (bare t) (bare_term_lists by k i) (sets i))
  bare_commands by (Remove t k) = ap (Remove (bare t)) (bare_term_lists by k)
  bare_commands by (Abort n) = refl
  bare_commands by (Reply e) = ap Reply (bare_terms by e)

  bare_blocks : (by : Naming) (b : Block) → bare_block (numbered_block by b) ≡ bare_block b
  bare_blocks by Finish = refl
  bare_blocks by (Then c rest) = (λ i. Then (bare_commands by c i) (bare_blocks by rest i))

bare_numbered_txn : (schema : List Declaration) (txns : List Transaction) (txn : Transaction) → bare_txn (numbered_txn schema txns txn) ≡ bare_txn txn
bare_numbered_txn schema txns txn =
    let params = map_same (numbered_parameter (naming schema txn)) bare_param bare_param txn.params (λ p. refl) in
    (λ i. record { name = bare txn.name; params = params i; body = bare_blocks (naming schema txn) txn.body i })

pub bare_numbered_txns : (schema : List Declaration) (txns : List Transaction) → bare_txns (numbered_txns schema txns) ≡ bare_txns txns
bare_numbered_txns schema txns = map_same (numbered_txn schema txns) bare_txn bare_txn txns (bare_numbered_txn schema txns)

-- so all that is told by names and places alone stands
pub txns_numbered_twice : (schema : List Declaration) (txns : List Transaction) → numbered_txns (numbered schema) (numbered_txns schema txns) ≡ numbered_txns schema txns
txns_numbered_twice schema txns =
    sym (txns_from (numbered schema) (numbered_txns schema txns)) ∙ (λ i. numbered_txns (bare_numbered schema i) (bare_numbered_txns schema txns i)) ∙ txns_from schema txns

pub txns_faults_numbered : (schema : List Declaration) (txns : List Transaction) → txns_faults (numbered schema) (numbered_txns schema txns) ≡ txns_faults schema txns
txns_faults_numbered schema txns =
    sym (txns_bare (numbered schema) (numbered_txns schema txns)) ∙ (λ i. txns_faults (bare_numbered schema i) (bare_numbered_txns schema txns i)) ∙ txns_bare schema txns

-- and so do the conditions
mutual
  inner_statements_numbered : (by : Naming) (c : Command) → inner_statements (numbered_command by c) ≡ map (numbered_command by) (inner_statements c)
  inner_statements_numbered by (Declare x e) = refl
  inner_statements_numbered by (Assign x e) = refl
  inner_statements_numbered by (Fetch r t k) = refl
  inner_statements_numbered by (Choose c ys ns) =
      (λ i. statements_numbered by ys i ++ statements_numbered by ns i) ∙ sym (map-append (numbered_command by) (block_statements ys) (block_statements ns))
  inner_statements_numbered by (ForRows r t c body) = statements_numbered by body
  inner_statements_numbered by (ForEach x l body) = statements_numbered by body
  inner_statements_numbered by (Insert t vs) = refl
  inner_statements_numbered by (Fresh x t vs) = refl
  inner_statements_numbered by (Update t k ss) = refl
  inner_statements_numbered by (Remove t k) = refl
  inner_statements_numbered by (Abort n) = refl
  inner_statements_numbered by (Reply e) = refl

  pub statements_numbered : (by : Naming) (b : Block) → block_statements (numbered_block by b) ≡ map (numbered_command by) (block_statements b)
  statements_numbered by Finish = refl
  statements_numbered by (Then c rest) =
      (λ i. (numbered_command by c ∷ inner_statements_numbered by c i) ++ statements_numbered by rest i)
      ∙ sym (map-append (numbered_command by) (c ∷ inner_statements c) (block_statements rest))

loop_numbered : (by : Naming) (c : Command) → is_loop (numbered_command by c) ≡ is_loop c
loop_numbered by (Declare x e) = refl
loop_numbered by (Assign x e) = refl
loop_numbered by (Fetch r t k) = refl
loop_numbered by (Choose c ys ns) = refl
loop_numbered by (ForRows r t c body) = refl
loop_numbered by (ForEach x l body) = refl
loop_numbered by (Insert t vs) = refl
loop_numbered by (Fresh x t vs) = refl
loop_numbered by (Update t k ss) = refl
loop_numbered by (Remove t k) = refl
loop_numbered by (Abort n) = refl
loop_numbered by (Reply e) = refl

declaration_numbered : (by : Naming) (c : Command) → is_declaration (numbered_command by c) ≡ is_declaration c
declaration_numbered by (Declare x e) = refl
declaration_numbered by (Assign x e) = refl
declaration_numbered by (Fetch r t k) = refl
declaration_numbered by (Choose c ys ns) = refl
declaration_numbered by (ForRows r t c body) = refl
declaration_numbered by (ForEach x l body) = refl
declaration_numbered by (Insert t vs) = refl
declaration_numbered by (Fresh x t vs) = refl
declaration_numbered by (Update t k ss) = refl
declaration_numbered by (Remove t k) = refl
declaration_numbered by (Abort n) = refl
declaration_numbered by (Reply e) = refl

count_map : {A : Type 0} (f : A → A) (p : A → Bool) (xs : List A) → ((x : A) → p (f x) ≡ p x) → length (filter p (map f xs)) ≡ length (filter p xs)
count_map f p [] same = refl
count_map f p (x ∷ xs) same = ap (λ b. length (if b then f x ∷ filter p (map f xs) else filter p (map f xs))) (same x) ∙ either (p x) (count_map f p xs same) where
  either : (b : Bool) → length (filter p (map f xs)) ≡ length (filter p xs)
      → length (if b then f x ∷ filter p (map f xs) else filter p (map f xs)) ≡ length (if b then x ∷ filter p xs else filter p xs)
  either true ih = ap (λ n. suc n) ih
  either false ih = ih

loops_numbered : (by : Naming) (b : Block) → length (loops_of (numbered_block by b)) ≡ length (loops_of b)
loops_numbered by b = ap (λ cs. length (filter is_loop cs)) (statements_numbered by b) ∙ count_map (numbered_command by) is_loop (block_statements b) (loop_numbered by)

key_numbered : (by : Naming) (k : List Term) → IsKey k → IsKey (numbered_terms by k)
key_numbered by k is =
    let same : length (numbered_terms by k) ≡ length k = length-map k (numbered_term by) in
    record { some = omega (arith, same, is.some); few = omega (arith, same, is.few) }

statement_numbered : (by : Naming) (c : Command) → KeepsStatement c → KeepsStatement (numbered_command by c)
statement_numbered by (Declare x e) k = tt
statement_numbered by (Assign x e) k = tt
statement_numbered by (Fetch r t key) k = key_numbered by key k
statement_numbered by (Choose c ys ns) k = tt
statement_numbered by (ForRows r t c body) k = loops_numbered by body ∙ k
statement_numbered by (ForEach x l body) k = loops_numbered by body ∙ k
statement_numbered by (Insert t vs) k = let same : length (numbered_terms by vs) ≡ length vs = length-map vs (numbered_term by) in omega (arith, same, k)
statement_numbered by (Fresh x t vs) k = tt
statement_numbered by (Update t key ss) k =
    let same : length (map (numbered_set (updating by t)) ss) ≡ length ss = length-map ss (numbered_set (updating by t)) in
    (key_numbered by key k.0, omega (arith, same, k.1))
statement_numbered by (Remove t key) k = key_numbered by key k
statement_numbered by (Abort n) k = k
statement_numbered by (Reply e) k = tt

pub txn_grammar_numbered : (schema : List Declaration) (txns : List Transaction) → KeepsTxnGrammar txns → KeepsTxnGrammar (numbered_txns schema txns)
txn_grammar_numbered schema txns each =
    all_map (numbered_txn schema txns) (λ txn. All KeepsStatement (block_statements txn.body)) (λ txn. All KeepsStatement (block_statements txn.body)) txns
    (λ txn k. subst (λ (cs : List Command). All KeepsStatement cs) (sym (statements_numbered (naming schema txn) txn.body))
    (all_map (numbered_command (naming schema txn)) KeepsStatement KeepsStatement (block_statements txn.body) (statement_numbered (naming schema txn)) k)) each

term_depth_numbered : (by : Naming) (e : Term) → term_depth (numbered_term by e) ≡ term_depth e
term_depth_numbered by (Number n s) = refl
term_depth_numbered by (Words t s) = refl
term_depth_numbered by (Variable x s) = refl
term_depth_numbered by (Field r c s) = refl
term_depth_numbered by (Old c s) = refl
term_depth_numbered by (Minus a s) = ap (λ n. 1 + n) (term_depth_numbered by a)
term_depth_numbered by (Sum a b s) = (λ i. 1 + max (term_depth_numbered by a i) (term_depth_numbered by b i))
term_depth_numbered by (Difference a b s) = (λ i. 1 + max (term_depth_numbered by a i) (term_depth_numbered by b i))
term_depth_numbered by (Product a b s) = (λ i. 1 + max (term_depth_numbered by a i) (term_depth_numbered by b i))

test_depth_numbered : (by : Naming) (t : Test) → test_depth (numbered_test by t) ≡ test_depth t
test_depth_numbered by (Compare a rel b) = (λ i. 1 + max (term_depth_numbered by a i) (term_depth_numbered by b i))
test_depth_numbered by (Negation t) = ap (λ n. 1 + n) (test_depth_numbered by t)
test_depth_numbered by (Both t u) = (λ i. 1 + max (test_depth_numbered by t i) (test_depth_numbered by u i))
test_depth_numbered by (Either t u) = (λ i. 1 + max (test_depth_numbered by t i) (test_depth_numbered by u i))

term_depths_numbered : (by : Naming) (es : List Term) → map term_depth (numbered_terms by es) ≡ map term_depth es
term_depths_numbered by es = map_same (numbered_term by) term_depth term_depth es (term_depth_numbered by)

depths_numbered : (by : Naming) (c : Command) → depths (numbered_command by c) ≡ depths c
depths_numbered by (Declare x e) = ap (λ n. n ∷ []) (term_depth_numbered by e)
depths_numbered by (Assign x e) = ap (λ n. n ∷ []) (term_depth_numbered by e)
depths_numbered by (Fetch r t k) = term_depths_numbered by k
depths_numbered by (Choose c ys ns) = ap (λ n. n ∷ []) (test_depth_numbered by c)
depths_numbered by (ForRows r t None body) = refl
depths_numbered by (ForRows r t (Some c) body) = ap (λ n. n ∷ []) (test_depth_numbered by c)
depths_numbered by (ForEach x l body) = refl
depths_numbered by (Insert t vs) = term_depths_numbered by vs
depths_numbered by (Fresh x t vs) = term_depths_numbered by vs
depths_numbered by (Update t k ss) =
    let sets = map_same (numbered_set (updating by t)) (λ (s : Ident × Term). term_depth s.1) (λ (s : Ident × Term). term_depth s.1) ss (λ s. term_depth_numbered (updating by t) s.1) in
    (λ i. term_depths_numbered by k i ++ sets i)
depths_numbered by (Remove t k) = term_depths_numbered by k
depths_numbered by (Abort n) = refl
depths_numbered by (Reply e) = ap (λ n. n ∷ []) (term_depth_numbered by e)

all_depths_numbered : (by : Naming) (cs : List Command) → flat_map depths (map (numbered_command by) cs) ≡ flat_map depths cs
all_depths_numbered by [] = refl
all_depths_numbered by (c ∷ cs) = (λ i. depths_numbered by c i ++ all_depths_numbered by cs i)

mutual
  inner_depth_numbered : (by : Naming) (c : Command) → inner_depth (numbered_command by c) ≡ inner_depth c
  inner_depth_numbered by (Declare x e) = refl
  inner_depth_numbered by (Assign x e) = refl
  inner_depth_numbered by (Fetch r t k) = refl
  inner_depth_numbered by (Choose c ys ns) = (λ i. max (block_depth_numbered by ys i) (block_depth_numbered by ns i))
  inner_depth_numbered by (ForRows r t c body) = block_depth_numbered by body
  inner_depth_numbered by (ForEach x l body) = block_depth_numbered by body
  inner_depth_numbered by (Insert t vs) = refl
  inner_depth_numbered by (Fresh x t vs) = refl
  inner_depth_numbered by (Update t k ss) = refl
  inner_depth_numbered by (Remove t k) = refl
  inner_depth_numbered by (Abort n) = refl
  inner_depth_numbered by (Reply e) = refl

  block_depth_numbered : (by : Naming) (b : Block) → block_depth (numbered_block by b) ≡ block_depth b
  block_depth_numbered by Finish = refl
  block_depth_numbered by (Then c rest) = (λ i. max (1 + inner_depth_numbered by c i) (block_depth_numbered by rest i))

small_numbered : (schema : List Declaration) (txns : List Transaction) (txn : Transaction) → IsSmallTxn txn → IsSmallTxn (numbered_txn schema txns txn)
small_numbered schema txns txn small =
    let by : Naming = naming schema txn in
    let params : length (map (numbered_parameter by) txn.params) ≡ length txn.params = length-map txn.params (numbered_parameter by) in
    let statements : length (block_statements (numbered_block by txn.body)) ≡ length (block_statements txn.body) =
    ap (λ (cs : List Command). length cs) (statements_numbered by txn.body) ∙ length-map (block_statements txn.body) (numbered_command by) in
    let blocks : block_depth (numbered_block by txn.body) ≡ block_depth txn.body = block_depth_numbered by txn.body in
    let loops : length (loops_of (numbered_block by txn.body)) ≡ length (loops_of txn.body) = loops_numbered by txn.body in
    let variables : length (filter is_declaration (block_statements (numbered_block by txn.body))) ≡ length (filter is_declaration (block_statements txn.body)) =
    ap (λ cs. length (filter is_declaration cs)) (statements_numbered by txn.body) ∙ count_map (numbered_command by) is_declaration (block_statements txn.body) (declaration_numbered by) in
    let expressions : flat_map depths (block_statements (numbered_block by txn.body)) ≡ flat_map depths (block_statements txn.body) =
    ap (flat_map depths) (statements_numbered by txn.body) ∙ all_depths_numbered by (block_statements txn.body) in
    record {
      params = omega (arith, params, small.params);
      statements = omega (arith, statements, small.statements);
      blocks = omega (arith, blocks, small.blocks);
      loops = omega (arith, loops, small.loops);
      variables = omega (arith, variables, small.variables);
      expressions = subst (λ (ds : List ℕ). All (λ depth. depth ≤ 16) ds) (sym expressions) small.expressions;
    }

pub txn_limits_numbered : (schema : List Declaration) (txns : List Transaction) → KeepsTxnLimits txns → KeepsTxnLimits (numbered_txns schema txns)
txn_limits_numbered schema txns k = record {
  count = let same : length (numbered_txns schema txns) ≡ length txns = length-map txns (numbered_txn schema txns) in omega (arith, same, k.count);
  each = all_map (numbered_txn schema txns) IsSmallTxn IsSmallTxn txns (small_numbered schema txns) k.each;
}

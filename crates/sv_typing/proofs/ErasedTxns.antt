-- Transactions without the numbers of their names: all that is looked at before the names are numbered is told by names and places.
use Rattle.std.proofs.Common.{◌≡◌, List, [], ◌∷◌, ◌++◌, refl, sym, ap, ◌∙◌, map, reverse, Option, Some, None}
use Rattle.std.specs.Prelude.{Bool, true, false, if◌then◌else◌, ◌||◌, ◌&&◌, not, ◌==◌}
use Rattle.std.specs.List.{find, flat_map, filter, list_any}
use Rattle.std.specs.Option.{option_map, option_and_then, is_none}
use Rattle.std.proofs.lemmas.List.{length-map, map-append, reverse-append}
use Rattle.sv_value.specs.declared.spots.Spot.{Spot}
use Rattle.sv_app.specs.declared.acts.Act.{Act}
use Rattle.sv_app.specs.declared.acts.Act.TheVariants as acts
use Rattle.sv_app.specs.declared.apps.Ident.{Ident}
use Rattle.sv_app.specs.declared.names.Declared.{Declared}
use Rattle.sv_app.specs.declared.names.Known.{Known}
use Rattle.sv_app.specs.declared.names.Meaning.{Meaning}
use Rattle.sv_app.specs.declared.names.Meaning.TheVariants.{Parameter, Variable as Local, Row, Constant}
use Rattle.sv_app.specs.declared.refusals.Code.TheVariants.{Unknown, Kind, Typing}
use Rattle.sv_app.specs.declared.refusals.Refusal.{Refusal}
use Rattle.sv_app.specs.declared.schemas.Column.{Column}
use Rattle.sv_app.specs.declared.schemas.Ty.{Ty}
use Rattle.sv_app.specs.declared.txns.Rel.{Rel}
use Rattle.sv_app.specs.Kinds.{kind_allows, keys_allow, is_drawn}
use Rattle.sv_app.specs.Lookups.{is_named, is_key, column_of, table_of, holds_of, column_names}
use Rattle.sv_app.specs.Schema.{Declaration}
use Rattle.sv_app.specs.Scopes.{Scope, meaning_of, knowing, updating, parameter, opening}
use Rattle.sv_app.specs.Statements.{inner_statements, block_statements}
use Rattle.sv_app.specs.TermTypes.{type_meant, column_type, field_type, old_type, type_of, spot_of, are_apart}
use Rattle.sv_app.specs.Trees.{
  Term,
  Number,
  Words,
  Variable,
  Field,
  Old,
  Minus,
  Sum,
  Difference,
  Product,
  Test,
  Compare,
  Negation,
  Both,
  Either,
  Command,
  Declare,
  Assign,
  Fetch,
  Choose,
  ForRows,
  ForEach,
  Insert,
  Fresh,
  Update,
  Remove,
  Abort,
  Reply,
  Block,
  Finish,
  Then,
  Transaction,
}
use Rattle.sv_app.specs.TxnNames.{plain_name, declared_by, declares, names_of}
use Rattle.sv_app.specs.TxnTyping.{drawn_columns, drawn_faults, value_faults, no_column_of, field_faults, old_faults, operand_faults, term_faults, is_order, comparison_faults, test_faults, condition_faults, all_term_faults, no_table, at_table, kind_faults, count_faults, type_faults, each_type_faults, value_list_faults, set_faults, sets_faults, assignment_faults, walk_faults, type_if_right, declared_type, behind, command_faults, inner_faults, block_faults, txn_faults, txns_faults}
use Rattle.sv_app.specs.Typing.{fault_if, is_text, repeats}
use Rattle.sv_app.proofs.ListLaws.{map_map}
use Rattle.sv_typing.proofs.Erased.{bare, bare_column, bare_table, bare_schema, find_map, column_bare, table_bare, key_bare, columns_bare, repeats_bare, no_column_bare, flat_bare, meant_bare, no_table_bare, no_column_in}
use Rattle.sv_typing.proofs.NumberedSchema.{map_same, option_same}

abbrev pub bare_meaning : Meaning → Meaning
bare_meaning (Parameter ty) = Parameter ty
bare_meaning (Local ty) = Local ty
bare_meaning (Row table) = Row (bare table)
bare_meaning Constant = Constant

abbrev pub bare_known : Known → Known
bare_known k = record { name = bare k.name; meaning = bare_meaning k.meaning }

abbrev pub bare_scope : Scope → Scope
bare_scope at = record { schema = bare_schema at.schema; known = map bare_known at.known; updated = option_map bare at.updated }

abbrev pub bare_term : Term → Term
bare_term (Number n s) = Number n s
bare_term (Words t s) = Words t s
bare_term (Variable x s) = Variable (bare x) s
bare_term (Field r c s) = Field (bare r) (bare c) s
bare_term (Old c s) = Old (bare c) s
bare_term (Minus a s) = Minus (bare_term a) s
bare_term (Sum a b s) = Sum (bare_term a) (bare_term b) s
bare_term (Difference a b s) = Difference (bare_term a) (bare_term b) s
bare_term (Product a b s) = Product (bare_term a) (bare_term b) s

abbrev pub bare_test : Test → Test
bare_test (Compare a rel b) = Compare (bare_term a) rel (bare_term b)
bare_test (Negation t) = Negation (bare_test t)
bare_test (Both t u) = Both (bare_test t) (bare_test u)
bare_test (Either t u) = Either (bare_test t) (bare_test u)

abbrev pub bare_set : Ident × Term → Ident × Term
bare_set set = (bare set.0, bare_term set.1)

abbrev mutual
  pub bare_command : Command → Command
  bare_command (Declare x e) = Declare (bare x) (bare_term e)
  bare_command (Assign x e) = Assign (bare x) (bare_term e)
  bare_command (Fetch r t k) = Fetch (bare r) (bare t) (map bare_term k)
  bare_command (Choose c ys ns) = Choose (bare_test c) (bare_block ys) (bare_block ns)
  bare_command (ForRows r t c body) = ForRows (bare r) (bare t) (option_map bare_test c) (bare_block body)
  bare_command (ForEach x l body) = ForEach (bare x) (bare l) (bare_block body)
  bare_command (Insert t vs) = Insert (bare t) (map bare_term vs)
  bare_command (Fresh x t vs) = Fresh (bare x) (bare t) (map bare_term vs)
  bare_command (Update t k ss) = Update (bare t) (map bare_term k) (map bare_set ss)
  bare_command (Remove t k) = Remove (bare t) (map bare_term k)
  bare_command (Abort n) = Abort n
  bare_command (Reply e) = Reply (bare_term e)

  pub bare_block : Block → Block
  bare_block Finish = Finish
  bare_block (Then c rest) = Then (bare_command c) (bare_block rest)

abbrev pub bare_param : Ident × Ty → Ident × Ty
bare_param p = (bare p.0, p.1)

abbrev pub bare_txn : Transaction → Transaction
bare_txn txn = record { name = bare txn.name; params = map bare_param txn.params; body = bare_block txn.body }

abbrev pub bare_txns : List Transaction → List Transaction
bare_txns txns = map bare_txn txns

-- meanings and types
meaning_bare : (at : Scope) (name : Ident) → meaning_of (bare_scope at) (bare name) ≡ option_map bare_meaning (meaning_of at name)
meaning_bare at name =
    let found : Option Known = find (λ k. is_named k.name name) at.known in
    ap (option_map (λ k. k.meaning)) (find_map bare_known (λ k. is_named k.name name) at.known)
    ∙ option_same bare_known (λ k. k.meaning) (λ k. bare_meaning k.meaning) found (λ k. refl)
    ∙ sym (option_same (λ (k : Known). k.meaning) bare_meaning (λ k. bare_meaning k.meaning) found (λ k. refl))

own_type : (t : Declaration) (column : Ident) → option_map (λ (c : Column). c.ty) (column_of (bare_table t) (bare column)) ≡ option_map (λ (c : Column). c.ty) (column_of t column)
own_type t column =
    ap (option_map (λ (c : Column). c.ty)) (column_bare t column) ∙ option_same bare_column (λ (c : Column). c.ty) (λ (c : Column). c.ty) (column_of t column) (λ c. refl)

column_type_bare : (schema : List Declaration) (table column : Ident) → column_type (bare_schema schema) (bare table) (bare column) ≡ column_type schema table column
column_type_bare schema table column =
    ap (option_and_then (λ t. option_map (λ (c : Column). c.ty) (column_of t (bare column)))) (table_bare schema table) ∙ by_cases (table_of schema table) where
      by_cases : (o : Option Declaration) → option_and_then (λ t. option_map (λ (c : Column). c.ty) (column_of t (bare column))) (option_map bare_table o)
          ≡ option_and_then (λ t. option_map (λ (c : Column). c.ty) (column_of t column)) o
      by_cases None = refl
      by_cases (Some t) = own_type t column

meant_type_bare : (m : Option Meaning) → type_meant (option_map bare_meaning m) ≡ type_meant m
meant_type_bare None = refl
meant_type_bare (Some (Parameter ty)) = refl
meant_type_bare (Some (Local ty)) = refl
meant_type_bare (Some (Row table)) = refl
meant_type_bare (Some Constant) = refl

field_type_bare : (schema : List Declaration) (m : Option Meaning) (column : Ident) → field_type (bare_schema schema) (option_map bare_meaning m) (bare column) ≡ field_type schema m column
field_type_bare schema None column = refl
field_type_bare schema (Some (Parameter ty)) column = refl
field_type_bare schema (Some (Local ty)) column = refl
field_type_bare schema (Some (Row table)) column = column_type_bare schema table column
field_type_bare schema (Some Constant) column = refl

old_type_bare : (schema : List Declaration) (o : Option Ident) (column : Ident) → old_type (bare_schema schema) (option_map bare o) (bare column) ≡ old_type schema o column
old_type_bare schema None column = refl
old_type_bare schema (Some table) column = column_type_bare schema table column

type_bare : (at : Scope) (e : Term) → type_of (bare_scope at) (bare_term e) ≡ type_of at e
type_bare at (Number n s) = refl
type_bare at (Words t s) = refl
type_bare at (Variable x s) = ap type_meant (meaning_bare at x) ∙ meant_type_bare (meaning_of at x)
type_bare at (Field r c s) = ap (λ m. field_type (bare_schema at.schema) m (bare c)) (meaning_bare at r) ∙ field_type_bare at.schema (meaning_of at r) c
type_bare at (Old c s) = old_type_bare at.schema at.updated c
type_bare at (Minus a s) = refl
type_bare at (Sum a b s) = refl
type_bare at (Difference a b s) = refl
type_bare at (Product a b s) = refl

spot_bare : (e : Term) → spot_of (bare_term e) ≡ spot_of e
spot_bare (Number n s) = refl
spot_bare (Words t s) = refl
spot_bare (Variable x s) = refl
spot_bare (Field r c s) = refl
spot_bare (Old c s) = refl
spot_bare (Minus a s) = refl
spot_bare (Sum a b s) = refl
spot_bare (Difference a b s) = refl
spot_bare (Product a b s) = refl

-- what is wrong with expressions
value_bare : (m : Option Meaning) (x : Ident) → value_faults (option_map bare_meaning m) (bare x) ≡ value_faults m x
value_bare None x = refl
value_bare (Some (Parameter ty)) x = refl
value_bare (Some (Local ty)) x = refl
value_bare (Some (Row table)) x = refl
value_bare (Some Constant) x = refl

no_column_of_bare : (schema : List Declaration) (table name : Ident) → no_column_of (bare_schema schema) (bare table) (bare name) ≡ no_column_of schema table name
no_column_of_bare schema table name =
    ap (λ b. fault_if b name.spot Unknown) (meant_bare schema table (λ t. is_none (column_of t (bare name))) (λ t. is_none (column_of t name)) (λ t. no_column_in t name))

field_bare : (at : Scope) (m : Option Meaning) (r c : Ident) → field_faults (bare_scope at) (option_map bare_meaning m) (bare r) (bare c) ≡ field_faults at m r c
field_bare at None r c = refl
field_bare at (Some (Parameter ty)) r c = refl
field_bare at (Some (Local ty)) r c = refl
field_bare at (Some (Row table)) r c = no_column_of_bare at.schema table c
field_bare at (Some Constant) r c = refl

old_bare : (at : Scope) (o : Option Ident) (c : Ident) (s : Spot) → old_faults (bare_scope at) (option_map bare o) (bare c) s ≡ old_faults at o c s
old_bare at None c s = refl
old_bare at (Some table) c s = no_column_of_bare at.schema table c

operand_bare : (at : Scope) (a : Term) → operand_faults (bare_scope at) (bare_term a) ≡ operand_faults at a
operand_bare at a = (λ i. fault_if (holds_of (type_bare at a i) is_text) (spot_bare a i) Typing)

term_bare : (at : Scope) (e : Term) → term_faults (bare_scope at) (bare_term e) ≡ term_faults at e
term_bare at (Number n s) = refl
term_bare at (Words t s) = refl
term_bare at (Variable x s) = ap (λ m. value_faults m (bare x)) (meaning_bare at x) ∙ value_bare (meaning_of at x) x
term_bare at (Field r c s) = ap (λ m. field_faults (bare_scope at) m (bare r) (bare c)) (meaning_bare at r) ∙ field_bare at (meaning_of at r) r c
term_bare at (Old c s) = old_bare at at.updated c s
term_bare at (Minus a s) = (λ i. operand_bare at a i ++ term_bare at a i)
term_bare at (Sum a b s) = (λ i. operand_bare at a i ++ operand_bare at b i ++ term_bare at a i ++ term_bare at b i)
term_bare at (Difference a b s) = (λ i. operand_bare at a i ++ operand_bare at b i ++ term_bare at a i ++ term_bare at b i)
term_bare at (Product a b s) = (λ i. operand_bare at a i ++ operand_bare at b i ++ term_bare at a i ++ term_bare at b i)

comparison_bare : (at : Scope) (a : Term) (rel : Rel) (b : Term) → comparison_faults (bare_scope at) (bare_term a) rel (bare_term b) ≡ comparison_faults at a rel b
comparison_bare at a rel b = (λ i.
    fault_if (is_order rel && (holds_of (type_bare at a i) is_text || holds_of (type_bare at b i) is_text)) (spot_bare a i) Typing
    ++ fault_if (are_apart (type_bare at a i) (type_bare at b i)) (spot_bare a i) Typing)

test_bare : (at : Scope) (t : Test) → test_faults (bare_scope at) (bare_test t) ≡ test_faults at t
test_bare at (Compare a rel b) = (λ i. comparison_bare at a rel b i ++ term_bare at a i ++ term_bare at b i)
test_bare at (Negation t) = test_bare at t
test_bare at (Both t u) = (λ i. test_bare at t i ++ test_bare at u i)
test_bare at (Either t u) = (λ i. test_bare at t i ++ test_bare at u i)

condition_bare : (at : Scope) (c : Option Test) → condition_faults (bare_scope at) (option_map bare_test c) ≡ condition_faults at c
condition_bare at None = refl
condition_bare at (Some t) = test_bare at t

terms_bare : (at : Scope) (es : List Term) → all_term_faults (bare_scope at) (map bare_term es) ≡ all_term_faults at es
terms_bare at es = flat_bare bare_term (λ e. term_faults (bare_scope at) e) (λ e. term_faults at e) es (term_bare at)

-- with keys and values
no_such_table_bare : (schema : List Declaration) (t : Ident) → no_table (bare_schema schema) (bare t) ≡ no_table schema t
no_such_table_bare schema t = ap (λ b. fault_if b t.spot Unknown) (no_table_bare schema t)

at_table_bare : (schema : List Declaration) (t : Ident) (p q : Declaration → List Refusal) → ((d : Declaration) → p (bare_table d) ≡ q d)
    → at_table (table_of (bare_schema schema) (bare t)) (bare t) p ≡ at_table (table_of schema t) t q
at_table_bare schema t p q same = ap (λ o. at_table o (bare t) p) (table_bare schema t) ∙ by_cases (table_of schema t) where
  by_cases : (o : Option Declaration) → at_table (option_map bare_table o) (bare t) p ≡ at_table o t q
  by_cases None = refl
  by_cases (Some d) = same d

count_bare : (names : List Ident) (es : List Term) (t : Ident) → count_faults (map bare names) (map bare_term es) (bare t) ≡ count_faults names es t
count_bare names es t = (λ i. fault_if (not (length-map names bare i == length-map es bare_term i)) t.spot Typing)

one_type_bare : (at : Scope) (d : Declaration) (place : Option Spot) (column : Ident) (e : Term)
    → type_faults (bare_scope at) (bare_table d) place (bare column) (bare_term e) ≡ type_faults at d place column e
one_type_bare at d None column e = (λ i. fault_if (are_apart (own_type d column i) (type_bare at e i)) (spot_bare e i) Typing)
one_type_bare at d (Some spot) column e = (λ i. fault_if (are_apart (own_type d column i) (type_bare at e i)) spot Typing)

types_bare : (at : Scope) (d : Declaration) (place : Option Spot) (names : List Ident) (es : List Term)
    → each_type_faults (bare_scope at) (bare_table d) place (map bare names) (map bare_term es) ≡ each_type_faults at d place names es
types_bare at d place [] es = refl
types_bare at d place (x ∷ xs) [] = refl
types_bare at d place (x ∷ xs) (e ∷ es) = (λ i. one_type_bare at d place x e i ++ types_bare at d place xs es i)

values_bare : (at : Scope) (d : Declaration) (names : List Ident) (es : List Term) (t : Ident)
    → value_list_faults (bare_scope at) (bare_table d) (map bare names) (map bare_term es) (bare t) ≡ value_list_faults at d names es t
values_bare at d names es t = (λ i. count_bare names es t i ++ types_bare at d None names es i)

all_values_bare : (at : Scope) (d : Declaration) (es : List Term) (t : Ident)
    → value_list_faults (bare_scope at) (bare_table d) (column_names (bare_table d)) (map bare_term es) (bare t) ≡ value_list_faults at d (column_names d) es t
all_values_bare at d es t = ap (λ names. value_list_faults (bare_scope at) (bare_table d) names (map bare_term es) (bare t)) (columns_bare d) ∙ values_bare at d (column_names d) es t

-- a table that draws its keys, and the columns but the key
any_drawn_bare : (d : Declaration) (cs : List Column) → list_any (λ c. is_drawn c.merge && is_key (bare_table d) c.name) (map bare_column cs) ≡ list_any (λ c. is_drawn c.merge && is_key d c.name) cs
any_drawn_bare d [] = refl
any_drawn_bare d (c ∷ cs) = (λ i. (is_drawn c.merge && key_bare d c.name i) || any_drawn_bare d cs i)

kind_bare : (d : Declaration) (act : Act) (t : Ident) → kind_faults (bare_table d) act (bare t) ≡ kind_faults d act t
kind_bare d act t = (λ i. fault_if (not (kind_allows d.kind act && keys_allow (any_drawn_bare d d.columns i) act)) t.spot Kind)

outside_bare : (d : Declaration) (names : List Ident) → filter (λ name. not (is_key (bare_table d) name)) (map bare names) ≡ map bare (filter (λ name. not (is_key d name)) names)
outside_bare d [] = refl
outside_bare d (x ∷ xs) = by (is_key (bare_table d) (bare x)) (is_key d x) (key_bare d x) (outside_bare d xs)
  where
    by : (b c : Bool) → b ≡ c → filter (λ name. not (is_key (bare_table d) name)) (map bare xs) ≡ map bare (filter (λ name. not (is_key d name)) xs)
        → (if not b then bare x ∷ filter (λ name. not (is_key (bare_table d) name)) (map bare xs) else filter (λ name. not (is_key (bare_table d) name)) (map bare xs))
        ≡ map bare (if not c then x ∷ filter (λ name. not (is_key d name)) xs else filter (λ name. not (is_key d name)) xs)
    by true true e ih = ih
    by false false e ih = ap (λ l. bare x ∷ l) ih
    by true false e ih = absurd cc
    by false true e ih = absurd cc

drawn_bare : (at : Scope) (d : Declaration) (es : List Term) (t : Ident) → drawn_faults (bare_scope at) (bare_table d) (map bare_term es) (bare t) ≡ drawn_faults at d es t
drawn_bare at d es t =
    ap (λ names. count_faults names (map bare_term es) (bare t) ++ each_type_faults (bare_scope at) (bare_table d) (Some t.spot) names (map bare_term es))
    (ap (filter (λ name. not (is_key (bare_table d) name))) (columns_bare d) ∙ outside_bare d (column_names d))
    ∙ (λ i. count_bare (drawn_columns d) es t i ++ types_bare at d (Some t.spot) (drawn_columns d) es i)

set_bare : (at : Scope) (d : Declaration) (set : Ident × Term) → set_faults (bare_scope at) (bare_table d) (bare_set set) ≡ set_faults at d set
set_bare at d set = (λ i. no_column_bare d set.0 i ++ fault_if (key_bare d set.0 i) set.0.spot Typing ++ one_type_bare at d None set.0 set.1 i)

sets_bare : (at : Scope) (t : Ident) (d : Declaration) (ss : List (Ident × Term)) → sets_faults (bare_scope at) (bare t) (bare_table d) (map bare_set ss) ≡ sets_faults at t d ss
sets_bare at t d ss =
    flat_bare bare_set (λ set. set_faults (updating (bare_scope at) (bare t)) (bare_table d) set) (λ set. set_faults (updating at t) d set) ss (set_bare (updating at t) d)

-- of statements
assignment_bare : (at : Scope) (m : Option Meaning) (x : Ident) (e : Term) → assignment_faults (bare_scope at) (option_map bare_meaning m) (bare x) (bare_term e) ≡ assignment_faults at m x e
assignment_bare at None x e = refl
assignment_bare at (Some (Parameter ty)) x e = refl
assignment_bare at (Some (Local ty)) x e = (λ i. fault_if (are_apart ty (type_bare at e i)) (spot_bare e i) Typing)
assignment_bare at (Some (Row table)) x e = refl
assignment_bare at (Some Constant) x e = refl

walk_bare : (m : Option Meaning) (l : Ident) → walk_faults (option_map bare_meaning m) (bare l) ≡ walk_faults m l
walk_bare None l = refl
walk_bare (Some (Parameter ty)) l = refl
walk_bare (Some (Local ty)) l = refl
walk_bare (Some (Row table)) l = refl
walk_bare (Some Constant) l = refl

declared_type_bare : (at : Scope) (e : Term) → declared_type (bare_scope at) (bare_term e) ≡ declared_type at e
declared_type_bare at e = (λ i. type_if_right (term_bare at e i) (type_bare at e i))

behind_bare : (at : Scope) (c : Command) → behind (bare_scope at) (bare_command c) ≡ bare_scope (behind at c)
behind_bare at (Declare x e) = ap (λ ty. knowing (bare_scope at) (bare x) (Local ty)) (declared_type_bare at e)
behind_bare at (Assign x e) = refl
behind_bare at (Fetch r t k) = refl
behind_bare at (Choose c ys ns) = refl
behind_bare at (ForRows r t c body) = refl
behind_bare at (ForEach x l body) = refl
behind_bare at (Insert t vs) = refl
behind_bare at (Fresh x t vs) = refl
behind_bare at (Update t k ss) = refl
behind_bare at (Remove t k) = refl
behind_bare at (Abort n) = refl
behind_bare at (Reply e) = refl

fetch_bare : (at : Scope) (t : Ident) (k : List Term)
    → at_table (table_of (bare_schema at.schema) (bare t)) (bare t) (λ d. value_list_faults (bare_scope at) d d.key (map bare_term k) (bare t))
    ≡ at_table (table_of at.schema t) t (λ d. value_list_faults at d d.key k t)
fetch_bare at t k = at_table_bare at.schema t (λ d. value_list_faults (bare_scope at) d d.key (map bare_term k) (bare t)) (λ d. value_list_faults at d d.key k t) (λ d. values_bare at d d.key k t)

command_bare : (at : Scope) (c : Command) → command_faults (bare_scope at) (bare_command c) ≡ command_faults at c
command_bare at (Declare x e) = term_bare at e
command_bare at (Assign x e) =
    let own = ap (λ m. assignment_faults (bare_scope at) m (bare x) (bare_term e)) (meaning_bare at x) ∙ assignment_bare at (meaning_of at x) x e in
    (λ i. own i ++ term_bare at e i)
command_bare at (Fetch r t k) = (λ i. fetch_bare at t k i ++ terms_bare at k i)
command_bare at (Choose c ys ns) = test_bare at c
command_bare at (ForRows r t c body) = (λ i. no_such_table_bare at.schema t i ++ condition_bare (knowing at r (Row t)) c i)
command_bare at (ForEach x l body) = ap (λ m. walk_faults m (bare l)) (meaning_bare at l) ∙ walk_bare (meaning_of at l) l
command_bare at (Insert t vs) =
    let own = at_table_bare at.schema t (λ d. kind_faults d acts.Insert (bare t) ++ value_list_faults (bare_scope at) d (column_names d) (map bare_term vs) (bare t))
    (λ d. kind_faults d acts.Insert t ++ value_list_faults at d (column_names d) vs t) (λ d. (λ i. kind_bare d acts.Insert t i ++ all_values_bare at d vs t i)) in
    (λ i. own i ++ terms_bare at vs i)
command_bare at (Fresh x t vs) =
    let own = at_table_bare at.schema t (λ d. kind_faults d acts.Fresh (bare t) ++ drawn_faults (bare_scope at) d (map bare_term vs) (bare t))
    (λ d. kind_faults d acts.Fresh t ++ drawn_faults at d vs t) (λ d. (λ i. kind_bare d acts.Fresh t i ++ drawn_bare at d vs t i)) in
    (λ i. own i ++ terms_bare at vs i)
command_bare at (Update t k ss) =
    let own = at_table_bare at.schema t (λ d. kind_faults d acts.Update (bare t) ++ value_list_faults (bare_scope at) d d.key (map bare_term k) (bare t) ++ sets_faults (bare_scope at) (bare t) d (map bare_set ss))
    (λ d. kind_faults d acts.Update t ++ value_list_faults at d d.key k t ++ sets_faults at t d ss)
    (λ d. (λ i. kind_bare d acts.Update t i ++ values_bare at d d.key k t i ++ sets_bare at t d ss i)) in
    let names : repeats (map (λ (s : Ident × Term). s.0) (map bare_set ss)) ≡ repeats (map (λ (s : Ident × Term). s.0) ss) =
    ap repeats (map_same bare_set (λ (s : Ident × Term). s.0) (λ s. bare s.0) ss (λ s. refl) ∙ sym (map_map (λ (s : Ident × Term). s.0) bare ss)) ∙ repeats_bare (map (λ (s : Ident × Term). s.0) ss) in
    let values = flat_bare bare_set (λ s. term_faults (updating (bare_scope at) (bare t)) s.1) (λ s. term_faults (updating at t) s.1) ss (λ s. term_bare (updating at t) s.1) in
    (λ i. own i ++ terms_bare at k i ++ names i ++ values i)
command_bare at (Remove t k) =
    let own = at_table_bare at.schema t (λ d. kind_faults d acts.Remove (bare t) ++ value_list_faults (bare_scope at) d d.key (map bare_term k) (bare t))
    (λ d. kind_faults d acts.Remove t ++ value_list_faults at d d.key k t) (λ d. (λ i. kind_bare d acts.Remove t i ++ values_bare at d d.key k t i)) in
    (λ i. own i ++ terms_bare at k i)
command_bare at (Abort n) = refl
command_bare at (Reply e) = term_bare at e

mutual
  inner_bare : (at : Scope) (c : Command) → inner_faults (bare_scope at) (bare_command c) ≡ inner_faults at c
  inner_bare at (Declare x e) = refl
  inner_bare at (Assign x e) = refl
  inner_bare at (Fetch r t k) = refl
  inner_bare at (Choose c ys ns) = (λ i. block_bare at ys i ++ block_bare at ns i)
  inner_bare at (ForRows r t c body) = block_bare (knowing at r (Row t)) body
  inner_bare at (ForEach x l body) = block_bare (knowing at x Constant) body
  inner_bare at (Insert t vs) = refl
  inner_bare at (Fresh x t vs) = refl
  inner_bare at (Update t k ss) = refl
  inner_bare at (Remove t k) = refl
  inner_bare at (Abort n) = refl
  inner_bare at (Reply e) = refl

  block_bare : (at : Scope) (b : Block) → block_faults (bare_scope at) (bare_block b) ≡ block_faults at b
  block_bare at Finish = refl
  block_bare at (Then c rest) =
      let more : block_faults (behind (bare_scope at) (bare_command c)) (bare_block rest) ≡ block_faults (behind at c) rest =
      ap (λ there. block_faults there (bare_block rest)) (behind_bare at c) ∙ block_bare (behind at c) rest in
      (λ i. command_bare at c i ++ inner_bare at c i ++ more i)

-- names that are declared
abbrev pub bare_declared : Declared → Declared
bare_declared d = record { name = bare d.name; table = option_map bare d.table }

declared_bare : (c : Command) → declared_by (bare_command c) ≡ map bare_declared (declared_by c)
declared_bare (Declare x e) = refl
declared_bare (Assign x e) = refl
declared_bare (Fetch r t k) = refl
declared_bare (Choose c ys ns) = refl
declared_bare (ForRows r t c body) = refl
declared_bare (ForEach x l body) = refl
declared_bare (Insert t vs) = refl
declared_bare (Fresh x t vs) = refl
declared_bare (Update t k ss) = refl
declared_bare (Remove t k) = refl
declared_bare (Abort n) = refl
declared_bare (Reply e) = refl

mutual
  inner_statements_bare : (c : Command) → inner_statements (bare_command c) ≡ map bare_command (inner_statements c)
  inner_statements_bare (Declare x e) = refl
  inner_statements_bare (Assign x e) = refl
  inner_statements_bare (Fetch r t k) = refl
  inner_statements_bare (Choose c ys ns) = (λ i. statements_bare ys i ++ statements_bare ns i) ∙ sym (map-append bare_command (block_statements ys) (block_statements ns))
  inner_statements_bare (ForRows r t c body) = statements_bare body
  inner_statements_bare (ForEach x l body) = statements_bare body
  inner_statements_bare (Insert t vs) = refl
  inner_statements_bare (Fresh x t vs) = refl
  inner_statements_bare (Update t k ss) = refl
  inner_statements_bare (Remove t k) = refl
  inner_statements_bare (Abort n) = refl
  inner_statements_bare (Reply e) = refl

  statements_bare : (b : Block) → block_statements (bare_block b) ≡ map bare_command (block_statements b)
  statements_bare Finish = refl
  statements_bare (Then c rest) =
      (λ i. (bare_command c ∷ inner_statements_bare c i) ++ statements_bare rest i) ∙ sym (map-append bare_command (c ∷ inner_statements c) (block_statements rest))

flat_declared : (cs : List Command) → flat_map declared_by (map bare_command cs) ≡ map bare_declared (flat_map declared_by cs)
flat_declared [] = refl
flat_declared (c ∷ cs) = (λ i. declared_bare c i ++ flat_declared cs i) ∙ sym (map-append bare_declared (declared_by c) (flat_map declared_by cs))

pub declares_bare : (txn : Transaction) → declares (bare_txn txn) ≡ map bare_declared (declares txn)
declares_bare txn =
    let front : map (λ (p : Ident × Ty). plain_name p.0) (map bare_param txn.params) ≡ map bare_declared (map (λ (p : Ident × Ty). plain_name p.0) txn.params) =
    map_same bare_param (λ (p : Ident × Ty). plain_name p.0) (λ p. plain_name (bare p.0)) txn.params (λ p. refl)
    ∙ sym (map_same (λ (p : Ident × Ty). plain_name p.0) bare_declared (λ p. plain_name (bare p.0)) txn.params (λ p. refl)) in
    let back : flat_map declared_by (block_statements (bare_block txn.body)) ≡ map bare_declared (flat_map declared_by (block_statements txn.body)) =
    ap (flat_map declared_by) (statements_bare txn.body) ∙ flat_declared (block_statements txn.body) in
    (λ i. front i ++ back i) ∙ sym (map-append bare_declared (map (λ (p : Ident × Ty). plain_name p.0) txn.params) (flat_map declared_by (block_statements txn.body)))

pub names_bare : (txn : Transaction) → names_of (bare_txn txn) ≡ map bare (names_of txn)
names_bare txn =
    ap (map (λ (d : Declared). d.name)) (declares_bare txn) ∙ map_same bare_declared (λ (d : Declared). d.name) (λ d. bare d.name) (declares txn) (λ d. refl)
    ∙ sym (map_map (λ (d : Declared). d.name) bare (declares txn))

map_reverse : {A B : Type 0} (f : A → B) (xs : List A) → map f (reverse xs) ≡ reverse (map f xs)
map_reverse f [] = refl
map_reverse f (x ∷ xs) =
    ap (map f) (reverse-append (x ∷ []) xs) ∙ map-append f (reverse xs) (x ∷ []) ∙ ap (λ l. l ++ f x ∷ []) (map_reverse f xs) ∙ sym (reverse-append (f x ∷ []) (map f xs))

opening_bare : (schema : List Declaration) (params : List (Ident × Ty)) → opening (bare_schema schema) (map bare_param params) ≡ bare_scope (opening schema params)
opening_bare schema params =
    let known : reverse (map parameter (map bare_param params)) ≡ map bare_known (reverse (map parameter params)) =
    ap reverse (map_same bare_param parameter (λ p. bare_known (parameter p)) params (λ p. refl) ∙ sym (map_map parameter bare_known params))
    ∙ sym (map_reverse bare_known (map parameter params)) in
    ap (λ (k : List Known). let s : Scope = record { schema = bare_schema schema; known = k; updated = None } in s) known

one_txn_bare : (schema : List Declaration) (txn : Transaction) → txn_faults (bare_schema schema) (bare_txn txn) ≡ txn_faults schema txn
one_txn_bare schema txn =
    let names : repeats (names_of (bare_txn txn)) ≡ repeats (names_of txn) = ap repeats (names_bare txn) ∙ repeats_bare (names_of txn) in
    let body : block_faults (opening (bare_schema schema) (map bare_param txn.params)) (bare_block txn.body) ≡ block_faults (opening schema txn.params) txn.body =
    ap (λ at. block_faults at (bare_block txn.body)) (opening_bare schema txn.params) ∙ block_bare (opening schema txn.params) txn.body in
    (λ i. names i ++ body i)

-- the same is wrong, whatever the numbers are
pub txns_bare : (schema : List Declaration) (txns : List Transaction) → txns_faults (bare_schema schema) (bare_txns txns) ≡ txns_faults schema txns
txns_bare schema txns =
    let names : repeats (map (λ (t : Transaction). t.name) (bare_txns txns)) ≡ repeats (map (λ (t : Transaction). t.name) txns) =
    ap repeats (map_same bare_txn (λ (t : Transaction). t.name) (λ t. bare t.name) txns (λ t. refl) ∙ sym (map_map (λ (t : Transaction). t.name) bare txns)) ∙ repeats_bare (map (λ (t : Transaction). t.name) txns) in
    let each = flat_bare bare_txn (λ txn. txn_faults (bare_schema schema) txn) (λ txn. txn_faults schema txn) txns (one_txn_bare schema) in
    (λ i. names i ++ each i)

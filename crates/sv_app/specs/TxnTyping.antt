-- What is wrong with the names and types of transactions: each rule says where it is broken. With what is wrong in the schema it is one list.
use Rattle.std.specs.Prelude.{Bool, true, false, List, [], ◌∷◌, ◌++◌, length, map, Option, Some, None, ◌==◌, ◌&&◌, ◌||◌, not}
use Rattle.std.specs.List.{flat_map, filter}
use Rattle.std.specs.Option.{is_none, option_map}
use Rattle.sv_value.specs.declared.spots.Spot.{Spot}
use Rattle.sv_app.specs.declared.acts.Act.{Act}
use Rattle.sv_app.specs.declared.acts.Act.TheVariants as acts
use Rattle.sv_app.specs.declared.apps.Ident.{Ident}
use Rattle.sv_app.specs.declared.names.Meaning.{Meaning}
use Rattle.sv_app.specs.declared.names.Meaning.TheVariants.{Parameter, Variable as Local, Row, Constant}
use Rattle.sv_app.specs.declared.refusals.Code.TheVariants.{Unknown, Kind, Typing}
use Rattle.sv_app.specs.declared.refusals.Refusal.{Refusal}
use Rattle.sv_app.specs.declared.schemas.Ty.{Ty}
use Rattle.sv_app.specs.declared.schemas.Ty.TheVariants.{Int, Text, Ints}
use Rattle.sv_app.specs.declared.txns.Rel.{Rel}
use Rattle.sv_app.specs.declared.txns.Rel.TheVariants.{Eq, Ne, Lt, Le, Gt, Ge}
use Rattle.sv_app.specs.Kinds.{allows}
use Rattle.sv_app.specs.Lookups.{column_of, table_of, is_key, holds_of, column_names}
use Rattle.sv_app.specs.Schema.{Declaration}
use Rattle.sv_app.specs.Scopes.{Scope, meaning_of, knowing, updating, opening}
use Rattle.sv_app.specs.TermTypes.{type_of, spot_of, are_apart}
use Rattle.sv_app.specs.Trees.{
  Term,
  Number,
  Words,
  Variable,
  Field,
  Old,
  Minus,
  Sum,
  Difference,
  Product,
  Test,
  Compare,
  Negation,
  Both,
  Either,
  Command,
  Declare,
  Assign,
  Fetch,
  Choose,
  ForRows,
  ForEach,
  Insert,
  Fresh,
  Update,
  Remove,
  Abort,
  Reply,
  Block,
  Finish,
  Then,
  Transaction,
}
use Rattle.sv_app.specs.TxnNames.{names_of}
use Rattle.sv_app.specs.Typing.{fault_if, is_text, repeats, no_column, faults}

-- a list parameter or a row
abbrev pub is_no_value : Meaning → Bool
is_no_value (Parameter Int) = false
is_no_value (Parameter Text) = false
is_no_value (Parameter Ints) = true
is_no_value (Local ty) = false
is_no_value (Row table) = true
is_no_value Constant = false

-- a name that stands for nothing, or for no value, at the name
abbrev pub value_faults : Option Meaning → Ident → List Refusal
value_faults meaning name = fault_if (is_none meaning) name.spot Unknown ++ fault_if (holds_of meaning is_no_value) name.spot Typing

-- a name that is no column of the table of that name, at the name; nothing where there is no such table
abbrev pub no_column_of : List Declaration → Ident → Ident → List Refusal
no_column_of schema table name = fault_if (holds_of (table_of schema table) (λ t. is_none (column_of t name))) name.spot Unknown

-- a field of a name that stands for nothing, or for no row, at that name; of a row, a name that is no column
abbrev pub field_faults : Scope → Option Meaning → Ident → Ident → List Refusal
field_faults at None row name = fault_if true row.spot Unknown
field_faults at (Some (Parameter ty)) row name = fault_if true row.spot Typing
field_faults at (Some (Local ty)) row name = fault_if true row.spot Typing
field_faults at (Some (Row table)) row name = no_column_of at.schema table name
field_faults at (Some Constant) row name = fault_if true row.spot Typing

-- `old` outside the expressions behind `set`, at its place; there, a name that is no column
abbrev pub old_faults : Scope → Option Ident → Ident → Spot → List Refusal
old_faults at None name spot = fault_if true spot Typing
old_faults at (Some table) name spot = no_column_of at.schema table name

-- a text in arithmetic, at the text
abbrev pub operand_faults : Scope → Term → List Refusal
operand_faults at a = fault_if (holds_of (type_of at a) is_text) (spot_of a) Typing

abbrev pub term_faults : Scope → Term → List Refusal
term_faults at (Number n s) = []
term_faults at (Words t s) = []
term_faults at (Variable x s) = value_faults (meaning_of at x) x
term_faults at (Field r c s) = field_faults at (meaning_of at r) r c
term_faults at (Old c s) = old_faults at at.updated c s
term_faults at (Minus a s) = operand_faults at a ++ term_faults at a
term_faults at (Sum a b s) = operand_faults at a ++ operand_faults at b ++ term_faults at a ++ term_faults at b
term_faults at (Difference a b s) = operand_faults at a ++ operand_faults at b ++ term_faults at a ++ term_faults at b
term_faults at (Product a b s) = operand_faults at a ++ operand_faults at b ++ term_faults at a ++ term_faults at b

abbrev pub is_order : Rel → Bool
is_order Eq = false
is_order Ne = false
is_order Lt = true
is_order Le = true
is_order Gt = true
is_order Ge = true

-- an order relation on a text, and a comparison of an integer with a text, at the first token
abbrev pub comparison_faults : Scope → Term → Rel → Term → List Refusal
comparison_faults at a rel b =
    fault_if (is_order rel && (holds_of (type_of at a) is_text || holds_of (type_of at b) is_text)) (spot_of a) Typing
    ++ fault_if (are_apart (type_of at a) (type_of at b)) (spot_of a) Typing

abbrev pub test_faults : Scope → Test → List Refusal
test_faults at (Compare a rel b) = comparison_faults at a rel b ++ term_faults at a ++ term_faults at b
test_faults at (Negation t) = test_faults at t
test_faults at (Both t u) = test_faults at t ++ test_faults at u
test_faults at (Either t u) = test_faults at t ++ test_faults at u

abbrev pub condition_faults : Scope → Option Test → List Refusal
condition_faults at None = []
condition_faults at (Some t) = test_faults at t

abbrev pub all_term_faults : Scope → List Term → List Refusal
all_term_faults at terms = flat_map (λ e. term_faults at e) terms

-- a name that is no table, at the name
abbrev pub no_table : List Declaration → Ident → List Refusal
no_table schema name = fault_if (is_none (table_of schema name)) name.spot Unknown

-- the same, and of a table what the rule says
abbrev pub at_table : Option Declaration → Ident → (Declaration → List Refusal) → List Refusal
at_table None name rule = fault_if true name.spot Unknown
at_table (Some t) name rule = rule t

-- a statement that the table's kind doesn't allow, at the table's name
abbrev pub kind_faults : Declaration → Act → Ident → List Refusal
kind_faults t act name = fault_if (not (allows t act)) name.spot Kind

-- a wrong number of keys or values, at the table's name
abbrev pub count_faults : List Ident → List Term → Ident → List Refusal
count_faults columns terms name = fault_if (not (length columns == length terms)) name.spot Typing

-- a value of another type than the column's, at the value, or at a place that stands for all of them
abbrev pub place_for : Option Spot → Term → Spot
place_for None e = spot_of e
place_for (Some spot) e = spot

abbrev pub type_faults : Scope → Declaration → Option Spot → Ident → Term → List Refusal
type_faults at t place column e = fault_if (are_apart (option_map (λ c. c.ty) (column_of t column)) (type_of at e)) (place_for place e) Typing

abbrev pub each_type_faults : Scope → Declaration → Option Spot → List Ident → List Term → List Refusal
each_type_faults at t place [] terms = []
each_type_faults at t place (column ∷ columns) [] = []
each_type_faults at t place (column ∷ columns) (e ∷ terms) = type_faults at t place column e ++ each_type_faults at t place columns terms

-- the values of these columns of a table
abbrev pub value_list_faults : Scope → Declaration → List Ident → List Term → Ident → List Refusal
value_list_faults at t columns terms name = count_faults columns terms name ++ each_type_faults at t None columns terms

-- the columns but the key, whose values a `fresh` gives
abbrev pub drawn_columns : Declaration → List Ident
drawn_columns t = filter (λ name. not (is_key t name)) (column_names t)

-- a wrong number or type of the values of a `fresh`, at the table's name
abbrev pub drawn_faults : Scope → Declaration → List Term → Ident → List Refusal
drawn_faults at t terms name = count_faults (drawn_columns t) terms name ++ each_type_faults at t (Some name.spot) (drawn_columns t) terms

-- a name behind `set` that is no column, or one of the key, at the name; a value of another type
abbrev pub set_faults : Scope → Declaration → Ident × Term → List Refusal
set_faults at t set = no_column t set.0 ++ fault_if (is_key t set.0) set.0.spot Typing ++ type_faults at t None set.0 set.1

abbrev pub sets_faults : Scope → Ident → Declaration → List (Ident × Term) → List Refusal
sets_faults at name t sets = flat_map (λ set. set_faults (updating at name) t set) sets

-- an assignment to a name that stands for nothing, or for no variable, at the name; of another type, at the expression
abbrev pub assignment_faults : Scope → Option Meaning → Ident → Term → List Refusal
assignment_faults at None name e = fault_if true name.spot Unknown
assignment_faults at (Some (Parameter ty)) name e = fault_if true name.spot Typing
assignment_faults at (Some (Local ty)) name e = fault_if (are_apart ty (type_of at e)) (spot_of e) Typing
assignment_faults at (Some (Row table)) name e = fault_if true name.spot Typing
assignment_faults at (Some Constant) name e = fault_if true name.spot Typing

abbrev pub is_list : Meaning → Bool
is_list (Parameter Int) = false
is_list (Parameter Text) = false
is_list (Parameter Ints) = true
is_list (Local ty) = false
is_list (Row table) = false
is_list Constant = false

-- `each` over a name that stands for nothing, or for no list parameter, at the name
abbrev pub walk_faults : Option Meaning → Ident → List Refusal
walk_faults meaning name = fault_if (is_none meaning) name.spot Unknown ++ fault_if (holds_of meaning (λ m. not (is_list m))) name.spot Typing

-- the type of a variable that is declared: none where something is wrong with its expression
abbrev pub type_if_right : List Refusal → Option Ty → Option Ty
type_if_right [] ty = ty
type_if_right (fault ∷ faults) ty = None

abbrev pub declared_type : Scope → Term → Option Ty
declared_type at e = type_if_right (term_faults at e) (type_of at e)

-- what may be used behind a statement: a name that it declares is usable from there on in its block
abbrev pub behind : Scope → Command → Scope
behind at (Declare x e) = knowing at x (Local (declared_type at e))
behind at (Assign x e) = at
behind at (Fetch r t k) = knowing at r (Row t)
behind at (Choose c ys ns) = at
behind at (ForRows r t c body) = at
behind at (ForEach x l body) = at
behind at (Insert t vs) = at
behind at (Fresh x t vs) = knowing at x Constant
behind at (Update t k ss) = at
behind at (Remove t k) = at
behind at (Abort n) = at
behind at (Reply e) = at

-- what is wrong in a statement, the blocks in it left out
abbrev pub command_faults : Scope → Command → List Refusal
command_faults at (Declare x e) = term_faults at e
command_faults at (Assign x e) = assignment_faults at (meaning_of at x) x e ++ term_faults at e
command_faults at (Fetch r t k) = at_table (table_of at.schema t) t (λ d. value_list_faults at d d.key k t) ++ all_term_faults at k
command_faults at (Choose c ys ns) = test_faults at c
command_faults at (ForRows r t c body) = no_table at.schema t ++ condition_faults (knowing at r (Row t)) c
command_faults at (ForEach x l body) = walk_faults (meaning_of at l) l
command_faults at (Insert t vs) =
    at_table (table_of at.schema t) t (λ d. kind_faults d acts.Insert t ++ value_list_faults at d (column_names d) vs t) ++ all_term_faults at vs
command_faults at (Fresh x t vs) =
    at_table (table_of at.schema t) t (λ d. kind_faults d acts.Fresh t ++ drawn_faults at d vs t) ++ all_term_faults at vs
command_faults at (Update t k ss) =
    at_table (table_of at.schema t) t (λ d. kind_faults d acts.Update t ++ value_list_faults at d d.key k t ++ sets_faults at t d ss)
    ++ all_term_faults at k ++ repeats (map (λ s. s.0) ss) ++ flat_map (λ s. term_faults (updating at t) s.1) ss
command_faults at (Remove t k) =
    at_table (table_of at.schema t) t (λ d. kind_faults d acts.Remove t ++ value_list_faults at d d.key k t) ++ all_term_faults at k
command_faults at (Abort n) = []
command_faults at (Reply e) = term_faults at e

-- and in the blocks: the variable of a loop may be used in its body
abbrev mutual
  pub inner_faults : Scope → Command → List Refusal
  inner_faults at (Declare x e) = []
  inner_faults at (Assign x e) = []
  inner_faults at (Fetch r t k) = []
  inner_faults at (Choose c ys ns) = block_faults at ys ++ block_faults at ns
  inner_faults at (ForRows r t c body) = block_faults (knowing at r (Row t)) body
  inner_faults at (ForEach x l body) = block_faults (knowing at x Constant) body
  inner_faults at (Insert t vs) = []
  inner_faults at (Fresh x t vs) = []
  inner_faults at (Update t k ss) = []
  inner_faults at (Remove t k) = []
  inner_faults at (Abort n) = []
  inner_faults at (Reply e) = []

  pub block_faults : Scope → Block → List Refusal
  block_faults at Finish = []
  block_faults at (Then c rest) = command_faults at c ++ inner_faults at c ++ block_faults (behind at c) rest

-- a name declared a second time in the transaction, at the second
abbrev pub txn_faults : List Declaration → Transaction → List Refusal
txn_faults schema txn = repeats (names_of txn) ++ block_faults (opening schema txn.params) txn.body

-- a second transaction of the same name, at its name, and what is wrong in each
abbrev pub txns_faults : List Declaration → List Transaction → List Refusal
txns_faults schema txns = repeats (map (λ txn. txn.name) txns) ++ flat_map (λ txn. txn_faults schema txn) txns

-- all that is wrong with names and types
abbrev pub all_faults : List Declaration → List Transaction → List Refusal
all_faults schema txns = faults schema ++ txns_faults schema txns

-- The numbers of names in transactions: that of a variable is the place of its name among those that the transaction declares, that of a column its
-- place in the table of the row or of the update, and those of tables and transactions are their places.
use Rattle.std.specs.Prelude.{List, [], map, Option, Some, None}
use Rattle.std.specs.List.{find}
use Rattle.std.specs.Option.{option_map, option_and_then}
use Rattle.sv_app.specs.declared.apps.Ident.{Ident}
use Rattle.sv_app.specs.declared.names.Declared.{Declared}
use Rattle.sv_app.specs.declared.schemas.Ty.{Ty}
use Rattle.sv_app.specs.Lookups.{is_named, table_of, table_names}
use Rattle.sv_app.specs.Numbers.{numbered_in, columns_meant}
use Rattle.sv_app.specs.Schema.{Declaration}
use Rattle.sv_app.specs.Trees.{
  Term,
  Number,
  Words,
  Variable,
  Field,
  Old,
  Minus,
  Sum,
  Difference,
  Product,
  Test,
  Compare,
  Negation,
  Both,
  Either,
  Command,
  Declare,
  Assign,
  Fetch,
  Choose,
  ForRows,
  ForEach,
  Insert,
  Fresh,
  Update,
  Remove,
  Abort,
  Reply,
  Block,
  Finish,
  Then,
  Transaction,
}
use Rattle.sv_app.specs.TxnNames.{declares}

-- the tables, the names that the transaction declares, and, behind `set`, the columns of the table that is updated
pub record Naming : Type 0 where
  pub schema : List Declaration
  pub names : List Declared
  pub updated : List Ident

-- the columns of the table of that name
abbrev pub columns_of : List Declaration → Option Ident → List Ident
columns_of schema None = []
columns_of schema (Some table) = columns_meant (table_of schema table)

-- the columns of the row of that name
abbrev pub columns_of_row : Naming → Ident → List Ident
columns_of_row by row = columns_of by.schema (option_and_then (λ d. d.table) (find (λ d. is_named d.name row) by.names))

abbrev pub numbered_table_name : Naming → Ident → Ident
numbered_table_name by name = numbered_in (table_names by.schema) name

abbrev pub numbered_name : Naming → Ident → Ident
numbered_name by name = numbered_in (map (λ d. d.name) by.names) name

abbrev pub numbered_term : Naming → Term → Term
numbered_term by (Number n s) = Number n s
numbered_term by (Words t s) = Words t s
numbered_term by (Variable x s) = Variable (numbered_name by x) s
numbered_term by (Field r c s) = Field (numbered_name by r) (numbered_in (columns_of_row by r) c) s
numbered_term by (Old c s) = Old (numbered_in by.updated c) s
numbered_term by (Minus a s) = Minus (numbered_term by a) s
numbered_term by (Sum a b s) = Sum (numbered_term by a) (numbered_term by b) s
numbered_term by (Difference a b s) = Difference (numbered_term by a) (numbered_term by b) s
numbered_term by (Product a b s) = Product (numbered_term by a) (numbered_term by b) s

abbrev pub numbered_test : Naming → Test → Test
numbered_test by (Compare a rel b) = Compare (numbered_term by a) rel (numbered_term by b)
numbered_test by (Negation t) = Negation (numbered_test by t)
numbered_test by (Both t u) = Both (numbered_test by t) (numbered_test by u)
numbered_test by (Either t u) = Either (numbered_test by t) (numbered_test by u)

abbrev pub numbered_terms : Naming → List Term → List Term
numbered_terms by terms = map (numbered_term by) terms

-- behind `set`, in an update of that table
abbrev pub updating : Naming → Ident → Naming
updating by table = record { schema = by.schema; names = by.names; updated = columns_of by.schema (Some table) }

abbrev pub numbered_set : Naming → Ident × Term → Ident × Term
numbered_set by set = (numbered_in by.updated set.0, numbered_term by set.1)

abbrev mutual
  pub numbered_command : Naming → Command → Command
  numbered_command by (Declare x e) = Declare (numbered_name by x) (numbered_term by e)
  numbered_command by (Assign x e) = Assign (numbered_name by x) (numbered_term by e)
  numbered_command by (Fetch r t k) = Fetch (numbered_name by r) (numbered_table_name by t) (numbered_terms by k)
  numbered_command by (Choose c ys ns) = Choose (numbered_test by c) (numbered_block by ys) (numbered_block by ns)
  numbered_command by (ForRows r t c body) = ForRows (numbered_name by r) (numbered_table_name by t) (option_map (numbered_test by) c) (numbered_block by body)
  numbered_command by (ForEach x l body) = ForEach (numbered_name by x) (numbered_name by l) (numbered_block by body)
  numbered_command by (Insert t vs) = Insert (numbered_table_name by t) (numbered_terms by vs)
  numbered_command by (Fresh x t vs) = Fresh (numbered_name by x) (numbered_table_name by t) (numbered_terms by vs)
  numbered_command by (Update t k ss) = Update (numbered_table_name by t) (numbered_terms by k) (map (numbered_set (updating by t)) ss)
  numbered_command by (Remove t k) = Remove (numbered_table_name by t) (numbered_terms by k)
  numbered_command by (Abort n) = Abort n
  numbered_command by (Reply e) = Reply (numbered_term by e)

  pub numbered_block : Naming → Block → Block
  numbered_block by Finish = Finish
  numbered_block by (Then c rest) = Then (numbered_command by c) (numbered_block by rest)

abbrev pub numbered_parameter : Naming → Ident × Ty → Ident × Ty
numbered_parameter by p = (numbered_name by p.0, p.1)

abbrev pub naming : List Declaration → Transaction → Naming
naming schema txn = record { schema = schema; names = declares txn; updated = [] }

abbrev pub txn_names : List Transaction → List Ident
txn_names txns = map (λ txn. txn.name) txns

abbrev pub numbered_txn : List Declaration → List Transaction → Transaction → Transaction
numbered_txn schema txns txn = record {
  name = numbered_in (txn_names txns) txn.name;
  params = map (numbered_parameter (naming schema txn)) txn.params;
  body = numbered_block (naming schema txn) txn.body;
}

abbrev pub numbered_txns : List Declaration → List Transaction → List Transaction
numbered_txns schema txns = map (numbered_txn schema txns) txns

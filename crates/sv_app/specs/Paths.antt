-- Paths of a unit: its statements along a list of choices, one for each comparison in its `if` conditions in order of evaluation, and the types of the
-- symbols that are brought in on the way.
use Rattle.std.specs.Prelude.{ℕ, suc, ◌==◌, ◌&&◌, ◌||◌, not, if◌then◌else◌, Bool, true, false, List, [], ◌∷◌, ◌++◌, Option, Some, None, slice_get}
use Rattle.std.specs.List.{list_any}
use Rattle.sv_app.specs.declared.apps.Ident.{Ident}
use Rattle.sv_app.specs.declared.instances.Source.{Source}
use Rattle.sv_app.specs.declared.instances.Source.TheVariants as sources
use Rattle.sv_app.specs.declared.schemas.Column.{Column}
use Rattle.sv_app.specs.declared.schemas.Merge.{Merge}
use Rattle.sv_app.specs.declared.schemas.Merge.TheVariants as merges
use Rattle.sv_app.specs.declared.schemas.Ty.{Ty}
use Rattle.sv_app.specs.declared.schemas.Ty.TheVariants as types
use Rattle.sv_app.specs.Schema.{Declaration}
use Rattle.sv_app.specs.Slots.{item, with_item}
use Rattle.sv_app.specs.Symbols.{is_known, is_factor, is_key_column, block_assigns, known_after}
use Rattle.sv_app.specs.Trees.{Term, Number, Words, Variable, Field, Old, Minus, Sum, Difference, Product, Test, Compare, Negation, Both, Either, Command, Declare, Assign, Fetch, Choose, ForRows, ForEach, Insert, Fresh, Update, Remove, Abort, Reply, Block, Finish, Then, Transaction}
use Rattle.sv_app.specs.Kinds.{is_grow_only}

-- the types of variables, and the tables of row variables, by the numbers of names
pub record Names : Type 0 where
  pub types : List Ty
  pub tables : List ℕ

abbrev pub columns_at : Option Declaration → List Column
columns_at None = []
columns_at (Some table) = table.columns

abbrev pub type_in : Option Column → Ty
type_in None = types.Int
type_in (Some column) = column.ty

abbrev pub column_type : List Declaration → ℕ → ℕ → Ty
column_type schema table c = type_in (slice_get (columns_at (slice_get schema table)) c)

-- the type of an expression; in an update of a table `old` is a row of it
abbrev pub type_of : List Declaration → Names → ℕ → Term → Ty
type_of schema names table (Words t at) = types.Text
type_of schema names table (Variable x at) = item types.Int names.types x.num
type_of schema names table (Field r c at) = column_type schema (item 0 names.tables r.num) c.num
type_of schema names table (Old c at) = column_type schema table c.num
type_of schema names table term = types.Int

abbrev pub with_type : ℕ → Ty → Names → Names
with_type x ty names = record names { types = with_item types.Int x ty names.types }

abbrev pub with_table : ℕ → ℕ → Names → Names
with_table r table names = record names { tables = with_item 0 r table names.tables }

-- with the names that statements declare, in the order of the text
abbrev mutual
  pub command_names : List Declaration → Command → Names → Names
  command_names schema (Declare x e) names = with_type x.num (type_of schema names 0 e) names
  command_names schema (Assign x e) names = names
  command_names schema (Fetch r t k) names = with_table r.num t.num names
  command_names schema (Choose c ys ns) names = block_names schema ns (block_names schema ys names)
  command_names schema (ForRows r t c body) names = block_names schema body (with_table r.num t.num names)
  command_names schema (ForEach x l body) names = block_names schema body (with_type x.num types.Int names)
  command_names schema (Insert t vs) names = names
  command_names schema (Fresh x t vs) names = with_type x.num types.Int names
  command_names schema (Update t k ss) names = names
  command_names schema (Remove t k) names = names
  command_names schema (Abort n) names = names
  command_names schema (Reply e) names = names

  pub block_names : List Declaration → Block → Names → Names
  block_names schema Finish names = names
  block_names schema (Then c b) names = block_names schema b (command_names schema c names)

abbrev pub parameter_types : List (Ident × Ty) → List Ty
parameter_types [] = []
parameter_types (p ∷ ps) = p.1 ∷ parameter_types ps

abbrev pub names_of : List Declaration → Transaction → Names
names_of schema txn = block_names schema txn.body (record { types = parameter_types txn.params; tables = [] })

-- on the way: the choices that are still to be taken, the sources that are known, and the types of the symbols so far
pub record Way : Type 0 where
  pub left : List Bool
  pub known : List Source
  pub known_old : List ℕ
  pub symbols : List Ty

abbrev pub put : Ty → Way → Way
put ty w = record w { symbols = w.symbols ++ ty ∷ [] }

abbrev pub brought : Source → Ty → Way → Way
brought source ty w = if is_known source w.known then w else put ty (record w { known = w.known ++ source ∷ [] })

abbrev pub brought_old : ℕ → Ty → Way → Way
brought_old c ty w = if list_any (λ d. c == d) w.known_old then w else put ty (record w { known_old = w.known_old ++ c ∷ [] })

abbrev pub term_way : List Declaration → Names → ℕ → Term → Way → Way
term_way schema names table (Number n at) w = w
term_way schema names table (Words t at) w = w
term_way schema names table (Variable x at) w = brought (sources.Variable x.num) (item types.Int names.types x.num) w
term_way schema names table (Field r c at) w = brought (sources.Column r.num c.num) (column_type schema (item 0 names.tables r.num) c.num) w
term_way schema names table (Old c at) w = brought_old c.num (column_type schema table c.num) w
term_way schema names table (Minus a at) w = term_way schema names table a w
term_way schema names table (Sum a b at) w = term_way schema names table b (term_way schema names table a w)
term_way schema names table (Difference a b at) w = term_way schema names table b (term_way schema names table a w)
term_way schema names table (Product a b at) w = let z = term_way schema names table b (term_way schema names table a w) in if is_factor a || is_factor b then z else put types.Int z

abbrev pub terms_way : List Declaration → Names → List Term → Way → Way
terms_way schema names [] w = w
terms_way schema names (e ∷ es) w = terms_way schema names es (term_way schema names 0 e w)

-- a condition along the choices: there are too few, or it holds or doesn't
pub data Tested : Type 0 where
  Short : Tested
  Tells : Bool → Way → Tested

abbrev pub then_tested : Tested → (Bool → Way → Tested) → Tested
then_tested Short go = Short
then_tested (Tells holds w) go = go holds w

abbrev pub next_choice : List Bool → Way → Tested
next_choice [] w = Short
next_choice (holds ∷ left) w = Tells holds (record w { left = left })

abbrev pub test_way : List Declaration → Names → Test → Way → Tested
test_way schema names (Compare a r b) w = let z = term_way schema names 0 b (term_way schema names 0 a w) in next_choice z.left z
test_way schema names (Negation t) w = then_tested (test_way schema names t w) (λ h z. Tells (not h) z)
test_way schema names (Both t q) w = then_tested (test_way schema names t w) (λ h y. then_tested (test_way schema names q y) (λ k z. Tells (h && k) z))
test_way schema names (Either t q) w = then_tested (test_way schema names t w) (λ h y. then_tested (test_way schema names q y) (λ k z. Tells (h || k) z))

abbrev pub merge_in : Option Column → Merge
merge_in None = merges.Plain
merge_in (Some column) = column.merge

-- after each set of a counter its value now
abbrev pub now_way : Merge → ℕ → Way → Way
now_way merges.NumDelta c w = brought_old c types.Int w
now_way merges.Plain c w = w
now_way merges.Lww c w = w
now_way merges.Fresh c w = w

abbrev pub sets_way : List Declaration → Names → ℕ → List (Ident × Term) → Way → Way
sets_way schema names table [] w = w
sets_way schema names table (set ∷ sets) w = sets_way schema names table sets (now_way (merge_in (slice_get (columns_at (slice_get schema table)) set.0.num)) set.0.num (term_way schema names table set.1 w))

-- the kept values of the counters of an insert, in column order; in a grow-only table nothing is kept
abbrev pub kept_way : Merge → Way → Way
kept_way merges.NumDelta w = put types.Int w
kept_way merges.Plain w = w
kept_way merges.Lww w = w
kept_way merges.Fresh w = w

abbrev pub columns_way : Declaration → ℕ → List Column → Way → Way
columns_way table c [] w = w
columns_way table c (column ∷ columns) w = columns_way table (suc c) columns (if is_key_column table.key c then w else kept_way column.merge w)

abbrev pub insert_way : Option Declaration → Way → Way
insert_way None w = w
insert_way (Some table) w = if is_grow_only table.kind then w else columns_way table 0 table.columns w

-- a path aborts, with the choices that are left there, or has too few choices, or leads on
pub data Path : Type 0 where
  Aborts : Way → Path
  TooFew : Path
  Leads : Way → Path

abbrev pub then_lead : Path → (Way → Path) → Path
then_lead (Aborts w) go = Aborts w
then_lead TooFew go = TooFew
then_lead (Leads w) go = go w

abbrev pub on_side : Tested → (Way → Path) → (Way → Path) → Path
on_side Short f g = TooFew
on_side (Tells true w) f g = f w
on_side (Tells false w) f g = g w

-- no column of a row that is updated is known, before an update and after it
abbrev pub forgetting : Way → Way
forgetting w = record w { known_old = [] }

-- the expression that a variable was given is its form; a drawn key is a symbol of its own, brought in last
abbrev pub formed : ℕ → Way → Way
formed x w = record w { known = w.known ++ sources.Variable x ∷ [] }

-- a loop only gives the variables that its body assigns new sources
abbrev pub after_loop : Block → Way → Path
after_loop body w = Leads (record w { known = known_after (block_assigns body) w.known })

abbrev mutual
  pub command_path : List Declaration → Names → Command → Way → Path
  command_path schema names (Declare x e) w = Leads (formed x.num (term_way schema names 0 e w))
  command_path schema names (Assign x e) w = Leads (formed x.num (term_way schema names 0 e w))
  command_path schema names (Fetch r t k) w = Leads (terms_way schema names k w)
  command_path schema names (Choose c ys ns) w = on_side (test_way schema names c w) (block_path schema names ys) (block_path schema names ns)
  command_path schema names (ForRows r t c body) w = after_loop body w
  command_path schema names (ForEach x l body) w = after_loop body w
  command_path schema names (Insert t vs) w = Leads (insert_way (slice_get schema t.num) (terms_way schema names vs w))
  command_path schema names (Fresh x t vs) w = Leads (formed x.num (put types.Int (terms_way schema names vs w)))
  command_path schema names (Update t k ss) w = Leads (forgetting (sets_way schema names t.num ss (forgetting (terms_way schema names k w))))
  command_path schema names (Remove t k) w = Leads (terms_way schema names k w)
  command_path schema names (Abort n) w = Aborts w
  command_path schema names (Reply e) w = Leads (term_way schema names 0 e w)

  pub block_path : List Declaration → Names → Block → Way → Path
  block_path schema names Finish w = Leads w
  block_path schema names (Then c b) w = then_lead (command_path schema names c w) (block_path schema names b)

-- a unit along these choices, from its begin
abbrev pub unit_path : List Declaration → Transaction → Block → List Bool → Path
unit_path schema txn body choices = block_path schema (names_of schema txn) body (record { left = choices; known = []; known_old = []; symbols = [] })

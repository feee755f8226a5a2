-- A run of an accepted transaction on arguments that fit, over no tables but its own rows: what holds wherever it stands, and what statements, blocks
-- and turns of loops make of that.
use Rattle.std.specs.Prelude.{ℤ, ◌≡◌, ◌⊎◌, ◌≤◌, ℕ, Bool, true, List, [], ◌∷◌, ◌++◌, length, map, Option, Some, None, slice_get}
use Rattle.std.specs.FinMap.{get}
use Rattle.std.specs.List.{All}
use Rattle.sv_value.specs.declared.values.Val.{Val}
use Rattle.sv_value.specs.declared.values.Val.TheVariants.{Int, Text as IsText}
use Rattle.sv_app.specs.declared.acts.Act.{Act}
use Rattle.sv_app.specs.declared.acts.Act.TheVariants as acts
use Rattle.sv_app.specs.declared.apps.Ident.{Ident}
use Rattle.sv_app.specs.declared.gots.Got.{Got}
use Rattle.sv_app.specs.declared.gots.Got.TheVariants as gots
use Rattle.sv_app.specs.declared.names.Known.{Known}
use Rattle.sv_app.specs.declared.names.Meaning.{Meaning}
use Rattle.sv_app.specs.declared.names.Meaning.TheVariants.{Parameter, Row as RowOf, Constant}
use Rattle.sv_app.specs.declared.places.Place.{Place}
use Rattle.sv_app.specs.declared.requests.Arg.{Arg}
use Rattle.sv_app.specs.declared.schemas.Column.{Column}
use Rattle.sv_app.specs.declared.schemas.Ty.{Ty}
use Rattle.sv_app.specs.declared.schemas.Ty.TheVariants as types
use Rattle.sv_app.specs.Accepted.{AcceptedApp}
use Rattle.sv_app.specs.Fitting.{ArgsFit}
use Rattle.sv_app.specs.Kinds.{allows}
use Rattle.sv_app.specs.Paths.{Names, Way, Path, Leads, columns_at, column_type, type_of, names_of, command_path, block_path}
use Rattle.sv_app.specs.Schema.{Declaration}
use Rattle.sv_app.specs.Scopes.{Scope, knowing}
use Rattle.sv_app.specs.Shaped.{Shaped}
use Rattle.sv_app.specs.Slots.{item}
use Rattle.sv_app.specs.Tables.{Row}
use Rattle.sv_app.specs.Trees.{
  Term,
  Number,
  Words,
  Variable,
  Field,
  Old,
  Minus,
  Sum,
  Difference,
  Product,
  Test,
  Compare,
  Negation,
  Both,
  Either,
  Command,
  Declare,
  Assign,
  Fetch,
  Choose,
  ForRows,
  ForEach,
  Insert,
  Fresh,
  Update,
  Remove,
  Abort,
  Reply,
  Block,
  Finish,
  Then,
  Transaction,
}
use Rattle.sv_app.specs.TxnTyping.{behind}
use Rattle.sv_app.specs.Units.{units, loop_variables, unit_of}
use Rattle.sv_effect.specs.Fits.{EffectFits}
use Rattle.sv_effect.specs.RowsFit.{KeyIsOf}
use Rattle.sv_effect.specs.Run.{Stand}
use Rattle.sv_effect.specs.RunChanges.{outside_key}
use Rattle.sv_effect.specs.RunValues.{nothing, Progress, Scope as Values}

-- a transaction of an application, arguments, and the first key that is drawn
pub record Frame : Type 0 where
  pub schema : List Declaration
  pub txns : List Transaction
  pub number : ℕ
  pub txn : Transaction
  pub args : List Arg
  pub first : ℤ

-- the application is accepted, and the arguments fit the parameters
pub record IsFrame (f : Frame) : Type 0 where
  pub accepted : AcceptedApp f.schema f.txns
  pub among : slice_get f.txns f.number ≡ Some f.txn
  pub fits : ArgsFit f.txn.params f.args

-- the types and tables of its names
abbrev pub names_in : Frame → Names
names_in f = names_of f.schema f.txn

abbrev pub type_of_val : Val → Ty
type_of_val (Int n) = types.Int
type_of_val (IsText text) = types.Text

abbrev pub type_of_got : Got → Ty
type_of_got (gots.Num n) = types.Int
type_of_got (gots.Text text) = types.Text

abbrev pub types_at : List Declaration → ℕ → List Ty
types_at schema table = map (λ c. c.ty) (columns_at (slice_get schema table))

-- what names stand for: a value, or a row
abbrev pub IsValue : Meaning → Type 0
IsValue (Parameter types.Ints) = ⊥
IsValue (RowOf table) = ⊥
IsValue _ = Unit {0}

abbrev pub IsRow : Meaning → Type 0
IsRow (RowOf table) = Unit {0}
IsRow _ = ⊥

-- one of the names has this number and such a meaning
abbrev pub Means : (Meaning → Type 0) → List Known → ℕ → Type 0
Means P [] x = ⊥
Means P (k ∷ ks) x = ((k.name.num ≡ x) × P k.meaning) ⊎ Means P ks x

-- an expression reads variables and rows that may be used, and `old` only in an update
abbrev pub Reads : Scope → Term → Type 0
Reads at (Number n s) = Unit {0}
Reads at (Words t s) = Unit {0}
Reads at (Variable x s) = Means IsValue at.known x.num
Reads at (Field r c s) = Means IsRow at.known r.num
Reads at (Old c s) = at.updated ≡ None → ⊥
Reads at (Minus a s) = Reads at a
Reads at (Sum a b s) = Reads at a × Reads at b
Reads at (Difference a b s) = Reads at a × Reads at b
Reads at (Product a b s) = Reads at a × Reads at b

abbrev pub AllRead : Scope → List Term → Type 0
AllRead at [] = Unit {0}
AllRead at (e ∷ es) = Reads at e × AllRead at es

abbrev pub TestReads : Scope → Test → Type 0
TestReads at (Compare a r b) = Reads at a × Reads at b
TestReads at (Negation t) = TestReads at t
TestReads at (Both t q) = TestReads at t × TestReads at q
TestReads at (Either t q) = TestReads at t × TestReads at q

abbrev pub Allows : List Declaration → Ident → Act → Type 0
Allows schema table act = (d : Declaration) → slice_get schema table.num ≡ Some d → allows d act ≡ true

-- the values of an insert are of the columns' types
abbrev pub AreOfColumns : Frame → Ident → List Term → Type 0
AreOfColumns f table es = (d : Declaration) → slice_get f.schema table.num ≡ Some d → map (λ e. type_of f.schema (names_in f) 0 e) es ≡ map (λ c. c.ty) d.columns

-- the values of a row whose key is drawn are of the types of the columns but the key
abbrev pub AreDrawn : Frame → Ident → List Term → Type 0
AreDrawn f table es = (d : Declaration) → slice_get f.schema table.num ≡ Some d
    → map (λ e. type_of f.schema (names_in f) 0 e) es ≡ map (λ (c : ℕ × Column). c.1.ty) (outside_key d 0 d.columns)

-- each set of an update is of its column's type
abbrev pub SetsSuit : Frame → Scope → Ident → List (Ident × Term) → Type 0
SetsSuit f at table [] = Unit {0}
SetsSuit f at table (set ∷ sets) = Reads at set.1 × (type_of f.schema (names_in f) table.num set.1 ≡ column_type f.schema table.num set.0.num) × SetsSuit f at table sets

abbrev pub behind_set : Scope → Ident → Scope
behind_set at table = record { schema = at.schema; known = at.known; updated = Some table }

abbrev pub TypeIs : Frame → Ident → Ty → Type 0
TypeIs f x ty = item types.Int (names_in f).types x.num ≡ ty

abbrev pub TableIs : Frame → Ident → Ident → Type 0
TableIs f r table = item 0 (names_in f).tables r.num ≡ table.num

-- the loop over this variable is a unit of the transaction
abbrev pub IsUnit : Frame → Ident → Block → Type 0
IsUnit f x body = slice_get (units f.txn.body) (unit_of (loop_variables f.txn.body) x.num) ≡ Some body

-- statements read what may be used, and their values are of the types of what they are put into
abbrev mutual
  pub Suits : Frame → Scope → Command → Type 0
  Suits f at (Declare x e) = Reads at e × TypeIs f x (type_of f.schema (names_in f) 0 e)
  Suits f at (Assign x e) = Reads at e × TypeIs f x (type_of f.schema (names_in f) 0 e) × Means IsValue at.known x.num
  Suits f at (Fetch r t k) = AllRead at k × TableIs f r t
  Suits f at (Choose test ys ns) = TestReads at test × BlockSuits f at ys × BlockSuits f at ns
  Suits f at (ForRows r t test body) = TableIs f r t × IsUnit f r body × BlockSuits f (knowing at r (RowOf t)) body
  Suits f at (ForEach x l body) = TypeIs f x types.Int × IsUnit f x body × BlockSuits f (knowing at x Constant) body
  Suits f at (Insert t es) = AllRead at es × Allows f.schema t acts.Insert × AreOfColumns f t es
  Suits f at (Fresh x t es) = AllRead at es × Allows f.schema t acts.Fresh × AreDrawn f t es × TypeIs f x types.Int
  Suits f at (Update t k sets) = AllRead at k × Allows f.schema t acts.Update × SetsSuit f (behind_set at t) t sets
  Suits f at (Remove t k) = AllRead at k × Allows f.schema t acts.Remove
  Suits f at (Abort n) = Unit {0}
  Suits f at (Reply e) = Reads at e

  pub BlockSuits : Frame → Scope → Block → Type 0
  BlockSuits f at Finish = Unit {0}
  BlockSuits f at (Then c b) = Suits f at c × BlockSuits f (behind at c) b

-- a block of the transaction, and a statement of it, with the names that may be used there
pub record BlockIn (f : Frame) (at : Scope) (b : Block) : Type 0 where
  pub frame : IsFrame f
  pub outside : at.updated ≡ None
  pub suits : BlockSuits f at b

pub record CommandIn (f : Frame) (at : Scope) (c : Command) : Type 0 where
  pub frame : IsFrame f
  pub outside : at.updated ≡ None
  pub suits : Suits f at c

-- variables that may be used have values of their types, and rows that may be used values of their columns' types
pub record Sees (f : Frame) (at : Scope) (s : Values) : Type 0 where
  pub values : (x : ℕ) → Means IsValue at.known x → type_of_val (item nothing s.values x) ≡ item types.Int (names_in f).types x
  pub rows : (r : ℕ) → Means IsRow at.known r → map type_of_got (item [] s.rows r) ≡ types_at f.schema (item 0 (names_in f).tables r)

-- the values of a row are of the types of the columns of its table, and its key is one of that table
pub record RowIs (schema : List Declaration) (place : Place) (values : List Got) : Type 0 where
  pub key : KeyIsOf schema place
  pub types : map type_of_got values ≡ map (λ c. c.ty) key.table.columns

-- so it is if there is one
abbrev pub RowAt : List Declaration → Place → Option Row → Type 0
RowAt schema place None = Unit {0}
RowAt schema place (Some row) = RowIs schema place row.values

-- what holds wherever the run stands
pub record Holds (f : Frame) (at : Scope) (st : Stand) : Type 0 where
  pub sees : Sees f at st.scope
  pub tables : (p : Place) (row : Row) → get st.tables p ≡ Some row → RowIs f.schema p row.values
  pub effects : All (EffectFits f.schema) st.effects
  pub few : length st.effects ≤ 64
  pub shaped : All (Shaped f.schema f.txn) st.instances

-- the place on a path: its symbols have the types of the values on the tape
abbrev pub way_of : List Bool → Progress → Way
way_of left p = record { left = left; known = p.known; known_old = p.known_old; symbols = map type_of_val p.tape }

-- the progress went along a path, by the choices that it has more
pub record Along (to : Way → Path) (p q : Progress) : Type 0 where
  pub grown : List Bool
  pub unit : q.unit ≡ p.unit
  pub choices : q.choices ≡ p.choices ++ grown
  pub leads : (left : List Bool) → to (way_of (grown ++ left) p) ≡ Leads (way_of left q)

-- a block was run
pub record Passes (f : Frame) (at : Scope) (b : Block) (st end : Stand) : Type 0 where
  pub holds : Holds f at end
  pub along : Along (block_path f.schema (names_in f) b) st.scope.progress end.scope.progress

-- a statement was run
pub record Makes (f : Frame) (at : Scope) (c : Command) (st end : Stand) : Type 0 where
  pub holds : Holds f (behind at c) end
  pub along : Along (command_path f.schema (names_in f) c) st.scope.progress end.scope.progress

-- turns of a loop were run
pub record Turned (f : Frame) (at : Scope) (st end : Stand) : Type 0 where
  pub holds : Holds f at end
  pub progress : end.scope.progress ≡ st.scope.progress

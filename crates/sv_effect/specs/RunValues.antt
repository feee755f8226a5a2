-- The values of expressions and conditions in a run, and what their evaluation adds to the instance that the run is in: the choices taken and the tape.
use Rattle.std.specs.Prelude.{ℕ, ℤ, pos, neg_ℤ, ◌-◌, ◌+ℤ◌, ◌-ℤ◌, ◌*ℤ◌, ◌^◌, int_le, ◌==◌, ◌&&◌, ◌||◌, not, if◌then◌else◌, Bool, List, [], ◌∷◌, ◌++◌, Option, Some, None}
use Rattle.std.specs.List.{list_any}
use Rattle.std.specs.Option.{option_map}
use Rattle.std.specs.declared.cmp.Ordering.{Ordering}
use Rattle.std.specs.Ordering.{is_lt, is_eq, is_gt}
use Rattle.sv_value.specs.declared.values.Val.{Val}
use Rattle.sv_value.specs.declared.values.Val.TheVariants.{Int, Text as IsText}
use Rattle.sv_value.specs.Orders.{val_cmp}
use Rattle.sv_app.specs.declared.gots.Got.{Got}
use Rattle.sv_app.specs.declared.gots.Got.TheVariants as gots
use Rattle.sv_app.specs.declared.instances.Source.{Source}
use Rattle.sv_app.specs.declared.instances.Source.TheVariants as sources
use Rattle.sv_app.specs.declared.txns.Rel.{Rel}
use Rattle.sv_app.specs.declared.txns.Rel.TheVariants as rels
use Rattle.sv_app.specs.Fitting.{number_in}
use Rattle.sv_app.specs.Slots.{item}
use Rattle.sv_app.specs.Symbols.{is_known, is_factor}
use Rattle.sv_app.specs.Trees.{Term, Number, Words, Variable, Field, Old, Minus, Sum, Difference, Product, Test, Compare, Negation, Both, Either}

abbrev pub nothing : Val
nothing = Int (pos 0)

-- an instance that isn't complete: its unit and its number, the choices taken and the tape so far, and the sources that were brought in; `known_old` are
-- the columns of the row that is being updated
pub record Progress : Type 0 where
  pub unit : ℕ
  pub number : ℕ
  pub choices : List Bool
  pub tape : List Val
  pub known : List Source
  pub known_old : List ℕ

-- what expressions read: values of variables and rows of row variables, by the numbers of names, and the row before the update
pub record Scope : Type 0 where
  pub values : List Val
  pub rows : List (List Got)
  pub old : List Got
  pub progress : Progress

-- a symbol is brought in
abbrev pub put : Val → Progress → Progress
put v p = record p { tape = p.tape ++ v ∷ [] }

abbrev pub brought : Source → Val → Progress → Progress
brought source v p = if is_known source p.known then p else put v (record p { known = p.known ++ source ∷ [] })

abbrev pub brought_old : ℕ → Val → Progress → Progress
brought_old c v p = if list_any (λ d. c == d) p.known_old then p else put v (record p { known_old = p.known_old ++ c ∷ [] })

-- no column of a row that is updated is known, before an update and after it
abbrev pub forgetting : Progress → Progress
forgetting p = record p { known_old = [] }

abbrev pub chosen : Bool → Progress → Progress
chosen holds p = record p { choices = p.choices ++ holds ∷ [] }

abbrev pub with_progress : Scope → Progress → Scope
with_progress s p = record s { progress = p }

-- an integer of 64 bits
abbrev pub narrow : ℤ → Option ℤ
narrow n = if int_le (neg_ℤ (pos (2 ^ 63))) n && int_le n (pos (2 ^ 63 - 1)) then Some n else None

-- what evaluation gives, and the scope after it; or an integer left 64 bits
pub data Evaluated (A : Type 0) : Type 0 where
  Leaves : Evaluated A
  Gives : A → Scope → Evaluated A

abbrev pub then_value : {A B : Type 0} → Evaluated A → (A → Scope → Evaluated B) → Evaluated B
then_value Leaves go = Leaves
then_value (Gives v s) go = go v s

abbrev pub integer : Option ℤ → Scope → Evaluated Val
integer None s = Leaves
integer (Some n) s = Gives (Int n) s

-- a value that stands in a row
abbrev pub val_of : Got → Option Val
val_of (gots.Num n) = option_map (λ m. Int m) (narrow n)
val_of (gots.Text t) = Some (IsText t)

-- a column by its number; one that isn't there counts as zero
abbrev pub column : List Got → ℕ → Got
column row c = item (gots.Num (pos 0)) row c

abbrev pub read_variable : ℕ → Scope → Evaluated Val
read_variable x s = let v = item nothing s.values x in Gives v (with_progress s (brought (sources.Variable x) v s.progress))

abbrev pub as_read : Option Val → (Val → Progress) → Scope → Evaluated Val
as_read None after s = Leaves
as_read (Some v) after s = Gives v (with_progress s (after v))

abbrev pub read_column : ℕ → ℕ → Scope → Evaluated Val
read_column r c s = as_read (val_of (column (item [] s.rows r) c)) (λ v. brought (sources.Column r c) v s.progress) s

abbrev pub read_old : ℕ → Scope → Evaluated Val
read_old c s = as_read (val_of (column s.old c)) (λ v. brought_old c v s.progress) s

-- in arithmetic a text counts as zero
abbrev pub negated : Val → Scope → Evaluated Val
negated v s = integer (narrow (neg_ℤ (number_in v))) s

abbrev pub added : Val → Val → Scope → Evaluated Val
added v w s = integer (narrow (number_in v +ℤ number_in w)) s

abbrev pub subtracted : Val → Val → Scope → Evaluated Val
subtracted v w s = integer (narrow (number_in v -ℤ number_in w)) s

-- a product is a symbol, unless one side is a number or a negated number
abbrev pub multiplied : Bool → Val → Val → Scope → Evaluated Val
multiplied is_symbol v w s = then_value (integer (narrow (number_in v *ℤ number_in w)) s) (λ u q. Gives u (if is_symbol then with_progress q (put u q.progress) else q))

abbrev pub value_of : Term → Scope → Evaluated Val
value_of (Number n at) s = Gives (Int n) s
value_of (Words t at) s = Gives (IsText t) s
value_of (Variable x at) s = read_variable x.num s
value_of (Field r c at) s = read_column r.num c.num s
value_of (Old c at) s = read_old c.num s
value_of (Minus a at) s = then_value (value_of a s) negated
value_of (Sum a b at) s = then_value (value_of a s) (λ v u. then_value (value_of b u) (added v))
value_of (Difference a b at) s = then_value (value_of a s) (λ v u. then_value (value_of b u) (subtracted v))
value_of (Product a b at) s = then_value (value_of a s) (λ v u. then_value (value_of b u) (multiplied (not (is_factor a || is_factor b)) v))

-- from left to right
abbrev pub values_of : List Term → Scope → Evaluated (List Val)
values_of [] s = Gives [] s
values_of (e ∷ es) s = then_value (value_of e s) (λ v u. then_value (values_of es u) (λ vs z. Gives (v ∷ vs) z))

abbrev pub relates : Rel → Ordering → Bool
relates rels.Eq o = is_eq o
relates rels.Ne o = not (is_eq o)
relates rels.Lt o = is_lt o
relates rels.Le o = not (is_gt o)
relates rels.Gt o = is_gt o
relates rels.Ge o = not (is_lt o)

-- each comparison is a choice
abbrev pub compared : Rel → Val → Val → Scope → Evaluated Bool
compared r v w s = let holds = relates r (val_cmp v w) in Gives holds (with_progress s (chosen holds s.progress))

-- all parts are evaluated
abbrev pub truth_of : Test → Scope → Evaluated Bool
truth_of (Compare a r b) s = then_value (value_of a s) (λ v u. then_value (value_of b u) (compared r v))
truth_of (Negation t) s = then_value (truth_of t s) (λ h u. Gives (not h) u)
truth_of (Both t q) s = then_value (truth_of t s) (λ h u. then_value (truth_of q u) (λ k z. Gives (h && k) z))
truth_of (Either t q) s = then_value (truth_of t s) (λ h u. then_value (truth_of q u) (λ k z. Gives (h || k) z))

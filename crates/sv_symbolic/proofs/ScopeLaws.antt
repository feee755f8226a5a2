-- The names that may be used in a unit of an accepted application stand for values of types that are no lists, and its statements suit them.
use Rattle.std.proofs.Common.{◌≡◌, ◌≢◌, ◌∙◌, inl, inr, ℕ, zero, suc, pos, List, [], ◌∷◌, ◌++◌, map, Option, Some, None, slice_get, refl, sym, subst}
use Rattle.sv_value.specs.declared.values.Val.{Val}
use Rattle.sv_value.specs.declared.values.Val.TheVariants.{Int, Text as IsText}
use Rattle.sv_app.specs.declared.apps.Ident.{Ident}
use Rattle.sv_app.specs.declared.names.Known.{Known}
use Rattle.sv_app.specs.declared.names.Meaning.{Meaning}
use Rattle.sv_app.specs.declared.names.Meaning.TheVariants.{Variable as Local, Row as RowOf, Constant}
use Rattle.sv_app.specs.declared.requests.Arg.{Arg}
use Rattle.sv_app.specs.declared.requests.Arg.TheVariants as args
use Rattle.sv_app.specs.declared.schemas.Column.{Column}
use Rattle.sv_app.specs.declared.schemas.Ty.{Ty}
use Rattle.sv_app.specs.declared.schemas.Ty.TheVariants as types
use Rattle.sv_app.specs.Accepted.{AcceptedApp, AcceptedSchema}
use Rattle.sv_app.specs.Fitting.{ArgFits, ArgsFit}
use Rattle.sv_app.specs.Paths.{column_type, columns_at, type_in, type_of}
use Rattle.sv_app.specs.Schema.{Declaration}
use Rattle.sv_app.specs.Scopes.{Scope, knowing, opening}
use Rattle.sv_app.specs.Slots.{item}
use Rattle.sv_app.specs.Trees.{Term, Number, Words, Variable, Field, Old, Minus, Sum, Difference, Product, Command, Declare, Assign, Fetch, Choose, ForRows, ForEach, Insert, Fresh, Update, Remove, Abort, Reply, Block, Finish, Then, Transaction}
use Rattle.sv_app.specs.TxnTyping.{behind, declared_type}
use Rattle.sv_app.specs.Units.{Loop, command_loops, block_loops, units}
use Rattle.sv_app.proofs.AcceptedLaws.{no_lists}
use Rattle.sv_trace.specs.Standing.{Frame, IsFrame, names_in, type_of_val, IsValue, Means, Reads, Suits, BlockSuits}
use Rattle.sv_trace.proofs.OpeningLaws.{body_in, begins}
use Rattle.sv_trace.proofs.UnitLaws.{Each}

-- each name that stands for a value is of a type that is no list
abbrev pub NoLists : Frame → List Known → Type 0
NoLists f known = (x : ℕ) → Means IsValue known x → item types.Int (names_in f).types x ≢ types.Ints

pub integer_alone : types.Int ≢ types.Ints
integer_alone e = cc

text_alone : types.Text ≢ types.Ints
text_alone e = cc

one_more : (f : Frame) (known : List Known) (name : Ident) (m : Meaning) → (IsValue m → item types.Int (names_in f).types name.num ≢ types.Ints) → NoLists f known → NoLists f (record { name = name; meaning = m } ∷ known)
one_more f known name m here none x (inl at) = subst (λ n. item types.Int (names_in f).types n ≢ types.Ints) at.0 (here at.1)
one_more f known name m here none x (inr at) = none x at

-- columns, and what may be read
module _ (f : Frame) (accepted : AcceptedSchema f.schema) where
  pub column_alone : (t c : ℕ) → column_type f.schema t c ≢ types.Ints
  column_alone t c = by_table (slice_get f.schema t) refl
    where
      by_column : (d : Declaration) → slice_get f.schema t ≡ Some d → (o : Option Column) → slice_get d.columns c ≡ o → type_in o ≢ types.Ints
      by_column d declared None here = integer_alone
      by_column d declared (Some x) here = no_lists f.schema accepted t c d x declared here

      none_there : (n : ℕ) → slice_get {X = Column} [] n ≡ None
      none_there zero = refl
      none_there (suc n) = refl

      by_table : (o : Option Declaration) → slice_get f.schema t ≡ o → type_in (slice_get (columns_at o) c) ≢ types.Ints
      by_table None declared = subst (λ o. type_in o ≢ types.Ints) (sym (none_there c)) integer_alone
      by_table (Some d) declared = by_column d declared (slice_get d.columns c) refl

  term_alone : (at : Scope) (t : ℕ) (e : Term) → NoLists f at.known → Reads at e → type_of f.schema (names_in f) t e ≢ types.Ints
  term_alone at t (Number n s) none reads = integer_alone
  term_alone at t (Words text s) none reads = text_alone
  term_alone at t (Variable x s) none reads = none x.num reads
  term_alone at t (Field r c s) none reads = column_alone (item 0 (names_in f).tables r.num) c.num
  term_alone at t (Old c s) none reads = column_alone t c.num
  term_alone at t (Minus a s) none reads = integer_alone
  term_alone at t (Sum a b s) none reads = integer_alone
  term_alone at t (Difference a b s) none reads = integer_alone
  term_alone at t (Product a b s) none reads = integer_alone

  pub none_behind : (at : Scope) (c : Command) → Suits f at c → NoLists f at.known → NoLists f (behind at c).known
  none_behind at (Declare x e) suits none = one_more f at.known x (Local (declared_type at e)) (λ value. subst (λ ty. ty ≢ types.Ints) (sym suits.1) (term_alone at 0 e none suits.0)) none
  none_behind at (Assign x e) suits none = none
  none_behind at (Fetch r t key) suits none = one_more f at.known r (RowOf t) (λ value. absurd value) none
  none_behind at (Choose c ys ns) suits none = none
  none_behind at (ForRows r t c body) suits none = none
  none_behind at (ForEach x l body) suits none = none
  none_behind at (Insert t es) suits none = none
  none_behind at (Fresh x t es) suits none = one_more f at.known x Constant (λ value. subst (λ ty. ty ≢ types.Ints) (sym suits.3) integer_alone) none
  none_behind at (Update t key sets) suits none = none
  none_behind at (Remove t key) suits none = none
  none_behind at (Abort n) suits none = none
  none_behind at (Reply e) suits none = none

  -- a block suits some names
  pub record InScope (b : Block) : Type 0 where
    pub at : Scope
    pub suits : BlockSuits f at b
    pub none : NoLists f at.known

  abbrev AllInScope : List Loop → Type 0
  AllInScope loops = Each (λ (l : Loop). InScope l.body) loops

  each_both : (xs ys : List Loop) → AllInScope xs → AllInScope ys → AllInScope (xs ++ ys)
  each_both [] ys one other = other
  each_both (x ∷ xs) ys one other = (one.0, each_both xs ys one.1 other)

  -- the bodies of loops suit as well
  mutual
    command_loops_suit : (c : Command) (at : Scope) → Suits f at c → NoLists f at.known → AllInScope (command_loops c)
    command_loops_suit (Declare x e) at suits none = tt
    command_loops_suit (Assign x e) at suits none = tt
    command_loops_suit (Fetch r t key) at suits none = tt
    command_loops_suit (Choose c ys ns) at suits none = each_both (block_loops ys) (block_loops ns) (block_loops_suit ys at suits.1 none) (block_loops_suit ns at suits.2 none)
    command_loops_suit (ForRows r t c body) at suits none =
        let more : NoLists f (knowing at r (RowOf t)).known = one_more f at.known r (RowOf t) (λ value. absurd value) none in
        (record { at = knowing at r (RowOf t); suits = suits.2; none = more }, block_loops_suit body (knowing at r (RowOf t)) suits.2 more)
    command_loops_suit (ForEach x l body) at suits none =
        let more : NoLists f (knowing at x Constant).known = one_more f at.known x Constant (λ value. subst (λ ty. ty ≢ types.Ints) (sym suits.0) integer_alone) none in
        (record { at = knowing at x Constant; suits = suits.2; none = more }, block_loops_suit body (knowing at x Constant) suits.2 more)
    command_loops_suit (Insert t vs) at suits none = tt
    command_loops_suit (Fresh x t vs) at suits none = tt
    command_loops_suit (Update t key ss) at suits none = tt
    command_loops_suit (Remove t key) at suits none = tt
    command_loops_suit (Abort n) at suits none = tt
    command_loops_suit (Reply e) at suits none = tt

    block_loops_suit : (b : Block) (at : Scope) → BlockSuits f at b → NoLists f at.known → AllInScope (block_loops b)
    block_loops_suit Finish at suits none = tt
    block_loops_suit (Then c b) at suits none = each_both (command_loops c) (block_loops b) (command_loops_suit c at suits.0 none) (block_loops_suit b (behind at c) suits.1 (none_behind at c suits.0 none))

  of_loop : (ls : List Loop) (n : ℕ) (b : Block) → AllInScope ls → slice_get (map (λ (l : Loop). l.body) ls) n ≡ Some b → InScope b
  of_loop [] zero b each e = absurd cc
  of_loop [] (suc n) b each e = absurd cc
  of_loop (l ∷ ls) zero b each e = let same : l.body ≡ b = cc in subst InScope same each.0
  of_loop (l ∷ ls) (suc n) b each e = of_loop ls n b each.1 e

  of_unit : (at : Scope) (whole : Block) (n : ℕ) (b : Block) → BlockSuits f at whole → NoLists f at.known → slice_get (units whole) n ≡ Some b → InScope b
  of_unit at whole zero b suits none e = let same : whole ≡ b = cc in subst InScope same (record { at = at; suits = suits; none = none })
  of_unit at whole (suc n) b suits none e = of_loop (block_loops whole) n b (block_loops_suit whole at suits none) e

-- some arguments fit
abbrev some_arg : Ty → Arg
some_arg types.Int = args.Int (pos 0)
some_arg types.Text = args.Text []
some_arg types.Ints = args.Ints []

abbrev some_args : List (Ident × Ty) → List Arg
some_args [] = []
some_args (p ∷ ps) = some_arg p.1 ∷ some_args ps

arg_fits : (ty : Ty) → ArgFits ty (some_arg ty)
arg_fits types.Int = tt
arg_fits types.Text = tt
arg_fits types.Ints = tt

args_fit : (ps : List (Ident × Ty)) → ArgsFit ps (some_args ps)
args_fit [] = tt
args_fit (p ∷ ps) = (arg_fits p.1, args_fit ps)

-- a value is of no list type
val_alone : (v : Val) (ty : Ty) → type_of_val v ≡ ty → ty ≢ types.Ints
val_alone (Int n) ty same list = integer_alone (same ∙ list)
val_alone (IsText t) ty same list = text_alone (same ∙ list)

-- a transaction of an accepted application, with some arguments that fit
abbrev pub frame_of : List Declaration → List Transaction → ℕ → Transaction → Frame
frame_of schema txns number txn = record { schema = schema; txns = txns; number = number; txn = txn; args = some_args txn.params; first = pos 0 }

pub unit_in : (schema : List Declaration) (txns : List Transaction) (number unit : ℕ) (txn : Transaction) (body : Block) (accepted : AcceptedApp schema txns) → slice_get txns number ≡ Some txn → slice_get (units txn.body) unit ≡ Some body
    → InScope (frame_of schema txns number txn) accepted.tables body
unit_in schema txns number unit txn body accepted among at =
    let f : Frame = frame_of schema txns number txn in
    let frame : IsFrame f = record { accepted = accepted; among = among; fits = args_fit txn.params } in
    let none : NoLists f (opening schema txn.params).known = λ x value. val_alone _ _ ((begins f frame).sees.values x value) in
    of_unit f accepted.tables (opening schema txn.params) txn.body unit body (body_in f frame).suits none at

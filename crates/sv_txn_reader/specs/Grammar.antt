-- The grammar of transactions: a part is written with the tokens from its place on, up to those that are the rest.
-- An element that begins where at most `free` tokens are left may pass a limit; with `free` 0 none may.
use Rattle.std.specs.Prelude.{◌≡◌, ◌≤◌, ◌⊎◌, ℕ, ℤ, suc, max, pos, false, List, [], ◌∷◌, length, Option, Some, None, codes}
use Rattle.sv_value.specs.declared.spots.Spot.{Spot}
use Rattle.sv_lex.specs.declared.marks.Mark.{Mark as IsMark}
use Rattle.sv_lex.specs.declared.marks.Mark.TheVariants as marks
use Rattle.sv_lex.specs.declared.tokens.Token.{Token}
use Rattle.sv_lex.specs.declared.tokens.TokenKind.{TokenKind}
use Rattle.sv_lex.specs.declared.tokens.TokenKind.TheVariants as kinds
use Rattle.sv_app.specs.declared.apps.Ident.{Ident}
use Rattle.sv_app.specs.declared.schemas.Ty.{Ty}
use Rattle.sv_app.specs.declared.schemas.Ty.TheVariants as types
use Rattle.sv_app.specs.declared.txns.Rel.{Rel}
use Rattle.sv_app.specs.declared.txns.Rel.TheVariants as rels
use Rattle.sv_app.specs.TermTypes.{spot_of}
use Rattle.sv_app.specs.Trees.{Term, Number, Words, Variable, Field, Old, Minus, Sum, Difference, Product, Test, Compare, Negation, Both, Either, Command, Declare, Assign, Fetch, Choose, ForRows, ForEach, Insert, Fresh, Update, Remove, Abort, Reply, Block, Finish, Then, Transaction}
use Rattle.sv_txn_reader.specs.Standing.{Standing, outside, one_statement, deeper, in_loop, behind, past_command}
use Rattle.sv_reader.specs.Grammar.{IsName}

-- one part and, behind it, another
pub record Pair (First Second : List Token → List Token → Type 0) (tokens rest : List Token) : Type 0 where
  pub middle : List Token
  pub first : First tokens middle
  pub second : Second middle rest

infixr 10 ◌·◌
abbrev pub ◌·◌ : (List Token → List Token → Type 0) → (List Token → List Token → Type 0) → List Token → List Token → Type 0
First · Second = Pair First Second

-- one token, of which this holds
pub record One (Holds : Token → Type 0) (tokens rest : List Token) : Type 0 where
  pub token : Token
  pub next : tokens ≡ token ∷ rest
  pub holds : Holds token

abbrev pub nothing : List Token → List Token → Type 0
nothing tokens rest = tokens ≡ rest

abbrev pub kind : TokenKind → List Token → List Token → Type 0
kind wanted = One (λ token. token.kind ≡ wanted)

abbrev pub word : List ℕ → List Token → List Token → Type 0
word bytes = kind (kinds.Name bytes)

abbrev pub mark : IsMark → List Token → List Token → Type 0
mark wanted = kind (kinds.Mark wanted)

-- a token of this kind at this place
abbrev pub kind_at : Spot → TokenKind → List Token → List Token → Type 0
kind_at spot wanted = One (λ token. (token.kind ≡ wanted) × (token.spot ≡ spot))

abbrev pub name : Ident → List Token → List Token → Type 0
name ident = One (IsName ident)

-- a number of elements is within a limit, or may pass it here
abbrev pub Within : ℕ → ℕ → ℕ → List Token → Type 0
Within free most count tokens = (count ≤ most) ⊎ (length tokens ≤ free)

-- what begins here is the element of this number
abbrev pub limit : ℕ → ℕ → ℕ → List Token → List Token → Type 0
limit free most count tokens rest = (tokens ≡ rest) × Within free most count tokens

-- x {"," x}
abbrev pub others : {A : Type 0} → (A → List Token → List Token → Type 0) → List A → List Token → List Token → Type 0
others x [] = nothing
others x (a ∷ more) = mark marks.Comma · x a · others x more

abbrev pub separated : {A : Type 0} → (A → List Token → List Token → Type 0) → List A → List Token → List Token → Type 0
separated x [] = λ _ _. ⊥
separated x (a ∷ more) = x a · others x more

-- [x {"," x}]
abbrev pub listed : {A : Type 0} → (A → List Token → List Token → Type 0) → List A → List Token → List Token → Type 0
listed x [] = nothing
listed x (a ∷ more) = x a · others x more

-- the expression, which begins at this place
abbrev pub placed : Spot → Term → Term
placed s (Number n old) = Number n s
placed s (Words t old) = Words t s
placed s (Variable x old) = Variable x s
placed s (Field r c old) = Field r c s
placed s (Old c old) = Old c s
placed s (Minus a old) = Minus a s
placed s (Sum a b old) = Sum a b s
placed s (Difference a b old) = Difference a b s
placed s (Product a b old) = Product a b s

-- factors, products of them, and sums of these
pub data Rank : Type 0 where
  Factors : Rank
  Products : Rank
  Sums : Rank

-- an expression, with its depth
-- sums     = products {("+" | "-") products}
-- products = factor {"*" factor}
-- factor   = "-" factor | NUMBER | TEXT | NAME | NAME "." NAME | "old" "." NAME | "(" sums ")"
pub data IsTerm : Rank → ℕ → Term → List Token → List Token → Type 0 where
  ANumber : (n : ℤ) (s : Spot) (tokens rest : List Token) → kind_at s (kinds.Number n) tokens rest → IsTerm Factors 1 (Number n s) tokens rest
  AText : (t : List ℕ) (s : Spot) (tokens rest : List Token) → kind_at s (kinds.Text t) tokens rest → IsTerm Factors 1 (Words t s) tokens rest
  AVariable : (x : Ident) (tokens rest : List Token) → name x tokens rest → IsTerm Factors 1 (Variable x x.spot) tokens rest
  AField : (r c : Ident) (tokens rest : List Token) → (name r · mark marks.Dot · name c) tokens rest → IsTerm Factors 1 (Field r c r.spot) tokens rest
  AnOld : (c : Ident) (s : Spot) (tokens rest : List Token) → (kind_at s (kinds.Name (codes "old")) · mark marks.Dot · name c) tokens rest → IsTerm Factors 1 (Old c s) tokens rest
  ASign : (d : ℕ) (e : Term) (s : Spot) (tokens next rest : List Token) → kind_at s (kinds.Mark marks.Minus) tokens next → IsTerm Factors d e next rest → IsTerm Factors (suc d) (Minus e s) tokens rest
  AGroup : (d : ℕ) (e : Term) (s : Spot) (tokens next last rest : List Token) → kind_at s (kinds.Mark marks.LeftParen) tokens next → IsTerm Sums d e next last
      → mark marks.RightParen last rest → IsTerm Factors (suc d) (placed s e) tokens rest
  OneFactor : (d : ℕ) (e : Term) (tokens rest : List Token) → IsTerm Factors d e tokens rest → IsTerm Products d e tokens rest
  AProduct : (c d : ℕ) (a b : Term) (tokens sign next rest : List Token) → IsTerm Products c a tokens sign → mark marks.Star sign next → IsTerm Factors d b next rest
      → IsTerm Products (suc (max c d)) (Product a b (spot_of a)) tokens rest
  OneProduct : (d : ℕ) (e : Term) (tokens rest : List Token) → IsTerm Products d e tokens rest → IsTerm Sums d e tokens rest
  ASum : (c d : ℕ) (a b : Term) (tokens sign next rest : List Token) → IsTerm Sums c a tokens sign → mark marks.Plus sign next → IsTerm Products d b next rest
      → IsTerm Sums (suc (max c d)) (Sum a b (spot_of a)) tokens rest
  ADifference : (c d : ℕ) (a b : Term) (tokens sign next rest : List Token) → IsTerm Sums c a tokens sign → mark marks.Minus sign next → IsTerm Products d b next rest
      → IsTerm Sums (suc (max c d)) (Difference a b (spot_of a)) tokens rest

-- an expression of a depth up to 16, or that may pass the limit here
pub record expr (free : ℕ) (e : Term) (tokens rest : List Token) : Type 0 where
  pub depth : ℕ
  pub is : IsTerm Sums depth e tokens rest
  pub within : Within free 16 depth tokens

-- "=" | "!=" | "<" | "<=" | ">" | ">="
abbrev pub relation : Rel → IsMark
relation rels.Eq = marks.Eq
relation rels.Ne = marks.Ne
relation rels.Lt = marks.Lt
relation rels.Le = marks.Le
relation rels.Gt = marks.Gt
relation rels.Ge = marks.Ge

-- literals, conjunctions of them, and disjunctions of these
pub data Join : Type 0 where
  Literals : Join
  Conjunctions : Join
  Disjunctions : Join

-- a condition, with its depth
-- disjunctions = conjunctions {"or" conjunctions}
-- conjunctions = literal {"and" literal}
-- literal      = "not" literal | "[" disjunctions "]" | expr ("=" | "!=" | "<" | "<=" | ">" | ">=") expr
pub data IsTest : Join → ℕ → Test → List Token → List Token → Type 0 where
  AComparison : (c d : ℕ) (a b : Term) (by : Rel) (tokens rest : List Token) → (IsTerm Sums c a · mark (relation by) · IsTerm Sums d b) tokens rest
      → IsTest Literals (suc (max c d)) (Compare a by b) tokens rest
  ANegation : (d : ℕ) (t : Test) (tokens next rest : List Token) → word (codes "not") tokens next → IsTest Literals d t next rest → IsTest Literals (suc d) (Negation t) tokens rest
  ABracket : (d : ℕ) (t : Test) (tokens next last rest : List Token) → mark marks.LeftBracket tokens next → IsTest Disjunctions d t next last → mark marks.RightBracket last rest
      → IsTest Literals (suc d) t tokens rest
  OneLiteral : (d : ℕ) (t : Test) (tokens rest : List Token) → IsTest Literals d t tokens rest → IsTest Conjunctions d t tokens rest
  AnAnd : (c d : ℕ) (t u : Test) (tokens sign next rest : List Token) → IsTest Conjunctions c t tokens sign → word (codes "and") sign next → IsTest Literals d u next rest
      → IsTest Conjunctions (suc (max c d)) (Both t u) tokens rest
  OneConjunction : (d : ℕ) (t : Test) (tokens rest : List Token) → IsTest Conjunctions d t tokens rest → IsTest Disjunctions d t tokens rest
  AnOr : (c d : ℕ) (t u : Test) (tokens sign next rest : List Token) → IsTest Disjunctions c t tokens sign → word (codes "or") sign next → IsTest Conjunctions d u next rest
      → IsTest Disjunctions (suc (max c d)) (Either t u) tokens rest

-- a condition of a depth up to 16, or that may pass the limit here
pub record cond (free : ℕ) (t : Test) (tokens rest : List Token) : Type 0 where
  pub depth : ℕ
  pub is : IsTest Disjunctions depth t tokens rest
  pub within : Within free 16 depth tokens

-- expr ["," expr]
abbrev pub keys : ℕ → List Term → List Token → List Token → Type 0
keys free (e ∷ []) = expr free e
keys free (e ∷ f ∷ []) = expr free e · mark marks.Comma · expr free f
keys free _ = λ _ _. ⊥

-- "[" keys "]"
abbrev pub index : ℕ → List Term → List Token → List Token → Type 0
index free k = mark marks.LeftBracket · keys free k · mark marks.RightBracket

-- NAME "=" expr
abbrev pub setting : ℕ → Ident × Term → List Token → List Token → Type 0
setting free (x, e) = name x · mark marks.Eq · expr free e

-- NUMBER, up to 999
abbrev pub code : ℕ → ℕ → List Token → List Token → Type 0
code free n = limit free 999 n · kind (kinds.Number (pos n))

-- ["where" cond]
abbrev pub where_part : ℕ → Option Test → List Token → List Token → Type 0
where_part free None = nothing
where_part free (Some t) = word (codes "where") · cond free t

-- what begins a loop: no loop stands in a loop, and a transaction has at most 15
abbrev pub looping : ℕ → Standing → List Token → List Token → Type 0
looping free at tokens rest = (at.looped ≡ false) × limit free 15 (suc at.before.loops) tokens rest

-- "{" .. at a depth of at most 8
abbrev pub braced : ℕ → Standing → (List Token → List Token → Type 0) → List Token → List Token → Type 0
braced free at inside = limit free 8 (suc at.depth) · mark marks.LeftBrace · inside

-- ["else" block]
abbrev pub otherwise : Block → (List Token → List Token → Type 0) → List Token → List Token → Type 0
otherwise b block tokens rest = ((b ≡ Finish) × nothing tokens rest) ⊎ (word (codes "else") · block) tokens rest

abbrev mutual
  -- what is written of a statement
  pub command : ℕ → Standing → Command → List Token → List Token → Type 0
  command free at (Declare x e) = word (codes "let") · limit free 32 (suc at.before.variables) · setting free (x, e) · mark marks.Semi
  command free at (Assign x e) = setting free (x, e) · mark marks.Semi
  command free at (Fetch r t k) = word (codes "get") · name r · mark marks.Eq · name t · index free k · mark marks.Semi
  command free at (Choose t ys ns) =
      word (codes "if") · cond free t · braced free at (statements free (deeper at) ys) · otherwise ns (braced free at (statements free (deeper (behind at ys)) ns))
  command free at (ForRows r t c body) =
      looping free at · word (codes "for") · name r · word (codes "in") · name t · where_part free c · braced free at (statements free (in_loop at) body)
  command free at (ForEach x l body) = looping free at · word (codes "each") · name x · word (codes "in") · name l · braced free at (statements free (in_loop at) body)
  command free at (Insert t vs) = word (codes "insert") · name t · mark marks.LeftParen · separated (expr free) vs · mark marks.RightParen · mark marks.Semi
  command free at (Fresh x t vs) =
      word (codes "fresh") · limit free 32 (suc at.before.variables) · name x · mark marks.Eq · name t
      · mark marks.LeftParen · listed (expr free) vs · mark marks.RightParen · mark marks.Semi
  command free at (Update t k sets) =
      word (codes "update") · name t · index free k · word (codes "set") · separated (setting free) sets · mark marks.Semi
  command free at (Remove t k) = word (codes "remove") · name t · index free k · mark marks.Semi
  command free at (Abort n) = word (codes "abort") · code free n · mark marks.Semi
  command free at (Reply e) = word (codes "reply") · expr free e · mark marks.Semi

  -- {stmt} "}": a transaction has at most 128 statements, with those that stand in others
  pub statements : ℕ → Standing → Block → List Token → List Token → Type 0
  statements free at Finish = mark marks.RightBrace
  statements free at (Then c rest) = limit free 128 (suc at.before.statements) · command free (one_statement at) c · statements free (past_command at c) rest

-- "{" {stmt} "}"
abbrev pub block : ℕ → Standing → Block → List Token → List Token → Type 0
block free at b = braced free at (statements free (deeper at) b)

-- "int" | "text" | "ints"
abbrev pub type_word : Ty → List ℕ
type_word types.Int = codes "int"
type_word types.Text = codes "text"
type_word types.Ints = codes "ints"

-- NAME ":" ("int" | "text" | "ints")
abbrev pub param : Ident × Ty → List Token → List Token → Type 0
param (x, ty) = name x · mark marks.Colon · word (type_word ty)

-- {"," param}, behind so many; a transaction has at most 16
abbrev pub more_params : ℕ → ℕ → List (Ident × Ty) → List Token → List Token → Type 0
more_params free count [] = nothing
more_params free count (p ∷ ps) = mark marks.Comma · limit free 16 (suc count) · param p · more_params free (suc count) ps

-- [param {"," param}]
abbrev pub params : ℕ → List (Ident × Ty) → List Token → List Token → Type 0
params free [] = nothing
params free (p ∷ ps) = param p · more_params free 1 ps

-- "txn" NAME "(" [param {"," param}] ")" block
abbrev pub transaction : ℕ → Transaction → List Token → List Token → Type 0
transaction free t = word (codes "txn") · name t.name · mark marks.LeftParen · params free t.params · mark marks.RightParen · block free outside t.body

-- {txn}, behind so many; a document has at most 32
abbrev pub transactions : ℕ → ℕ → List Transaction → List Token → List Token → Type 0
transactions free count [] = nothing
transactions free count (t ∷ ts) = limit free 32 (suc count) · transaction free t · transactions free (suc count) ts

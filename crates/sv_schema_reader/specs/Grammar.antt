-- The grammar of tables: with which tokens each part is written.
use Rattle.std.specs.Prelude.{◌≡◌, ℤ, neg_ℤ, ◌-ℤ◌, pos, List, [], ◌∷◌, Option, Some, None, codes}
use Rattle.sv_value.specs.declared.spots.Spot.{Spot}
use Rattle.sv_lex.specs.declared.marks.Mark.TheVariants.{LeftParen, RightParen, Comma, Semi, Lt, Le, Gt, Ge, Plus, Minus, At}
use Rattle.sv_lex.specs.declared.tokens.Token.{Token}
use Rattle.sv_lex.specs.declared.tokens.TokenKind.TheVariants.{Number, Mark}
use Rattle.sv_app.specs.declared.apps.Ident.{Ident}
use Rattle.sv_app.specs.declared.schemas.Check.{Check}
use Rattle.sv_app.specs.declared.schemas.Column.{Column}
use Rattle.sv_app.specs.declared.schemas.Kind.{Kind}
use Rattle.sv_app.specs.declared.schemas.Kind.TheVariants as kinds
use Rattle.sv_app.specs.declared.schemas.Merge.{Merge}
use Rattle.sv_app.specs.declared.schemas.Merge.TheVariants as merges
use Rattle.sv_app.specs.declared.schemas.Ty.{Ty}
use Rattle.sv_app.specs.declared.schemas.Ty.TheVariants as types
use Rattle.sv_app.specs.Schema.{Rule, Bound, OneOf, Different, Refers}
use Rattle.sv_schema_reader.specs.declared.parts.Side.{Side}
use Rattle.sv_schema_reader.specs.declared.parts.Order.{Order}
use Rattle.sv_schema_reader.specs.declared.parts.Order.TheVariants.{AtMost, Below, AtLeast, Above}
use Rattle.sv_reader.specs.Grammar.{◌·◌, One, nothing, kind, word, mark, word_at, number_at, name, text, separated}

-- ["@" ("AOSET" | "UOSET" | "AUSET" | "ARSET")]
abbrev pub table_kind : Kind → List Token → Type 0
table_kind kinds.Plain = nothing
table_kind kinds.Aoset = mark At · word (codes "AOSET")
table_kind kinds.Uoset = mark At · word (codes "UOSET")
table_kind kinds.Auset = mark At · word (codes "AUSET")
table_kind kinds.Arset = mark At · word (codes "ARSET")

-- "int" | "text"
abbrev pub column_type : Ty → List Token → Type 0
column_type types.Int = word (codes "int")
column_type types.Text = word (codes "text")
column_type types.Ints = λ _. ⊥

-- ["@" ("LWW" | "NUMDELTA" | "FRESH")]
abbrev pub merge_kind : Merge → List Token → Type 0
merge_kind merges.Plain = nothing
merge_kind merges.Lww = mark At · word (codes "LWW")
merge_kind merges.NumDelta = mark At · word (codes "NUMDELTA")
merge_kind merges.Fresh = mark At · word (codes "FRESH")

-- NAME ("int" | "text") ["@" ("LWW" | "NUMDELTA" | "FRESH")]
abbrev pub column : Column → List Token → Type 0
column c = name c.name · column_type c.ty · merge_kind c.merge

-- NAME ["," NAME]
abbrev pub key_names : Ident → Option Ident → List Token → Type 0
key_names first None = name first
key_names first (Some second) = name first · mark Comma · name second

abbrev pub named : Ident → ℤ → Side
named ident n = record { spot = ident.spot; col = Some ident; plus = n }

abbrev pub fixed : Spot → ℤ → Side
fixed spot n = record { spot = spot; col = None; plus = n }

-- NAME [("+" | "-") NUMBER] | ["-"] NUMBER
pub data IsSide : Side → List Token → Type 0 where
  Alone : (ident : Ident) (tokens : List Token) → name ident tokens → IsSide (named ident (pos 0)) tokens
  More : (ident : Ident) (n : ℤ) (tokens : List Token) → (name ident · mark Plus · kind (Number n)) tokens → IsSide (named ident n) tokens
  Less : (ident : Ident) (n : ℤ) (tokens : List Token) → (name ident · mark Minus · kind (Number n)) tokens → IsSide (named ident (neg_ℤ n)) tokens
  Plain : (spot : Spot) (n : ℤ) (tokens : List Token) → number_at spot n tokens → IsSide (fixed spot n) tokens
  Negated : (spot : Spot) (n : ℤ) (tokens : List Token) → (One (λ token. (token.kind ≡ Mark Minus) × (token.spot ≡ spot)) · kind (Number n)) tokens → IsSide (fixed spot (neg_ℤ n)) tokens

-- "<=" | "<" | ">=" | ">"
abbrev pub order : Order → List Token → Type 0
order AtMost = mark Le
order Below = mark Lt
order AtLeast = mark Ge
order Above = mark Gt

-- what a check says of L + a and R + b
abbrev pub check_of : Side → Order → Side → Check
check_of l AtMost r = record { hi = l.col; lo = r.col; most = r.plus -ℤ l.plus; spot = l.spot }
check_of l Below r = record { hi = l.col; lo = r.col; most = r.plus -ℤ l.plus -ℤ pos 1; spot = l.spot }
check_of l AtLeast r = record { hi = r.col; lo = l.col; most = l.plus -ℤ r.plus; spot = l.spot }
check_of l Above r = record { hi = r.col; lo = l.col; most = l.plus -ℤ r.plus -ℤ pos 1; spot = l.spot }

-- side ("<=" | "<" | ">=" | ">") side
pub record Compared (check : Check) (tokens : List Token) : Type 0 where
  pub left : Side
  pub by : Order
  pub right : Side
  pub is : check ≡ check_of left by right
  pub written : (IsSide left · order by · IsSide right) tokens

-- "unique" "(" NAME ")" | "check" "(" NAME "in" "(" TEXT {"," TEXT} ")" ")" | "check" "(" side order side ")"
-- | "foreign" "key" "(" NAME ")" "references" NAME "(" NAME ")"
abbrev pub invariant : Spot → Rule → List Token → Type 0
invariant spot (Different col) = word_at spot (codes "unique") · mark LeftParen · name col · mark RightParen
invariant spot (OneOf col texts) =
    word_at spot (codes "check") · mark LeftParen · name col · word (codes "in") · mark LeftParen · separated text texts · mark RightParen · mark RightParen
invariant spot (Bound check) = word_at spot (codes "check") · mark LeftParen · Compared check · mark RightParen
invariant spot (Refers col table target) =
    word_at spot (codes "foreign") · word (codes "key") · mark LeftParen · name col · mark RightParen
    · word (codes "references") · name table · mark LeftParen · name target · mark RightParen

pub data Item : Type 0 where
  Field : Column → Item
  Key : Ident → Option Ident → Item
  Demand : Spot → Rule → Item

-- a column, or "primary" "key" "(" NAME ["," NAME] ")", or an invariant
abbrev pub item : Item → List Token → Type 0
item (Field c) = column c
item (Key first second) = word (codes "primary") · word (codes "key") · mark LeftParen · key_names first second · mark RightParen
item (Demand spot rule) = invariant spot rule

-- a table as it is written
pub record Written : Type 0 where
  pub kind : Kind
  pub name : Ident
  pub items : List Item

-- ["@" kind] "create" "table" NAME "(" item {"," item} ")" ";"
abbrev pub table : Written → List Token → Type 0
table t =
    table_kind t.kind · word (codes "create") · word (codes "table") · name t.name · mark LeftParen · separated item t.items · mark RightParen · mark Semi

-- {table}
abbrev pub tables : List Written → List Token → Type 0
tables [] = nothing
tables (t ∷ rest) = table t · tables rest

-- table {table}
abbrev pub schema : List Written → List Token → Type 0
schema [] = λ _. ⊥
schema (t ∷ rest) = table t · tables rest

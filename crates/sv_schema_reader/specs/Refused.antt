-- Where tokens are refused: at the first token that no rule allows, or at the first that begins an element past a limit.
use Rattle.std.specs.Prelude.{◌≡◌, ◌≢◌, ◌⊎◌, List, [], ◌∷◌, ◌++◌, codes, ℕ, Result, Vec}
use Rattle.std.specs.Global.{Global}
use Rattle.sv_value.specs.declared.spots.Spot.{Spot}
use Rattle.sv_lex.specs.declared.marks.Mark.TheVariants.{Comma, At}
use Rattle.sv_lex.specs.declared.tokens.Token.{Token}
use Rattle.sv_lex.specs.declared.tokens.TokenKind.{TokenKind}
use Rattle.sv_lex.specs.declared.tokens.TokenKind.TheVariants.{Name, Number, Text, Mark}
use Rattle.sv_app.specs.declared.refusals.Code.TheVariants.{Syntax, Many}
use Rattle.sv_app.specs.declared.refusals.Refusal.{Refusal}
use Rattle.sv_app.specs.declared.schemas.Check.{Check}
use Rattle.sv_app.specs.declared.refusals.Stop.{Stop}
use Rattle.sv_app.specs.declared.schemas.Table.{Table}
use Rattle.sv_app.specs.Schema.{Bound, Declaration, schema_of}
use Rattle.sv_schema_reader.specs.Declarations.{all_declared}
use Rattle.sv_schema_reader.specs.Grammar.{Written, schema, item, Demand}
use Rattle.sv_schema_reader.specs.Limits.{AreSmall, Fits64}
use Rattle.sv_reader.specs.Places.{spot_of, AnswersTo}

-- a schema may begin with these tokens
pub record Begins (tokens : List Token) : Type 0 where
  pub more : List Token
  pub tables : List Written
  pub is : schema tables (tokens ++ more)

-- a schema that keeps the limits may begin with these tokens
pub record BeginsSmall (tokens : List Token) : Type 0 where
  pub more : List Token
  pub tables : List Written
  pub is : schema tables (tokens ++ more)
  pub small : AreSmall tables

-- what may stand behind tokens and pass no limit by itself: nothing, a comma, or the inside of a check that isn't complete
pub data IsPart : List Token → List Token → Type 0 where
  Empty : (front : List Token) → IsPart front []
  AfterComma : (front : List Token) (comma : Token) → comma.kind ≡ Mark Comma → IsPart front (comma ∷ [])
  InCheck : (front before : List Token) (word : Token) (inside more : List Token) (spot : Spot) (check : Check)
      → front ≡ before ++ word ∷ [] → item (Demand spot (Bound check)) (word ∷ inside ++ more) → more ≢ [] → IsPart front inside

-- no element of these tokens passes a limit
pub record PassesNone (tokens : List Token) : Type 0 where
  pub front : List Token
  pub part : List Token
  pub whole : tokens ≡ front ++ part
  pub begins : BeginsSmall front
  pub is : IsPart front part

-- the front is well written, and no rule allows what stands behind it
pub record IsMisplaced (tokens : List Token) (end : Spot) (refusal : Refusal) : Type 0 where
  pub front : List Token
  pub rest : List Token
  pub whole : tokens ≡ front ++ rest
  pub place : refusal ≡ record { spot = spot_of end rest; code = Syntax }
  pub small : PassesNone front
  pub begins : Begins front
  pub unfinished : (tables : List Written) → schema tables front → ⊥
  pub closed : (token : Token) (others : List Token) → rest ≡ token ∷ others → Begins (front ++ token ∷ []) → ⊥

-- a name or a reserved word, a text, or the mark of a kind
abbrev pub IsFirst : TokenKind → Type 0
IsFirst (Name bytes) = Unit {0}
IsFirst (Text bytes) = Unit {0}
IsFirst (Number n) = ⊥
IsFirst (Mark found) = found ≡ At

-- a token that begins an element, or a check that is complete and has a bound outside 64 bits
pub data IsElement : List Token → Type 0 where
  First : (token : Token) → IsFirst token.kind → IsElement (token ∷ [])
  Outside : (spot : Spot) (check : Check) (tokens : List Token) → item (Demand spot (Bound check)) tokens → (Fits64 check.most → ⊥) → IsElement tokens

-- the front is well written and small, and with the element behind it no schema that keeps the limits begins so
pub record IsTooMany (tokens : List Token) (end : Spot) (refusal : Refusal) : Type 0 where
  pub front : List Token
  pub element : List Token
  pub rest : List Token
  pub whole : tokens ≡ front ++ element ++ rest
  pub place : refusal ≡ record { spot = spot_of end element; code = Many }
  pub is : IsElement element
  pub small : PassesNone front
  pub begins : Begins (front ++ element)
  pub past : BeginsSmall (front ++ element) → ⊥

abbrev pub IsRefused : List Token → Spot → Refusal → Type 0
IsRefused tokens end refusal = IsMisplaced tokens end refusal ⊎ IsTooMany tokens end refusal

-- a table begins here
abbrev pub BeginsTable : List Token → Type 0
BeginsTable [] = ⊥
BeginsTable (token ∷ others) = (token.kind ≡ Mark At) ⊎ (token.kind ≡ Name (codes "create"))

-- the tokens are tables that keep the limits and declare this, and no other table begins behind them
pub record IsRead (tokens rest : List Token) (declarations : List Declaration) : Type 0 where
  pub tables : List Written
  pub is : schema tables tokens
  pub small : AreSmall tables
  pub declares : declarations ≡ all_declared tables
  pub ends : BeginsTable rest → ⊥

-- these declarations, and the place behind their tokens; or there was no memory
abbrev pub IsAnswer : Result (Vec Table Global × ℕ) Stop → List Declaration → ℕ → Type 0
IsAnswer = AnswersTo (λ (tables : Vec Table Global). schema_of tables.items)

-- Where tokens are refused: at the first one with which no transactions begin that keep the limits.
use Rattle.std.specs.Prelude.{◌≡◌, ◌⊎◌, ℕ, List, [], ◌∷◌, ◌++◌, length, codes, Result, Vec}
use Rattle.std.specs.Global.{Global}
use Rattle.sv_value.specs.declared.spots.Spot.{Spot}
use Rattle.sv_lex.specs.declared.tokens.Token.{Token}
use Rattle.sv_lex.specs.declared.tokens.TokenKind.TheVariants.{Name}
use Rattle.sv_app.specs.declared.refusals.Code.TheVariants.{Syntax, Many}
use Rattle.sv_app.specs.declared.refusals.Refusal.{Refusal}
use Rattle.sv_app.specs.declared.refusals.Stop.{Stop}
use Rattle.sv_app.specs.declared.txns.Txn.{Txn}
use Rattle.sv_app.specs.Trees.{Transaction, transactions_of}
use Rattle.sv_reader.specs.Places.{spot_of, AnswersTo}
use Rattle.sv_txn_reader.specs.Grammar.{transactions}

-- transactions may begin with these tokens, whatever limits they pass
pub record Begins (tokens : List Token) : Type 0 where
  pub more : List Token
  pub txns : List Transaction
  pub is : transactions (length (tokens ++ more)) 0 txns (tokens ++ more) []

-- transactions may begin with these tokens, and no element that begins in them passes a limit
pub record BeginsWithin (tokens : List Token) : Type 0 where
  pub more : List Token
  pub txns : List Transaction
  pub is : transactions (length more) 0 txns (tokens ++ more) []

-- a transaction begins here
abbrev pub BeginsTxn : List Token → Type 0
BeginsTxn [] = ⊥
BeginsTxn (token ∷ others) = token.kind ≡ Name (codes "txn")

-- the front keeps the limits, and no rule allows what stands behind it: neither a transaction goes on so, nor are they all complete
pub record IsMisplaced (tokens : List Token) (end : Spot) (refusal : Refusal) : Type 0 where
  pub front : List Token
  pub rest : List Token
  pub whole : tokens ≡ front ++ rest
  pub place : refusal ≡ record { spot = spot_of end rest; code = Syntax }
  pub begins : BeginsWithin front
  pub unfinished : (txns : List Transaction) → transactions (length tokens) 0 txns tokens rest → (BeginsTxn rest → ⊥) → ⊥
  pub closed : (token : Token) (others : List Token) → rest ≡ token ∷ others → Begins (front ++ token ∷ []) → ⊥

-- the front keeps the limits, and with the token behind it one is passed
pub record IsTooMany (tokens : List Token) (refusal : Refusal) : Type 0 where
  pub front : List Token
  pub token : Token
  pub rest : List Token
  pub whole : tokens ≡ front ++ token ∷ rest
  pub place : refusal ≡ record { spot = token.spot; code = Many }
  pub within : BeginsWithin front
  pub begins : Begins (front ++ token ∷ [])
  pub past : BeginsWithin (front ++ token ∷ []) → ⊥

abbrev pub IsRefused : List Token → Spot → Refusal → Type 0
IsRefused tokens end refusal = IsMisplaced tokens end refusal ⊎ IsTooMany tokens refusal

-- the tokens up to the rest are these transactions, which keep the limits, and none begins behind them
pub record AreRead (txns : List Transaction) (tokens rest : List Token) : Type 0 where
  pub is : transactions 0 0 txns tokens rest
  pub ends : BeginsTxn rest → ⊥

-- these transactions, and the place behind their tokens; or there was no memory
abbrev pub IsAnswer : Result (Vec Txn Global × ℕ) Stop → List Transaction → ℕ → Type 0
IsAnswer = AnswersTo (λ (txns : Vec Txn Global). transactions_of txns.items)

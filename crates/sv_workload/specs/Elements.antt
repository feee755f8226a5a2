-- Where refusals stand: at the token that no rule allows, in elements that stand one behind another, and which is the first.
use Rattle.std.specs.Prelude.{◌≡◌, ◌≤◌, ◌<◌, ◌⊎◌, List, [], ◌∷◌, ◌++◌, length}
use Rattle.sv_lex.specs.declared.tokens.Token.{Token}
use Rattle.sv_app.specs.declared.refusals.Code.{Code}
use Rattle.sv_app.specs.Codes.{number_of}

-- an element may begin with these tokens
pub record Begins {A : Type 0} (element : A → List Token → Type 0) (tokens : List Token) : Type 0 where
  pub more : List Token
  pub item : A
  pub is : element item (tokens ++ more)

-- the tokens begin an element, but from there on no rule of it allows what stands there
pub record IsMisplaced {A : Type 0} (element : A → List Token → Type 0) (tokens here : List Token) : Type 0 where
  pub front : List Token
  pub whole : tokens ≡ front ++ here
  pub begins : Begins element front
  pub unfinished : (item : A) → element item front → ⊥
  pub closed : (token : Token) (others : List Token) → here ≡ token ∷ others → Begins element (front ++ token ∷ []) → ⊥

-- which codes stand at which tokens
abbrev pub Refusals : Type 1
Refusals = Code → List Token → Type 0

-- A refusal in one of the elements that stand here one behind another. What is refused in an element may depend on the elements before it.
pub data Among {A : Type 0} (element : A → List Token → Type 0) (refused : List A → List Token → Refusals) : List A → List Token → Code → List Token → Type 0 where
  Here : (before : List A) (tokens : List Token) (code : Code) (here : List Token) → refused before tokens code here → Among element refused before tokens code here
  Behind : (before : List A) (item : A) (front rest : List Token) (code : Code) (here : List Token) → element item front → Among element refused (before ++ item ∷ []) rest code here
      → Among element refused before (front ++ rest) code here

-- the first of refusals: none stands before it, and none of a lower code at its place
pub record IsFirst (refused : Refusals) (code : Code) (here : List Token) : Type 0 where
  pub is : refused code here
  pub first : (other : Code) (there : List Token) → refused other there → (length there < length here) ⊎ ((length there ≡ length here) × (number_of code ≤ number_of other))

abbrev pub AreNone : Refusals → Type 0
AreNone refused = (code : Code) (here : List Token) → refused code here → ⊥

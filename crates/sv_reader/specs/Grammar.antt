-- With which tokens the parts of a grammar are written: single tokens, one part behind another, and lists.
use Rattle.std.specs.Prelude.{◌≡◌, ℕ, ℤ, false, List, [], ◌∷◌, ◌++◌}
use Rattle.sv_value.specs.declared.spots.Spot.{Spot}
use Rattle.sv_lex.specs.declared.marks.Mark.{Mark as IsMark}
use Rattle.sv_lex.specs.declared.marks.Mark.TheVariants.{Comma}
use Rattle.sv_lex.specs.declared.tokens.Token.{Token}
use Rattle.sv_lex.specs.declared.tokens.TokenKind.{TokenKind}
use Rattle.sv_lex.specs.declared.tokens.TokenKind.TheVariants.{Name, Number, Text, Mark}
use Rattle.sv_app.specs.declared.apps.Ident.{Ident}
use Rattle.sv_app.specs.Words.{is_reserved}

-- tokens of one part and, behind them, of another
pub record Both (First Then : List Token → Type 0) (tokens : List Token) : Type 0 where
  pub front : List Token
  pub back : List Token
  pub whole : tokens ≡ front ++ back
  pub first : First front
  pub then : Then back

infixr 10 ◌·◌
abbrev pub ◌·◌ : (List Token → Type 0) → (List Token → Type 0) → List Token → Type 0
First · Then = Both First Then

-- one token, of which this holds
pub record One (Holds : Token → Type 0) (tokens : List Token) : Type 0 where
  pub token : Token
  pub only : tokens ≡ token ∷ []
  pub holds : Holds token

abbrev pub nothing : List Token → Type 0
nothing tokens = tokens ≡ []

abbrev pub kind : TokenKind → List Token → Type 0
kind wanted = One (λ token. token.kind ≡ wanted)

abbrev pub word : List ℕ → List Token → Type 0
word bytes = kind (Name bytes)

abbrev pub mark : IsMark → List Token → Type 0
mark wanted = kind (Mark wanted)

-- a word at this place
abbrev pub word_at : Spot → List ℕ → List Token → Type 0
word_at spot bytes = One (λ token. (token.kind ≡ Name bytes) × (token.spot ≡ spot))

abbrev pub number_at : Spot → ℤ → List Token → Type 0
number_at spot n = One (λ token. (token.kind ≡ Number n) × (token.spot ≡ spot))

-- NAME, which is no reserved word; it names nothing yet
abbrev pub IsName : Ident → Token → Type 0
IsName ident token = (token.kind ≡ Name ident.name) × (is_reserved ident.name ≡ false) × (token.spot ≡ ident.spot) × (ident.num ≡ 0)

abbrev pub name : Ident → List Token → Type 0
name ident = One (IsName ident)

abbrev pub text : List ℕ → List Token → Type 0
text bytes = kind (Text bytes)

-- x {"," x}
abbrev pub others : {A : Type 0} → (A → List Token → Type 0) → List A → List Token → Type 0
others x [] = nothing
others x (a ∷ rest) = mark Comma · x a · others x rest

abbrev pub separated : {A : Type 0} → (A → List Token → Type 0) → List A → List Token → Type 0
separated x [] = λ _. ⊥
separated x (a ∷ rest) = x a · others x rest

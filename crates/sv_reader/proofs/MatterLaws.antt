-- What of a grammar its limits are about: which parts pass none by themselves, and which elements may pass one.
use Rattle.std.proofs.Common.{◌≡◌, ◌⊎◌, inl, inr, List, [], ◌∷◌, ◌++◌, refl}
use Rattle.sv_lex.specs.declared.marks.Mark.TheVariants.{Comma}
use Rattle.sv_lex.specs.declared.tokens.Token.{Token}
use Rattle.sv_lex.specs.declared.tokens.TokenKind.{TokenKind}
use Rattle.sv_lex.specs.declared.tokens.TokenKind.TheVariants.{Mark}

-- a first token, and others
pub record Headed (tokens : List Token) : Type 0 where
  pub token : Token
  pub others : List Token
  pub whole : tokens ≡ token ∷ others

-- a comma alone
pub record OneComma (tokens : List Token) : Type 0 where
  pub comma : Token
  pub is : comma.kind ≡ Mark Comma
  pub only : tokens ≡ comma ∷ []

pub record Matter : Type 1 where
  pub IsPart : List Token → List Token → Type 0
  pub IsElement : List Token → Type 0
  pub IsFirst : TokenKind → Type 0
  pub empty : (front : List Token) → IsPart front []
  pub comma : (front : List Token) (comma : Token) → comma.kind ≡ Mark Comma → IsPart front (comma ∷ [])
  pub behind : (pre front part : List Token) → IsPart front part → IsPart (pre ++ front) part
  pub alone : (part : List Token) → IsPart [] part → (part ≡ []) ⊎ OneComma part
  pub first : (token : Token) → IsFirst token.kind → IsElement (token ∷ [])
  pub headed : (element : List Token) → IsElement element → Headed element

-- parts that pass no limit by themselves: nothing, or a comma
pub data IsBarePart : List Token → List Token → Type 0 where
  Empty : (front : List Token) → IsBarePart front []
  AfterComma : (front : List Token) (comma : Token) → comma.kind ≡ Mark Comma → IsBarePart front (comma ∷ [])

pub bare_behind : (pre front part : List Token) → IsBarePart front part → IsBarePart (pre ++ front) part
bare_behind pre _ _ (Empty front) = Empty (pre ++ front)
bare_behind pre _ _ (AfterComma front comma is) = AfterComma (pre ++ front) comma is

pub bare_alone : (front part : List Token) → IsBarePart front part → (part ≡ []) ⊎ OneComma part
bare_alone _ _ (Empty front) = inl refl
bare_alone _ _ (AfterComma front comma is) = inr (record { comma = comma; is = is; only = refl })

-- a grammar in which any token may begin an element
abbrev pub bare : Matter
bare = record {
  IsPart = IsBarePart;
  IsElement = Headed;
  IsFirst = λ _. Unit {0};
  empty = Empty;
  comma = AfterComma;
  behind = bare_behind;
  alone = bare_alone [];
  first = λ token is. record { token = token; others = []; whole = refl };
  headed = λ element is. is;
}

-- How the tokens of a document stand in it: each is the document's own bytes, they stand in order, and between them is only white space and comments.
use Rattle.std.specs.Prelude.{◌≡◌, ◌≤◌, ◌<◌, ℕ, suc, pos, Bool, true, false, IsTrue, List, [], ◌∷◌, ◌++◌, length, drop, slice_range, not, ◌==◌, ◌&&◌, ◌||◌}
use Rattle.std.specs.List.{list_all}
use Rattle.sv_value.specs.Names.{is_digit}
use Rattle.sv_value.specs.Texts.{is_text_byte}
use Rattle.sv_lex.specs.declared.tokens.Token.{Token}
use Rattle.sv_lex.specs.declared.tokens.TokenKind.{TokenKind}
use Rattle.sv_lex.specs.declared.tokens.TokenKind.TheVariants as kinds
use Rattle.sv_lex.specs.Marks.{mark_bytes}
use Rattle.sv_lex.specs.Spots.{spot_at}
use Rattle.sv_lex.specs.Tokens.{Fault, BadByte, LongNumber, LongText, LongName, Wrong, digits_value, is_white, piece_at}

-- white space and comments, each comment with the line feed that ends it; the Bool tells whether a comment is open before the bytes
abbrev pub is_blank : Bool → List ℕ → Bool
is_blank commented [] = not commented
is_blank false (byte ∷ rest) = (is_white byte || byte == 35) && is_blank (byte == 35) rest
is_blank true (byte ∷ rest) = is_blank (not (byte == 10)) rest

-- a token is written with these bytes
abbrev pub IsWritten : TokenKind → List ℕ → Type 0
IsWritten (kinds.Name name) bytes = bytes ≡ name
IsWritten (kinds.Number number) bytes = IsTrue (list_all is_digit bytes) × (number ≡ pos (digits_value bytes))
IsWritten (kinds.Text text) bytes = bytes ≡ 39 ∷ text ++ 39 ∷ []
IsWritten (kinds.Mark mark) bytes = bytes ≡ mark_bytes mark

-- the next token behind a place
pub record IsNext (bytes : List ℕ) (at : ℕ) (token : Token) : Type 0 where
  pub order : at ≤ token.from
  pub blank : IsTrue (is_blank false (slice_range bytes at token.from))
  pub some : token.from < token.to
  pub within : token.to ≤ length bytes
  pub written : IsWritten token.kind (slice_range bytes token.from token.to)
  pub spot : token.spot ≡ spot_at bytes token.from

-- one after the other these tokens stand behind a place, and Behind holds of the place behind the last of them
abbrev pub Stand : List ℕ → ℕ → List Token → (ℕ → Type 0) → Type 0
Stand bytes at [] Behind = Behind at
Stand bytes at (token ∷ tokens) Behind = IsNext bytes at token × Stand bytes token.to tokens Behind

-- only white space and comments stand behind a place; the end of the document ends a comment as a line feed does
abbrev pub IsLast : List ℕ → ℕ → Type 0
IsLast bytes at = IsTrue (is_blank false (drop at bytes ++ 10 ∷ []))

-- these are the tokens of the whole document
abbrev pub AreAll : List ℕ → List Token → Type 0
AreAll bytes tokens = Stand bytes 0 tokens (IsLast bytes)

abbrev pub place_of : Fault → ℕ
place_of (BadByte at) = at
place_of (LongNumber at) = at
place_of (LongText at) = at
place_of (LongName at) = at

-- what begins next behind a place is wrong: the fault stands at its first byte, or else all bytes between may stand in the text that is open there
pub record IsNextWrong (bytes : List ℕ) (fault : Fault) (at : ℕ) : Type 0 where
  pub place : ℕ
  pub order : at ≤ place
  pub blank : IsTrue (is_blank false (slice_range bytes at place))
  pub byte : ℕ
  pub rest : List ℕ
  pub begins : drop place bytes ≡ byte ∷ rest
  pub wrong : piece_at place byte rest ≡ Wrong fault
  pub later : place ≤ place_of fault
  pub inside : IsTrue (list_all is_text_byte (slice_range bytes (suc place) (place_of fault)))

-- the first fault of a document: before it stand whole tokens, white space and comments
abbrev pub IsFirst : List ℕ → Fault → Type 0
IsFirst bytes fault = (tokens : List Token) × Stand bytes 0 tokens (IsNextWrong bytes fault)

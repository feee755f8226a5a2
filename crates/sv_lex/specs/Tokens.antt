-- The tokens of a document: what begins at each place, from left to right, up to the first fault.
use Rattle.std.specs.Prelude.{ℕ, zero, suc, ◌+◌, ◌-◌, ◌*◌, pos, Bool, false, if◌then◌else◌, List, [], ◌∷◌, length, drop, fold, take_while, Option, Some, None, Result, Ok, Err, nat_le, ◌==◌, ◌||◌}
use Rattle.std.specs.Io.BufRead.{take_through}
use Rattle.sv_value.specs.Names.{is_letter, is_digit, is_name_byte}
use Rattle.sv_value.specs.Texts.{is_text_byte}
use Rattle.sv_lex.specs.declared.marks.Mark.{Mark}
use Rattle.sv_lex.specs.declared.tokens.Token.{Token}
use Rattle.sv_lex.specs.declared.tokens.TokenKind.{TokenKind}
use Rattle.sv_lex.specs.declared.tokens.TokenKind.TheVariants as kinds
use Rattle.sv_lex.specs.Marks.{mark_bytes, longest_mark}
use Rattle.sv_lex.specs.Spots.{spot_at}

-- a fault, each with its place
pub data Fault : Type 0 where
  BadByte : ℕ → Fault
  LongNumber : ℕ → Fault
  LongText : ℕ → Fault
  LongName : ℕ → Fault

-- what begins at a place: white space or a comment of so many bytes, a token of so many bytes, or a fault
pub data Piece : Type 0 where
  Gap : ℕ → Piece
  Whole : TokenKind → ℕ → Piece
  Wrong : Fault → Piece

abbrev pub is_white : ℕ → Bool
is_white byte = byte == 32 || byte == 9 || byte == 13 || byte == 10

-- the number that digits are
abbrev pub digits_value : List ℕ → ℕ
digits_value digits = fold (λ value digit. 10 * value + (digit - 48)) 0 digits

-- a name of these bytes, which begins at this place
abbrev pub name_piece : ℕ → List ℕ → Piece
name_piece at name = if nat_le (length name) 32 then Whole (kinds.Name name) (length name) else Wrong (LongName at)

-- a number of these digits
abbrev pub number_piece : ℕ → List ℕ → Piece
number_piece at digits =
    if nat_le (digits_value digits) 9223372036854775807 then Whole (kinds.Number (pos (digits_value digits))) (length digits) else Wrong (LongNumber at)

abbrev pub begins_with_quote : List ℕ → Bool
begins_with_quote [] = false
begins_with_quote (byte ∷ rest) = byte == 39

-- a text: the bytes behind its first quote that may stand in it, and what follows these
abbrev pub text_piece : ℕ → List ℕ → List ℕ → Piece
text_piece at text rest =
    if nat_le (length text) 40
    then (if begins_with_quote rest then Whole (kinds.Text text) (length text + 2) else Wrong (BadByte (at + 1 + length text)))
    else Wrong (LongText at)

abbrev pub mark_piece : ℕ → Option Mark → Piece
mark_piece at None = Wrong (BadByte at)
mark_piece at (Some mark) = Whole (kinds.Mark mark) (length (mark_bytes mark))

-- how many bytes the white space or the comment has that begins with this byte before the others
abbrev pub gap_at : ℕ → List ℕ → Option ℕ
gap_at byte rest = if is_white byte then Some 1 else if byte == 35 then Some (length (take_through 10 (byte ∷ rest))) else None

-- the token that begins at a place with this byte before the others
unfoldable pub token_at : ℕ → ℕ → List ℕ → Piece
token_at at byte rest =
    if is_letter byte then name_piece at (take_while is_name_byte (byte ∷ rest))
    else if is_digit byte then number_piece at (take_while is_digit (byte ∷ rest))
    else if byte == 39 then text_piece at (take_while is_text_byte rest) (drop (length (take_while is_text_byte rest)) rest)
    else mark_piece at (longest_mark (byte ∷ rest))

abbrev pub gap_or : Option ℕ → Piece → Piece
gap_or (Some len) token = Gap len
gap_or None token = token

-- what begins at a place with this byte before the others
abbrev pub piece_at : ℕ → ℕ → List ℕ → Piece
piece_at at byte rest = gap_or (gap_at byte rest) (token_at at byte rest)

abbrev pub piece_length : Piece → ℕ
piece_length (Gap len) = len
piece_length (Whole kind len) = len
piece_length (Wrong fault) = 1

abbrev pub with_token : Token → Result (List Token) Fault → Result (List Token) Fault
with_token token (Ok tokens) = Ok (token ∷ tokens)
with_token token (Err fault) = Err fault

-- what begins at a place of the document, and then what is read behind it
abbrev pub with_piece : List ℕ → ℕ → Piece → Result (List Token) Fault → Result (List Token) Fault
with_piece bytes at (Gap len) others = others
with_piece bytes at (Whole kind len) others = with_token (record { kind = kind; «from» = at; to = at + len; spot = spot_at bytes at }) others
with_piece bytes at (Wrong fault) others = Err fault

-- the tokens from a place on, where the rest of the document stands, and its first bytes belong to what began before
abbrev pub tokens_from : List ℕ → ℕ → ℕ → List ℕ → Result (List Token) Fault
tokens_from bytes at inside [] = Ok []
tokens_from bytes at (suc inside) (byte ∷ rest) = tokens_from bytes (at + 1) inside rest
tokens_from bytes at zero (byte ∷ rest) =
    with_piece bytes at (piece_at at byte rest) (tokens_from bytes (at + 1) (piece_length (piece_at at byte rest) - 1) rest)

-- the tokens of a document, or its first fault
abbrev pub lexed : List ℕ → Result (List Token) Fault
lexed bytes = tokens_from bytes 0 0 bytes

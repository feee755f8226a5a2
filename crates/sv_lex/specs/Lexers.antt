-- What the lexer answers, by the definition of tokens.
use Rattle.std.specs.Prelude.{◌≡◌, ℕ, List, [], ◌∷◌, drop, Option, Some, None, Result, Ok, Err, IsSomeAnd}
use Rattle.sv_lex.specs.declared.pieces.Found.{Found}
use Rattle.sv_lex.specs.declared.stops.LexStop.{LexStop}
use Rattle.sv_lex.specs.declared.stops.LexStop.TheVariants as stops
use Rattle.sv_lex.specs.declared.tokens.Token.{Token}
use Rattle.sv_lex.specs.Tokens.{Fault, BadByte, LongNumber, LongText, LongName, Piece, Whole, Wrong, gap_at, token_at, with_token, tokens_from}

-- the fault that a stop tells; none where memory ran out
abbrev pub fault_of : LexStop → Option Fault
fault_of (stops.BadByte at) = Some (BadByte at)
fault_of (stops.LongNumber at) = Some (LongNumber at)
fault_of (stops.LongText at) = Some (LongText at)
fault_of (stops.LongName at) = Some (LongName at)
fault_of stops.NoMemory = None

-- this token, or this fault
abbrev pub Finds : Result Found LexStop → Piece → Type 0
Finds (Ok found) piece = piece ≡ Whole found.kind found.len
Finds (Err stop) piece = IsSomeAnd (fault_of stop) (λ fault. piece ≡ Wrong fault)

-- the tokens from a place on at which nothing is open
abbrev pub tokens_at : List ℕ → ℕ → Result (List Token) Fault
tokens_at bytes at = tokens_from bytes at 0 (drop at bytes)

-- how many bytes the white space or the comment has that the bytes begin with
abbrev pub gap_in : List ℕ → Option ℕ
gap_in [] = None
gap_in (byte ∷ rest) = gap_at byte rest

-- what begins with the bytes at a place, where no white space and no comment does; nothing at the end
abbrev pub token_in : ℕ → List ℕ → Option Piece
token_in at [] = None
token_in at (byte ∷ rest) = Some (token_at at byte rest)

abbrev pub FindsIn : Result (Option Found) LexStop → Option Piece → Type 0
FindsIn (Ok None) piece = piece ≡ None
FindsIn (Ok (Some found)) piece = piece ≡ Some (Whole found.kind found.len)
FindsIn (Err stop) piece = IsSomeAnd (fault_of stop) (λ fault. piece ≡ Some (Wrong fault))

-- these tokens before the others
abbrev pub with_front : List Token → Result (List Token) Fault → Result (List Token) Fault
with_front [] others = others
with_front (token ∷ tokens) others = with_token token (with_front tokens others)

-- the next of the tokens left, behind which others are; the end of them; or the fault in their place
abbrev pub Gives : Result (Option Token) LexStop → Result (List Token) Fault → Result (List Token) Fault → Type 0
Gives (Ok None) left others = left ≡ Ok []
Gives (Ok (Some token)) left others = left ≡ with_token token others
Gives (Err stop) left others = IsSomeAnd (fault_of stop) (λ fault. left ≡ Err fault)

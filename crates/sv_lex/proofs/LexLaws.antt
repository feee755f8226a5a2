-- Reading on behind a piece.
use Rattle.std.proofs.Common.{◌≡◌, ◌∙◌, ℕ, zero, suc, ◌+◌, ◌-◌, ◌≤◌, List, [], ◌∷◌, length, drop, Option, Some, None, Ok, Err, refl, sym, ap, subst, arith}
use Rattle.std.proofs.lemmas.List.{drop-drop, length-drop}
use Rattle.sv_lex.specs.declared.pieces.Found.{Found}
use Rattle.sv_lex.specs.declared.tokens.TokenKind.{TokenKind}
use Rattle.sv_lex.specs.Lexers.{FindsIn, gap_in, token_in, tokens_at}
use Rattle.sv_lex.specs.Spots.{spot_at}
use Rattle.sv_lex.specs.Tokens.{Fault, Piece, Whole, Wrong, Gap, gap_or, token_at, piece_at, piece_length, with_token, with_piece, tokens_from}
use Rattle.sv_lex.proofs.PieceLaws.{Takes, gap_takes, token_takes}

skipped : (bytes : List ℕ) (at n : ℕ) (rest : List ℕ) → n ≤ length rest → tokens_from bytes at n rest ≡ tokens_from bytes (at + n) 0 (drop n rest)
skipped bytes at zero rest le = ap (λ place. tokens_from bytes place 0 rest) (omega arith)
skipped bytes at (suc n) [] le = absurd (omega (arith, le))
skipped bytes at (suc n) (byte ∷ rest) le = skipped bytes (at + 1) n rest (omega (arith, le)) ∙ ap (λ place. tokens_from bytes place 0 (drop n rest)) (omega arith)

behind : (bytes : List ℕ) (at byte : ℕ) (rest : List ℕ) (n : ℕ) → drop at bytes ≡ byte ∷ rest → Takes n (1 + length rest) → tokens_from bytes (at + 1) (n - 1) rest ≡ tokens_at bytes (at + n)
behind bytes at byte rest zero cut takes = absurd (omega (arith, takes.some))
behind bytes at byte rest (suc n) cut takes =
    let same : suc n - 1 ≡ n = omega arith in
    let place : at + 1 + n ≡ at + suc n = omega arith in
    let left : drop n rest ≡ drop (at + suc n) bytes = ap (λ xs. drop (suc n) xs) (sym cut) ∙ drop-drop (suc n) at bytes in
    rw (same, skipped bytes (at + 1) n rest (omega (arith, takes.fits)), place, left) refl

-- what a place that begins with a byte reads, by its piece
at_piece : (bytes : List ℕ) (at byte : ℕ) (rest : List ℕ) (piece : Piece) → drop at bytes ≡ byte ∷ rest → piece_at at byte rest ≡ piece → tokens_at bytes at ≡ with_piece bytes at piece (tokens_from bytes (at + 1) (piece_length piece - 1) rest)
at_piece bytes at byte rest piece cut e =
    ap (λ xs. tokens_from bytes at 0 xs) cut ∙ ap (λ found. with_piece bytes at found (tokens_from bytes (at + 1) (piece_length found - 1) rest)) e

gap_from : (bytes : List ℕ) (at : ℕ) (xs : List ℕ) (n : ℕ) → drop at bytes ≡ xs → gap_in xs ≡ Some n → tokens_at bytes at ≡ tokens_at bytes (at + n)
gap_from bytes at [] n cut gap = absurd cc
gap_from bytes at (byte ∷ rest) n cut gap =
    at_piece bytes at byte rest (Gap n) cut (ap (λ found. gap_or found (token_at at byte rest)) gap) ∙ behind bytes at byte rest n cut (gap_takes byte rest n gap)

pub at_gap : (bytes : List ℕ) (at n : ℕ) → gap_in (drop at bytes) ≡ Some n → tokens_at bytes at ≡ tokens_at bytes (at + n)
at_gap bytes at n gap = gap_from bytes at (drop at bytes) n refl gap

token_from : (bytes : List ℕ) (at : ℕ) (xs : List ℕ) (kind : TokenKind) (len : ℕ) → drop at bytes ≡ xs → gap_in xs ≡ None → token_in at xs ≡ Some (Whole kind len) → tokens_at bytes at ≡ with_token (record { kind = kind; from = at; to = at + len; spot = spot_at bytes at }) (tokens_at bytes (at + len))
token_from bytes at [] kind len cut gap token = absurd cc
token_from bytes at (byte ∷ rest) kind len cut gap token =
    let is : token_at at byte rest ≡ Whole kind len = cc in
    at_piece bytes at byte rest (Whole kind len) cut (ap (λ found. gap_or found (token_at at byte rest)) gap ∙ is)
    ∙ ap (λ others. with_token (record { kind = kind; from = at; to = at + len; spot = spot_at bytes at }) others) (behind bytes at byte rest len cut (token_takes at byte rest kind len is))

pub at_token : (bytes : List ℕ) (at : ℕ) (kind : TokenKind) (len : ℕ) → gap_in (drop at bytes) ≡ None → token_in at (drop at bytes) ≡ Some (Whole kind len) → tokens_at bytes at ≡ with_token (record { kind = kind; from = at; to = at + len; spot = spot_at bytes at }) (tokens_at bytes (at + len))
at_token bytes at kind len gap token = token_from bytes at (drop at bytes) kind len refl gap token

fault_from : (bytes : List ℕ) (at : ℕ) (xs : List ℕ) (fault : Fault) → drop at bytes ≡ xs → gap_in xs ≡ None → token_in at xs ≡ Some (Wrong fault) → tokens_at bytes at ≡ Err fault
fault_from bytes at [] fault cut gap token = absurd cc
fault_from bytes at (byte ∷ rest) fault cut gap token =
    let is : token_at at byte rest ≡ Wrong fault = cc in
    at_piece bytes at byte rest (Wrong fault) cut (ap (λ found. gap_or found (token_at at byte rest)) gap ∙ is)

pub at_fault : (bytes : List ℕ) (at : ℕ) (fault : Fault) → gap_in (drop at bytes) ≡ None → token_in at (drop at bytes) ≡ Some (Wrong fault) → tokens_at bytes at ≡ Err fault
at_fault bytes at fault gap token = fault_from bytes at (drop at bytes) fault refl gap token

pub at_end : (bytes : List ℕ) (at : ℕ) → token_in at (drop at bytes) ≡ None → tokens_at bytes at ≡ Ok []
at_end bytes at none = end_from (drop at bytes) none
  where
    end_from : (xs : List ℕ) → token_in at xs ≡ None → tokens_from bytes at 0 xs ≡ Ok []
    end_from [] none = refl
    end_from (byte ∷ rest) none = absurd cc

takes_gap : (xs : List ℕ) (n : ℕ) → gap_in xs ≡ Some n → Takes n (length xs)
takes_gap [] n e = absurd cc
takes_gap (byte ∷ rest) n e = let t = gap_takes byte rest n e in record { some = t.some; fits = omega (arith, t.fits) }

takes_token : (at : ℕ) (xs : List ℕ) (kind : TokenKind) (len : ℕ) → token_in at xs ≡ Some (Whole kind len) → Takes len (length xs)
takes_token at [] kind len e = absurd cc
takes_token at (byte ∷ rest) kind len e =
    let is : token_at at byte rest ≡ Whole kind len = cc in
    let t = token_takes at byte rest kind len is in
    record { some = t.some; fits = omega (arith, t.fits) }

-- behind a piece stands a later place of the document
pub record Moves (at len most : ℕ) : Type 0 where
  pub some : 1 ≤ len
  pub fits : at + len ≤ most

pub gap_moves : (bytes : List ℕ) (at n : ℕ) → gap_in (drop at bytes) ≡ Some n → Moves at n (length bytes)
gap_moves bytes at n e =
    let t = takes_gap (drop at bytes) n e in
    let left : length (drop at bytes) ≡ length bytes - at = length-drop at bytes in
    record { some = t.some; fits = omega (arith, t.some, t.fits, left) }

pub token_moves : (bytes : List ℕ) (at : ℕ) (kind : TokenKind) (len : ℕ) → token_in at (drop at bytes) ≡ Some (Whole kind len) → Moves at len (length bytes)
token_moves bytes at kind len e =
    let t = takes_token at (drop at bytes) kind len e in
    let left : length (drop at bytes) ≡ length bytes - at = length-drop at bytes in
    record { some = t.some; fits = omega (arith, t.some, t.fits, left) }

pub found_is : (found : Option Found) (token : Found) {piece : Option Piece} → FindsIn (Ok found) piece → found ≡ Some token → piece ≡ Some (Whole token.kind token.len)
found_is None token finds e = absurd cc
found_is (Some other) token {piece} finds e = let same : other ≡ token = cc in subst (λ (f : Found). piece ≡ Some (Whole f.kind f.len)) same finds

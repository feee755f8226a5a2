-- How long a piece is.
use Rattle.std.proofs.Common.{◌≡◌, ℕ, ◌+◌, ◌-◌, ◌≤◌, Bool, true, false, List, [], ◌∷◌, length, take, drop, Option, Some, None, refl, subst, arith, nat_le, if◌then◌else◌, ◌==◌, min}
use Rattle.std.specs.Io.BufRead.{take_through}
use Rattle.std.specs.List.{prefix_len, take_while}
use Rattle.std.proofs.lemmas.List.Sums.{prefix_len-le-length}
use Rattle.std.proofs.lemmas.List.Folds.{length-prefix_len}
use Rattle.sv_value.specs.Names.{is_letter, is_digit, is_name_byte}
use Rattle.sv_value.specs.Texts.{is_text_byte}
use Rattle.sv_lex.specs.declared.marks.Mark.{Mark}
use Rattle.sv_lex.specs.declared.tokens.TokenKind.{TokenKind}
use Rattle.sv_lex.specs.declared.tokens.TokenKind.TheVariants as kinds
use Rattle.sv_lex.specs.Spots.{is_in_line}
use Rattle.std.proofs.lemmas.List.{length-drop}
use Rattle.sv_lex.specs.Marks.{longest_mark}
use Rattle.sv_lex.specs.Tokens.{Piece, Whole, Wrong, Gap, Fault, BadByte, LongText, is_white, gap_at, token_at, name_piece, number_piece, text_piece, mark_piece, begins_with_quote}
use Rattle.sv_lex.proofs.GapLaws.{length-line}
use Rattle.sv_lex.proofs.MarkLaws.{mark_some, mark_fits}
use Rattle.sv_lex.proofs.RunLaws.{letter_stands}

-- at least one byte, and no more than there are
pub record Takes (len most : ℕ) : Type 0 where
  pub some : 1 ≤ len
  pub fits : len ≤ most

abbrev pub TakesPiece : ℕ → Piece → Type 0
TakesPiece most (Gap len) = Takes len most
TakesPiece most (Whole kind len) = Takes len most
TakesPiece most (Wrong fault) = Unit {0}

line_takes : (byte : ℕ) (rest : List ℕ) → Takes (length (take_through 10 (byte ∷ rest))) (1 + length rest)
line_takes byte rest =
    let most : length (byte ∷ rest) ≡ 1 + length rest = omega arith in
    let long : length (take_through 10 (byte ∷ rest)) ≡ min (prefix_len is_in_line (byte ∷ rest) + 1) (length (byte ∷ rest)) = length-line (byte ∷ rest) in
    record { some = omega (arith, long, most); fits = omega (arith, long, most) }

pub gap_takes : (byte : ℕ) (rest : List ℕ) (len : ℕ) → gap_at byte rest ≡ Some len → Takes len (1 + length rest)
gap_takes byte rest len e = by_tests (is_white byte) (byte == 35) e
  where
    by_tests : (white hash : Bool) → (if white then Some 1 else if hash then Some (length (take_through 10 (byte ∷ rest))) else None) ≡ Some len → Takes len (1 + length rest)
    by_tests true hash e = let one : 1 ≡ len = cc in record { some = omega (arith, one); fits = omega (arith, one) }
    by_tests false true e = let is : length (take_through 10 (byte ∷ rest)) ≡ len = cc in subst (λ n. Takes n (1 + length rest)) is (line_takes byte rest)
    by_tests false false e = absurd cc

run_takes : (p : ℕ → Bool) (byte : ℕ) (rest : List ℕ) → p byte ≡ true → Takes (length (take_while p (byte ∷ rest))) (1 + length rest)
run_takes p byte rest passes =
    let long : length (take_while p (byte ∷ rest)) ≡ prefix_len p (byte ∷ rest) = length-prefix_len p (byte ∷ rest) in
    let first : prefix_len p (byte ∷ rest) ≡ 1 + prefix_len p rest = rw passes refl in
    record { some = omega (arith, long, first); fits = omega (arith, long, first, prefix_len-le-length p rest) }

if_takes : (b : Bool) (kind : TokenKind) (len : ℕ) (fault : Fault) (most : ℕ) → Takes len most → TakesPiece most (if b then Whole kind len else Wrong fault)
if_takes true kind len fault most takes = takes
if_takes false kind len fault most takes = tt

quote_behind : (xs : List ℕ) → begins_with_quote xs ≡ true → 1 ≤ length xs
quote_behind [] e = absurd cc
quote_behind (x ∷ xs) e = omega arith

text_takes : (at : ℕ) (rest : List ℕ) (n : ℕ) → TakesPiece (1 + length rest) (text_piece at (take n rest) (drop (length (take n rest)) rest))
text_takes at rest n = by_tests (nat_le (length (take n rest)) 40) (begins_with_quote (drop (length (take n rest)) rest)) refl
  where
    by_tests : (short closed : Bool) → begins_with_quote (drop (length (take n rest)) rest) ≡ closed → TakesPiece (1 + length rest) (if short then (if closed then Whole (kinds.Text (take n rest)) (length (take n rest) + 2) else Wrong (BadByte (at + 1 + length (take n rest)))) else Wrong (LongText at))
    by_tests true true e =
        let more : 1 ≤ length (drop (length (take n rest)) rest) = quote_behind (drop (length (take n rest)) rest) e in
        let left : length (drop (length (take n rest)) rest) ≡ length rest - length (take n rest) = length-drop (length (take n rest)) rest in
        record { some = omega arith; fits = omega (arith, more, left) }
    by_tests true false e = tt
    by_tests false closed e = tt

mark_takes : (at byte : ℕ) (rest : List ℕ) (found : Option Mark) → longest_mark (byte ∷ rest) ≡ found → TakesPiece (1 + length rest) (mark_piece at found)
mark_takes at byte rest None e = tt
mark_takes at byte rest (Some mark) e = record { some = mark_some mark; fits = omega (arith, mark_fits (byte ∷ rest) mark e) }

not_digit_takes : (at byte : ℕ) (rest : List ℕ) (quote : Bool) → TakesPiece (1 + length rest) (if quote then text_piece at (take_while is_text_byte rest) (drop (length (take_while is_text_byte rest)) rest) else mark_piece at (longest_mark (byte ∷ rest)))
not_digit_takes at byte rest true = text_takes at rest (prefix_len is_text_byte rest)
not_digit_takes at byte rest false = mark_takes at byte rest (longest_mark (byte ∷ rest)) refl

-- a token has at least one byte, and no more than there are
piece_takes : (at byte : ℕ) (rest : List ℕ) → TakesPiece (1 + length rest) (token_at at byte rest)
unfolding token_at
piece_takes at byte rest = by_tests (is_letter byte) (is_digit byte) refl refl
  where
    by_tests : (letter digit : Bool) → is_letter byte ≡ letter → is_digit byte ≡ digit → TakesPiece (1 + length rest) (if letter then name_piece at (take_while is_name_byte (byte ∷ rest)) else if digit then number_piece at (take_while is_digit (byte ∷ rest)) else if byte == 39 then text_piece at (take_while is_text_byte rest) (drop (length (take_while is_text_byte rest)) rest) else mark_piece at (longest_mark (byte ∷ rest)))
    by_tests true digit l d = if_takes _ _ _ _ (1 + length rest) (run_takes is_name_byte byte rest (letter_stands byte l))
    by_tests false true l d = if_takes _ _ _ _ (1 + length rest) (run_takes is_digit byte rest d)
    by_tests false false l d = not_digit_takes at byte rest (byte == 39)

pub token_takes : (at byte : ℕ) (rest : List ℕ) (kind : TokenKind) (len : ℕ) → token_at at byte rest ≡ Whole kind len → Takes len (1 + length rest)
token_takes at byte rest kind len e = subst (λ piece. TakesPiece (1 + length rest) piece) e (piece_takes at byte rest)

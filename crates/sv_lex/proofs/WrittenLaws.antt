-- A token that begins at a place is written with the bytes there.
use Rattle.std.proofs.Common.{◌≡◌, ◌∙◌, ℕ, suc, ◌+◌, Bool, true, false, IsTrue, List, [], ◌∷◌, ◌++◌, length, take, drop, Option, Some, None, refl, sym, ap, subst, arith, if◌then◌else◌, ◌==◌, nat_le, pos}
use Rattle.std.specs.List.{prefix_len, take_while, list_all}
use Rattle.std.proofs.lemmas.Bool.{eqb-true}
use Rattle.std.proofs.lemmas.List.{take-append-drop}
use Rattle.std.proofs.lemmas.List.Folds.{length-prefix_len}
use Rattle.std.proofs.Math.Seq.{take-append_seam}
use Rattle.sv_value.specs.Names.{is_letter, is_digit, is_name_byte}
use Rattle.sv_value.specs.Texts.{is_text_byte}
use Rattle.sv_lex.specs.declared.marks.Mark.{Mark}
use Rattle.sv_lex.specs.declared.tokens.TokenKind.{TokenKind}
use Rattle.sv_lex.specs.declared.tokens.TokenKind.TheVariants as kinds
use Rattle.sv_lex.specs.Marks.{mark_bytes, longest_mark}
use Rattle.sv_lex.specs.Standing.{IsWritten}
use Rattle.sv_lex.specs.Tokens.{Fault, BadByte, LongName, LongNumber, LongText, Piece, Gap, Whole, Wrong, name_piece, number_piece, text_piece, mark_piece, digits_value, begins_with_quote, token_at}
use Rattle.sv_lex.proofs.MarkLaws.{mark_stands}
use Rattle.sv_lex.proofs.RunLaws.{digits_pass}

-- a piece is no gap, and if it is a token, then the bytes begin with what it is written with
abbrev WrittenPiece : List ℕ → Piece → Type 0
WrittenPiece bytes (Gap len) = ⊥
WrittenPiece bytes (Whole kind len) = IsWritten kind (take len bytes)
WrittenPiece bytes (Wrong fault) = Unit {0}

if_written : (bytes : List ℕ) (b : Bool) (kind : TokenKind) (len : ℕ) (fault : Fault) → IsWritten kind (take len bytes) → WrittenPiece bytes (if b then Whole kind len else Wrong fault)
if_written bytes true kind len fault written = written
if_written bytes false kind len fault written = tt

-- the front of a list by the length of a run
pub run_front : (p : ℕ → Bool) (xs : List ℕ) → take (length (take_while p xs)) xs ≡ take_while p xs
run_front p xs = ap (λ n. take n xs) (length-prefix_len p xs)

name_written : (at : ℕ) (bytes : List ℕ) → WrittenPiece bytes (name_piece at (take_while is_name_byte bytes))
name_written at bytes = if_written bytes (nat_le (length (take_while is_name_byte bytes)) 32) (kinds.Name (take_while is_name_byte bytes)) (length (take_while is_name_byte bytes)) (LongName at) (run_front is_name_byte bytes)

number_written : (at : ℕ) (bytes : List ℕ) → WrittenPiece bytes (number_piece at (take_while is_digit bytes))
number_written at bytes =
    let same : take_while is_digit bytes ≡ take (length (take_while is_digit bytes)) bytes = sym (run_front is_digit bytes) in
    let P : List ℕ → Type 0 = λ xs. IsTrue (list_all is_digit xs) × (pos (digits_value (take_while is_digit bytes)) ≡ pos (digits_value xs)) in
    if_written bytes (nat_le (digits_value (take_while is_digit bytes)) 9223372036854775807) (kinds.Number (pos (digits_value (take_while is_digit bytes)))) (length (take_while is_digit bytes)) (LongNumber at) (subst P same (digits_pass bytes, refl))

-- a text and a quote behind it
closed : (text after : List ℕ) → begins_with_quote after ≡ true → take (suc (length text)) (text ++ after) ≡ text ++ 39 ∷ []
closed text [] e = absurd cc
closed [] (x ∷ after) e = let is : x ≡ 39 = eqb-true x 39 e in rw is refl
closed (y ∷ text) (x ∷ after) e = ap (λ xs. y ∷ xs) (closed text (x ∷ after) e)

split_run : (p : ℕ → Bool) (xs : List ℕ) → take_while p xs ++ drop (length (take_while p xs)) xs ≡ xs
split_run p xs = ap (λ n. take_while p xs ++ drop n xs) (length-prefix_len p xs) ∙ take-append-drop (prefix_len p xs) xs

text_written : (at byte : ℕ) (rest : List ℕ) → (byte == 39) ≡ true → WrittenPiece (byte ∷ rest) (text_piece at (take_while is_text_byte rest) (drop (length (take_while is_text_byte rest)) rest))
text_written at byte rest e = by_tests (take_while is_text_byte rest) (nat_le (length (take_while is_text_byte rest)) 40) (begins_with_quote (drop (length (take_while is_text_byte rest)) rest)) (split_run is_text_byte rest) refl
  where
    by_tests : (text : List ℕ) (short quote : Bool) → text ++ drop (length text) rest ≡ rest → begins_with_quote (drop (length text) rest) ≡ quote → WrittenPiece (byte ∷ rest) (if short then (if quote then Whole (kinds.Text text) (length text + 2) else Wrong (BadByte (at + 1 + length text))) else Wrong (LongText at))
    by_tests text true true split q =
        let is : byte ≡ 39 = eqb-true byte 39 e in
        let two : length text + 2 ≡ suc (suc (length text)) = omega arith in
        let more : take (suc (length text)) rest ≡ text ++ 39 ∷ [] = ap (λ xs. take (suc (length text)) xs) (sym split) ∙ closed text (drop (length text) rest) q in
        ap (λ n. take n (byte ∷ rest)) two ∙ ap (λ xs. byte ∷ xs) more ∙ ap (λ b. b ∷ (text ++ 39 ∷ [])) is
    by_tests text true false split q = tt
    by_tests text false quote split q = tt

mark_written : (at : ℕ) (bytes : List ℕ) (found : Option Mark) → longest_mark bytes ≡ found → WrittenPiece bytes (mark_piece at found)
mark_written at bytes None e = tt
mark_written at bytes (Some mark) e =
    ap (λ xs. take (length (mark_bytes mark)) xs) (mark_stands bytes mark e) ∙ take-append_seam (mark_bytes mark) (drop (length (mark_bytes mark)) bytes)

other_written : (at byte : ℕ) (rest : List ℕ) (quote : Bool) → (byte == 39) ≡ quote → WrittenPiece (byte ∷ rest) (if quote then text_piece at (take_while is_text_byte rest) (drop (length (take_while is_text_byte rest)) rest) else mark_piece at (longest_mark (byte ∷ rest)))
other_written at byte rest true e = text_written at byte rest e
other_written at byte rest false e = mark_written at (byte ∷ rest) (longest_mark (byte ∷ rest)) refl

piece_written : (at byte : ℕ) (rest : List ℕ) → WrittenPiece (byte ∷ rest) (token_at at byte rest)
unfolding token_at
piece_written at byte rest = by_tests (is_letter byte) (is_digit byte)
  where
    by_tests : (letter digit : Bool) → WrittenPiece (byte ∷ rest) (if letter then name_piece at (take_while is_name_byte (byte ∷ rest)) else if digit then number_piece at (take_while is_digit (byte ∷ rest)) else if byte == 39 then text_piece at (take_while is_text_byte rest) (drop (length (take_while is_text_byte rest)) rest) else mark_piece at (longest_mark (byte ∷ rest)))
    by_tests true digit = name_written at (byte ∷ rest)
    by_tests false true = number_written at (byte ∷ rest)
    by_tests false false = other_written at byte rest (byte == 39) refl

pub token_written : (at byte : ℕ) (rest : List ℕ) (kind : TokenKind) (len : ℕ) → token_at at byte rest ≡ Whole kind len → IsWritten kind (take len (byte ∷ rest))
token_written at byte rest kind len e = subst (λ piece. WrittenPiece (byte ∷ rest) piece) e (piece_written at byte rest)

pub token_no_gap : (at byte : ℕ) (rest : List ℕ) (len : ℕ) → token_at at byte rest ≡ Gap len → ⊥
token_no_gap at byte rest len e = subst (λ piece. WrittenPiece (byte ∷ rest) piece) e (piece_written at byte rest)

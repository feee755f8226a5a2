-- Where a fault stands.
use Rattle.std.proofs.Common.{◌≡◌, ℕ, suc, ◌+◌, ◌-◌, ◌≤◌, Bool, true, false, IsTrue, List, ◌∷◌, length, take, drop, Option, Some, None, refl, sym, subst, arith, if◌then◌else◌, ◌==◌, nat_le, pos}
use Rattle.std.specs.List.{take_while, list_all}
use Rattle.sv_value.specs.Names.{is_letter, is_digit, is_name_byte}
use Rattle.sv_value.specs.Texts.{is_text_byte}
use Rattle.sv_lex.specs.declared.marks.Mark.{Mark}
use Rattle.sv_lex.specs.declared.tokens.TokenKind.{TokenKind}
use Rattle.sv_lex.specs.declared.tokens.TokenKind.TheVariants as kinds
use Rattle.sv_lex.specs.Marks.{longest_mark}
use Rattle.sv_lex.specs.Standing.{place_of}
use Rattle.sv_lex.specs.Tokens.{Fault, BadByte, LongName, LongNumber, LongText, Piece, Gap, Whole, Wrong, name_piece, number_piece, text_piece, mark_piece, digits_value, begins_with_quote, token_at}
use Rattle.sv_lex.proofs.RunLaws.{all_pass}
use Rattle.sv_lex.proofs.WrittenLaws.{run_front}

-- a fault stands at a place, or behind it and bytes that may stand in a text
pub record Follows (at : ℕ) (rest : List ℕ) (fault : Fault) : Type 0 where
  pub later : at ≤ place_of fault
  pub inside : IsTrue (list_all is_text_byte (take (place_of fault - suc at) rest))

abbrev FollowsPiece : ℕ → List ℕ → Piece → Type 0
FollowsPiece at rest (Gap len) = Unit {0}
FollowsPiece at rest (Whole kind len) = Unit {0}
FollowsPiece at rest (Wrong fault) = Follows at rest fault

here : (at : ℕ) (rest : List ℕ) (fault : Fault) → place_of fault ≡ at → Follows at rest fault
here at rest fault e =
    let none : place_of fault - suc at ≡ 0 = omega (arith, e) in
    record { later = omega (arith, e); inside = rw none refl }

if_here : (at : ℕ) (rest : List ℕ) (b : Bool) (kind : TokenKind) (len : ℕ) (fault : Fault) → place_of fault ≡ at → FollowsPiece at rest (if b then Whole kind len else Wrong fault)
if_here at rest true kind len fault e = tt
if_here at rest false kind len fault e = here at rest fault e

text_follows : (at : ℕ) (rest : List ℕ) → FollowsPiece at rest (text_piece at (take_while is_text_byte rest) (drop (length (take_while is_text_byte rest)) rest))
text_follows at rest = by_tests (nat_le (length (take_while is_text_byte rest)) 40) (begins_with_quote (drop (length (take_while is_text_byte rest)) rest))
  where
    by_tests : (short quote : Bool) → FollowsPiece at rest (if short then (if quote then Whole (kinds.Text (take_while is_text_byte rest)) (length (take_while is_text_byte rest) + 2) else Wrong (BadByte (at + 1 + length (take_while is_text_byte rest)))) else Wrong (LongText at))
    by_tests true true = tt
    by_tests true false =
        let k : at + 1 + length (take_while is_text_byte rest) - suc at ≡ length (take_while is_text_byte rest) = omega arith in
        let P : List ℕ → Type 0 = λ xs. IsTrue (list_all is_text_byte xs) in
        record { later = omega arith; inside = rw k (subst P (sym (run_front is_text_byte rest)) (all_pass is_text_byte rest)) }
    by_tests false quote = here at rest (LongText at) refl

mark_follows : (at : ℕ) (rest : List ℕ) (found : Option Mark) → FollowsPiece at rest (mark_piece at found)
mark_follows at rest None = here at rest (BadByte at) refl
mark_follows at rest (Some mark) = tt

other_follows : (at byte : ℕ) (rest : List ℕ) (quote : Bool) → FollowsPiece at rest (if quote then text_piece at (take_while is_text_byte rest) (drop (length (take_while is_text_byte rest)) rest) else mark_piece at (longest_mark (byte ∷ rest)))
other_follows at byte rest true = text_follows at rest
other_follows at byte rest false = mark_follows at rest (longest_mark (byte ∷ rest))

piece_follows : (at byte : ℕ) (rest : List ℕ) → FollowsPiece at rest (token_at at byte rest)
unfolding token_at
piece_follows at byte rest = by_tests (is_letter byte) (is_digit byte)
  where
    by_tests : (letter digit : Bool) → FollowsPiece at rest (if letter then name_piece at (take_while is_name_byte (byte ∷ rest)) else if digit then number_piece at (take_while is_digit (byte ∷ rest)) else if byte == 39 then text_piece at (take_while is_text_byte rest) (drop (length (take_while is_text_byte rest)) rest) else mark_piece at (longest_mark (byte ∷ rest)))
    by_tests true digit = if_here at rest (nat_le (length (take_while is_name_byte (byte ∷ rest))) 32) (kinds.Name (take_while is_name_byte (byte ∷ rest))) (length (take_while is_name_byte (byte ∷ rest))) (LongName at) refl
    by_tests false true = if_here at rest (nat_le (digits_value (take_while is_digit (byte ∷ rest))) 9223372036854775807) (kinds.Number (pos (digits_value (take_while is_digit (byte ∷ rest))))) (length (take_while is_digit (byte ∷ rest))) (LongNumber at) refl
    by_tests false false = other_follows at byte rest (byte == 39)

pub fault_follows : (at byte : ℕ) (rest : List ℕ) (fault : Fault) → token_at at byte rest ≡ Wrong fault → Follows at rest fault
fault_follows at byte rest fault e = subst (λ piece. FollowsPiece at rest piece) e (piece_follows at byte rest)

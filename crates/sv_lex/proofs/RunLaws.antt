-- Runs of bytes that pass a test.
use Rattle.std.proofs.Common.{◌≡◌, ℕ, Bool, true, false, IsTrue, List, [], ◌∷◌, length, refl, sym, subst, nat_le, ◌&&◌}
use Rattle.std.specs.List.{list_all, take_while}
use Rattle.std.proofs.lemmas.List.Sums.{take_while-cons}
use Rattle.sv_value.specs.Names.{is_letter, is_digit, is_name_byte, begins_with_letter, is_name}
use Rattle.sv_value.specs.Texts.{is_text_byte, is_text}

pub all_pass : (p : ℕ → Bool) (xs : List ℕ) → list_all p (take_while p xs) ≡ true
all_pass p [] = refl
all_pass p (x ∷ xs) = step (p x) refl (all_pass p xs)
  where
    step : (b : Bool) → p x ≡ b → list_all p (take_while p xs) ≡ true → list_all p (take_while p (x ∷ xs)) ≡ true
    step true e more = rw (take_while-cons p x xs, e, e, more) refl
    step false e more = rw (take_while-cons p x xs, e) refl

pub digits_pass : (xs : List ℕ) → IsTrue (list_all is_digit (take_while is_digit xs))
digits_pass xs = all_pass is_digit xs

and_true : (b : Bool) → b && true ≡ b
and_true true = refl
and_true false = refl

-- a run of the bytes of a text is a text, if it isn't long
pub text_fits : (xs : List ℕ) → is_text (take_while is_text_byte xs) ≡ nat_le (length (take_while is_text_byte xs)) 40
text_fits xs =
    let all : list_all is_text_byte (take_while is_text_byte xs) ≡ true = all_pass is_text_byte xs in
    let P : Bool → Type 0 = λ b. nat_le (length (take_while is_text_byte xs)) 40 && b ≡ nat_le (length (take_while is_text_byte xs)) 40 in
    subst P (sym all) (and_true (nat_le (length (take_while is_text_byte xs)) 40))

-- a letter may stand in a name
pub letter_stands : (byte : ℕ) → is_letter byte ≡ true → is_name_byte byte ≡ true
letter_stands byte letter = rw letter refl

-- a run of the bytes of a name that begins with a letter is a name, if it isn't long
pub name_fits : (xs : List ℕ) → IsTrue (begins_with_letter xs) → is_name (take_while is_name_byte xs) ≡ nat_le (length (take_while is_name_byte xs)) 32
name_fits [] letter = absurd cc
name_fits (x ∷ xs) letter =
    let begins : begins_with_letter (take_while is_name_byte (x ∷ xs)) ≡ true = rw (take_while-cons is_name_byte x xs, letter_stands x letter) letter in
    let all : list_all is_name_byte (take_while is_name_byte (x ∷ xs)) ≡ true = all_pass is_name_byte (x ∷ xs) in
    let P : Bool → Bool → Type 0 = λ a b. a && (nat_le (length (take_while is_name_byte (x ∷ xs))) 32 && b) ≡ nat_le (length (take_while is_name_byte (x ∷ xs))) 32 in
    subst (λ a. P a (list_all is_name_byte (take_while is_name_byte (x ∷ xs)))) (sym begins) (subst (λ b. P true b) (sym all) (and_true (nat_le (length (take_while is_name_byte (x ∷ xs))) 32)))

pub ruleset runs = (digits_pass, text_fits, name_fits)

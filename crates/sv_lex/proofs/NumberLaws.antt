-- The value of digits.
use Rattle.std.proofs.Common.{◌≡◌, ℕ, ◌+◌, ◌*◌, ◌-◌, ◌<◌, ◌≤◌, List, [], ◌∷◌, ◌++◌, length, get_or, false, nat_le, take, drop, subst, arith}
use Rattle.std.specs.List.{fold}
use Rattle.std.proofs.lemmas.List.{take-append-drop}
use Rattle.std.proofs.lemmas.List.Sums.{fold-append, fold_more}
use Rattle.std.proofs.lemmas.Bool.Decides.{nat_tests}
use Rattle.sv_lex.specs.Tokens.{digits_value}

grown : (value : ℕ) (digits : List ℕ) → value ≤ fold (λ value digit. 10 * value + (digit - 48)) value digits
grown value [] = omega arith
grown value (digit ∷ digits) = omega (arith, grown (10 * value + (digit - 48)) digits)

pub value_take : (digits : List ℕ) (n : ℕ) → digits_value (take n digits) ≤ digits_value digits
value_take digits n =
    let whole : digits_value (take n digits ++ drop n digits) ≡ fold (λ value digit. 10 * value + (digit - 48)) (digits_value (take n digits)) (drop n digits)
    = fold-append (λ value digit. 10 * value + (digit - 48)) 0 (take n digits) (drop n digits) in
    subst (λ xs. digits_value (take n digits) ≤ digits_value xs) (take-append-drop n digits) (rw whole (grown (digits_value (take n digits)) (drop n digits)))

pub too_great : (digits : List ℕ) (n : ℕ) → n < length digits → 9223372036854775807 < 10 * digits_value (take n digits) + (get_or digits n 0 - 48) → nat_le (digits_value digits) 9223372036854775807 ≡ false
too_great digits n lt great =
    let step : digits_value (take (n + 1) digits) ≡ 10 * digits_value (take n digits) + (get_or digits n 0 - 48)
    = fold_more (λ value digit. 10 * value + (digit - 48)) 0 digits n 0 lt in
    let above : 9223372036854775807 < digits_value digits = omega (arith, step, great, value_take digits (n + 1)) in
    grind (arith, nat_tests)

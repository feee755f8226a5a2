-- White space and comments.
use Rattle.std.proofs.Common.{◌≡◌, ℕ, ◌+◌, ◌<◌, ◌≤◌, min, Bool, true, false, List, [], ◌∷◌, length, refl, arith, nat_eq}
use Rattle.std.specs.List.{prefix_len}
use Rattle.std.specs.Io.BufRead.{take_through}
use Rattle.std.proofs.lemmas.List.Sums.{prefix_len-le-length}
use Rattle.sv_lex.specs.Spots.{is_in_line}

pub length-line : (xs : List ℕ) → length (take_through 10 xs) ≡ min (prefix_len is_in_line xs + 1) (length xs)
length-line [] = refl
length-line (x ∷ xs) = step (nat_eq x 10) refl (length-line xs)
  where
    step : (b : Bool) → nat_eq x 10 ≡ b → length (take_through 10 xs) ≡ min (prefix_len is_in_line xs + 1) (length xs) → length (take_through 10 (x ∷ xs)) ≡ min (prefix_len is_in_line (x ∷ xs) + 1) (length (x ∷ xs))
    step true e more = rw e (omega arith)
    step false e more = rw e (omega (arith, more))

pub line_within : (xs : List ℕ) → prefix_len is_in_line xs < length xs → prefix_len is_in_line xs + 1 ≡ length (take_through 10 xs)
line_within xs lt = rw (length-line xs) (omega (arith, lt))

pub line_whole : (xs : List ℕ) → length xs ≤ prefix_len is_in_line xs → prefix_len is_in_line xs ≡ length (take_through 10 xs)
line_whole xs le = rw (length-line xs) (omega (arith, le, prefix_len-le-length is_in_line xs))

pub ruleset gaps = (line_within, line_whole)

-- Spots move byte by byte.
use Rattle.std.proofs.Common.{◌≡◌, ℕ, ◌+◌, ◌<◌, ◌≤◌, Bool, true, false, List, [], ◌∷◌, ◌++◌, length, take, drop, ◌-◌, min, reverse, refl, arith, nat_eq, cond}
use Rattle.std.specs.List.{count_by, take_while}
use Rattle.std.proofs.lemmas.List.{length-take, length-drop, length-reverse, reverse-append}
use Rattle.std.proofs.lemmas.List.Folds.{length-prefix_len}
use Rattle.std.proofs.lemmas.List.Sums.{sum_by-append, count_by-le-length, take_while-cons, prefix_len-le-length}
use Rattle.sv_value.specs.declared.spots.Spot.{Spot}
use Rattle.sv_lex.specs.Spots.{is_line_feed, is_in_line, spot_past, spot_at}

turned : (before : List ℕ) (byte : ℕ) → reverse (before ++ byte ∷ []) ≡ byte ∷ reverse before
turned before byte = reverse-append before (byte ∷ [])

feeds : (before : List ℕ) (byte : ℕ) → count_by is_line_feed (before ++ byte ∷ []) ≡ count_by is_line_feed before + cond (is_line_feed byte) 1 0
feeds before byte =
    let h : count_by is_line_feed (before ++ byte ∷ []) ≡ count_by is_line_feed before + (0 + cond (is_line_feed byte) 1 0) = sum_by-append (λ x. cond (is_line_feed x) 1 0) before (byte ∷ []) in
    omega (arith, h)

column : (before : List ℕ) (byte : ℕ) → length (take_while is_in_line (reverse (before ++ byte ∷ []))) ≡ cond (is_in_line byte) (length (take_while is_in_line (reverse before)) + 1) 0
column before byte = rw (turned before byte) (by_byte (is_in_line byte) refl)
  where
    by_byte : (b : Bool) → is_in_line byte ≡ b → length (take_while is_in_line (byte ∷ reverse before)) ≡ cond b (length (take_while is_in_line (reverse before)) + 1) 0
    by_byte true e = rw (take_while-cons is_in_line byte (reverse before), e) (omega arith)
    by_byte false e = rw (take_while-cons is_in_line byte (reverse before), e) refl

pub past_feed : (before : List ℕ) (byte : ℕ) → byte ≡ 10 → spot_past (before ++ byte ∷ []) ≡ record { line = (spot_past before).line + 1; col = 1 }
unfolding spot_past
past_feed before byte e =
    let line : 1 + count_by is_line_feed (before ++ byte ∷ []) ≡ 1 + count_by is_line_feed before + 1 = rw (feeds before byte, e) (omega arith) in
    let col : 1 + length (take_while is_in_line (reverse (before ++ byte ∷ []))) ≡ 1 = rw (column before byte, e) refl in
    λ i. record { line = line i; col = col i }

pub past_other : (before : List ℕ) (byte : ℕ) → nat_eq byte 10 ≡ false → spot_past (before ++ byte ∷ []) ≡ record { line = (spot_past before).line; col = (spot_past before).col + 1 }
unfolding spot_past
past_other before byte e =
    let line : 1 + count_by is_line_feed (before ++ byte ∷ []) ≡ 1 + count_by is_line_feed before = rw (feeds before byte, e) (omega arith) in
    let col : 1 + length (take_while is_in_line (reverse (before ++ byte ∷ []))) ≡ 1 + length (take_while is_in_line (reverse before)) + 1 = rw (column before byte, e) (omega arith) in
    λ i. record { line = line i; col = col i }

pub past_none : spot_past [] ≡ record { line = 1; col = 1 }
unfolding spot_past
past_none = refl

pub line_small : (before : List ℕ) → (spot_past before).line ≤ 1 + length before
unfolding spot_past
line_small before = omega (arith, count_by-le-length is_line_feed before)

pub col_small : (before : List ℕ) → (spot_past before).col ≤ 1 + length before
unfolding spot_past
col_small before = rw (length-prefix_len is_in_line (reverse before)) (omega (arith, prefix_len-le-length is_in_line (reverse before), length-reverse before))

-- a place before the end of a short document has small numbers
within : (bytes : List ℕ) (from to n : ℕ) → n < length (take (to - from) (drop from bytes)) → length bytes ≤ 67108864 → 1 + length (take (from + n) bytes) ≤ 67108864
within bytes from to n lt short =
    let cut : length (take (to - from) (drop from bytes)) ≡ min (to - from) (length (drop from bytes)) = length-take (to - from) (drop from bytes) in
    let rest : length (drop from bytes) ≡ length bytes - from = length-drop from bytes in
    let front : length (take (from + n) bytes) ≡ min (from + n) (length bytes) = length-take (from + n) bytes in
    omega (arith, cut, rest, front, lt, short)

pub line_within : (bytes : List ℕ) (from to n : ℕ) (spot : Spot) → spot ≡ spot_at bytes (from + n) → n < length (take (to - from) (drop from bytes)) → length bytes ≤ 67108864 → spot.line ≤ 67108864
line_within bytes from to n spot e lt short = rw e (omega (arith, line_small (take (from + n) bytes), within bytes from to n lt short))

pub col_within : (bytes : List ℕ) (from to n : ℕ) (spot : Spot) → spot ≡ spot_at bytes (from + n) → n < length (take (to - from) (drop from bytes)) → length bytes ≤ 67108864 → spot.col ≤ 67108864
col_within bytes from to n spot e lt short = rw e (omega (arith, col_small (take (from + n) bytes), within bytes from to n lt short))

pub ruleset spots = (past_feed, past_other, past_none)

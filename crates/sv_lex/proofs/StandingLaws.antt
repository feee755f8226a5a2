-- The tokens that the definition reads stand in the document, and a fault comes behind those before it.
use Rattle.std.proofs.Common.{◌≡◌, ◌∙◌, ℕ, zero, suc, ◌+◌, ◌-◌, ◌≤◌, ◌⊎◌, inl, inr, true, false, List, [], ◌∷◌, ◌++◌, length, take, drop, Option, Some, None, Result, Ok, Err, refl, sym, ap, subst, arith, append_assoc}
use Rattle.std.specs.List.{slice_range, list_all}
use Rattle.std.proofs.lemmas.List.{drop-drop, length-drop, take-append-drop}
use Rattle.sv_value.specs.Texts.{is_text_byte}
use Rattle.sv_lex.specs.declared.tokens.Token.{Token}
use Rattle.sv_lex.specs.declared.tokens.TokenKind.{TokenKind}
use Rattle.sv_lex.specs.Spots.{spot_at}
use Rattle.sv_lex.specs.Standing.{is_blank, IsWritten, IsNext, Stand, IsLast, IsNextWrong, AreAll, IsFirst, place_of}
use Rattle.sv_lex.specs.Tokens.{Fault, Piece, Gap, Whole, Wrong, gap_at, gap_or, token_at, piece_at, piece_length, with_token, with_piece, tokens_from, lexed}
use Rattle.sv_lex.proofs.BlankLaws.{blank-append, gap_blank}
use Rattle.sv_lex.proofs.PieceLaws.{Takes, gap_takes, token_takes}
use Rattle.sv_lex.proofs.WrittenLaws.{token_written, token_no_gap}
use Rattle.sv_lex.proofs.WrongLaws.{Follows, fault_follows}

take_nil : (n : ℕ) → take {A = ℕ} n [] ≡ []
take_nil zero = refl
take_nil (suc n) = refl

drop_nil : (n : ℕ) → drop {A = ℕ} n [] ≡ []
drop_nil zero = refl
drop_nil (suc n) = refl

take_sum : (n m : ℕ) (xs : List ℕ) → take (n + m) xs ≡ take n xs ++ take m (drop n xs)
take_sum zero m xs = ap (λ k. take k xs) (omega arith)
take_sum (suc n) m [] = take_nil (suc n + m) ∙ sym (take_nil m)
take_sum (suc n) m (x ∷ xs) = let k : suc n + m ≡ suc (n + m) = omega arith in rw k (ap (λ ys. x ∷ ys) (take_sum n m xs))

-- a slice in two parts
slice_parts : (xs : List ℕ) (at n to : ℕ) → at + n ≤ to → slice_range xs at to ≡ take n (drop at xs) ++ slice_range xs (at + n) to
slice_parts xs at n to le =
    let k : to - at ≡ n + (to - (at + n)) = omega (arith, le) in
    rw (k, take_sum n (to - (at + n)) (drop at xs), drop-drop n at xs) refl

drop_parts : (xs : List ℕ) (at n : ℕ) → drop at xs ≡ take n (drop at xs) ++ drop (at + n) xs
drop_parts xs at n = sym (take-append-drop n (drop at xs)) ∙ ap (λ ys. take n (drop at xs) ++ ys) (drop-drop n at xs)

-- white space and comments before what stands
blank_first : (bytes : List ℕ) (at n : ℕ) (tokens : List Token) (Behind : ℕ → Type 0) → (Behind (at + n) → Behind at) → is_blank false (take n (drop at bytes)) ≡ true → Stand bytes (at + n) tokens Behind → Stand bytes at tokens Behind
blank_first bytes at n [] Behind closed blank stand = closed stand
blank_first bytes at n (token ∷ tokens) Behind closed blank stand = (
  record {
    order = omega (arith, stand.0.order);
    blank = rw (slice_parts bytes at n token.from stand.0.order) (blank-append false (take n (drop at bytes)) (slice_range bytes (at + n) token.from) blank stand.0.blank);
    some = stand.0.some;
    within = stand.0.within;
    written = stand.0.written;
    spot = stand.0.spot;
  },
  stand.1,
)

last_first : (bytes : List ℕ) (at n : ℕ) → is_blank false (take n (drop at bytes)) ≡ true → IsLast bytes (at + n) → IsLast bytes at
last_first bytes at n blank last =
    let parts : drop at bytes ++ 10 ∷ [] ≡ take n (drop at bytes) ++ (drop (at + n) bytes ++ 10 ∷ [])
    = ap (λ xs. xs ++ 10 ∷ []) (drop_parts bytes at n) ∙ append_assoc (take n (drop at bytes)) (drop (at + n) bytes) (10 ∷ []) in
    subst (λ xs. is_blank false xs ≡ true) (sym parts) (blank-append false (take n (drop at bytes)) (drop (at + n) bytes ++ 10 ∷ []) blank last)

wrong_first : (bytes : List ℕ) (at n : ℕ) (fault : Fault) → is_blank false (take n (drop at bytes)) ≡ true → IsNextWrong bytes fault (at + n) → IsNextWrong bytes fault at
wrong_first bytes at n fault blank wrong = record {
  place = wrong.place;
  order = omega (arith, wrong.order);
  blank = rw (slice_parts bytes at n wrong.place wrong.order) (blank-append false (take n (drop at bytes)) (slice_range bytes (at + n) wrong.place) blank wrong.blank);
  byte = wrong.byte;
  rest = wrong.rest;
  begins = wrong.begins;
  wrong = wrong.wrong;
  later = wrong.later;
  inside = wrong.inside;
}

-- what is read from a place on, as it stands in the document
abbrev pub Meaning : List ℕ → Result (List Token) Fault → ℕ → Type 0
Meaning bytes (Ok tokens) at = Stand bytes at tokens (IsLast bytes)
Meaning bytes (Err fault) at = (tokens : List Token) × Stand bytes at tokens (IsNextWrong bytes fault)

behind_blank : (bytes : List ℕ) (at n : ℕ) (read : Result (List Token) Fault) → is_blank false (take n (drop at bytes)) ≡ true → Meaning bytes read (at + n) → Meaning bytes read at
behind_blank bytes at n (Ok tokens) blank stand = blank_first bytes at n tokens (IsLast bytes) (last_first bytes at n blank) blank stand
behind_blank bytes at n (Err fault) blank stand = (stand.0, blank_first bytes at n stand.0 (IsNextWrong bytes fault) (wrong_first bytes at n fault blank) blank stand.1)

behind_token : (bytes : List ℕ) (at : ℕ) (token : Token) (read : Result (List Token) Fault) → IsNext bytes at token → Meaning bytes read token.to → Meaning bytes (with_token token read) at
behind_token bytes at token (Ok tokens) next stand = (next, stand)
behind_token bytes at token (Err fault) next stand = (token ∷ stand.0, (next, stand.1))

read_end : (bytes : List ℕ) (at : ℕ) (rest : List ℕ) → tokens_from bytes at (length rest) rest ≡ Ok []
read_end bytes at [] = refl
read_end bytes at (byte ∷ rest) = read_end bytes (at + 1) rest

-- what is read behind a place
abbrev More : List ℕ → ℕ → List ℕ → Type 0
More bytes at rest = (inside : ℕ) → inside ≤ length rest → Meaning bytes (tokens_from bytes (at + 1) inside rest) (at + 1 + inside)

more_at : (bytes : List ℕ) (at : ℕ) (rest : List ℕ) (n : ℕ) → Takes n (1 + length rest) → More bytes at rest → Meaning bytes (tokens_from bytes (at + 1) (n - 1) rest) (at + n)
more_at bytes at rest n takes more =
    let place : at + 1 + (n - 1) ≡ at + n = omega (arith, takes.some) in
    subst (λ p. Meaning bytes (tokens_from bytes (at + 1) (n - 1) rest) p) place (more (n - 1) (omega (arith, takes.some, takes.fits)))

gap_meaning : (bytes : List ℕ) (at byte : ℕ) (rest : List ℕ) (n : ℕ) → drop at bytes ≡ byte ∷ rest → gap_at byte rest ≡ Some n → More bytes at rest → Meaning bytes (tokens_from bytes (at + 1) (n - 1) rest) at
gap_meaning bytes at byte rest n cut gap more = by_end (gap_blank byte rest n gap)
  where
    by_end : (is_blank false (take n (byte ∷ rest)) ≡ true) ⊎ ((n ≡ length (byte ∷ rest)) × (is_blank false (byte ∷ rest ++ 10 ∷ []) ≡ true)) → Meaning bytes (tokens_from bytes (at + 1) (n - 1) rest) at
    by_end (inl blank) = behind_blank bytes at n (tokens_from bytes (at + 1) (n - 1) rest) (subst (λ xs. is_blank false (take n xs) ≡ true) (sym cut) blank) (more_at bytes at rest n (gap_takes byte rest n gap) more)
    by_end (inr last) =
        let all : n - 1 ≡ length rest = omega (arith, last.0) in
        let read : tokens_from bytes (at + 1) (n - 1) rest ≡ Ok [] = ap (λ k. tokens_from bytes (at + 1) k rest) all ∙ read_end bytes (at + 1) rest in
        subst (λ r. Meaning bytes r at) (sym read) (subst (λ xs. is_blank false (xs ++ 10 ∷ []) ≡ true) (sym cut) last.1)

no_slice : (xs : List ℕ) (at : ℕ) → slice_range xs at at ≡ []
no_slice xs at = let none : at - at ≡ 0 = omega arith in rw none refl

token_next : (bytes : List ℕ) (at byte : ℕ) (rest : List ℕ) (kind : TokenKind) (len : ℕ) → drop at bytes ≡ byte ∷ rest → token_at at byte rest ≡ Whole kind len → IsNext bytes at (record { kind = kind; from = at; to = at + len; spot = spot_at bytes at })
token_next bytes at byte rest kind len cut is =
    let takes : Takes len (1 + length rest) = token_takes at byte rest kind len is in
    let all : length (drop at bytes) ≡ 1 + length rest = ap length cut ∙ omega arith in
    let left : length (drop at bytes) ≡ length bytes - at = length-drop at bytes in
    let long : at + len - at ≡ len = omega arith in
    let written : IsWritten kind (take len (drop at bytes)) = subst (λ xs. IsWritten kind (take len xs)) (sym cut) (token_written at byte rest kind len is) in
    record {
      order = omega arith;
      blank = subst (λ xs. is_blank false xs ≡ true) (sym (no_slice bytes at)) refl;
      some = omega (arith, takes.some);
      within = omega (arith, takes.fits, takes.some, all, left);
      written = subst (λ n. IsWritten kind (take n (drop at bytes))) (sym long) written;
      spot = refl;
    }

wrong_next : (bytes : List ℕ) (at byte : ℕ) (rest : List ℕ) (fault : Fault) → drop at bytes ≡ byte ∷ rest → gap_at byte rest ≡ None → token_at at byte rest ≡ Wrong fault → IsNextWrong bytes fault at
wrong_next bytes at byte rest fault cut gap is =
    let follows : Follows at rest fault = fault_follows at byte rest fault is in
    let one : suc at ≡ at + 1 = omega arith in
    let behind : drop (suc at) bytes ≡ rest = ap (λ n. drop n bytes) one ∙ sym (drop-drop 1 at bytes) ∙ ap (λ xs. drop 1 xs) cut in
    record {
      place = at;
      order = omega arith;
      blank = subst (λ xs. is_blank false xs ≡ true) (sym (no_slice bytes at)) refl;
      byte = byte;
      rest = rest;
      begins = cut;
      wrong = ap (λ found. gap_or found (token_at at byte rest)) gap ∙ is;
      later = follows.later;
      inside = subst (λ xs. list_all is_text_byte (take (place_of fault - suc at) xs) ≡ true) (sym behind) follows.inside;
    }

-- what is read where a piece begins
piece_meaning : (bytes : List ℕ) (at byte : ℕ) (rest : List ℕ) → drop at bytes ≡ byte ∷ rest → More bytes at rest → Meaning bytes (with_piece bytes at (piece_at at byte rest) (tokens_from bytes (at + 1) (piece_length (piece_at at byte rest) - 1) rest)) at
piece_meaning bytes at byte rest cut more = by_gap (gap_at byte rest) refl
  where
    by_token : (token : Piece) → gap_at byte rest ≡ None → token_at at byte rest ≡ token → Meaning bytes (with_piece bytes at token (tokens_from bytes (at + 1) (piece_length token - 1) rest)) at
    by_token (Gap len) gap e = absurd (token_no_gap at byte rest len e)
    by_token (Whole kind len) gap e = behind_token bytes at (record { kind = kind; from = at; to = at + len; spot = spot_at bytes at }) (tokens_from bytes (at + 1) (len - 1) rest) (token_next bytes at byte rest kind len cut e) (more_at bytes at rest len (token_takes at byte rest kind len e) more)
    by_token (Wrong fault) gap e = ([], wrong_next bytes at byte rest fault cut gap e)

    by_gap : (gap : Option ℕ) → gap_at byte rest ≡ gap → Meaning bytes (with_piece bytes at (gap_or gap (token_at at byte rest)) (tokens_from bytes (at + 1) (piece_length (gap_or gap (token_at at byte rest)) - 1) rest)) at
    by_gap (Some n) e = gap_meaning bytes at byte rest n cut e more
    by_gap None e = by_token (token_at at byte rest) e refl

-- what the definition reads stands in the document
pub meaning : (bytes : List ℕ) (at inside : ℕ) (rest : List ℕ) → drop at bytes ≡ rest → inside ≤ length rest → Meaning bytes (tokens_from bytes at inside rest) (at + inside)
meaning bytes at inside [] cut le =
    let gone : drop (at + inside) bytes ≡ [] = sym (drop-drop inside at bytes) ∙ ap (λ xs. drop inside xs) cut ∙ drop_nil inside in
    subst (λ xs. is_blank false (xs ++ 10 ∷ []) ≡ true) (sym gone) refl
meaning bytes at (suc inside) (byte ∷ rest) cut le =
    let behind : drop (at + 1) bytes ≡ rest = sym (drop-drop 1 at bytes) ∙ ap (λ xs. drop 1 xs) cut in
    let place : at + 1 + inside ≡ at + suc inside = omega arith in
    subst (λ p. Meaning bytes (tokens_from bytes (at + 1) inside rest) p) place (meaning bytes (at + 1) inside rest behind (omega (arith, le)))
meaning bytes at zero (byte ∷ rest) cut le =
    let behind : drop (at + 1) bytes ≡ rest = sym (drop-drop 1 at bytes) ∙ ap (λ xs. drop 1 xs) cut in
    let place : at ≡ at + 0 = omega arith in
    subst (λ p. Meaning bytes (tokens_from bytes at 0 (byte ∷ rest)) p) place (piece_meaning bytes at byte rest cut (λ inside le. meaning bytes (at + 1) inside rest behind le))

pub tokens_stand : (bytes : List ℕ) (tokens : List Token) → lexed bytes ≡ Ok tokens → AreAll bytes tokens
tokens_stand bytes tokens e = subst (λ read. Meaning bytes read 0) e (meaning bytes 0 0 bytes refl (omega arith))

pub fault_first : (bytes : List ℕ) (fault : Fault) → lexed bytes ≡ Err fault → IsFirst bytes fault
fault_first bytes fault e = subst (λ read. Meaning bytes read 0) e (meaning bytes 0 0 bytes refl (omega arith))

pub ruleset standing = (tokens_stand, fault_first)

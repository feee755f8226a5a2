-- White space and comments one after the other.
use Rattle.std.proofs.Common.{◌≡◌, ◌∙◌, ℕ, ◌⊎◌, inl, inr, Bool, true, false, not, List, [], ◌∷◌, ◌++◌, length, take, Some, None, refl, sym, ap, subst, if◌then◌else◌, ◌==◌, ◌&&◌, ◌||◌}
use Rattle.std.specs.Io.BufRead.{take_through}
use Rattle.std.proofs.lemmas.Bool.{eqb-true}
use Rattle.sv_lex.specs.Standing.{is_blank}
use Rattle.sv_lex.specs.Tokens.{is_white, gap_at}

-- both halves of a conjunction
both : (a b : Bool) → a && b ≡ true → (a ≡ true) × (b ≡ true)
both true b e = (refl, e)
both false b e = absurd cc

pub blank-append : (commented : Bool) (xs ys : List ℕ) → is_blank commented xs ≡ true → is_blank false ys ≡ true → is_blank commented (xs ++ ys) ≡ true
blank-append false [] ys front back = back
blank-append true [] ys front back = absurd cc
blank-append false (x ∷ xs) ys front back =
    let parts = both (is_white x || x == 35) (is_blank (x == 35) xs) front in
    let more : is_blank (x == 35) (xs ++ ys) ≡ true = blank-append (x == 35) xs ys parts.1 back in
    rw (parts.0, more) refl
blank-append true (x ∷ xs) ys front back = blank-append (not (x == 10)) xs ys front back

through_more : (x : ℕ) (rest : List ℕ) → (x == 10) ≡ false → take_through 10 (x ∷ rest) ≡ x ∷ take_through 10 rest
through_more x rest e = rw e refl

through_end : (x : ℕ) (rest : List ℕ) → (x == 10) ≡ true → take_through 10 (x ∷ rest) ≡ x ∷ []
through_end x rest e = rw e refl

-- the rest of a comment ends with a line feed, or else where the document ends
abbrev EndsLine : List ℕ → Type 0
EndsLine rest = (is_blank true (take_through 10 rest) ≡ true) ⊎ ((take_through 10 rest ≡ rest) × (is_blank true (rest ++ 10 ∷ []) ≡ true))

line_blank : (rest : List ℕ) → EndsLine rest
line_blank [] = inr (refl, refl)
line_blank (x ∷ rest) = by_test (x == 10) refl (line_blank rest)
  where
    commented : (ys : List ℕ) → (x == 10) ≡ false → is_blank true ys ≡ true → is_blank true (x ∷ ys) ≡ true
    commented ys e more = rw e more

    by_test : (b : Bool) → (x == 10) ≡ b → EndsLine rest → EndsLine (x ∷ rest)
    by_test true e more = inl (subst (λ ys. is_blank true ys ≡ true) (sym (through_end x rest e)) (rw e refl))
    by_test false e (inl more) = inl (subst (λ ys. is_blank true ys ≡ true) (sym (through_more x rest e)) (commented (take_through 10 rest) e more))
    by_test false e (inr more) = inr (through_more x rest e ∙ ap (λ xs. x ∷ xs) more.0, commented (rest ++ 10 ∷ []) e more.1)

through_front : (xs : List ℕ) → take (length (take_through 10 xs)) xs ≡ take_through 10 xs
through_front [] = refl
through_front (x ∷ xs) = by_test (x == 10) refl (through_front xs)
  where
    by_test : (b : Bool) → (x == 10) ≡ b → take (length (take_through 10 xs)) xs ≡ take_through 10 xs → take (length (take_through 10 (x ∷ xs))) (x ∷ xs) ≡ take_through 10 (x ∷ xs)
    by_test true e more = rw e refl
    by_test false e more = rw e (ap (λ ys. x ∷ ys) more)

white_is_no_hash : (byte : ℕ) → is_white byte ≡ true → (byte == 35) ≡ true → ⊥
white_is_no_hash byte white hash =
    let is : byte ≡ 35 = eqb-true byte 35 hash in
    let no : is_white 35 ≡ true = subst (λ b. is_white b ≡ true) is white in
    absurd cc

abbrev BlankGap : ℕ → List ℕ → Type 0
BlankGap n xs = (is_blank false (take n xs) ≡ true) ⊎ ((n ≡ length xs) × (is_blank false (xs ++ 10 ∷ []) ≡ true))

hash_begins : (byte : ℕ) (xs : List ℕ) → (byte == 35) ≡ true → is_blank true xs ≡ true → is_blank false (byte ∷ xs) ≡ true
hash_begins byte xs e more =
    let is : byte ≡ 35 = eqb-true byte 35 e in
    subst (λ b. is_blank false (b ∷ xs) ≡ true) (sym is) more

hash_blank : (byte : ℕ) (rest : List ℕ) → (byte == 35) ≡ true → BlankGap (length (take_through 10 (byte ∷ rest))) (byte ∷ rest)
hash_blank byte rest hash = by_end (line_blank rest)
  where
    no_feed : (byte == 10) ≡ false
    no_feed = let is : byte ≡ 35 = eqb-true byte 35 hash in rw is refl

    by_end : EndsLine rest → BlankGap (length (take_through 10 (byte ∷ rest))) (byte ∷ rest)
    by_end (inl more) = inl (subst (λ ys. is_blank false ys ≡ true) (sym (through_front (byte ∷ rest) ∙ through_more byte rest no_feed)) (hash_begins byte (take_through 10 rest) hash more))
    by_end (inr more) = inr (ap length (through_more byte rest no_feed) ∙ ap (λ ys. length (byte ∷ ys)) more.0, hash_begins byte (rest ++ 10 ∷ []) hash more.1)

white_blank : (byte : ℕ) (rest : List ℕ) → is_white byte ≡ true → (b : Bool) → (byte == 35) ≡ b → BlankGap 1 (byte ∷ rest)
white_blank byte rest white true hash = absurd (white_is_no_hash byte white hash)
white_blank byte rest white false hash =
    let P : Bool → Bool → Type 0 = λ w h. (w || h) && is_blank h [] ≡ true in
    inl (subst (λ w. P w (byte == 35)) (sym white) (subst (λ h. P true h) (sym hash) refl))

-- a gap is white space and whole comments, or it is the rest of the document
pub gap_blank : (byte : ℕ) (rest : List ℕ) (n : ℕ) → gap_at byte rest ≡ Some n → (is_blank false (take n (byte ∷ rest)) ≡ true) ⊎ ((n ≡ length (byte ∷ rest)) × (is_blank false (byte ∷ rest ++ 10 ∷ []) ≡ true))
gap_blank byte rest n e = by_tests (is_white byte) (byte == 35) refl refl e
  where
    by_tests : (white hash : Bool) → is_white byte ≡ white → (byte == 35) ≡ hash → (if white then Some 1 else if hash then Some (length (take_through 10 (byte ∷ rest))) else None) ≡ Some n → BlankGap n (byte ∷ rest)
    by_tests true hash w h e = let one : 1 ≡ n = cc in subst (λ m. BlankGap m (byte ∷ rest)) one (white_blank byte rest w hash h)
    by_tests false true w h e = let is : length (take_through 10 (byte ∷ rest)) ≡ n = cc in subst (λ m. BlankGap m (byte ∷ rest)) is (hash_blank byte rest h)
    by_tests false false w h e = absurd cc

-- Elements that stand one behind another, of which nothing is refused: what holds of each, and how many there are.
use Rattle.std.proofs.Common.{◌≡◌, ◌∙◌, ℕ, pos, ◌+◌, ◌<◌, ◌≤◌, ◌⊎◌, inl, inr, nat_le, Bool, true, false, List, [], ◌∷◌, ◌++◌, length, map, refl, sym, ap, subst, append_assoc, arith}
use Rattle.std.specs.List.{All}
use Rattle.std.proofs.lemmas.Bool.Decides.{nat_tests}
use Rattle.std.proofs.lemmas.List.Elements.{All-cons, All-nil}
use Rattle.sv_lex.specs.declared.tokens.Token.{Token}
use Rattle.sv_lex.specs.declared.tokens.TokenKind.TheVariants.{Number}
use Rattle.sv_reader.specs.Grammar.{◌·◌, Both, word}
use Rattle.sv_workload.specs.Elements.{Refusals, Among, Here, Behind, AreNone}
use Rattle.sv_workload.specs.Grammar.{many, number}
use Rattle.sv_workload.specs.LastRefused.{BeginsWith, BeginsWord, IsOutside, total}
use Rattle.sv_workload.proofs.LineMarkLaws.{total_more}

pub below : (n most : ℕ) → (most ≤ n → ⊥) → n < most
below n most none = by_test (nat_le most n) refl
  where
    by_test : (b : Bool) → nat_le most n ≡ b → n < most
    by_test true t = absurd (none (grind (arith, nat_tests, t)))
    by_test false t = grind (arith, nat_tests, t)

pub total_ones : {A : Type 0} (xs : List A) → total (λ (a : A). 1) xs ≡ length xs
total_ones [] = refl
total_ones (x ∷ xs) = let more = total_ones xs in omega (arith, more)

-- elements that stand one behind another

module _ {A : Type 0} (element : A → List Token → Type 0) (refused : List A → List Token → Refusals) where
  -- an element where it stands, of which nothing is refused
  pub record RightAt (before : List A) (a : A) : Type 0 where
    pub front : List Token
    pub rest : List Token
    pub is : element a front
    pub right : AreNone (refused before (front ++ rest))

  abbrev pub AllRight : List A → List A → Type 0
  AllRight before [] = Unit {0}
  AllRight before (a ∷ items) = RightAt before a × AllRight (before ++ a ∷ []) items

  pub all_right : (before items : List A) (tokens front rest : List Token) → tokens ≡ front ++ rest → many element items front → AreNone (Among element refused before tokens) → AllRight before items
  all_right before [] tokens front rest w is right = tt
  all_right before (a ∷ items) tokens front rest w is right =
      let whole : is.front ++ (is.back ++ rest) ≡ tokens = sym (w ∙ ap (λ l. l ++ rest) is.whole ∙ append_assoc is.front is.back rest) in (
        record {
          front = is.front;
          rest = is.back ++ rest;
          is = is.first;
          right = λ code here wrong. right code here (subst (λ l. Among element refused before l code here) whole (Here before (is.front ++ (is.back ++ rest)) code here wrong));
        },
        all_right (before ++ a ∷ []) items (is.back ++ rest) is.back rest refl is.then
            (λ code here wrong. right code here (subst (λ l. Among element refused before l code here) whole (Behind before a is.front (is.back ++ rest) code here is.first wrong))),
      )

  -- what each element may add to is kept within its limit
  pub few_of : (count : A → ℕ) (most : ℕ) → ((before : List A) (a : A) → RightAt before a → total count before ≤ most → total count before + count a ≤ most)
      → (before items : List A) → AllRight before items → total count before ≤ most → total count before + total count items ≤ most
  few_of count most step before [] right le = omega (arith, le)
  few_of count most step before (a ∷ items) right le =
      let next = step before a right.0 le in
      let same = total_more count before a in
      let more = few_of count most step (before ++ a ∷ []) items right.1 (omega (arith, next, same)) in
      omega (arith, more, same)

  -- what holds of what each element stands for holds of all that they stand for
  pub each_of : {B : Type 0} (Q : B → Type 0) (f : A → B) → ((before : List A) (a : A) → RightAt before a → Q (f a))
      → (before items : List A) → AllRight before items → All Q (map f items)
  each_of Q f step before [] right = All-nil Q
  each_of Q f step before (a ∷ items) right = All-cons Q (f a) (map f items) (step before a right.0) (each_of Q f step (before ++ a ∷ []) items right.1)

pub begins_word : (bytes : List ℕ) (Rest : List Token → Type 0) (front rest : List Token) → (word bytes · Rest) front → BeginsWord bytes (front ++ rest)
begins_word bytes Rest front rest is = subst (λ l. BeginsWord bytes l) (sym (ap (λ l. l ++ rest) (is.whole ∙ ap (λ l. l ++ is.back) is.first.only))) is.first.holds

-- a number of which it isn't refused that it is outside its bounds
pub inside : (least most n : ℕ) (front rest : List Token) → number n front → (IsOutside least most (front ++ rest) → ⊥) → (least ≤ n) × (n ≤ most)
inside least most n front rest is none = (low (nat_le least n) refl, high (nat_le n most) refl)
  where
    out : (n < least) ⊎ (most < n) → ⊥
    out either = none (record { n = n; is = subst (λ l. BeginsWith (Number (pos n)) l) (sym (ap (λ l. l ++ rest) is.only)) is.holds; out = either })

    low : (b : Bool) → nat_le least n ≡ b → least ≤ n
    low true t = grind (arith, nat_tests, t)
    low false t = absurd (out (inl (grind (arith, nat_tests, t))))

    high : (b : Bool) → nat_le n most ≡ b → n ≤ most
    high true t = grind (arith, nat_tests, t)
    high false t = absurd (out (inr (grind (arith, nat_tests, t))))

-- two parts with more behind them, and three
pub two_then : {P Q : List Token → Type 0} {tokens : List Token} (is : Both P Q tokens) (rest : List Token) → tokens ++ rest ≡ is.front ++ (is.back ++ rest)
two_then is rest = ap (λ l. l ++ rest) is.whole ∙ append_assoc is.front is.back rest

pub three_then : {P Q R : List Token → Type 0} {tokens : List Token} (is : Both P (Both Q R) tokens) (rest : List Token)
    → tokens ++ rest ≡ is.front ++ (is.then.front ++ (is.then.back ++ rest))
three_then is rest = two_then is rest ∙ ap (λ l. is.front ++ l) (two_then is.then rest)

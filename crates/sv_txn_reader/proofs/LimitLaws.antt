-- Limits: where they count, and readings that keep them.
use Rattle.std.proofs.Common.{◌≡◌, ◌∙◌, ℕ, suc, ◌≤◌, ◌⊎◌, inl, inr, Bool, true, false, ◌&&◌, if◌then◌else◌, nat_le, List, [], ◌∷◌, ◌++◌, length, Ok, Err, refl, sym, ap, subst, arith, append-nil, cond}
use Rattle.std.proofs.lemmas.Bool.Decides.{nat_tests}
use Rattle.std.proofs.lemmas.List.{length-append}
use Rattle.sv_lex.specs.declared.tokens.Token.{Token}
use Rattle.sv_app.specs.declared.refusals.Code.{Code}
use Rattle.sv_app.specs.declared.refusals.Code.TheVariants.{Syntax, Many}
use Rattle.sv_reader.specs.declared.faults.ReadFault.{ReadFault}
use Rattle.sv_reader.specs.Reading.{Read, refuse}
use Rattle.sv_txn_reader.specs.Grammar.{Within}
use Rattle.sv_reader.proofs.AnswerLaws.{Alike}
use Rattle.sv_txn_reader.proofs.PlacedLaws.{Mode, Opens, Passes, Took, Stuck, Cause, Misplaced, TooMany, Reads, Law, reads_same, map_law, read_law, took_map, stuck_map, opens_map}
use Rattle.sv_txn_reader.proofs.PieceLaws.{Either, Left, Right}

pub longer : (a b : List Token) (n : ℕ) → length (a ++ b) ≤ n → length b ≤ n
longer a b n h = omega (arith, h, length-append a b)

-- limits may be passed by what begins in the last tokens
abbrev pub places : Mode
places = record {
  Index = ℕ;
  Loose = λ i l. length l ≤ i;
  Free = λ i l. length l ≤ i;
  Late = λ i left. left ≤ i;
  loose_behind = λ i a b h. longer a b i h;
  free_behind = λ i a b h. longer a b i h;
  free_loose = λ i l h. h;
}

-- the limit of a depth may be passed throughout, or nowhere
abbrev pub depths : Mode
depths = record {
  Index = Bool;
  Loose = λ i l. Unit {0};
  Free = λ i l. i ≡ true;
  Late = λ i left. i ≡ true;
  loose_behind = λ i a b h. tt;
  free_behind = λ i a b h. h;
  free_loose = λ i l h. tt;
}

-- what passes a limit wherever a test is passed, and else reads another language
pub many_law : {M : Mode} {A : Type 0} {clash : List Token → Bool} {P Q : M.Index → A → List Token → List Token → Type 0} {q : List Token → Read A} (test : List Token → Bool)
    → ((a b : List Token) → Alike a b → test a ≡ test b) → test [] ≡ false → Law M clash Q q
    → ((i : M.Index) (a : A) (l r : List Token) → P i a l r → (test l ≡ true) × M.Late i (length l))
    → ((i : M.Index) (a : A) (l r : List Token) → Q i a l r → clash r ≡ false → test l ≡ false)
    → ((token : Token) (others : List Token) → test (token ∷ others) ≡ true → Passes M (Either P Q) (token ∷ []))
    → Law M clash (Either P Q) (λ tokens. if test tokens then refuse Many tokens else q tokens)
many_law {M} {A} {clash} {P} {Q} {q} test same none law first other begins = record {
  some = opens_map (λ a. a) (λ i a l r is. Right is) [] law.some;
  took = λ tokens item rest e. by_took tokens item rest (test tokens) refl e;
  all = all;
  fails = λ tokens fault e. by_fails tokens fault (test tokens) refl e;
}
  where
    read : List Token → Read A
    read l = if test l then refuse Many l else q l

    yes_read : (l : List Token) → test l ≡ true → cond (test l) (refuse Many l) (q l) ≡ refuse Many l
    yes_read l t = ap (λ b. cond b (refuse Many l) (q l)) t

    no_read : (l : List Token) → test l ≡ false → cond (test l) (refuse Many l) (q l) ≡ q l
    no_read l t = ap (λ b. cond b (refuse Many l) (q l)) t

    by_took : (tokens : List Token) (item : A) (rest : List Token) (b : Bool) → test tokens ≡ b → cond b (refuse Many tokens) (q tokens) ≡ Ok (item, rest)
        → Took M (Either P Q) (λ l. if test l then refuse Many l else q l) tokens item rest
    by_took tokens item rest true t e = absurd cc
    by_took tokens item rest false t e = took_map (λ a. a) (λ i a l r is. Right is) (λ last m alike e. no_read last (sym (same tokens last alike) ∙ t) ∙ e) (law.took tokens item rest e)

    all : (i : M.Index) (a : A) (l r : List Token) → Either P Q i a l r → clash r ≡ false → Reads M i (if test l then refuse Many l else q l) a r
    all i a l r (Left is) ends = let f = first i a l r is in inr (record { left = length l; is = yes_read l f.0; late = f.1 })
    all i a l r (Right is) ends = reads_same (no_read l (other i a l r is ends)) (law.all i a l r is ends)

    too_many : (tokens t : List Token) (fault : ReadFault) → tokens ≡ t → test t ≡ true → ◌≡◌ {A = Read A} (refuse Many t) (Err fault) → Stuck M (Either P Q) (λ l. if test l then refuse Many l else q l) tokens fault
    too_many tokens [] fault e t is = let bad : true ≡ false = sym t ∙ none in absurd cc
    too_many tokens (token ∷ others) fault e t is = record {
      front = [];
      rest = token ∷ others;
      code = Many;
      whole = e;
      place = let same : record { code = Many; left = length (token ∷ others) } ≡ fault = cc in sym same;
      opens = opens_map (λ a. a) (λ i a l r is. Right is) [] law.some;
      cause = TooMany token others (begins token others t);
      again = λ last alike. yes_read last (sym (same (token ∷ others) last alike) ∙ t);
    }

    by_fails : (tokens : List Token) (fault : ReadFault) (b : Bool) → test tokens ≡ b → cond b (refuse Many tokens) (q tokens) ≡ Err fault → Stuck M (Either P Q) (λ l. if test l then refuse Many l else q l) tokens fault
    by_fails tokens fault true t e = too_many tokens tokens fault refl t e
    by_fails tokens fault false t e = stuck_map (λ a. a) (λ i a l r is. Right is) (λ last fault alike e. no_read last (sym (same tokens last alike) ∙ t) ∙ e) (law.fails tokens fault e)

-- a token may begin what a reading reads, if the reading ends behind it for want of tokens, or passes a limit with it
pub data Goes {A : Type 0} (token : Token) (answer : Read A) : Type 0 where
  Short : answer ≡ refuse Syntax [] → Goes token answer
  Full : answer ≡ refuse Many (token ∷ []) → Goes token answer

pub begins_with : {M : Mode} {A : Type 0} {clash : List Token → Bool} {G : M.Index → A → List Token → List Token → Type 0} {q : List Token → Read A} → Law M clash G q → (token : Token) → Goes token (q (token ∷ [])) → Passes M G (token ∷ [])
begins_with {M} {A} {clash} {G} {q} law token (Short e) = by_stuck (law.fails (token ∷ []) (record { code = Syntax; left = 0 }) e)
  where
    none : (rest : List Token) → 0 ≡ length rest → rest ≡ []
    none [] e = refl
    none (x ∷ rest) e = absurd (omega (arith, e))

    opened : (front : List Token) → front ≡ token ∷ [] → Opens M G front → Passes M G (token ∷ [])
    opened front e o = record {
      more = o.more;
      item = o.item;
      is = λ i m free. subst (λ l. G i o.item (l ++ (o.more ++ m)) m) e (o.is i m (M.free_loose i (o.more ++ m) (M.free_behind i (token ∷ []) (o.more ++ m) free)));
    }

    by_stuck : Stuck M G q (token ∷ []) (record { code = Syntax; left = 0 }) → Passes M G (token ∷ [])
    by_stuck s =
        let left : 0 ≡ length s.rest = λ i. (s.place i).left in
        opened s.front (sym (s.whole ∙ ap (λ l. s.front ++ l) (none s.rest left) ∙ append-nil s.front)) s.opens
begins_with {M} {A} {clash} {G} {q} law token (Full e) = by_stuck (law.fails (token ∷ []) (record { code = Many; left = 1 }) e)
  where
    by_cause : (front rest : List Token) (code : Code) → token ∷ [] ≡ front ++ rest → 1 ≡ length rest → code ≡ Many → Cause M G front code rest → Passes M G (token ∷ [])
    by_cause front rest _ e left bad (Misplaced _) = absurd cc
    by_cause [] _ _ e left is (TooMany t others passes) = let same : token ≡ t = cc in subst (λ x. Passes M G (x ∷ [])) (sym same) passes
    by_cause (x ∷ front) _ _ e left is (TooMany t others passes) =
        let n : 1 ≡ length ((x ∷ front) ++ t ∷ others) = ap length e in absurd (omega (arith, n, length-append (x ∷ front) (t ∷ others)))

    by_stuck : Stuck M G q (token ∷ []) (record { code = Many; left = 1 }) → Passes M G (token ∷ [])
    by_stuck s =
        let left : 1 ≡ length s.rest = λ i. (s.place i).left in
        let code : Many ≡ s.code = λ i. (s.place i).code in
        by_cause s.front s.rest s.code s.whole left (sym code) s.cause

-- an element that is counted
abbrev pub Limited : {A : Type 0} → ℕ → ℕ → (ℕ → A → List Token → List Token → Type 0) → ℕ → A → List Token → List Token → Type 0
Limited most count G i item tokens rest = Within i most (suc count) tokens × G i item tokens rest

few : (most count : ℕ) → nat_le most count ≡ false → suc count ≤ most
few most count e = grind (arith, nat_tests, e)

many : (most count : ℕ) → nat_le most count ≡ true → suc count ≤ most → ⊥
many most count e h = grind (arith, nat_tests, e, h)

-- the element begins where the test is passed, and is refused there if there is no room for it
pub limited_law : {A : Type 0} {clash : List Token → Bool} {G : ℕ → A → List Token → List Token → Type 0} {q : List Token → Read A} (test : List Token → Bool) (most count : ℕ)
    → ((a b : List Token) → Alike a b → test a ≡ test b) → test [] ≡ false → Law places clash G q
    → ((i : ℕ) (a : A) (l r : List Token) → G i a l r → test l ≡ true)
    → ((tokens : List Token) → test tokens ≡ false → q tokens ≡ refuse Syntax tokens)
    → ((token : Token) (others : List Token) → test (token ∷ others) ≡ true → Goes token (q (token ∷ [])))
    → Law places clash (Limited most count G) (λ tokens. if test tokens && nat_le most count then refuse Many tokens else q tokens)
limited_law {A} {clash} {G} {q} test most count same none law first misplaced begins = by_room (nat_le most count) refl
  where
    tests : (b c : Bool) (l : List Token) → Read A
    tests b c l = if b && c then refuse Many l else q l

    both_false : (b : Bool) → b && false ≡ false
    both_false true = refl
    both_false false = refl

    both_true : (b : Bool) → b && true ≡ b
    both_true true = refl
    both_true false = refl

    roomy : nat_le most count ≡ false → Law places clash (Limited most count G) (λ tokens. if test tokens && nat_le most count then refuse Many tokens else q tokens)
    roomy e = read_law (λ l. ap (λ b. tests (test l) b l) e ∙ ap (λ b. cond b (refuse Many l) (q l)) (both_false (test l)))
        (map_law law (λ i a l r is. (inl (few most count e), is)) (λ i a l r is. is.1))

    full_read : nat_le most count ≡ true → (l : List Token) → (if test l && nat_le most count then refuse Many l else q l) ≡ (if test l then refuse Many l else q l)
    full_read e l = ap (λ b. tests (test l) b l) e ∙ ap (λ b. cond b (refuse Many l) (q l)) (both_true (test l))

    opened : Opens places (Limited most count G) []
    opened = record { more = law.some.more; item = law.some.item; is = λ i m loose. (inr loose, law.some.is i m loose) }

    read : List Token → Read A
    read l = if test l then refuse Many l else q l

    by_took : (tokens : List Token) (item : A) (rest : List Token) (b : Bool) → test tokens ≡ b → cond b (refuse Many tokens) (q tokens) ≡ Ok (item, rest)
        → Took places (Limited most count G) (λ l. if test l then refuse Many l else q l) tokens item rest
    by_took tokens item rest true t e = absurd cc
    by_took tokens item rest false t e = let bad : ◌≡◌ {A = Read A} (refuse Syntax tokens) (Ok (item, rest)) = sym (misplaced tokens t) ∙ e in absurd cc

    late : (i n : ℕ) → nat_le most count ≡ true → (suc count ≤ most) ⊎ (n ≤ i) → n ≤ i
    late i n e (inl h) = absurd (many most count e h)
    late i n e (inr h) = h

    passed : (token : Token) → Passes places G (token ∷ []) → Passes places (Limited most count G) (token ∷ [])
    passed token p = record { more = p.more; item = p.item; is = λ i m free. (inr free, p.is i m free) }

    refused : (tokens t : List Token) (fault : ReadFault) (b : Bool) → tokens ≡ t → test t ≡ b → cond b (refuse Many t) (q t) ≡ Err fault → Stuck places (Limited most count G) (λ l. if test l then refuse Many l else q l) tokens fault
    refused tokens [] fault true e t is = let bad : true ≡ false = sym t ∙ none in absurd cc
    refused tokens (token ∷ others) fault true e t is = record {
      front = [];
      rest = token ∷ others;
      code = Many;
      whole = e;
      place = let same : record { code = Many; left = length (token ∷ others) } ≡ fault = cc in sym same;
      opens = opened;
      cause = TooMany token others (passed token (begins_with law token (begins token others t)));
      again = λ last alike. ap (λ b. cond b (refuse Many last) (q last)) (sym (same (token ∷ others) last alike) ∙ t);
    }
    refused tokens rest fault false e t is = record {
      front = [];
      rest = rest;
      code = Syntax;
      whole = e;
      place = let same : ◌≡◌ {A = Read A} (refuse Syntax rest) (Err fault) = sym (misplaced rest t) ∙ is in let faults : record { code = Syntax; left = length rest } ≡ fault = cc in sym faults;
      opens = opened;
      cause = Misplaced rest;
      again = λ last alike. let other : test last ≡ false = sym (same rest last alike) ∙ t in ap (λ b. cond b (refuse Many last) (q last)) other ∙ misplaced last other;
    }

    full : nat_le most count ≡ true → Law places clash (Limited most count G) (λ tokens. if test tokens && nat_le most count then refuse Many tokens else q tokens)
    full e = read_law (full_read e) (record {
      some = opened;
      took = λ tokens item rest is. by_took tokens item rest (test tokens) refl is;
      all = λ i a l r is ends. inr (record { left = length l; is = ap (λ b. cond b (refuse Many l) (q l)) (first i a l r is.1); late = late i (length l) e is.0 });
      fails = λ tokens fault is. refused tokens tokens fault (test tokens) refl refl is;
    })

    by_room : (b : Bool) → nat_le most count ≡ b → Law places clash (Limited most count G) (λ tokens. if test tokens && nat_le most count then refuse Many tokens else q tokens)
    by_room true e = full e
    by_room false e = roomy e

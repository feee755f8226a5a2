-- Products and sums.
use Rattle.std.proofs.Common.{◌≡◌, ◌∙◌, ℕ, zero, suc, ◌<◌, ◌≤◌, Bool, true, false, ◌||◌, List, [], ◌∷◌, Ok, refl, sym, ap, subst, arith, max}
use Rattle.sv_lex.specs.declared.marks.Mark.TheVariants as marks
use Rattle.sv_lex.specs.declared.tokens.Token.{Token}
use Rattle.sv_lex.specs.declared.tokens.TokenKind.TheVariants.{Mark}
use Rattle.sv_app.specs.Trees.{Term, Variable, Sum, Difference, Product}
use Rattle.sv_reader.specs.Reading.{Read, ◌>>=◌, is_kind, is_next, kind_at}
use Rattle.sv_app.specs.TermTypes.{spot_of}
use Rattle.sv_txn_reader.specs.Grammar.{mark, Rank, Factors, Products, Sums, IsTerm, OneFactor, AProduct, OneProduct, ASum, ADifference}
use Rattle.sv_txn_reader.specs.Reading.{Graded, never, factor_with, factor_at, product_turn, products_with, products_at, is_sign, joined_at, sum_turn, sums_with, sums_at}
use Rattle.sv_txn_reader.proofs.ChainLaws.{Fits, fits_less, Step, Chain, chain_law, turns_keep, turns_last}
use Rattle.sv_txn_reader.proofs.FactorLaws.{Deep, tall, a_term, multiplies, adds, Inside, Flat, Nested, factor_law}
use Rattle.sv_reader.proofs.AnswerLaws.{Alike}
use Rattle.sv_txn_reader.proofs.PlacedLaws.{Passes, Law, map_law, Then, passes_map}
use Rattle.sv_txn_reader.proofs.LeafLaws.{dotted}
use Rattle.sv_txn_reader.proofs.LimitLaws.{depths}
use Rattle.sv_txn_reader.proofs.OperatorLaws.{Joined, Sample, Roomy, joined_deeper, joined_first, joined_begins, joined_law}
use Rattle.sv_reader.proofs.AnswerLaws.{next_alike}
use Rattle.sv_txn_reader.proofs.PieceLaws.{kind_next, kind_test, Either, Left, Right, either_law, Turns, Stop, a_name, name_token}

-- an expression and how much deeper it is than a name
pub record Tall (rank : Rank) (g : Graded) (tokens rest : List Token) : Type 0 where
  pub depth : ℕ
  pub is : IsTerm rank depth g.0 tokens rest
  pub extra : depth ≡ suc g.1

pub roomy_law : {rank : Rank} {room : ℕ} {clash : List Token → Bool} {read : List Token → Read Graded} → Law depths clash (Deep rank room) read → Law depths clash (Roomy (Tall rank) room) read
roomy_law law = map_law law (λ i g l r d. (record { depth = d.depth; is = d.is; extra = d.extra }, d.within)) (λ i g l r t. record { depth = t.0.depth; is = t.0.is; extra = t.0.extra; within = t.1 })

-- products

abbrev pub multiply : Term → Term → Term
multiply a b = Product a b (spot_of a)

abbrev pub Times : Graded → Graded → List Token → List Token → Type 0
Times = Joined (Mark marks.Star) multiply (Tall Factors)

factor_sample : Sample (Tall Factors)
factor_sample = record { item = (Variable a_name a_name.spot, 0); tokens = name_token ∷ []; is = λ m. record { depth = 1; is = a_term m; extra = refl } }

and_false : (a b : Bool) → a || b ≡ false → (a ≡ false) × (b ≡ false)
and_false false false e = (refl, refl)
and_false false true e = absurd cc
and_false true b e = absurd cc

star_clear : (l r : List Token) → mark marks.Star l r → dotted l ≡ false
star_clear l r is = ap dotted is.next ∙ ap (λ k. is_kind (Mark marks.Dot) k) is.holds

abbrev times : (List Token → Read Graded) → Graded → List Token → Read Graded
times factor a tokens = kind_at (Mark marks.Star) tokens >>= λ _ r1. factor r1 >>= λ b r2. Ok ((Product a.0 b.0 (spot_of a.0), suc (max a.1 b.1)), r2)

pub product_chain : (room : ℕ) (factor sums : List Token → Read Graded) → Inside room factor sums → Chain dotted multiplies (is_next (Mark marks.Star)) room (product_turn room factor) (times factor) Times
unfolding product_turn
product_chain room factor sums inside = record {
  turns = λ a l. refl;
  alike = next_alike (λ token. is_kind (Mark marks.Star) token.kind);
  none = refl;
  law = by_inside room factor sums inside;
  deeper = joined_deeper (Mark marks.Star) multiply (Tall Factors);
  first = joined_first (Mark marks.Star) multiply (Tall Factors);
  near_turn = λ a m l r j. star_clear l j.middle j.sign;
  near_end = λ l clear. (and_false (dotted l) (is_next (Mark marks.Star) l) clear).0;
  stop = λ l clear. (and_false (dotted l) (is_next (Mark marks.Star) l) clear).1;
  begins = joined_begins (Mark marks.Star) multiply (Tall Factors) factor_sample;
}
  where
    by_inside : (room : ℕ) (factor sums : List Token → Read Graded) → Inside room factor sums → (a : Graded) → a.1 < room → Law depths dotted (Step room Times a) (times factor a)
    by_inside _ _ _ Flat a few = absurd (omega (arith, few))
    by_inside _ _ _ (Nested room factor sums factors others) a few = joined_law (Mark marks.Star) multiply (Tall Factors) room factor a (omega (arith, few)) (roomy_law factors)

products_into : (room : ℕ) (i : Bool) (g : Graded) (l r : List Token) → Then (Deep Factors room) (λ a i. Turns (Step room Times) i a) i g l r → Deep Products room i g l r
products_into room i g l r t = turns_keep (λ s x. Deep Products room i s l x) step t.head g t.middle r
    (record { depth = t.first.depth; is = OneFactor t.first.depth t.head.0 l t.middle t.first.is; extra = t.first.extra; within = t.first.within }) t.second
  where
    step : (s m : Graded) (x y : List Token) → Deep Products room i s l x → Step room Times s i m x y → Deep Products room i m l y
    step s m x y d j = subst (λ z. Deep Products room i z l y) (sym j.0.made) (record {
      depth = suc (max d.depth j.0.is.depth);
      is = AProduct d.depth j.0.is.depth s.0 j.0.right.0 l x j.0.middle y d.is j.0.sign j.0.is.is;
      extra = omega (arith, d.extra, j.0.is.extra);
      within = subst (λ (z : Graded). Fits room i z.1) j.0.made j.1;
    })

products_out : (room : ℕ) (i : Bool) {d : ℕ} {e : Term} {l r : List Token} (h : ℕ) → d ≡ suc h → Fits room i h → IsTerm Products d e l r → Then (Deep Factors room) (λ a i. Turns (Step room Times) i a) i (e, h) l r
products_out room i h q f (OneFactor d e l r is) = record { head = (e, h); middle = r; first = record { depth = d; is = is; extra = q; within = f }; second = Stop (e, h) r r refl }
products_out room i h q f (AProduct c d a b l x y r is k js) =
    let left = tall is in
    let right = tall js in
    let up : h ≡ suc (max left.0 right.0) = omega (arith, q, left.1, right.1) in
    let before = products_out room i left.0 left.1 (fits_less room i left.0 h (omega (arith, up)) f) is in record {
      head = before.head;
      middle = before.middle;
      first = before.first;
      second = turns_last before.head (a, left.0) (multiply a b, h) before.middle x r before.second
          (record { right = (b, right.0); middle = y; sign = k; is = record { depth = d; is = js; extra = right.1 }; made = λ j. (multiply a b, up j) }, f);
    }

pub products_law : (room : ℕ) (factor sums : List Token → Read Graded) → Inside room factor sums → Law depths multiplies (Deep Products room) (products_with room (factor_with room factor sums) factor)
unfolding products_with
products_law room factor sums inside = map_law (chain_law (product_chain room factor sums inside) (factor_law room factor sums inside)) (products_into room) (λ i g l r d. products_out room i g.1 d.extra d.within d.is)

-- sums and differences

abbrev pub add : Term → Term → Term
add a b = Sum a b (spot_of a)

abbrev pub subtract : Term → Term → Term
subtract a b = Difference a b (spot_of a)

pub data Added (a m : Graded) (l r : List Token) : Type 0 where
  IsMore : Joined (Mark marks.Plus) add (Tall Products) a m l r → Added a m l r
  IsLess : Joined (Mark marks.Minus) subtract (Tall Products) a m l r → Added a m l r

product_sample : Sample (Tall Products)
product_sample = record { item = (Variable a_name a_name.spot, 0); tokens = name_token ∷ []; is = λ m. record { depth = 1; is = OneFactor 1 (Variable a_name a_name.spot) (name_token ∷ m) m (a_term m); extra = refl } }

sign_alike : (a b : List Token) → Alike a b → is_sign a ≡ is_sign b
sign_alike a b alike = λ i. next_alike (λ token. is_kind (Mark marks.Plus) token.kind) a b alike i || next_alike (λ token. is_kind (Mark marks.Minus) token.kind) a b alike i

plus_is : (l r : List Token) → mark marks.Plus l r → (is_sign l ≡ true) × (multiplies l ≡ false)
plus_is l r is = (ap is_sign is.next ∙ ap (λ k. is_kind (Mark marks.Plus) k || is_kind (Mark marks.Minus) k) is.holds, ap multiplies is.next ∙ ap (λ k. is_kind (Mark marks.Dot) k || is_kind (Mark marks.Star) k) is.holds)

minus_is : (l r : List Token) → mark marks.Minus l r → (is_sign l ≡ true) × (multiplies l ≡ false)
minus_is l r is = (ap is_sign is.next ∙ ap (λ k. is_kind (Mark marks.Plus) k || is_kind (Mark marks.Minus) k) is.holds, ap multiplies is.next ∙ ap (λ k. is_kind (Mark marks.Dot) k || is_kind (Mark marks.Star) k) is.holds)

pub sum_chain : (room : ℕ) (products : List Token → Read Graded) → ((n : ℕ) → room ≡ suc n → Law depths multiplies (Deep Products n) products)
    → Chain multiplies adds is_sign room (sum_turn room products) (joined_at products) Added
unfolding sum_turn joined_at
sum_chain room products inside = record {
  turns = λ a l. refl;
  alike = sign_alike;
  none = refl;
  law = by_room room inside;
  deeper = deeper;
  first = first;
  near_turn = near_turn;
  near_end = λ l clear. (and_false (multiplies l) (is_sign l) clear).0;
  stop = λ l clear. (and_false (multiplies l) (is_sign l) clear).1;
  begins = begins;
}
  where
    deeper : (a m : Graded) (l r : List Token) → Added a m l r → a.1 < m.1
    deeper a m l r (IsMore j) = joined_deeper (Mark marks.Plus) add (Tall Products) a m l r j
    deeper a m l r (IsLess j) = joined_deeper (Mark marks.Minus) subtract (Tall Products) a m l r j

    first : (a m : Graded) (l r : List Token) → Added a m l r → is_sign l ≡ true
    first a m l r (IsMore j) = (plus_is l j.middle j.sign).0
    first a m l r (IsLess j) = (minus_is l j.middle j.sign).0

    near_turn : (a m : Graded) (l r : List Token) → Added a m l r → multiplies l ≡ false
    near_turn a m l r (IsMore j) = (plus_is l j.middle j.sign).1
    near_turn a m l r (IsLess j) = (minus_is l j.middle j.sign).1

    begins : (a : Graded) (token : Token) (others : List Token) → is_sign (token ∷ others) ≡ true → Passes depths (λ _. Added a) (token ∷ [])
    begins a token others t = by_test (is_next (Mark marks.Plus) (token ∷ others)) refl
      where
        minus : (p q : Bool) → p ≡ false → p || q ≡ true → q ≡ true
        minus false q e t = t
        minus true q e t = absurd cc

        by_test : (b : Bool) → is_next (Mark marks.Plus) (token ∷ others) ≡ b → Passes depths (λ _. Added a) (token ∷ [])
        by_test true e = passes_map (λ x. x) (λ i m l r j. IsMore j) (token ∷ []) (joined_begins (Mark marks.Plus) add (Tall Products) product_sample a token others e)
        by_test false e = passes_map (λ x. x) (λ i m l r j. IsLess j) (token ∷ [])
            (joined_begins (Mark marks.Minus) subtract (Tall Products) product_sample a token others (minus (is_next (Mark marks.Plus) (token ∷ others)) (is_next (Mark marks.Minus) (token ∷ others)) e t))

    either : (n : ℕ) (a : Graded) → a.1 ≤ n → Law depths multiplies (Deep Products n) products → Law depths multiplies (Step (suc n) Added a) (joined_at products a)
    either n a few law = map_law
        (either_law (is_next (Mark marks.Plus)) (next_alike (λ token. is_kind (Mark marks.Plus) token.kind))
        (joined_law (Mark marks.Plus) add (Tall Products) n products a few (roomy_law law)) (joined_law (Mark marks.Minus) subtract (Tall Products) n products a few (roomy_law law))
        (λ i m l r j. kind_next (Mark marks.Plus) l j.0.middle j.0.sign)
        (λ i m l r j clear. kind_test (λ token. is_kind (Mark marks.Plus) token.kind) (Mark marks.Minus) false l j.0.middle j.0.sign (λ token e. ap (λ k. is_kind (Mark marks.Plus) k) e)))
        into out
      where
        into : (i : Bool) (m : Graded) (l r : List Token) → Either (Step (suc n) (Joined (Mark marks.Plus) add (Tall Products)) a) (Step (suc n) (Joined (Mark marks.Minus) subtract (Tall Products)) a) i m l r → Step (suc n) Added a i m l r
        into i m l r (Left j) = (IsMore j.0, j.1)
        into i m l r (Right j) = (IsLess j.0, j.1)

        out : (i : Bool) (m : Graded) (l r : List Token) → Step (suc n) Added a i m l r → Either (Step (suc n) (Joined (Mark marks.Plus) add (Tall Products)) a) (Step (suc n) (Joined (Mark marks.Minus) subtract (Tall Products)) a) i m l r
        out i m l r (IsMore j, f) = Left (j, f)
        out i m l r (IsLess j, f) = Right (j, f)

    by_room : (room : ℕ) → ((n : ℕ) → room ≡ suc n → Law depths multiplies (Deep Products n) products) → (a : Graded) → a.1 < room → Law depths multiplies (Step room Added a) (joined_at products a)
    by_room zero inside a few = absurd (omega (arith, few))
    by_room (suc n) inside a few = either n a (omega (arith, few)) (inside n refl)

sums_into : (room : ℕ) (i : Bool) (g : Graded) (l r : List Token) → Then (Deep Products room) (λ a i. Turns (Step room Added) i a) i g l r → Deep Sums room i g l r
sums_into room i g l r t = turns_keep (λ s x. Deep Sums room i s l x) step t.head g t.middle r
    (record { depth = t.first.depth; is = OneProduct t.first.depth t.head.0 l t.middle t.first.is; extra = t.first.extra; within = t.first.within }) t.second
  where
    step : (s m : Graded) (x y : List Token) → Deep Sums room i s l x → Step room Added s i m x y → Deep Sums room i m l y
    step s m x y d (IsMore j, f) = subst (λ z. Deep Sums room i z l y) (sym j.made) (record {
      depth = suc (max d.depth j.is.depth);
      is = ASum d.depth j.is.depth s.0 j.right.0 l x j.middle y d.is j.sign j.is.is;
      extra = omega (arith, d.extra, j.is.extra);
      within = subst (λ (z : Graded). Fits room i z.1) j.made f;
    })
    step s m x y d (IsLess j, f) = subst (λ z. Deep Sums room i z l y) (sym j.made) (record {
      depth = suc (max d.depth j.is.depth);
      is = ADifference d.depth j.is.depth s.0 j.right.0 l x j.middle y d.is j.sign j.is.is;
      extra = omega (arith, d.extra, j.is.extra);
      within = subst (λ (z : Graded). Fits room i z.1) j.made f;
    })

sums_out : (room : ℕ) (i : Bool) {d : ℕ} {e : Term} {l r : List Token} (h : ℕ) → d ≡ suc h → Fits room i h → IsTerm Sums d e l r → Then (Deep Products room) (λ a i. Turns (Step room Added) i a) i (e, h) l r
sums_out room i h q f (OneProduct d e l r is) = record { head = (e, h); middle = r; first = record { depth = d; is = is; extra = q; within = f }; second = Stop (e, h) r r refl }
sums_out room i h q f (ASum c d a b l x y r is k js) =
    let left = tall is in
    let right = tall js in
    let up : h ≡ suc (max left.0 right.0) = omega (arith, q, left.1, right.1) in
    let before = sums_out room i left.0 left.1 (fits_less room i left.0 h (omega (arith, up)) f) is in record {
      head = before.head;
      middle = before.middle;
      first = before.first;
      second = turns_last before.head (a, left.0) (add a b, h) before.middle x r before.second
          (IsMore (record { right = (b, right.0); middle = y; sign = k; is = record { depth = d; is = js; extra = right.1 }; made = λ j. (add a b, up j) }), f);
    }
sums_out room i h q f (ADifference c d a b l x y r is k js) =
    let left = tall is in
    let right = tall js in
    let up : h ≡ suc (max left.0 right.0) = omega (arith, q, left.1, right.1) in
    let before = sums_out room i left.0 left.1 (fits_less room i left.0 h (omega (arith, up)) f) is in record {
      head = before.head;
      middle = before.middle;
      first = before.first;
      second = turns_last before.head (a, left.0) (subtract a b, h) before.middle x r before.second
          (IsLess (record { right = (b, right.0); middle = y; sign = k; is = record { depth = d; is = js; extra = right.1 }; made = λ j. (subtract a b, up j) }), f);
    }

pub sums_law : (room : ℕ) (first products : List Token → Read Graded) → Law depths multiplies (Deep Products room) first → ((n : ℕ) → room ≡ suc n → Law depths multiplies (Deep Products n) products)
    → Law depths adds (Deep Sums room) (sums_with room first products)
unfolding sums_with
sums_law room first products law inside = map_law (chain_law (sum_chain room products inside) law) (sums_into room) (λ i g l r d. sums_out room i g.1 d.extra d.within d.is)

-- all of them

pub record All (room : ℕ) : Type 0 where
  pub factor : Law depths dotted (Deep Factors room) (factor_at room)
  pub products : Law depths multiplies (Deep Products room) (products_at room)
  pub sums : Law depths adds (Deep Sums room) (sums_at room)

pub all_laws : (room : ℕ) → All room
unfolding factor_at
all_laws zero = record {
  factor = factor_law 0 never never Flat;
  products = products_law 0 never never Flat;
  sums = sums_law 0 (products_with 0 (factor_with 0 never never) never) never (products_law 0 never never Flat) (λ n e. absurd (omega (arith, e)));
}
all_laws (suc room) = let laws = all_laws room in let inside = Nested room (factor_at room) (sums_at room) laws.factor laws.sums in record {
  factor = factor_law (suc room) (factor_at room) (sums_at room) inside;
  products = products_law (suc room) (factor_at room) (sums_at room) inside;
  sums = sums_law (suc room) (products_with (suc room) (factor_with (suc room) (factor_at room) (sums_at room)) (factor_at room)) (products_at room) (products_law (suc room) (factor_at room) (sums_at room) inside)
      (λ n e. let same : room ≡ n = omega (arith, e) in subst (λ x. Law depths multiplies (Deep Products x) (products_at room)) same laws.products);
}

-- Factors.
use Rattle.std.proofs.Common.{◌≡◌, ◌∙◌, ℕ, suc, inl, inr, Bool, true, false, ◌||◌, if◌then◌else◌, nat_le, List, [], ◌∷◌, Some, refl, sym, ap, subst, codes, arith, max}
use Rattle.std.proofs.lemmas.Bool.Decides.{nat_tests}
use Rattle.sv_value.specs.declared.spots.Spot.{Spot}
use Rattle.sv_lex.specs.declared.marks.Mark.{Mark as IsMark}
use Rattle.sv_lex.specs.declared.marks.Mark.TheVariants as marks
use Rattle.sv_lex.specs.declared.tokens.Token.{Token}
use Rattle.sv_lex.specs.declared.tokens.TokenKind.{TokenKind}
use Rattle.sv_lex.specs.declared.tokens.TokenKind.TheVariants.{Name, Number, Text, Mark}
use Rattle.sv_app.specs.declared.apps.Ident.{Ident}
use Rattle.sv_app.specs.declared.refusals.Code.TheVariants.{Many}
use Rattle.sv_app.specs.Trees.{Term, Variable, Field, Old, Minus}
use Rattle.sv_app.specs.Trees as trees
use Rattle.sv_reader.specs.Reading.{Read, refuse, next, is_kind, is_next}
use Rattle.sv_reader.proofs.KindLaws.{kind_is, token_of}
use Rattle.sv_reader.proofs.PartLaws.{name_is}
use Rattle.sv_reader.specs.Grammar.{IsName}
use Rattle.sv_txn_reader.specs.Grammar.{Pair, ◌·◌, One, nothing, kind, mark, name, placed, Rank, Factors, Products, Sums, IsTerm, ANumber, AText, AVariable, AField, AnOld, ASign, AGroup, OneFactor, AProduct, OneProduct, ASum, ADifference}
use Rattle.sv_txn_reader.specs.Grammar as grammar
use Rattle.sv_txn_reader.specs.Reading.{Graded, never, literal, leaf_at, sign_at, group_at, factor_with, is_sign}
use Rattle.sv_txn_reader.proofs.ChainLaws.{Fits}
use Rattle.sv_reader.proofs.AnswerLaws.{anything}
use Rattle.sv_txn_reader.proofs.PlacedLaws.{Passes, Law, map_law, read_law}
use Rattle.sv_txn_reader.proofs.LeafLaws.{dotted, Leaf, leaf_at_law, literal_test}
use Rattle.sv_txn_reader.proofs.LimitLaws.{depths, many_law}
use Rattle.sv_reader.proofs.AnswerLaws.{next_alike}
use Rattle.sv_txn_reader.proofs.PieceLaws.{kind_law, kind_next, kind_some, kind_test, Made, take, take_last, skip_last, Either, Left, Right, either_law, a_name, name_token, is_a_name}

-- an expression and how much deeper it is than a name, where there is so much room
pub record Deep (rank : Rank) (room : ℕ) (i : Bool) (g : Graded) (tokens rest : List Token) : Type 0 where
  pub depth : ℕ
  pub is : IsTerm rank depth g.0 tokens rest
  pub extra : depth ≡ suc g.1
  pub within : Fits room i g.1

pub tall : {rank : Rank} {d : ℕ} {e : Term} {l r : List Token} → IsTerm rank d e l r → (h : ℕ) × (d ≡ suc h)
tall (ANumber n s l r k) = (0, refl)
tall (AText t s l r k) = (0, refl)
tall (AVariable x l r k) = (0, refl)
tall (AField x c l r k) = (0, refl)
tall (AnOld c s l r k) = (0, refl)
tall (ASign d e s l x r k is) = (d, refl)
tall (AGroup d e s l x y r k is p) = (d, refl)
tall (OneFactor d e l r is) = tall is
tall (AProduct c d a b l x y r is k js) = (max c d, refl)
tall (OneProduct d e l r is) = tall is
tall (ASum c d a b l x y r is k js) = (max c d, refl)
tall (ADifference c d a b l x y r is k js) = (max c d, refl)

pub named : (m : List Token) → name a_name (name_token ∷ m) m
named m = record { token = name_token; next = refl; holds = name_is name_token.spot name_token.kind a_name is_a_name }

-- an expression that is as short as can be
pub a_term : (m : List Token) → IsTerm Factors 1 (Variable a_name a_name.spot) (name_token ∷ m) m
a_term m = AVariable a_name (name_token ∷ m) m (named m)

flat : (room : ℕ) (i : Bool) (e : Term) (l r : List Token) → IsTerm Factors 1 e l r → Deep Factors room i (e, 0) l r
flat room i e l r is = record { depth = 1; is = is; extra = refl; within = inl (omega arith) }

leaf_into : (room : ℕ) (i : Bool) (g : Graded) (l r : List Token) → Leaf depths i g l r → Deep Factors room i g l r
leaf_into room i g l r (Left m) = subst (λ x. Deep Factors room i x l r) (sym m.made) (flat room i (Old m.«from».1 m.«from».0) l r (AnOld m.«from».1 m.«from».0 l r m.is))
leaf_into room i g l r (Right (Left t)) = by_field t.second
  where
    by_field : Either (Made (λ (c : Ident). (Field t.head c t.head.spot, 0)) (λ _ c. mark marks.Dot · name c)) (Made (λ (_ : Unit {0}). (Variable t.head t.head.spot, 0)) (λ _ _. nothing)) i g t.middle r → Deep Factors room i g l r
    by_field (Left m) = subst (λ x. Deep Factors room i x l r) (sym m.made)
        (flat room i (Field t.head m.«from» t.head.spot) l r (AField t.head m.«from» l r (record { middle = t.middle; first = t.first; second = m.is })))
    by_field (Right m) = subst (λ x. Deep Factors room i x l r) (sym m.made) (flat room i (Variable t.head t.head.spot) l r (AVariable t.head l r (subst (λ y. name t.head l y) m.is t.first)))
leaf_into room i g l r (Right (Right m)) = by_kind m.token.kind refl m.holds
  where
    by_kind : (k : TokenKind) → m.token.kind ≡ k → literal m.token.spot k ≡ Some g → Deep Factors room i g l r
    by_kind (Number n) k e = let same : (trees.Number n m.token.spot, 0) ≡ g = cc in
        subst (λ x. Deep Factors room i x l r) same (flat room i (trees.Number n m.token.spot) l r (ANumber n m.token.spot l r (record { token = m.token; next = m.next; holds = (k, refl) })))
    by_kind (Text t) k e = let same : (trees.Words t m.token.spot, 0) ≡ g = cc in
        subst (λ x. Deep Factors room i x l r) same (flat room i (trees.Words t m.token.spot) l r (AText t m.token.spot l r (record { token = m.token; next = m.next; holds = (k, refl) })))
    by_kind (Name w) k e = absurd cc
    by_kind (Mark x) k e = absurd cc

-- a factor without a sign or parentheses
pub data IsLeaf (i : Bool) (e : Term) (h : ℕ) (l r : List Token) : Type 0 where
  Plain : Leaf depths i (e, 0) l r → 0 ≡ h → IsLeaf i e h l r
  Signed : (d : ℕ) (inner : Term) (s : Spot) (x : List Token) → e ≡ Minus inner s → suc d ≡ suc h → grammar.kind_at s (Mark marks.Minus) l x → IsTerm Factors d inner x r → IsLeaf i e h l r
  Grouped : (d : ℕ) (inner : Term) (s : Spot) (x y : List Token) → e ≡ placed s inner → suc d ≡ suc h → grammar.kind_at s (Mark marks.LeftParen) l x → IsTerm Sums d inner x y → mark marks.RightParen y r → IsLeaf i e h l r

zero_of : (h : ℕ) → 1 ≡ suc h → 0 ≡ h
zero_of h e = omega (arith, e)

pub factor_cases : (i : Bool) {d : ℕ} {e : Term} {l r : List Token} (h : ℕ) → d ≡ suc h → IsTerm Factors d e l r → IsLeaf i e h l r
factor_cases i h q (ANumber n s l r k) = Plain (Right (Right (record { token = k.token; next = k.next; holds = ap (λ x. literal k.token.spot x) k.holds.0 ∙ ap (λ (x : Spot). Some (trees.Number n x, 0)) k.holds.1 }))) (zero_of h q)
factor_cases i h q (AText t s l r k) = Plain (Right (Right (record { token = k.token; next = k.next; holds = ap (λ x. literal k.token.spot x) k.holds.0 ∙ ap (λ (x : Spot). Some (trees.Words t x, 0)) k.holds.1 }))) (zero_of h q)
factor_cases i h q (AVariable x l r k) = Plain (Right (Left (record { head = x; middle = r; first = k; second = Right (record { «from» = tt; is = refl; made = refl }) }))) (zero_of h q)
factor_cases i h q (AField x c l r k) = Plain (Right (Left (record { head = x; middle = k.middle; first = k.first; second = Left (record { «from» = c; is = k.second; made = refl }) }))) (zero_of h q)
factor_cases i h q (AnOld c s l r k) = Plain (Left (record { «from» = (s, c); is = k; made = refl })) (zero_of h q)
factor_cases i h q (ASign d e s l x r k is) = Signed d e s x refl q k is
factor_cases i h q (AGroup d e s l x y r k is p) = Grouped d e s x y refl q k is p

-- the first token of a leaf is no mark
leaf_no_mark : (m : IsMark) (i : Bool) (g : Graded) (l r : List Token) → Leaf depths i g l r → is_next (Mark m) l ≡ false
leaf_no_mark m i g l r (Left o) = kind_test (λ token. is_kind (Mark m) token.kind) (Name (codes "old")) false l o.is.middle (kind_some (Name (codes "old")) o.«from».0 l o.is.middle o.is.first) (λ token e. ap (λ k. is_kind (Mark m) k) e)
leaf_no_mark m i g l r (Right (Left t)) = ap (λ y. is_next (Mark m) y) t.first.next ∙ ap (λ k. is_kind (Mark m) k) t.first.holds.0
leaf_no_mark m i g l r (Right (Right x)) = literal_test depths (is_kind (Mark m)) (λ n. refl) (λ t. refl) i g l r x

-- the tokens behind which an expression goes on
abbrev pub multiplies : List Token → Bool
multiplies tokens = dotted tokens || is_next (Mark marks.Star) tokens

abbrev pub adds : List Token → Bool
adds tokens = multiplies tokens || is_sign tokens

-- what stands in a factor, if there is room for it
pub data Inside : ℕ → (List Token → Read Graded) → (List Token → Read Graded) → Type 0 where
  Flat : Inside 0 never never
  Nested : (room : ℕ) (factor sums : List Token → Read Graded) → Law depths dotted (Deep Factors room) factor → Law depths adds (Deep Sums room) sums → Inside (suc room) factor sums

-- where there is no room

abbrev FlatSign : Bool → Graded → List Token → List Token → Type 0
FlatSign i g l r = (is_next (Mark marks.Minus) l ≡ true) × (i ≡ true) × Deep Factors 0 i g l r

abbrev FlatGroup : Bool → Graded → List Token → List Token → Type 0
FlatGroup i g l r = (is_next (Mark marks.LeftParen) l ≡ true) × (i ≡ true) × Deep Factors 0 i g l r

kind_first : (k : TokenKind) (s : Spot) (l r : List Token) → grammar.kind_at s k l r → is_next k l ≡ true
kind_first k s l r is = kind_next k l r (kind_some k s l r is)

other_mark : (m k : IsMark) (s : Spot) (l r : List Token) → is_kind (Mark m) (Mark k) ≡ false → grammar.kind_at s (Mark k) l r → is_next (Mark m) l ≡ false
other_mark m k s l r e is = ap (λ y. is_next (Mark m) y) is.next ∙ ap (λ x. is_kind (Mark m) x) is.holds.0 ∙ e

no_room : (i : Bool) (h d : ℕ) {rank : Rank} {e : Term} {l r : List Token} → suc d ≡ suc h → IsTerm rank d e l r → Fits 0 i h → i ≡ true
no_room i h d e is (inl few) = let t = tall is in absurd (omega (arith, e, few, t.1))
no_room i h d e is (inr free) = free

flat_law : Law depths dotted (Deep Factors 0) (factor_with 0 never never)
unfolding factor_with
flat_law = map_law (read_law same
    (many_law minus (next_alike (λ token. is_kind (Mark marks.Minus) token.kind)) refl
    (many_law paren (next_alike (λ token. is_kind (Mark marks.LeftParen) token.kind)) refl (leaf_at_law depths)
    (λ i g l r p. (p.0, p.1)) (λ i g l r is clear. leaf_no_mark marks.LeftParen i g l r is) group_begins)
    (λ i g l r p. (p.0, p.1)) (λ i g l r is clear. no_minus i g l r is) sign_begins))
    into out
  where
    minus : List Token → Bool
    minus = is_next (Mark marks.Minus)

    paren : List Token → Bool
    paren = is_next (Mark marks.LeftParen)

    branch : Bool → Bool → List Token → Read Graded
    branch b c l = if b then (if nat_le 0 0 then refuse Many l else sign_at never l) else if c then (if nat_le 0 0 then refuse Many l else group_at never l) else leaf_at l

    same : (l : List Token) → branch (minus l) (paren l) l ≡ (if minus l then refuse Many l else if paren l then refuse Many l else leaf_at l)
    same l = by_test (minus l) (paren l)
      where
        by_test : (b c : Bool) → branch b c l ≡ (if b then refuse Many l else if c then refuse Many l else leaf_at l)
        by_test true c = refl
        by_test false true = refl
        by_test false false = refl

    no_minus : (i : Bool) (g : Graded) (l r : List Token) → Either FlatGroup (Leaf depths) i g l r → minus l ≡ false
    no_minus i g l r (Right is) = leaf_no_mark marks.Minus i g l r is
    no_minus i g l r (Left is) = by_first l is.0
      where
        by_first : (l : List Token) → paren l ≡ true → minus l ≡ false
        by_first [] e = refl
        by_first (token ∷ l) e = ap (λ k. is_kind (Mark marks.Minus) k) (kind_is (Mark marks.LeftParen) token.kind e)

    group_begins : (token : Token) (others : List Token) → paren (token ∷ others) ≡ true → Passes depths (Either FlatGroup (Leaf depths)) (token ∷ [])
    group_begins token others t = record {
      more = name_token ∷ token_of (Mark marks.RightParen) ∷ [];
      item = (placed token.spot (Variable a_name a_name.spot), 1);
      is = λ i m free. Left (
        t,
        free,
        record {
          depth = 2;
          is = AGroup 1 (Variable a_name a_name.spot) token.spot (token ∷ name_token ∷ token_of (Mark marks.RightParen) ∷ m) (name_token ∷ token_of (Mark marks.RightParen) ∷ m) (token_of (Mark marks.RightParen) ∷ m) m
              (record { token = token; next = refl; holds = (kind_is (Mark marks.LeftParen) token.kind t, refl) })
              (OneProduct 1 _ _ _ (OneFactor 1 _ _ _ (a_term (token_of (Mark marks.RightParen) ∷ m)))) (record { token = token_of (Mark marks.RightParen); next = refl; holds = refl });
          extra = refl;
          within = inr free;
        },
      );
    }

    sign_begins : (token : Token) (others : List Token) → minus (token ∷ others) ≡ true → Passes depths (Either FlatSign (Either FlatGroup (Leaf depths))) (token ∷ [])
    sign_begins token others t = record {
      more = name_token ∷ [];
      item = (Minus (Variable a_name a_name.spot) token.spot, 1);
      is = λ i m free. Left (
        t,
        free,
        record {
          depth = 2;
          is = ASign 1 (Variable a_name a_name.spot) token.spot (token ∷ name_token ∷ m) (name_token ∷ m) m (record { token = token; next = refl; holds = (kind_is (Mark marks.Minus) token.kind t, refl) }) (a_term m);
          extra = refl;
          within = inr free;
        },
      );
    }

    into : (i : Bool) (g : Graded) (l r : List Token) → Either FlatSign (Either FlatGroup (Leaf depths)) i g l r → Deep Factors 0 i g l r
    into i g l r (Left is) = is.2
    into i g l r (Right (Left is)) = is.2
    into i g l r (Right (Right is)) = leaf_into 0 i g l r is

    out : (i : Bool) (g : Graded) (l r : List Token) → Deep Factors 0 i g l r → Either FlatSign (Either FlatGroup (Leaf depths)) i g l r
    out i g l r deep = by_case (factor_cases i g.1 deep.extra deep.is)
      where
        by_case : IsLeaf i g.0 g.1 l r → Either FlatSign (Either FlatGroup (Leaf depths)) i g l r
        by_case (Plain is z) = Right (Right (subst (λ h. Leaf depths i (g.0, h) l r) z is))
        by_case (Signed d inner s x e q k is) = Left (kind_first (Mark marks.Minus) s l x k, no_room i g.1 d q is deep.within, deep)
        by_case (Grouped d inner s x y e q k is p) = Right (Left (kind_first (Mark marks.LeftParen) s l x k, no_room i g.1 d q is deep.within, deep))

-- where there is room

abbrev SignWords : ℕ → Bool → Graded → List Token → List Token → Type 0
SignWords room = Made (λ (x : Spot × Graded). (Minus x.1.0 x.0, suc x.1.1)) (λ i x. grammar.kind_at x.0 (Mark marks.Minus) · Deep Factors room i x.1)

abbrev GroupWords : ℕ → Bool → Graded → List Token → List Token → Type 0
GroupWords room = Made (λ (x : Spot × (Graded × Unit {0})). (placed x.0 x.1.0.0, suc x.1.0.1)) (λ i x. grammar.kind_at x.0 (Mark marks.LeftParen) · Deep Sums room i x.1.0 · mark marks.RightParen)

sign_law : (room : ℕ) (factor : List Token → Read Graded) → Law depths dotted (Deep Factors room) factor → Law depths dotted (SignWords room) (sign_at factor)
unfolding sign_at
sign_law room factor law = take {before = anything} (λ (s : Spot) (e : Graded). (Minus e.0 s, suc e.1)) (kind_law depths anything (Mark marks.Minus)) (λ s. take_last (λ (e : Graded). (Minus e.0 s, suc e.1)) law) (λ i a t l r is clear. refl)

pub kind_clear : (test : TokenKind → Bool) (k : TokenKind) (l r : List Token) → test k ≡ false → kind k l r → next (λ token. test token.kind) l ≡ false
kind_clear test k l r e is = kind_test (λ token. test token.kind) k false l r is (λ token same. ap test same ∙ e)

paren_clear : (l r : List Token) → mark marks.RightParen l r → adds l ≡ false
paren_clear l r is = ap adds is.next ∙ ap (λ k. (is_kind (Mark marks.Dot) k || is_kind (Mark marks.Star) k) || (is_kind (Mark marks.Plus) k || is_kind (Mark marks.Minus) k)) is.holds

group_law : (room : ℕ) (sums : List Token → Read Graded) → Law depths adds (Deep Sums room) sums → Law depths dotted (GroupWords room) (group_at sums)
unfolding group_at
group_law room sums law = take {before = anything} (λ (s : Spot) (x : Graded × Unit {0}). (placed s x.0.0, suc x.0.1)) (kind_law depths anything (Mark marks.LeftParen))
    (λ s. take (λ (e : Graded) (_ : Unit {0}). (placed s e.0, suc e.1)) law (λ e. skip_last depths dotted (Mark marks.RightParen) (placed s e.0, suc e.1)) (λ i a t l r is clear. paren_clear l r is)) (λ i a t l r is clear. refl)

nested_law : (room : ℕ) (factor sums : List Token → Read Graded) → Law depths dotted (Deep Factors room) factor → Law depths adds (Deep Sums room) sums → Law depths dotted (Deep Factors (suc room)) (factor_with (suc room) factor sums)
unfolding factor_with
nested_law room factor sums factors inside = map_law (read_law same
    (either_law minus (next_alike (λ token. is_kind (Mark marks.Minus) token.kind)) (sign_law room factor factors)
    (either_law paren (next_alike (λ token. is_kind (Mark marks.LeftParen) token.kind)) (group_law room sums inside) (leaf_at_law depths)
    (λ i g l r m. kind_first (Mark marks.LeftParen) m.«from».0 l m.is.middle m.is.first) (λ i g l r is clear. leaf_no_mark marks.LeftParen i g l r is))
    (λ i g l r m. kind_first (Mark marks.Minus) m.«from».0 l m.is.middle m.is.first) (λ i g l r is clear. no_minus i g l r is)))
    into out
  where
    minus : List Token → Bool
    minus = is_next (Mark marks.Minus)

    paren : List Token → Bool
    paren = is_next (Mark marks.LeftParen)

    some_room : nat_le (suc room) 0 ≡ false
    some_room = grind (arith, nat_tests)

    branch : Bool → List Token → Read Graded
    branch b l = if minus l then (if b then refuse Many l else sign_at factor l) else if paren l then (if b then refuse Many l else group_at sums l) else leaf_at l

    same : (l : List Token) → branch (nat_le (suc room) 0) l ≡ (if minus l then sign_at factor l else if paren l then group_at sums l else leaf_at l)
    same l = ap (λ b. branch b l) some_room

    no_minus : (i : Bool) (g : Graded) (l r : List Token) → Either (GroupWords room) (Leaf depths) i g l r → minus l ≡ false
    no_minus i g l r (Right is) = leaf_no_mark marks.Minus i g l r is
    no_minus i g l r (Left m) = other_mark marks.Minus marks.LeftParen m.«from».0 l m.is.middle refl m.is.first

    deeper : (i : Bool) (h : ℕ) → Fits room i h → Fits (suc room) i (suc h)
    deeper i h (inl few) = inl (omega (arith, few))
    deeper i h (inr free) = inr free

    into : (i : Bool) (g : Graded) (l r : List Token) → Either (SignWords room) (Either (GroupWords room) (Leaf depths)) i g l r → Deep Factors (suc room) i g l r
    into i g l r (Left m) = let x = m.is.second in subst (λ y. Deep Factors (suc room) i y l r) (sym m.made) (record {
      depth = suc x.depth;
      is = ASign x.depth m.«from».1.0 m.«from».0 l m.is.middle r m.is.first x.is;
      extra = ap suc x.extra;
      within = deeper i m.«from».1.1 x.within;
    })
    into i g l r (Right (Left m)) = let x = m.is.second.first in subst (λ y. Deep Factors (suc room) i y l r) (sym m.made) (record {
      depth = suc x.depth;
      is = AGroup x.depth m.«from».1.0.0 m.«from».0 l m.is.middle m.is.second.middle r m.is.first x.is m.is.second.second;
      extra = ap suc x.extra;
      within = deeper i m.«from».1.0.1 x.within;
    })
    into i g l r (Right (Right is)) = leaf_into (suc room) i g l r is

    lower : (i : Bool) (h k d : ℕ) → suc d ≡ suc h → d ≡ suc k → Fits (suc room) i h → Fits room i k
    lower i h k d e f (inl few) = inl (omega (arith, e, f, few))
    lower i h k d e f (inr free) = inr free

    less : (h k d : ℕ) → suc d ≡ suc h → d ≡ suc k → h ≡ suc k
    less h k d e f = omega (arith, e, f)

    out : (i : Bool) (g : Graded) (l r : List Token) → Deep Factors (suc room) i g l r → Either (SignWords room) (Either (GroupWords room) (Leaf depths)) i g l r
    out i g l r deep = by_case (factor_cases i g.1 deep.extra deep.is)
      where
        by_case : IsLeaf i g.0 g.1 l r → Either (SignWords room) (Either (GroupWords room) (Leaf depths)) i g l r
        by_case (Plain is z) = Right (Right (subst (λ h. Leaf depths i (g.0, h) l r) z is))
        by_case (Signed d inner s x e q k is) = let t = tall is in Left (record {
          «from» = (s, (inner, t.0));
          is = record { middle = x; first = k; second = record { depth = d; is = is; extra = t.1; within = lower i g.1 t.0 d q t.1 deep.within } };
          made = λ j. (e j, less g.1 t.0 d q t.1 j);
        })
        by_case (Grouped d inner s x y e q k is p) = let t = tall is in Right (Left (record {
          «from» = (s, ((inner, t.0), tt));
          is = record { middle = x; first = k; second = record { middle = y; first = record { depth = d; is = is; extra = t.1; within = lower i g.1 t.0 d q t.1 deep.within }; second = p } };
          made = λ j. (e j, less g.1 t.0 d q t.1 j);
        }))

pub factor_law : (room : ℕ) (factor sums : List Token → Read Graded) → Inside room factor sums → Law depths dotted (Deep Factors room) (factor_with room factor sums)
factor_law _ _ _ Flat = flat_law
factor_law _ _ _ (Nested room factor sums factors inside) = nested_law room factor sums factors inside

-- Comparisons, negations, and conditions between brackets.
use Rattle.std.proofs.Common.{◌≡◌, ◌∙◌, ℕ, suc, inl, inr, Bool, true, false, ◌||◌, if◌then◌else◌, nat_le, List, [], ◌∷◌, Option, Some, refl, sym, ap, subst, codes, arith, max}
use Rattle.std.proofs.lemmas.Bool.Decides.{nat_tests}
use Rattle.sv_lex.specs.declared.marks.Mark.{Mark as IsMark}
use Rattle.sv_lex.specs.declared.marks.Mark.TheVariants as marks
use Rattle.sv_lex.specs.declared.tokens.Token.{Token}
use Rattle.sv_lex.specs.declared.tokens.TokenKind.{TokenKind}
use Rattle.sv_lex.specs.declared.tokens.TokenKind.TheVariants.{Name, Number, Text, Mark}
use Rattle.sv_app.specs.declared.refusals.Code.TheVariants.{Many}
use Rattle.sv_app.specs.declared.txns.Rel.{Rel}
use Rattle.sv_app.specs.declared.txns.Rel.TheVariants as rels
use Rattle.sv_app.specs.Trees.{Term, Variable, Test, Compare, Negation}
use Rattle.sv_app.specs.Words.{is_reserved}
use Rattle.sv_reader.specs.Reading.{Read, refuse, next, is_kind, is_next, token_at}
use Rattle.sv_reader.proofs.KindLaws.{kind_is, token_of}
use Rattle.sv_txn_reader.specs.Grammar.{◌·◌, mark, word, relation, Rank, Sums, IsTerm, ANumber, AText, AVariable, AField, AnOld, ASign, AGroup, OneFactor, AProduct, OneProduct, ASum, ADifference, Join, Literals, Disjunctions, IsTest, AComparison, ANegation, ABracket, OneLiteral, AnAnd, OneConjunction, AnOr}
use Rattle.sv_txn_reader.specs.Reading.{Graded, Judged, never, relation_named, relation_in, relation_of, comparison_at, negation_at, bracket_at, literal_with}
use Rattle.sv_txn_reader.proofs.ChainLaws.{Fits}
use Rattle.sv_txn_reader.proofs.FactorLaws.{Deep, tall, a_term, adds}
use Rattle.sv_reader.proofs.AnswerLaws.{anything}
use Rattle.sv_txn_reader.proofs.PlacedLaws.{Mode, Passes, Law, map_law, read_law}
use Rattle.sv_txn_reader.proofs.LimitLaws.{depths, many_law}
use Rattle.sv_reader.proofs.AnswerLaws.{next_alike}
use Rattle.sv_txn_reader.proofs.PieceLaws.{leaf_law, kind_next, Made, take, take_last, skip, skip_last, Either, Left, Right, either_law, a_name, name_token}

-- a condition and how much deeper it is than a comparison of names, where there is so much room
pub record DeepTest (join : Join) (room : ℕ) (i : Bool) (g : Judged) (tokens rest : List Token) : Type 0 where
  pub depth : ℕ
  pub is : IsTest join depth g.0 tokens rest
  pub extra : depth ≡ suc (suc g.1)
  pub within : Fits room i g.1

pub tall_test : {join : Join} {d : ℕ} {t : Test} {l r : List Token} → IsTest join d t l r → (h : ℕ) × (d ≡ suc (suc h))
tall_test (AComparison c d a b by l r is) =
    let left = tall is.first in
    let right = tall is.second.second in
    (max left.0 right.0, omega (arith, left.1, right.1))
tall_test (ANegation d t l x r k is) = let inner = tall_test is in (suc inner.0, ap suc inner.1)
tall_test (ABracket d t l x y r k is p) = let inner = tall_test is in (suc inner.0, ap suc inner.1)
tall_test (OneLiteral d t l r is) = tall_test is
tall_test (AnAnd c d t u l x y r is k js) = let left = tall_test is in let right = tall_test js in (suc (max left.0 right.0), omega (arith, left.1, right.1))
tall_test (OneConjunction d t l r is) = tall_test is
tall_test (AnOr c d t u l x y r is k js) = let left = tall_test is in let right = tall_test js in (suc (max left.0 right.0), omega (arith, left.1, right.1))

abbrev pub a_side : Term
a_side = Variable a_name a_name.spot

pub a_sum : (m : List Token) → IsTerm Sums 1 a_side (name_token ∷ m) m
a_sum m = OneProduct 1 a_side (name_token ∷ m) m (OneFactor 1 a_side (name_token ∷ m) m (a_term m))

abbrev pub eq_token : Token
eq_token = token_of (Mark marks.Eq)

-- a condition that is as short as can be
pub a_test : (m : List Token) → IsTest Literals 2 (Compare a_side rels.Eq a_side) (name_token ∷ eq_token ∷ name_token ∷ m) m
a_test m = AComparison 1 1 a_side a_side rels.Eq (name_token ∷ eq_token ∷ name_token ∷ m) m
    (record { middle = eq_token ∷ name_token ∷ m; first = a_sum (eq_token ∷ name_token ∷ m); second = record { middle = name_token ∷ m; first = record { token = eq_token; next = refl; holds = refl }; second = a_sum m } })

-- the first token of an expression
pub term_first : (test : TokenKind → Bool) → ((n : _) → test (Number n) ≡ false) → ((t : _) → test (Text t) ≡ false) → ((w : List ℕ) → is_reserved w ≡ false → test (Name w) ≡ false) → test (Name (codes "old")) ≡ false
    → test (Mark marks.Minus) ≡ false → test (Mark marks.LeftParen) ≡ false → {rank : Rank} {d : ℕ} {e : Term} {l r : List Token} → IsTerm rank d e l r → next (λ token. test token.kind) l ≡ false
term_first test number text name old minus paren (ANumber n s l r k) = ap (next (λ token. test token.kind)) k.next ∙ ap test k.holds.0 ∙ number n
term_first test number text name old minus paren (AText t s l r k) = ap (next (λ token. test token.kind)) k.next ∙ ap test k.holds.0 ∙ text t
term_first test number text name old minus paren (AVariable x l r k) = ap (next (λ token. test token.kind)) k.next ∙ ap test k.holds.0 ∙ name x.name k.holds.1
term_first test number text name old minus paren (AField x c l r k) = ap (next (λ token. test token.kind)) k.first.next ∙ ap test k.first.holds.0 ∙ name x.name k.first.holds.1
term_first test number text name old minus paren (AnOld c s l r k) = ap (next (λ token. test token.kind)) k.first.next ∙ ap test k.first.holds.0 ∙ old
term_first test number text name old minus paren (ASign d e s l x r k is) = ap (next (λ token. test token.kind)) k.next ∙ ap test k.holds.0 ∙ minus
term_first test number text name old minus paren (AGroup d e s l x y r k is p) = ap (next (λ token. test token.kind)) k.next ∙ ap test k.holds.0 ∙ paren
term_first test number text name old minus paren (OneFactor d e l r is) = term_first test number text name old minus paren is
term_first test number text name old minus paren (AProduct c d a b l x y r is k js) = term_first test number text name old minus paren is
term_first test number text name old minus paren (OneProduct d e l r is) = term_first test number text name old minus paren is
term_first test number text name old minus paren (ASum c d a b l x y r is k js) = term_first test number text name old minus paren is
term_first test number text name old minus paren (ADifference c d a b l x y r is k js) = term_first test number text name old minus paren is

-- a name that isn't reserved is none of the reserved words
pub free_name : (w : List ℕ) → is_reserved w ≡ true → (other : List ℕ) → is_reserved other ≡ false → is_kind (Name w) (Name other) ≡ false
free_name w reserved other free = by_test (is_kind (Name w) (Name other)) refl
  where
    by_test : (b : Bool) → is_kind (Name w) (Name other) ≡ b → is_kind (Name w) (Name other) ≡ false
    by_test false e = e
    by_test true e =
        let same : Name other ≡ Name w = kind_is (Name w) (Name other) e in
        let bytes : other ≡ w = cc in
        let bad : true ≡ false = sym reserved ∙ ap is_reserved (sym bytes) ∙ free in
        absurd cc

not_reserved : is_reserved (codes "not") ≡ true
unfolding is_reserved
not_reserved = refl

no_not : {rank : Rank} {d : ℕ} {e : Term} {l r : List Token} → IsTerm rank d e l r → is_next (Name (codes "not")) l ≡ false
no_not is = term_first (is_kind (Name (codes "not"))) (λ n. refl) (λ t. refl) (free_name (codes "not") not_reserved) refl refl refl is

no_bracket : {rank : Rank} {d : ℕ} {e : Term} {l r : List Token} → IsTerm rank d e l r → is_next (Mark marks.LeftBracket) l ≡ false
no_bracket is = term_first (is_kind (Mark marks.LeftBracket)) (λ n. refl) (λ t. refl) (λ w free. refl) refl refl refl is

-- relations

relation_is : (k : TokenKind) (by : Rel) → relation_in k ≡ Some by → k ≡ Mark (relation by)
relation_is (Mark m) by e = by_mark m e
  where
    same : (m : IsMark) (x by : Rel) → m ≡ relation x → ◌≡◌ {A = Option Rel} (Some x) (Some by) → Mark m ≡ Mark (relation by)
    same m x by r e = let is : x ≡ by = cc in ap Mark (r ∙ ap relation is)

    by_mark : (m : IsMark) → relation_named m ≡ Some by → Mark m ≡ Mark (relation by)
    by_mark marks.Eq e = same marks.Eq rels.Eq by refl e
    by_mark marks.Ne e = same marks.Ne rels.Ne by refl e
    by_mark marks.Lt e = same marks.Lt rels.Lt by refl e
    by_mark marks.Le e = same marks.Le rels.Le by refl e
    by_mark marks.Gt e = same marks.Gt rels.Gt by refl e
    by_mark marks.Ge e = same marks.Ge rels.Ge by refl e
    by_mark _ e = absurd cc
relation_is (Name w) by e = absurd cc
relation_is (Number n) by e = absurd cc
relation_is (Text t) by e = absurd cc

is_relation : (by : Rel) → relation_named (relation by) ≡ Some by
is_relation rels.Eq = refl
is_relation rels.Ne = refl
is_relation rels.Lt = refl
is_relation rels.Le = refl
is_relation rels.Gt = refl
is_relation rels.Ge = refl

relation_law : (M : Mode) (clash : List Token → Bool) → Law M clash (λ _ by. mark (relation by)) (token_at relation_of)
relation_law M clash = map_law (leaf_law M clash relation_of eq_token rels.Eq refl)
    (λ i by l r m. record { token = m.token; next = m.next; holds = relation_is m.token.kind by m.holds }) (λ i by l r k. record { token = k.token; next = k.next; holds = ap relation_in k.holds ∙ is_relation by })

relation_clear : (by : Rel) (l r : List Token) → mark (relation by) l r → adds l ≡ false
relation_clear by l r is = ap adds is.next ∙ ap joins is.holds ∙ none by
  where
    joins : TokenKind → Bool
    joins k = (is_kind (Mark marks.Dot) k || is_kind (Mark marks.Star) k) || (is_kind (Mark marks.Plus) k || is_kind (Mark marks.Minus) k)

    none : (by : Rel) → joins (Mark (relation by)) ≡ false
    none rels.Eq = refl
    none rels.Ne = refl
    none rels.Lt = refl
    none rels.Le = refl
    none rels.Gt = refl
    none rels.Ge = refl

-- comparisons

abbrev Sides : ℕ → Bool → Judged → List Token → List Token → Type 0
Sides room = Made (λ (x : Graded × (Rel × Graded)). (Compare x.0.0 x.1.0 x.1.1.0, max x.0.1 x.1.1.1)) (λ i x. Deep Sums room i x.0 · mark (relation x.1.0) · Deep Sums room i x.1.1)

sides_law : (room : ℕ) (side : List Token → Read Graded) → Law depths adds (Deep Sums room) side → Law depths adds (Sides room) (comparison_at side)
unfolding comparison_at
sides_law room side law = take (λ (a : Graded) (x : Rel × Graded). (Compare a.0 x.0 x.1.0, max a.1 x.1.1)) law
    (λ a. take {before = anything} (λ (by : Rel) (b : Graded). (Compare a.0 by b.0, max a.1 b.1)) (relation_law depths anything) (λ by. take_last (λ (b : Graded). (Compare a.0 by b.0, max a.1 b.1)) law) (λ i by b l r is clear. refl))
    (λ i a x l r is clear. relation_clear x.0 l is.middle is.first)

fits_both : (room : ℕ) (i : Bool) (a b : ℕ) → Fits room i a → Fits room i b → Fits room i (max a b)
fits_both room i a b (inl x) (inl y) = inl (omega (arith, x, y))
fits_both room i a b (inr free) y = inr free
fits_both room i a b x (inr free) = inr free

fits_left : (room : ℕ) (i : Bool) (a b h : ℕ) → h ≡ max a b → Fits room i h → Fits room i a × Fits room i b
fits_left room i a b h e (inl x) = (inl (omega (arith, e, x)), inl (omega (arith, e, x)))
fits_left room i a b h e (inr free) = (inr free, inr free)

sides_into : (room : ℕ) (i : Bool) (g : Judged) (l r : List Token) → Sides room i g l r → DeepTest Literals room i g l r
sides_into room i g l r m =
    let a = m.is.first in
    let b = m.is.second.second in
    subst (λ x. DeepTest Literals room i x l r) (sym m.made) (record {
      depth = suc (max a.depth b.depth);
      is = AComparison a.depth b.depth m.«from».0.0 m.«from».1.1.0 m.«from».1.0 l r
          (record { middle = m.is.middle; first = a.is; second = record { middle = m.is.second.middle; first = m.is.second.first; second = b.is } });
      extra = omega (arith, a.extra, b.extra);
      within = fits_both room i m.«from».0.1 m.«from».1.1.1 a.within b.within;
    })

-- literals by their first tokens
pub data IsLiteral (i : Bool) (t : Test) (h : ℕ) (room : ℕ) (l r : List Token) : Type 0 where
  Compared : Sides room i (t, h) l r → is_next (Name (codes "not")) l ≡ false → is_next (Mark marks.LeftBracket) l ≡ false → IsLiteral i t h room l r
  Negated : (d : ℕ) (inner : Test) (x : List Token) → t ≡ Negation inner → suc d ≡ suc (suc h) → word (codes "not") l x → IsTest Literals d inner x r → IsLiteral i t h room l r
  Bracketed : (d : ℕ) (x y : List Token) → suc d ≡ suc (suc h) → mark marks.LeftBracket l x → IsTest Disjunctions d t x y → mark marks.RightBracket y r → IsLiteral i t h room l r

pub literal_cases : (room : ℕ) (i : Bool) {d : ℕ} {t : Test} {l r : List Token} (h : ℕ) → d ≡ suc (suc h) → Fits room i h → IsTest Literals d t l r → IsLiteral i t h room l r
literal_cases room i h q f (AComparison c d a b by l r is) =
    let left = tall is.first in
    let right = tall is.second.second in
    let up : h ≡ max left.0 right.0 = omega (arith, q, left.1, right.1) in
    let fits = fits_left room i left.0 right.0 h up f in
    Compared (record {
      «from» = ((a, left.0), (by, (b, right.0)));
      is = record {
        middle = is.middle;
        first = record { depth = c; is = is.first; extra = left.1; within = fits.0 };
        second = record { middle = is.second.middle; first = is.second.first; second = record { depth = d; is = is.second.second; extra = right.1; within = fits.1 } };
      };
      made = λ j. (Compare a by b, up j);
    }) (no_not is.first) (no_bracket is.first)
literal_cases room i h q f (ANegation d t l x r k is) = Negated d t x refl q k is
literal_cases room i h q f (ABracket d t l x y r k is p) = Bracketed d x y q k is p

-- the tokens behind which a condition goes on
abbrev pub conjoins : List Token → Bool
conjoins tokens = adds tokens || is_next (Name (codes "and")) tokens

abbrev pub disjoins : List Token → Bool
disjoins tokens = conjoins tokens || is_next (Name (codes "or")) tokens

-- what stands in a literal, if there is room for it
pub data InsideTest : ℕ → (List Token → Read Graded) → (List Token → Read Judged) → (List Token → Read Judged) → Type 0 where
  FlatTest : (side : List Token → Read Graded) → Law depths adds (Deep Sums 0) side → InsideTest 0 side never never
  NestedTest : (room : ℕ) (side : List Token → Read Graded) (literal inside : List Token → Read Judged) → Law depths adds (Deep Sums (suc room)) side → Law depths adds (DeepTest Literals room) literal
      → Law depths disjoins (DeepTest Disjunctions room) inside → InsideTest (suc room) side literal inside

side_no_not : (room : ℕ) (i : Bool) (g : Judged) (l r : List Token) → Sides room i g l r → is_next (Name (codes "not")) l ≡ false
side_no_not room i g l r m = no_not m.is.first.is

side_no_bracket : (room : ℕ) (i : Bool) (g : Judged) (l r : List Token) → Sides room i g l r → is_next (Mark marks.LeftBracket) l ≡ false
side_no_bracket room i g l r m = no_bracket m.is.first.is

-- where there is no room

abbrev FlatNot : Bool → Judged → List Token → List Token → Type 0
FlatNot i g l r = (is_next (Name (codes "not")) l ≡ true) × (i ≡ true) × DeepTest Literals 0 i g l r

abbrev FlatBracket : Bool → Judged → List Token → List Token → Type 0
FlatBracket i g l r = (is_next (Mark marks.LeftBracket) l ≡ true) × (i ≡ true) × DeepTest Literals 0 i g l r

no_room : (i : Bool) (h d : ℕ) {join : Join} {t : Test} {l r : List Token} → suc d ≡ suc (suc h) → IsTest join d t l r → Fits 0 i h → i ≡ true
no_room i h d e is (inl few) = let t = tall_test is in absurd (omega (arith, e, few, t.1))
no_room i h d e is (inr free) = free

bracket_not : (l : List Token) → is_next (Mark marks.LeftBracket) l ≡ true → is_next (Name (codes "not")) l ≡ false
bracket_not [] e = refl
bracket_not (token ∷ l) e = ap (λ k. is_kind (Name (codes "not")) k) (kind_is (Mark marks.LeftBracket) token.kind e)

flat_law : (side : List Token → Read Graded) → Law depths adds (Deep Sums 0) side → Law depths adds (DeepTest Literals 0) (literal_with 0 side never never)
unfolding literal_with
flat_law side law = map_law (read_law same
    (many_law negates (next_alike (λ token. is_kind (Name (codes "not")) token.kind)) refl
    (many_law brackets (next_alike (λ token. is_kind (Mark marks.LeftBracket) token.kind)) refl (sides_law 0 side law)
    (λ i g l r p. (p.0, p.1)) (λ i g l r is clear. side_no_bracket 0 i g l r is) bracket_begins)
    (λ i g l r p. (p.0, p.1)) (λ i g l r is clear. no_negation i g l r is) not_begins))
    into out
  where
    negates : List Token → Bool
    negates = is_next (Name (codes "not"))

    brackets : List Token → Bool
    brackets = is_next (Mark marks.LeftBracket)

    branch : Bool → Bool → List Token → Read Judged
    branch b c l = if b then (if nat_le 0 0 then refuse Many l else negation_at never l) else if c then (if nat_le 0 0 then refuse Many l else bracket_at never l) else comparison_at side l

    same : (l : List Token) → branch (negates l) (brackets l) l ≡ (if negates l then refuse Many l else if brackets l then refuse Many l else comparison_at side l)
    same l = by_test (negates l) (brackets l)
      where
        by_test : (b c : Bool) → branch b c l ≡ (if b then refuse Many l else if c then refuse Many l else comparison_at side l)
        by_test true c = refl
        by_test false true = refl
        by_test false false = refl

    no_negation : (i : Bool) (g : Judged) (l r : List Token) → Either FlatBracket (Sides 0) i g l r → negates l ≡ false
    no_negation i g l r (Right is) = side_no_not 0 i g l r is
    no_negation i g l r (Left is) = bracket_not l is.0

    bracket_begins : (token : Token) (others : List Token) → brackets (token ∷ others) ≡ true → Passes depths (Either FlatBracket (Sides 0)) (token ∷ [])
    bracket_begins token others t = let end = token_of (Mark marks.RightBracket) in record {
      more = name_token ∷ eq_token ∷ name_token ∷ end ∷ [];
      item = (Compare a_side rels.Eq a_side, 1);
      is = λ i m free. Left (
        t,
        free,
        record {
          depth = 3;
          is = ABracket 2 (Compare a_side rels.Eq a_side) (token ∷ name_token ∷ eq_token ∷ name_token ∷ end ∷ m) (name_token ∷ eq_token ∷ name_token ∷ end ∷ m) (end ∷ m) m
              (record { token = token; next = refl; holds = kind_is (Mark marks.LeftBracket) token.kind t }) (OneConjunction 2 _ _ _ (OneLiteral 2 _ _ _ (a_test (end ∷ m)))) (record { token = end; next = refl; holds = refl });
          extra = refl;
          within = inr free;
        },
      );
    }

    not_begins : (token : Token) (others : List Token) → negates (token ∷ others) ≡ true → Passes depths (Either FlatNot (Either FlatBracket (Sides 0))) (token ∷ [])
    not_begins token others t = record {
      more = name_token ∷ eq_token ∷ name_token ∷ [];
      item = (Negation (Compare a_side rels.Eq a_side), 1);
      is = λ i m free. Left (
        t,
        free,
        record {
          depth = 3;
          is = ANegation 2 (Compare a_side rels.Eq a_side) (token ∷ name_token ∷ eq_token ∷ name_token ∷ m) (name_token ∷ eq_token ∷ name_token ∷ m) m
              (record { token = token; next = refl; holds = kind_is (Name (codes "not")) token.kind t }) (a_test m);
          extra = refl;
          within = inr free;
        },
      );
    }

    into : (i : Bool) (g : Judged) (l r : List Token) → Either FlatNot (Either FlatBracket (Sides 0)) i g l r → DeepTest Literals 0 i g l r
    into i g l r (Left is) = is.2
    into i g l r (Right (Left is)) = is.2
    into i g l r (Right (Right is)) = sides_into 0 i g l r is

    out : (i : Bool) (g : Judged) (l r : List Token) → DeepTest Literals 0 i g l r → Either FlatNot (Either FlatBracket (Sides 0)) i g l r
    out i g l r deep = by_case (literal_cases 0 i g.1 deep.extra deep.within deep.is)
      where
        by_case : IsLiteral i g.0 g.1 0 l r → Either FlatNot (Either FlatBracket (Sides 0)) i g l r
        by_case (Compared is n b) = Right (Right is)
        by_case (Negated d inner x e q k is) = Left (kind_next (Name (codes "not")) l x k, no_room i g.1 d q is deep.within, deep)
        by_case (Bracketed d x y q k is p) = Right (Left (kind_next (Mark marks.LeftBracket) l x k, no_room i g.1 d q is deep.within, deep))

-- where there is room

abbrev NotWords : ℕ → Bool → Judged → List Token → List Token → Type 0
NotWords room = Made (λ (t : Judged). (Negation t.0, suc t.1)) (λ i t. word (codes "not") · DeepTest Literals room i t)

abbrev BracketWords : ℕ → Bool → Judged → List Token → List Token → Type 0
BracketWords room = Made (λ (x : Judged × Unit {0}). (x.0.0, suc x.0.1)) (λ i x. mark marks.LeftBracket · DeepTest Disjunctions room i x.0 · mark marks.RightBracket)

not_law : (room : ℕ) (literal : List Token → Read Judged) → Law depths adds (DeepTest Literals room) literal → Law depths adds (NotWords room) (negation_at literal)
unfolding negation_at
not_law room literal law = skip (Name (codes "not")) (λ (t : Judged). (Negation t.0, suc t.1)) (take_last (λ (t : Judged). (Negation t.0, suc t.1)) law)

bracket_clear : (l r : List Token) → mark marks.RightBracket l r → disjoins l ≡ false
bracket_clear l r is = ap disjoins is.next
    ∙ ap (λ k. (((is_kind (Mark marks.Dot) k || is_kind (Mark marks.Star) k) || (is_kind (Mark marks.Plus) k || is_kind (Mark marks.Minus) k)) || is_kind (Name (codes "and")) k) || is_kind (Name (codes "or")) k) is.holds

bracket_law : (room : ℕ) (inside : List Token → Read Judged) → Law depths disjoins (DeepTest Disjunctions room) inside → Law depths adds (BracketWords room) (bracket_at inside)
unfolding bracket_at
bracket_law room inside law = skip (Mark marks.LeftBracket) (λ (x : Judged × Unit {0}). (x.0.0, suc x.0.1))
    (take (λ (t : Judged) (_ : Unit {0}). (t.0, suc t.1)) law (λ t. skip_last depths adds (Mark marks.RightBracket) (t.0, suc t.1)) (λ i a t l r is clear. bracket_clear l r is))

nested_law : (room : ℕ) (side : List Token → Read Graded) (literal inside : List Token → Read Judged) → Law depths adds (Deep Sums (suc room)) side → Law depths adds (DeepTest Literals room) literal
    → Law depths disjoins (DeepTest Disjunctions room) inside → Law depths adds (DeepTest Literals (suc room)) (literal_with (suc room) side literal inside)
unfolding literal_with
nested_law room side literal inside sides literals insides = map_law (read_law same
    (either_law negates (next_alike (λ token. is_kind (Name (codes "not")) token.kind)) (not_law room literal literals)
    (either_law brackets (next_alike (λ token. is_kind (Mark marks.LeftBracket) token.kind)) (bracket_law room inside insides) (sides_law (suc room) side sides)
    (λ i g l r m. kind_next (Mark marks.LeftBracket) l m.is.middle m.is.first) (λ i g l r is clear. side_no_bracket (suc room) i g l r is))
    (λ i g l r m. kind_next (Name (codes "not")) l m.is.middle m.is.first) (λ i g l r is clear. no_negation i g l r is)))
    into out
  where
    negates : List Token → Bool
    negates = is_next (Name (codes "not"))

    brackets : List Token → Bool
    brackets = is_next (Mark marks.LeftBracket)

    some_room : nat_le (suc room) 0 ≡ false
    some_room = grind (arith, nat_tests)

    branch : Bool → List Token → Read Judged
    branch b l = if negates l then (if b then refuse Many l else negation_at literal l) else if brackets l then (if b then refuse Many l else bracket_at inside l) else comparison_at side l

    same : (l : List Token) → branch (nat_le (suc room) 0) l ≡ (if negates l then negation_at literal l else if brackets l then bracket_at inside l else comparison_at side l)
    same l = ap (λ b. branch b l) some_room

    no_negation : (i : Bool) (g : Judged) (l r : List Token) → Either (BracketWords room) (Sides (suc room)) i g l r → negates l ≡ false
    no_negation i g l r (Right is) = side_no_not (suc room) i g l r is
    no_negation i g l r (Left m) = bracket_not l (kind_next (Mark marks.LeftBracket) l m.is.middle m.is.first)

    deeper : (i : Bool) (h : ℕ) → Fits room i h → Fits (suc room) i (suc h)
    deeper i h (inl few) = inl (omega (arith, few))
    deeper i h (inr free) = inr free

    into : (i : Bool) (g : Judged) (l r : List Token) → Either (NotWords room) (Either (BracketWords room) (Sides (suc room))) i g l r → DeepTest Literals (suc room) i g l r
    into i g l r (Left m) = let x = m.is.second in subst (λ y. DeepTest Literals (suc room) i y l r) (sym m.made) (record {
      depth = suc x.depth;
      is = ANegation x.depth m.«from».0 l m.is.middle r m.is.first x.is;
      extra = ap suc x.extra;
      within = deeper i m.«from».1 x.within;
    })
    into i g l r (Right (Left m)) = let x = m.is.second.first in subst (λ y. DeepTest Literals (suc room) i y l r) (sym m.made) (record {
      depth = suc x.depth;
      is = ABracket x.depth m.«from».0.0 l m.is.middle m.is.second.middle r m.is.first x.is m.is.second.second;
      extra = ap suc x.extra;
      within = deeper i m.«from».0.1 x.within;
    })
    into i g l r (Right (Right is)) = sides_into (suc room) i g l r is

    lower : (i : Bool) (h k d : ℕ) → suc d ≡ suc (suc h) → d ≡ suc (suc k) → Fits (suc room) i h → Fits room i k
    lower i h k d e f (inl few) = inl (omega (arith, e, f, few))
    lower i h k d e f (inr free) = inr free

    less : (h k d : ℕ) → suc d ≡ suc (suc h) → d ≡ suc (suc k) → h ≡ suc k
    less h k d e f = omega (arith, e, f)

    out : (i : Bool) (g : Judged) (l r : List Token) → DeepTest Literals (suc room) i g l r → Either (NotWords room) (Either (BracketWords room) (Sides (suc room))) i g l r
    out i g l r deep = by_case (literal_cases (suc room) i g.1 deep.extra deep.within deep.is)
      where
        by_case : IsLiteral i g.0 g.1 (suc room) l r → Either (NotWords room) (Either (BracketWords room) (Sides (suc room))) i g l r
        by_case (Compared is n b) = Right (Right is)
        by_case (Negated d inner x e q k is) = let t = tall_test is in Left (record {
          «from» = (inner, t.0);
          is = record { middle = x; first = k; second = record { depth = d; is = is; extra = t.1; within = lower i g.1 t.0 d q t.1 deep.within } };
          made = λ j. (e j, less g.1 t.0 d q t.1 j);
        })
        by_case (Bracketed d x y q k is p) = let t = tall_test is in Right (Left (record {
          «from» = ((g.0, t.0), tt);
          is = record { middle = x; first = k; second = record { middle = y; first = record { depth = d; is = is; extra = t.1; within = lower i g.1 t.0 d q t.1 deep.within }; second = p } };
          made = λ j. (g.0, less g.1 t.0 d q t.1 j);
        }))

pub literal_law : (room : ℕ) (side : List Token → Read Graded) (literal inside : List Token → Read Judged) → InsideTest room side literal inside → Law depths adds (DeepTest Literals room) (literal_with room side literal inside)
literal_law _ _ _ _ (FlatTest side law) = flat_law side law
literal_law _ _ _ _ (NestedTest room side literal inside sides literals insides) = nested_law room side literal inside sides literals insides

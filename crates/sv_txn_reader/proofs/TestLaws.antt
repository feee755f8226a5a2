-- Conjunctions and disjunctions.
use Rattle.std.proofs.Common.{◌≡◌, ◌∙◌, ℕ, zero, suc, ◌<◌, Bool, true, false, ◌||◌, List, [], ◌∷◌, ◌++◌, Ok, refl, sym, ap, subst, arith, max, codes}
use Rattle.sv_lex.specs.declared.marks.Mark.TheVariants as marks
use Rattle.sv_lex.specs.declared.tokens.Token.{Token}
use Rattle.sv_lex.specs.declared.tokens.TokenKind.TheVariants.{Name, Mark}
use Rattle.sv_app.specs.declared.txns.Rel.TheVariants as rels
use Rattle.sv_app.specs.Trees.{Test, Compare, Both, Either as Any}
use Rattle.sv_reader.specs.Reading.{Read, ◌>>=◌, is_kind, is_next, kind_at}
use Rattle.sv_txn_reader.specs.Grammar.{word, Join, Literals, Conjunctions, Disjunctions, IsTest, OneLiteral, AnAnd, OneConjunction, AnOr}
use Rattle.sv_txn_reader.specs.Reading.{Graded, Judged, never, literal_with, literal_at, and_turn, conjunctions_with, conjunctions_at, or_turn, disjunctions_with, disjunctions_at, sums_at}
use Rattle.sv_txn_reader.proofs.ChainLaws.{Fits, fits_less, Step, Chain, chain_law, turns_keep, turns_last}
use Rattle.sv_txn_reader.proofs.FactorLaws.{adds}
use Rattle.sv_txn_reader.proofs.PlacedLaws.{Law, map_law, Then}
use Rattle.sv_txn_reader.proofs.LimitLaws.{depths}
use Rattle.sv_txn_reader.proofs.LiteralLaws.{DeepTest, tall_test, a_side, eq_token, a_test, conjoins, disjoins, InsideTest, FlatTest, NestedTest, literal_law}
use Rattle.sv_txn_reader.proofs.OperatorLaws.{Joined, Sample, Roomy, joined_deeper, joined_first, joined_begins, joined_law}
use Rattle.sv_reader.proofs.AnswerLaws.{next_alike}
use Rattle.sv_txn_reader.proofs.PieceLaws.{Turns, Stop, name_token}
use Rattle.sv_txn_reader.proofs.TermLaws.{all_laws}

-- a condition and how much deeper it is than a comparison of names
pub record TallTest (join : Join) (g : Judged) (tokens rest : List Token) : Type 0 where
  pub depth : ℕ
  pub is : IsTest join depth g.0 tokens rest
  pub extra : depth ≡ suc (suc g.1)

roomy_law : {join : Join} {room : ℕ} {clash : List Token → Bool} {read : List Token → Read Judged} → Law depths clash (DeepTest join room) read → Law depths clash (Roomy (TallTest join) room) read
roomy_law law = map_law law (λ i g l r d. (record { depth = d.depth; is = d.is; extra = d.extra }, d.within)) (λ i g l r t. record { depth = t.0.depth; is = t.0.is; extra = t.0.extra; within = t.1 })

and_false : (a b : Bool) → a || b ≡ false → (a ≡ false) × (b ≡ false)
and_false false false e = (refl, refl)
and_false false true e = absurd cc
and_false true b e = absurd cc

abbrev literal_tokens : List Token
literal_tokens = name_token ∷ eq_token ∷ name_token ∷ []

-- conjunctions

abbrev pub And : Judged → Judged → List Token → List Token → Type 0
And = Joined (Name (codes "and")) Both (TallTest Literals)

literal_sample : Sample (TallTest Literals)
literal_sample = record { item = (Compare a_side rels.Eq a_side, 0); tokens = literal_tokens; is = λ m. record { depth = 2; is = a_test m; extra = refl } }

and_clear : (l r : List Token) → word (codes "and") l r → adds l ≡ false
and_clear l r is = ap adds is.next ∙ ap (λ k. (is_kind (Mark marks.Dot) k || is_kind (Mark marks.Star) k) || (is_kind (Mark marks.Plus) k || is_kind (Mark marks.Minus) k)) is.holds

abbrev conjoined : (List Token → Read Judged) → Judged → List Token → Read Judged
conjoined literal t tokens = kind_at (Name (codes "and")) tokens >>= λ _ r1. literal r1 >>= λ u r2. Ok ((Both t.0 u.0, suc (max t.1 u.1)), r2)

pub and_chain : (room : ℕ) (side : List Token → Read Graded) (literal inside : List Token → Read Judged) → InsideTest room side literal inside
    → Chain adds conjoins (is_next (Name (codes "and"))) room (and_turn room literal) (conjoined literal) And
unfolding and_turn
and_chain room side literal inside nested = record {
  turns = λ a l. refl;
  alike = next_alike (λ token. is_kind (Name (codes "and")) token.kind);
  none = refl;
  law = by_inside room side literal inside nested;
  deeper = joined_deeper (Name (codes "and")) Both (TallTest Literals);
  first = joined_first (Name (codes "and")) Both (TallTest Literals);
  near_turn = λ a m l r j. and_clear l j.middle j.sign;
  near_end = λ l clear. (and_false (adds l) (is_next (Name (codes "and")) l) clear).0;
  stop = λ l clear. (and_false (adds l) (is_next (Name (codes "and")) l) clear).1;
  begins = joined_begins (Name (codes "and")) Both (TallTest Literals) literal_sample;
}
  where
    by_inside : (room : ℕ) (side : List Token → Read Graded) (literal inside : List Token → Read Judged) → InsideTest room side literal inside → (a : Judged) → a.1 < room → Law depths adds (Step room And a) (conjoined literal a)
    by_inside _ _ _ _ (FlatTest side law) a few = absurd (omega (arith, few))
    by_inside _ _ _ _ (NestedTest room side literal inside sides literals insides) a few = joined_law (Name (codes "and")) Both (TallTest Literals) room literal a (omega (arith, few)) (roomy_law literals)

conjunctions_into : (room : ℕ) (i : Bool) (g : Judged) (l r : List Token) → Then (DeepTest Literals room) (λ a i. Turns (Step room And) i a) i g l r → DeepTest Conjunctions room i g l r
conjunctions_into room i g l r t = turns_keep (λ s x. DeepTest Conjunctions room i s l x) step t.head g t.middle r
    (record { depth = t.first.depth; is = OneLiteral t.first.depth t.head.0 l t.middle t.first.is; extra = t.first.extra; within = t.first.within }) t.second
  where
    step : (s m : Judged) (x y : List Token) → DeepTest Conjunctions room i s l x → Step room And s i m x y → DeepTest Conjunctions room i m l y
    step s m x y d j = subst (λ z. DeepTest Conjunctions room i z l y) (sym j.0.made) (record {
      depth = suc (max d.depth j.0.is.depth);
      is = AnAnd d.depth j.0.is.depth s.0 j.0.right.0 l x j.0.middle y d.is j.0.sign j.0.is.is;
      extra = omega (arith, d.extra, j.0.is.extra);
      within = subst (λ (z : Judged). Fits room i z.1) j.0.made j.1;
    })

conjunctions_out : (room : ℕ) (i : Bool) {d : ℕ} {t : Test} {l r : List Token} (h : ℕ) → d ≡ suc (suc h) → Fits room i h → IsTest Conjunctions d t l r → Then (DeepTest Literals room) (λ a i. Turns (Step room And) i a) i (t, h) l r
conjunctions_out room i h q f (OneLiteral d t l r is) = record { head = (t, h); middle = r; first = record { depth = d; is = is; extra = q; within = f }; second = Stop (t, h) r r refl }
conjunctions_out room i h q f (AnAnd c d t u l x y r is k js) =
    let left = tall_test is in
    let right = tall_test js in
    let up : h ≡ suc (max left.0 right.0) = omega (arith, q, left.1, right.1) in
    let before = conjunctions_out room i left.0 left.1 (fits_less room i left.0 h (omega (arith, up)) f) is in record {
      head = before.head;
      middle = before.middle;
      first = before.first;
      second = turns_last before.head (t, left.0) (Both t u, h) before.middle x r before.second
          (record { right = (u, right.0); middle = y; sign = k; is = record { depth = d; is = js; extra = right.1 }; made = λ j. (Both t u, up j) }, f);
    }

pub conjunctions_law : (room : ℕ) (side : List Token → Read Graded) (literal inside : List Token → Read Judged) → InsideTest room side literal inside
    → Law depths conjoins (DeepTest Conjunctions room) (conjunctions_with room (literal_with room side literal inside) literal)
unfolding conjunctions_with
conjunctions_law room side literal inside nested =
    map_law (chain_law (and_chain room side literal inside nested) (literal_law room side literal inside nested)) (conjunctions_into room) (λ i g l r d. conjunctions_out room i g.1 d.extra d.within d.is)

-- disjunctions

abbrev pub Or : Judged → Judged → List Token → List Token → Type 0
Or = Joined (Name (codes "or")) Any (TallTest Conjunctions)

conjunction_sample : Sample (TallTest Conjunctions)
conjunction_sample = record { item = (Compare a_side rels.Eq a_side, 0); tokens = literal_tokens; is = λ m. record { depth = 2; is = OneLiteral 2 (Compare a_side rels.Eq a_side) (literal_tokens ++ m) m (a_test m); extra = refl } }

or_clear : (l r : List Token) → word (codes "or") l r → conjoins l ≡ false
or_clear l r is = ap conjoins is.next ∙ ap (λ k. ((is_kind (Mark marks.Dot) k || is_kind (Mark marks.Star) k) || (is_kind (Mark marks.Plus) k || is_kind (Mark marks.Minus) k)) || is_kind (Name (codes "and")) k) is.holds

abbrev disjoined : (List Token → Read Judged) → Judged → List Token → Read Judged
disjoined conjunctions t tokens = kind_at (Name (codes "or")) tokens >>= λ _ r1. conjunctions r1 >>= λ u r2. Ok ((Any t.0 u.0, suc (max t.1 u.1)), r2)

pub or_chain : (room : ℕ) (conjunctions : List Token → Read Judged) → ((n : ℕ) → room ≡ suc n → Law depths conjoins (DeepTest Conjunctions n) conjunctions)
    → Chain conjoins disjoins (is_next (Name (codes "or"))) room (or_turn room conjunctions) (disjoined conjunctions) Or
unfolding or_turn
or_chain room conjunctions inside = record {
  turns = λ a l. refl;
  alike = next_alike (λ token. is_kind (Name (codes "or")) token.kind);
  none = refl;
  law = by_room room inside;
  deeper = joined_deeper (Name (codes "or")) Any (TallTest Conjunctions);
  first = joined_first (Name (codes "or")) Any (TallTest Conjunctions);
  near_turn = λ a m l r j. or_clear l j.middle j.sign;
  near_end = λ l clear. (and_false (conjoins l) (is_next (Name (codes "or")) l) clear).0;
  stop = λ l clear. (and_false (conjoins l) (is_next (Name (codes "or")) l) clear).1;
  begins = joined_begins (Name (codes "or")) Any (TallTest Conjunctions) conjunction_sample;
}
  where
    by_room : (room : ℕ) → ((n : ℕ) → room ≡ suc n → Law depths conjoins (DeepTest Conjunctions n) conjunctions) → (a : Judged) → a.1 < room → Law depths conjoins (Step room Or a) (disjoined conjunctions a)
    by_room zero inside a few = absurd (omega (arith, few))
    by_room (suc n) inside a few = joined_law (Name (codes "or")) Any (TallTest Conjunctions) n conjunctions a (omega (arith, few)) (roomy_law (inside n refl))

disjunctions_into : (room : ℕ) (i : Bool) (g : Judged) (l r : List Token) → Then (DeepTest Conjunctions room) (λ a i. Turns (Step room Or) i a) i g l r → DeepTest Disjunctions room i g l r
disjunctions_into room i g l r t = turns_keep (λ s x. DeepTest Disjunctions room i s l x) step t.head g t.middle r
    (record { depth = t.first.depth; is = OneConjunction t.first.depth t.head.0 l t.middle t.first.is; extra = t.first.extra; within = t.first.within }) t.second
  where
    step : (s m : Judged) (x y : List Token) → DeepTest Disjunctions room i s l x → Step room Or s i m x y → DeepTest Disjunctions room i m l y
    step s m x y d j = subst (λ z. DeepTest Disjunctions room i z l y) (sym j.0.made) (record {
      depth = suc (max d.depth j.0.is.depth);
      is = AnOr d.depth j.0.is.depth s.0 j.0.right.0 l x j.0.middle y d.is j.0.sign j.0.is.is;
      extra = omega (arith, d.extra, j.0.is.extra);
      within = subst (λ (z : Judged). Fits room i z.1) j.0.made j.1;
    })

disjunctions_out : (room : ℕ) (i : Bool) {d : ℕ} {t : Test} {l r : List Token} (h : ℕ) → d ≡ suc (suc h) → Fits room i h → IsTest Disjunctions d t l r → Then (DeepTest Conjunctions room) (λ a i. Turns (Step room Or) i a) i (t, h) l r
disjunctions_out room i h q f (OneConjunction d t l r is) = record { head = (t, h); middle = r; first = record { depth = d; is = is; extra = q; within = f }; second = Stop (t, h) r r refl }
disjunctions_out room i h q f (AnOr c d t u l x y r is k js) =
    let left = tall_test is in
    let right = tall_test js in
    let up : h ≡ suc (max left.0 right.0) = omega (arith, q, left.1, right.1) in
    let before = disjunctions_out room i left.0 left.1 (fits_less room i left.0 h (omega (arith, up)) f) is in record {
      head = before.head;
      middle = before.middle;
      first = before.first;
      second = turns_last before.head (t, left.0) (Any t u, h) before.middle x r before.second
          (record { right = (u, right.0); middle = y; sign = k; is = record { depth = d; is = js; extra = right.1 }; made = λ j. (Any t u, up j) }, f);
    }

pub disjunctions_law : (room : ℕ) (first conjunctions : List Token → Read Judged) → Law depths conjoins (DeepTest Conjunctions room) first → ((n : ℕ) → room ≡ suc n → Law depths conjoins (DeepTest Conjunctions n) conjunctions)
    → Law depths disjoins (DeepTest Disjunctions room) (disjunctions_with room first conjunctions)
unfolding disjunctions_with
disjunctions_law room first conjunctions law inside = map_law (chain_law (or_chain room conjunctions inside) law) (disjunctions_into room) (λ i g l r d. disjunctions_out room i g.1 d.extra d.within d.is)

-- all of them

pub record AllTests (room : ℕ) : Type 0 where
  pub literal : Law depths adds (DeepTest Literals room) (literal_at room)
  pub conjunctions : Law depths conjoins (DeepTest Conjunctions room) (conjunctions_at room)
  pub disjunctions : Law depths disjoins (DeepTest Disjunctions room) (disjunctions_at room)

pub all_tests : (room : ℕ) → AllTests room
unfolding literal_at
all_tests zero = let flat = FlatTest (sums_at 0) (all_laws 0).sums in record {
  literal = literal_law 0 (sums_at 0) never never flat;
  conjunctions = conjunctions_law 0 (sums_at 0) never never flat;
  disjunctions = disjunctions_law 0 (conjunctions_with 0 (literal_with 0 (sums_at 0) never never) never) never (conjunctions_law 0 (sums_at 0) never never flat) (λ n e. absurd (omega (arith, e)));
}
all_tests (suc room) =
    let laws = all_tests room in
    let side = sums_at (suc room) in
    let nested = NestedTest room (sums_at (suc room)) (literal_at room) (disjunctions_at room) (all_laws (suc room)).sums laws.literal laws.disjunctions in record {
      literal = literal_law (suc room) (sums_at (suc room)) (literal_at room) (disjunctions_at room) nested;
      conjunctions = conjunctions_law (suc room) (sums_at (suc room)) (literal_at room) (disjunctions_at room) nested;
      disjunctions = disjunctions_law (suc room) (conjunctions_with (suc room) (literal_with (suc room) (sums_at (suc room)) (literal_at room) (disjunctions_at room)) (literal_at room)) (conjunctions_at room)
          (conjunctions_law (suc room) (sums_at (suc room)) (literal_at room) (disjunctions_at room) nested)
          (λ n e. let same : room ≡ n = omega (arith, e) in subst (λ x. Law depths conjoins (DeepTest Conjunctions x) (conjunctions_at room)) same laws.conjunctions);
    }

-- Expressions of one or two names, numbers and texts.
use Rattle.std.proofs.Common.{◌≡◌, ◌∙◌, ℕ, Bool, true, false, List, Some, refl, sym, ap, subst, pos, codes}
use Rattle.sv_value.specs.declared.spots.Spot.{Spot}
use Rattle.sv_lex.specs.declared.marks.Mark.TheVariants as marks
use Rattle.sv_lex.specs.declared.tokens.Token.{Token}
use Rattle.sv_lex.specs.declared.tokens.TokenKind.{TokenKind}
use Rattle.sv_lex.specs.declared.tokens.TokenKind.TheVariants.{Name, Number, Text, Mark}
use Rattle.sv_app.specs.declared.apps.Ident.{Ident}
use Rattle.sv_app.specs.Trees.{Term, Variable, Field, Old}
use Rattle.sv_app.specs.Trees as trees
use Rattle.sv_app.specs.Words.{is_reserved}
use Rattle.sv_reader.specs.Reading.{next, is_kind, is_next, is_some, ident_of, name_of, is_name, name_at}
use Rattle.sv_reader.proofs.KindLaws.{kind_is, token_of}
use Rattle.sv_reader.specs.Grammar.{IsName}
use Rattle.sv_txn_reader.specs.Grammar.{Pair, ◌·◌, One, nothing, kind, mark, name}
use Rattle.sv_txn_reader.specs.Grammar as grammar
use Rattle.sv_txn_reader.specs.Reading.{Graded, literal, literal_of, field_at, old_at, leaf_at}
use Rattle.sv_reader.proofs.AnswerLaws.{anything}
use Rattle.sv_txn_reader.proofs.PlacedLaws.{Mode, Law, Then, then_law}
use Rattle.sv_reader.proofs.AnswerLaws.{next_alike}
use Rattle.sv_txn_reader.proofs.PieceLaws.{Means, leaf_law, kind_law, name_law, name_next, kind_next, kind_some, Made, take, take_last, skip, ended, Either, Left, Right, either_law}

abbrev pub dotted : List Token → Bool
dotted = is_next (Mark marks.Dot)

abbrev pub OldWords : (M : Mode) → M.Index → Graded → List Token → List Token → Type 0
OldWords M = Made (λ (x : Spot × Ident). (Old x.1 x.0, 0)) (λ _ x. grammar.kind_at x.0 (Name (codes "old")) · mark marks.Dot · name x.1)

old_law : (M : Mode) (clash : List Token → Bool) → Law M clash (OldWords M) old_at
unfolding old_at
old_law M clash = take {before = anything} (λ (s : Spot) (c : Ident). (Old c s, 0)) (kind_law M anything (Name (codes "old")))
    (λ s. skip (Mark marks.Dot) (λ (c : Ident). (Old c s, 0)) (take_last (λ (c : Ident). (Old c s, 0)) (name_law M clash))) (λ i a t l r is clear. refl)

abbrev FieldWords : (M : Mode) → Ident → M.Index → Graded → List Token → List Token → Type 0
FieldWords M x = Either (Made (λ (c : Ident). (Field x c x.spot, 0)) (λ _ c. mark marks.Dot · name c)) (Made (λ (_ : Unit {0}). (Variable x x.spot, 0)) (λ _ _. nothing))

field_law : (M : Mode) (x : Ident) → Law M dotted (FieldWords M x) (field_at x)
unfolding field_at
field_law M x = either_law (is_next (Mark marks.Dot)) (next_alike (λ token. is_kind (Mark marks.Dot) token.kind))
    (skip (Mark marks.Dot) (λ (c : Ident). (Field x c x.spot, 0)) (take_last (λ (c : Ident). (Field x c x.spot, 0)) (name_law M dotted))) (ended M dotted (Variable x x.spot, 0))
    (λ i a l r m. kind_next (Mark marks.Dot) l m.is.middle m.is.first) (λ i a l r m clear. subst (λ y. dotted y ≡ false) (sym m.is) clear)

abbrev pub Leaf : (M : Mode) → M.Index → Graded → List Token → List Token → Type 0
Leaf M = Either (OldWords M) (Either (Then (λ _ x. name x) (FieldWords M)) (Means M literal_of))

-- a name is no reserved word
pub name_no_word : (w : List ℕ) → is_reserved w ≡ true → (x : Ident) (l r : List Token) → name x l r → is_next (Name w) l ≡ false
name_no_word w reserved x l r n = ap (λ y. is_next (Name w) y) n.next ∙ by_test (is_kind (Name w) n.token.kind) refl
  where
    by_test : (b : Bool) → is_kind (Name w) n.token.kind ≡ b → is_kind (Name w) n.token.kind ≡ false
    by_test false e = e
    by_test true e =
        let same : Name x.name ≡ Name w = sym n.holds.0 ∙ kind_is (Name w) n.token.kind e in
        let bytes : x.name ≡ w = cc in
        let bad : true ≡ false = sym reserved ∙ ap is_reserved (sym bytes) ∙ n.holds.1 in
        absurd cc

literal_is : (k : TokenKind) (s : Spot) (g : Graded) → literal s k ≡ Some g → (test : TokenKind → Bool) → ((n : _) → test (Number n) ≡ false) → ((t : _) → test (Text t) ≡ false) → test k ≡ false
literal_is (Number n) s g e test number text = number n
literal_is (Text t) s g e test number text = text t
literal_is (Name w) s g e test number text = absurd cc
literal_is (Mark m) s g e test number text = absurd cc

pub literal_test : (M : Mode) (test : TokenKind → Bool) → ((n : _) → test (Number n) ≡ false) → ((t : _) → test (Text t) ≡ false) → (i : M.Index) (g : Graded) (l r : List Token) → Means M literal_of i g l r → next (λ token. test token.kind) l ≡ false
literal_test M test number text i g l r m = ap (λ y. next (λ token. test token.kind) y) m.next ∙ literal_is m.token.kind m.token.spot g m.holds test number text

old_reserved : is_reserved (codes "old") ≡ true
unfolding is_reserved
old_reserved = refl

pub leaf_at_law : (M : Mode) → Law M dotted (Leaf M) leaf_at
unfolding leaf_at
leaf_at_law M = either_law (is_next (Name (codes "old"))) (next_alike (λ token. is_kind (Name (codes "old")) token.kind)) (old_law M dotted)
    (either_law is_name (next_alike (λ token. is_some (name_of token)))
    (then_law M (λ _ x. name x) (FieldWords M) name_at field_at (name_law M anything) (λ x. field_law M x) (λ i x g l r is clear. refl))
    (leaf_law M dotted literal_of (token_of (Number (pos 0))) (trees.Number (pos 0) (record { line = 1; col = 1 }), 0) refl)
    (λ i g l r t. name_next t.head l t.middle t.first)
    (λ i g l r m clear. is_literal i g l r m))
    (λ i g l r m. kind_next (Name (codes "old")) l m.is.middle (kind_some (Name (codes "old")) m.«from».0 l m.is.middle m.is.first))
    (λ i g l r e clear. others i g l r e)
  where
    is_literal : (i : M.Index) (g : Graded) (l r : List Token) → Means M literal_of i g l r → is_name l ≡ false
    is_literal i g l r m = ap is_name m.next ∙ no_name m.token m.holds
      where
        no_name : (token : Token) → literal token.spot token.kind ≡ Some g → is_some (name_of token) ≡ false
        no_name token e = by_kind token.kind e
          where
            by_kind : (k : TokenKind) → literal token.spot k ≡ Some g → is_some (ident_of token.spot k) ≡ false
            by_kind (Number n) e = refl
            by_kind (Text t) e = refl
            by_kind (Name w) e = absurd cc
            by_kind (Mark m) e = absurd cc

    others : (i : M.Index) (g : Graded) (l r : List Token) → Either (Then (λ _ x. name x) (FieldWords M)) (Means M literal_of) i g l r → is_next (Name (codes "old")) l ≡ false
    others i g l r (Left t) = name_no_word (codes "old") old_reserved t.head l t.middle t.first
    others i g l r (Right m) = literal_test M (is_kind (Name (codes "old"))) (λ n. refl) (λ t. refl) i g l r m

-- Keys and the sides of checks: each reading reads just the tokens that the grammar gives.
use Rattle.std.proofs.Common.{◌≡◌, ◌∙◌, ℤ, pos, neg_ℤ, Bool, true, false, ◌||◌, if◌then◌else◌, List, [], ◌∷◌, ◌++◌, Option, Some, None, Ok, refl, sym, ap, subst, append-nil, codes}
use Rattle.sv_value.specs.declared.spots.Spot.{Spot}
use Rattle.sv_lex.specs.declared.marks.Mark.{Mark as IsMark}
use Rattle.sv_lex.specs.declared.marks.Mark.TheVariants.{LeftParen, RightParen, Comma, Lt, Le, Gt, Ge, Plus, Minus}
use Rattle.sv_lex.specs.declared.tokens.Token.{Token}
use Rattle.sv_lex.specs.declared.tokens.TokenKind.{TokenKind}
use Rattle.sv_lex.specs.declared.tokens.TokenKind.TheVariants.{Name, Number, Text, Mark}
use Rattle.sv_app.specs.declared.apps.Ident.{Ident}
use Rattle.sv_app.specs.declared.schemas.Check.{Check}
use Rattle.sv_schema_reader.specs.declared.parts.Side.{Side}
use Rattle.sv_schema_reader.specs.declared.parts.Order.{Order}
use Rattle.sv_schema_reader.specs.declared.parts.Order.TheVariants.{AtMost, Below, AtLeast, Above}
use Rattle.sv_reader.specs.Grammar.{◌·◌, nothing, kind, word, mark, number_at, name}
use Rattle.sv_schema_reader.specs.Grammar.{key_names, named, fixed, IsSide, Alone, More, Less, Plain as PlainNumber, Negated, order, check_of}
use Rattle.sv_reader.specs.Reading.{Read, ◌>>=◌, is_kind, is_next, token_at, kind_at, name_at, is_name, is_some, name_of, ident_of, int_of}
use Rattle.sv_schema_reader.specs.Reading.{key_at, side_of, fixed_side, fixed_of, fixed_at, side_at, order_named, order_of}
use Rattle.sv_reader.proofs.KindLaws.{token_of}
use Rattle.sv_reader.proofs.MadeLaws.{Made, placed, both_map, kind_law, take_last, take, take_plain, skip_plain, skip_last, ended}
use Rattle.sv_reader.proofs.AnswerLaws.{next_alike, anything}
use Rattle.sv_reader.proofs.PartLaws.{kind_next, nothing_next, name_law, name_next, int_law, kind_first, only_first, both_assoc, assoc_both}
use Rattle.sv_reader.proofs.ReadLaws.{Plain, Means, leaf, Then, Either, Left, Right, either, follow, same_plain}
use Rattle.sv_schema_reader.proofs.MatterLaws.{schemas}

-- keys

abbrev key_tail : Option Ident → List Token → Type 0
key_tail None = mark RightParen
key_tail (Some second) = mark Comma · name second · mark RightParen

abbrev pub key_written : Ident × Option Ident → List Token → Type 0
key_written key = word (codes "primary") · word (codes "key") · mark LeftParen · key_names key.0 key.1 · mark RightParen

abbrev key_parts : Ident × Option Ident → List Token → Type 0
key_parts key = word (codes "primary") · word (codes "key") · mark LeftParen · name key.0 · key_tail key.1

abbrev two_names : Ident → Ident × Option Ident → List Token → Type 0
two_names first = Made (λ (x : Ident × Unit {0}). let key : Ident × Option Ident = (first, Some x.0) in key) (λ x. mark Comma · name x.0 · mark RightParen)

abbrev one_name : Ident → Ident × Option Ident → List Token → Type 0
one_name first = Made (λ (_ : Unit {0}). let key : Ident × Option Ident = (first, None) in key) (λ _. mark RightParen)

abbrev some_names : Ident → Ident × Option Ident → List Token → Type 0
some_names first = Made (λ (second : Option Ident). let key : Ident × Option Ident = (first, second) in key) key_tail

key_tail_law : (first : Ident) → Plain schemas {A = Ident × Option Ident} anything (some_names first)
    (λ r4. if is_next (Mark Comma) r4
    then (kind_at (Mark Comma) r4 >>= λ _ r5. name_at r5 >>= λ second r6. kind_at (Mark RightParen) r6 >>= λ _ r7. Ok ((first, Some second), r7))
    else (kind_at (Mark RightParen) r4 >>= λ _ r5. Ok ((first, None), r5)))
key_tail_law first = same_plain
    (either (is_next (Mark Comma)) (next_alike (λ token. is_kind (Mark Comma) token.kind))
    (skip_plain (Mark Comma) (λ (x : Ident × Unit {0}). let key : Ident × Option Ident = (first, Some x.0) in key)
    (take_plain (λ second (_ : Unit {0}). let key : Ident × Option Ident = (first, Some second) in key) (name_law schemas anything) (λ second. skip_last schemas {B = Ident × Option Ident} anything (Mark RightParen) (first, Some second))))
    (skip_last schemas {B = Ident × Option Ident} anything (Mark RightParen) (first, None))
    (λ key front rest m. kind_next (Mark Comma) (name m.«from».0 · mark RightParen) front rest m.is)
    (λ key front rest m ends. only_first (Mark Comma) (Mark RightParen) front rest m.is) (λ tokens fault t is. is) (λ tokens fault t is. is))
    into out
  where
    into : (key : Ident × Option Ident) (l : List Token) → Either (two_names first) (one_name first) key l → some_names first key l
    into key l (Left m) = record { «from» = Some m.«from».0; is = m.is; made = m.made }
    into key l (Right m) = record { «from» = None; is = m.is; made = m.made }

    by_second : (key : Ident × Option Ident) (l : List Token) (second : Option Ident) → key_tail second l → key ≡ (first, second) → Either (two_names first) (one_name first) key l
    by_second key l None is e = Right (record { «from» = tt; is = is; made = e })
    by_second key l (Some second) is e = Left (record { «from» = (second, tt); is = is; made = e })

    out : (key : Ident × Option Ident) (l : List Token) → some_names first key l → Either (two_names first) (one_name first) key l
    out key l m = by_second key l m.«from» m.is m.made

key_in : (first : Ident) (second : Option Ident) (l : List Token) → (name first · key_tail second) l → (key_names first second · mark RightParen) l
key_in first None l b = b
key_in first (Some second) l b = both_assoc (both_map (λ x is. is) (λ x is. both_assoc is) b)

key_out : (first : Ident) (second : Option Ident) (l : List Token) → (key_names first second · mark RightParen) l → (name first · key_tail second) l
key_out first None l b = b
key_out first (Some second) l b = both_map (λ x is. is) (λ x is. assoc_both is) (assoc_both b)

pub key_law : Plain schemas anything key_written key_at
unfolding key_at
key_law = same_plain
    (skip_plain (Name (codes "primary")) (λ (x : Ident × Option Ident). x) (skip_plain (Name (codes "key")) (λ (x : Ident × Option Ident). x) (skip_plain (Mark LeftParen) (λ (x : Ident × Option Ident). x)
    (take_plain (λ first second. let key : Ident × Option Ident = (first, second) in key) (name_law schemas anything) key_tail_law))))
    into out
  where
    into : (key : Ident × Option Ident) (l : List Token) → Made (λ (x : Ident × Option Ident). x) key_parts key l → key_written key l
    into key l m = subst (λ x. key_written x l) (sym m.made)
        (both_map (λ x is. is) (λ x is. both_map (λ y is. is) (λ y is. both_map (λ z is. is) (λ z is. key_in m.«from».0 m.«from».1 z is) is) is) m.is)

    out : (key : Ident × Option Ident) (l : List Token) → key_written key l → Made (λ (x : Ident × Option Ident). x) key_parts key l
    out key l is = record { «from» = key; is = both_map (λ x is. is) (λ x is. both_map (λ y is. is) (λ y is. both_map (λ z is. is) (λ z is. key_out key.0 key.1 z is) is) is) is; made = refl }

-- sides

abbrev pub clash_side : List Token → Bool
clash_side tokens = is_next (Mark Plus) tokens || is_next (Mark Minus) tokens

abbrev pub side_tail : Ident → Side → List Token → Type 0
side_tail ident = Either (Made (λ n. named ident n) (λ n. mark Plus · kind (Number n)))
    (Either (Made (λ n. named ident (neg_ℤ n)) (λ n. mark Minus · kind (Number n))) (Made (λ (_ : Unit {0}). named ident (pos 0)) (λ _. nothing)))

or_first : (a b : Bool) → a || b ≡ false → a ≡ false
or_first true b e = absurd cc
or_first false b e = refl

or_second : (a b : Bool) → a || b ≡ false → b ≡ false
or_second true b e = absurd cc
or_second false b e = e

pub side_of_law : (ident : Ident) → Plain schemas clash_side (side_tail ident) (side_of ident)
unfolding side_of
side_of_law ident =
    either (is_next (Mark Plus)) (next_alike (λ token. is_kind (Mark Plus) token.kind))
    (skip_plain (Mark Plus) (λ n. named ident n) (take_last (λ n. named ident n) (int_law schemas clash_side)))
    (either (is_next (Mark Minus)) (next_alike (λ token. is_kind (Mark Minus) token.kind))
    (skip_plain (Mark Minus) (λ n. named ident (neg_ℤ n)) (take_last (λ n. named ident (neg_ℤ n)) (int_law schemas clash_side)))
    (ended schemas clash_side (named ident (pos 0)))
    (λ s front rest m. kind_next (Mark Minus) (kind (Number m.«from»)) front rest m.is)
    (λ s front rest m ends. nothing_next (is_next (Mark Minus)) front rest m.is (or_second (is_next (Mark Plus) rest) (is_next (Mark Minus) rest) ends)) (λ tokens fault t is. is) (λ tokens fault t is. is))
    (λ s front rest m. kind_next (Mark Plus) (kind (Number m.«from»)) front rest m.is)
    other (λ tokens fault t is. is) (λ tokens fault t is. is)
  where
    other : (s : Side) (front rest : List Token) → Either (Made (λ n. named ident (neg_ℤ n)) (λ n. mark Minus · kind (Number n))) (Made (λ (_ : Unit {0}). named ident (pos 0)) (λ _. nothing)) s front → clash_side rest ≡ false → is_next (Mark Plus) (front ++ rest) ≡ false
    other s front rest (Left m) ends = kind_first (Mark Plus) (Mark Minus) (kind (Number m.«from»)) front rest m.is
    other s front rest (Right m) ends = nothing_next (is_next (Mark Plus)) front rest m.is (or_first (is_next (Mark Plus) rest) (is_next (Mark Minus) rest) ends)

-- a number without a column
abbrev pub IsFixed : Side → List Token → Type 0
IsFixed = Either (Made (λ (x : Spot × ℤ). fixed x.0 (neg_ℤ x.1)) (λ x. placed (Mark Minus) x.0 · kind (Number x.1))) (Made (λ (x : Spot × ℤ). fixed x.0 x.1) (λ x. number_at x.0 x.1))

fixed_is : (spot : Spot) (k : TokenKind) (s : Side) → fixed_side spot (int_of k) ≡ Some s → (n : ℤ) × (k ≡ Number n) × (s ≡ fixed spot n)
fixed_is spot (Number n) s e = (n, refl, cc)
fixed_is spot (Name bytes) s e = absurd cc
fixed_is spot (Text bytes) s e = absurd cc
fixed_is spot (Mark m) s e = absurd cc

number_law : (clash : List Token → Bool) → Plain schemas clash (Made (λ (x : Spot × ℤ). fixed x.0 x.1) (λ x. number_at x.0 x.1)) (token_at fixed_of)
number_law clash = same_plain (leaf schemas clash fixed_of (token_of (Number (pos 0))) (fixed (record { line = 1; col = 1 }) (pos 0)) refl) into out
  where
    into : (s : Side) (l : List Token) → Means fixed_of s l → Made (λ (x : Spot × ℤ). fixed x.0 x.1) (λ x. number_at x.0 x.1) s l
    into s l m = let is = fixed_is m.token.spot m.token.kind s m.holds in
        record { «from» = (m.token.spot, is.0); is = record { token = m.token; only = m.only; holds = (is.1, refl) }; made = is.2 }

    out : (s : Side) (l : List Token) → Made (λ (x : Spot × ℤ). fixed x.0 x.1) (λ x. number_at x.0 x.1) s l → Means fixed_of s l
    out s l m = record {
      token = m.is.token;
      only = m.is.only;
      holds = ap (λ k. fixed_side m.is.token.spot (int_of k)) m.is.holds.0 ∙ ap (λ spot. Some (fixed spot m.«from».1)) m.is.holds.1 ∙ ap Some (sym m.made);
    }

pub fixed_law : (clash : List Token → Bool) → Plain schemas clash IsFixed fixed_at
unfolding fixed_at
fixed_law clash =
    either (is_next (Mark Minus)) (next_alike (λ token. is_kind (Mark Minus) token.kind))
    (take_plain (λ spot n. fixed spot (neg_ℤ n)) (kind_law schemas anything (Mark Minus)) (λ spot. take_last (λ n. fixed spot (neg_ℤ n)) (int_law schemas clash)))
    (number_law clash)
    (λ s front rest m. ap (λ l. is_next (Mark Minus) (l ++ rest)) (m.is.whole ∙ ap (λ l. l ++ m.is.back) m.is.first.only) ∙ ap (λ found. is_kind (Mark Minus) found) m.is.first.holds.0)
    (λ s front rest m ends. ap (λ l. is_next (Mark Minus) (l ++ rest)) m.is.only ∙ ap (λ found. is_kind (Mark Minus) found) m.is.holds.0)
    (λ tokens fault t is. is) (λ tokens fault t is. is)

pub fixed_no_name : (s : Side) (front rest : List Token) → IsFixed s front → is_name (front ++ rest) ≡ false
fixed_no_name s front rest (Left m) =
    ap (λ l. is_name (l ++ rest)) (m.is.whole ∙ ap (λ l. l ++ m.is.back) m.is.first.only) ∙ ap (λ k. is_some (ident_of m.is.first.token.spot k)) m.is.first.holds.0
fixed_no_name s front rest (Right m) = ap (λ l. is_name (l ++ rest)) m.is.only ∙ ap (λ k. is_some (ident_of m.is.token.spot k)) m.is.holds.0

pub side_in : (s : Side) (l : List Token) → Either (Then name side_tail) IsFixed s l → IsSide s l
side_in s l (Left t) = by_tail t.parts.then
  where
    by_tail : side_tail t.head s t.parts.back → IsSide s l
    by_tail (Left m) = subst (λ x. IsSide x l) (sym m.made) (More t.head m.«from» l (record { front = t.parts.front; back = t.parts.back; whole = t.parts.whole; first = t.parts.first; then = m.is }))
    by_tail (Right (Left m)) = subst (λ x. IsSide x l) (sym m.made) (Less t.head m.«from» l (record { front = t.parts.front; back = t.parts.back; whole = t.parts.whole; first = t.parts.first; then = m.is }))
    by_tail (Right (Right m)) = subst (λ x. IsSide x l) (sym m.made) (Alone t.head l
        (subst (λ x. name t.head x) (sym (t.parts.whole ∙ ap (λ x. t.parts.front ++ x) m.is ∙ append-nil t.parts.front)) t.parts.first))
side_in s l (Right (Left m)) = subst (λ x. IsSide x l) (sym m.made) (Negated m.«from».0 m.«from».1 l m.is)
side_in s l (Right (Right m)) = subst (λ x. IsSide x l) (sym m.made) (PlainNumber m.«from».0 m.«from».1 l m.is)

pub side_out : (s : Side) (l : List Token) → IsSide s l → Either (Then name side_tail) IsFixed s l
side_out _ l (Alone ident _ is) = Left (record { head = ident; parts = record { front = l; back = []; whole = sym (append-nil l); first = is; then = Right (Right (record { «from» = tt; is = refl; made = refl })) } })
side_out _ l (More ident n _ b) = Left (record { head = ident; parts = record { front = b.front; back = b.back; whole = b.whole; first = b.first; then = Left (record { «from» = n; is = b.then; made = refl }) } })
side_out _ l (Less ident n _ b) = Left (record { head = ident; parts = record { front = b.front; back = b.back; whole = b.whole; first = b.first; then = Right (Left (record { «from» = n; is = b.then; made = refl })) } })
side_out _ l (PlainNumber spot n _ is) = Right (Right (record { «from» = (spot, n); is = is; made = refl }))
side_out _ l (Negated spot n _ b) = Right (Left (record { «from» = (spot, n); is = b; made = refl }))

pub side_law : Plain schemas clash_side IsSide side_at
unfolding side_at
side_law = same_plain
    (either is_name (next_alike (λ token. is_some (name_of token))) (follow (name_law schemas anything) side_of_law) (fixed_law clash_side)
    (λ s front rest t. name_next t.head (side_tail t.head s) front rest t.parts) (λ s front rest is ends. fixed_no_name s front rest is) (λ tokens fault t is. is) (λ tokens fault t is. is))
    side_in side_out

-- how sides compare

mark_order : (m : IsMark) (by : Order) → order_named m ≡ Some by → (token : Token) (l : List Token) → l ≡ token ∷ [] → token.kind ≡ Mark m → order by l
mark_order Le by e token l only k = let same : AtMost ≡ by = cc in subst (λ x. order x l) same (record { token = token; only = only; holds = k })
mark_order Lt by e token l only k = let same : Below ≡ by = cc in subst (λ x. order x l) same (record { token = token; only = only; holds = k })
mark_order Ge by e token l only k = let same : AtLeast ≡ by = cc in subst (λ x. order x l) same (record { token = token; only = only; holds = k })
mark_order Gt by e token l only k = let same : Above ≡ by = cc in subst (λ x. order x l) same (record { token = token; only = only; holds = k })
mark_order _ by e token l only k = absurd cc

pub order_law : (clash : List Token → Bool) → Plain schemas clash order (token_at (λ token. order_of token.kind))
order_law clash = same_plain (leaf schemas clash (λ token. order_of token.kind) (token_of (Mark Le)) AtMost refl) into out
  where
    by_kind : (by : Order) (l : List Token) (token : Token) (k : TokenKind) → l ≡ token ∷ [] → token.kind ≡ k → order_of k ≡ Some by → order by l
    by_kind by l token (Mark m) only is e = mark_order m by e token l only is
    by_kind by l token (Name bytes) only is e = absurd cc
    by_kind by l token (Number n) only is e = absurd cc
    by_kind by l token (Text bytes) only is e = absurd cc

    into : (by : Order) (l : List Token) → Means (λ token. order_of token.kind) by l → order by l
    into by l m = by_kind by l m.token m.token.kind m.only refl m.holds

    out : (by : Order) (l : List Token) → order by l → Means (λ token. order_of token.kind) by l
    out AtMost l is = record { token = is.token; only = is.only; holds = ap order_of is.holds }
    out Below l is = record { token = is.token; only = is.only; holds = ap order_of is.holds }
    out AtLeast l is = record { token = is.token; only = is.only; holds = ap order_of is.holds }
    out Above l is = record { token = is.token; only = is.only; holds = ap order_of is.holds }

-- what stands behind the first side of a check, whatever its bound

abbrev pub free_compared_at : Side → List Token → Read Check
free_compared_at left tokens =
    token_at (λ token. order_of token.kind) tokens >>= λ by r1. side_at r1 >>= λ right r2. kind_at (Mark RightParen) r2 >>= λ _ r3. Ok (check_of left by right, r3)

abbrev pub comparison : Side → Check → List Token → Type 0
comparison left = Made (λ (x : Order × (Side × Unit {0})). check_of left x.0 x.1.0) (λ x. order x.0 · IsSide x.1.0 · mark RightParen)

pub free_compared_law : (left : Side) → Plain schemas anything (comparison left) (free_compared_at left)
free_compared_law left =
    take_plain (λ by (x : Side × Unit {0}). check_of left by x.0) (order_law anything)
    (λ by. take (λ right (_ : Unit {0}). check_of left by right) side_law (λ right. skip_last schemas anything (Mark RightParen) (check_of left by right))
    (λ right t tokens rest is ends. closed tokens rest is) (λ tokens fault is. is) (λ tokens a rest fault took is. is))
  where
    closed : (tokens rest : List Token) → mark RightParen tokens → clash_side (tokens ++ rest) ≡ false
    closed tokens rest is = ap (λ b. b || is_next (Mark Minus) (tokens ++ rest)) (only_first (Mark Plus) (Mark RightParen) tokens rest is) ∙ only_first (Mark Minus) (Mark RightParen) tokens rest is

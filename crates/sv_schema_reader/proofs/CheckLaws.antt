-- Checks: of two sides, and of a list of texts.
use Rattle.std.proofs.Common.{◌≡◌, ◌∙◌, ℕ, ℤ, pos, neg_ℤ, ◌^◌, ◌⊎◌, inl, inr, Bool, true, false, ◌&&◌, ◌||◌, int_le, int_lt, List, [], ◌∷◌, ◌++◌, Ok, Err, refl, sym, ap, subst, arith, append_assoc, cond, codes}
use Rattle.std.proofs.lemmas.Int.{ints}
use Rattle.sv_value.specs.declared.spots.Spot.{Spot}
use Rattle.sv_lex.specs.declared.marks.Mark.TheVariants.{LeftParen, RightParen, Lt, Le, Gt, Ge, Plus, Minus}
use Rattle.sv_lex.specs.declared.tokens.Token.{Token}
use Rattle.sv_lex.specs.declared.tokens.TokenKind.{TokenKind}
use Rattle.sv_lex.specs.declared.tokens.TokenKind.TheVariants.{Name, Number, Mark}
use Rattle.sv_app.specs.declared.apps.Ident.{Ident}
use Rattle.sv_app.specs.declared.refusals.Code.TheVariants.{Many}
use Rattle.sv_app.specs.declared.schemas.Check.{Check}
use Rattle.sv_app.specs.Schema.{Rule, Bound, OneOf}
use Rattle.sv_reader.specs.declared.faults.ReadFault.{ReadFault}
use Rattle.sv_schema_reader.specs.declared.parts.Side.{Side}
use Rattle.sv_schema_reader.specs.declared.parts.Order.{Order}
use Rattle.sv_schema_reader.specs.declared.parts.Order.TheVariants.{AtMost, Below, AtLeast, Above}
use Rattle.sv_reader.specs.Grammar.{◌·◌, kind, mark, text}
use Rattle.sv_schema_reader.specs.Grammar.{fixed, order, check_of}
use Rattle.sv_schema_reader.specs.Limits.{Fits64}
use Rattle.sv_reader.specs.Reading.{Read, ◌>>=◌, is_kind, is_next, token_at, kind_at}
use Rattle.sv_schema_reader.specs.Reading.{side_of, side_at, order_of, fits64, bounded, compared_at, texts_at, checked_at}
use Rattle.sv_reader.proofs.KindLaws.{token_of}
use Rattle.sv_reader.proofs.ListLaws.{list}
use Rattle.sv_reader.proofs.MadeLaws.{Made}
use Rattle.sv_reader.proofs.AnswerLaws.{next_alike, Alike, anything, bound, Bound as Read_first, bound_err, same_read, then_ok, then_err}
use Rattle.sv_reader.proofs.PartLaws.{kind_next, kind_first}
use Rattle.sv_reader.proofs.ReadLaws.{Start, Took, Stuck, Passes, Lawful, Plain, Then, Either, Left, Right, after, either, start_map}
use Rattle.sv_schema_reader.proofs.SideLaws.{side_tail, side_of_law, side_in, clash_side, comparison, free_compared_at, free_compared_law}
use Rattle.sv_schema_reader.proofs.TextLaws.{text_rule, few_text_rule, texts_law}
use Rattle.sv_schema_reader.proofs.TroubleLaws.{Loose, Unfit, Trouble, IsLoose, IsUnfit, trouble_behind, trouble_same, over_inside}
use Rattle.sv_schema_reader.proofs.MatterLaws.{schemas}

-- the test of a bound

fits_both : (a b : Bool) → a && b ≡ true → (a ≡ true) × (b ≡ true)
fits_both true true e = (refl, refl)
fits_both true false e = absurd cc
fits_both false b e = absurd cc

pub fits_is : (n : ℤ) → fits64 n ≡ true → Fits64 n
fits_is n e =
    let both = fits_both (int_le (neg_ℤ (pos (2 ^ 63))) n) (int_lt n (pos (2 ^ 63))) e in
    (grind (arith, ints, both.0), grind (arith, ints, both.1))

pub is_fits : (n : ℤ) → Fits64 n → fits64 n ≡ true
is_fits n fits =
    let low : int_le (neg_ℤ (pos (2 ^ 63))) n ≡ true = grind (arith, ints, fits.0) in
    let high : int_lt n (pos (2 ^ 63)) ≡ true = grind (arith, ints, fits.1) in
    ap (λ a. a && int_lt n (pos (2 ^ 63))) low ∙ high

pub fits_not : (n : ℤ) → fits64 n ≡ false → Fits64 n → ⊥
fits_not n e fits = let bad : true ≡ false = sym (is_fits n fits) ∙ e in absurd cc

-- what stands behind the first side

then_assoc : {A B C : Type 0} (read : Read A) (f : A → List Token → Read B) (g : B → List Token → Read C) → (read >>= f) >>= g ≡ (read >>= λ a r. f a r >>= g)
then_assoc (Ok (a, r)) f g = refl
then_assoc (Err fault) f g = refl

then_same : {A B : Type 0} (read : Read A) (f g : A → List Token → Read B) → ((a : A) (r : List Token) → f a r ≡ g a r) → read >>= f ≡ read >>= g
then_same (Ok (a, r)) f g same = same a r
then_same (Err fault) f g same = refl

compared_is : (start : ℕ) (left : Side) (tokens : List Token) → compared_at start left tokens ≡ (free_compared_at left tokens >>= λ check r. bounded start check r)
unfolding compared_at
compared_is start left tokens = sym
    (then_assoc (token_at (λ token. order_of token.kind) tokens) (λ by r1. side_at r1 >>= λ right r2. kind_at (Mark RightParen) r2 >>= λ _ r3. Ok (check_of left by right, r3)) (λ check r. bounded start check r)
    ∙ then_same (token_at (λ token. order_of token.kind) tokens) _ _ (λ by r1.
    then_assoc (side_at r1) (λ right r2. kind_at (Mark RightParen) r2 >>= λ _ r3. Ok (check_of left by right, r3)) (λ check r. bounded start check r)
    ∙ then_same (side_at r1) _ _ (λ right r2. then_assoc (kind_at (Mark RightParen) r2) (λ _ r3. Ok (check_of left by right, r3)) (λ check r. bounded start check r))))

abbrev pub bounded_rule : Side → Rule → List Token → Type 0
bounded_rule left = Made Bound (comparison left)

abbrev pub fit_rule : Side → Rule → List Token → Type 0
fit_rule left = Made Bound (λ check l. comparison left check l × Fits64 check.most)

abbrev pub unfit_rule : Side → Rule → List Token → Type 0
unfit_rule left = Made Bound (λ check l. comparison left check l × (Fits64 check.most → ⊥))

fit_bound : (start : ℕ) (check : Check) (rest : List Token) → Fits64 check.most → bounded start check rest ≡ Ok (Bound check, rest)
fit_bound start check rest fits = ap (λ b. cond {A = Read Rule} b (Ok (Bound check, rest)) (Err (record { code = Many; left = start }))) (is_fits check.most fits)

unfit_bound : (start : ℕ) (check : Check) (rest : List Token) → fits64 check.most ≡ false → bounded start check rest ≡ Err (record { code = Many; left = start })
unfit_bound start check rest e = ap (λ b. cond {A = Read Rule} b (Ok (Bound check, rest)) (Err (record { code = Many; left = start }))) e

pub compared_law : (start : ℕ) (left : Side)
    → Lawful schemas anything (bounded_rule left) (fit_rule left) (Trouble (λ s. compared_at s left) (bounded_rule left) (fit_rule left) (bounded_rule left) (unfit_rule left) start) (compared_at start left)
compared_law start left = record {
  inside = λ rule l m. record { «from» = m.«from»; is = m.is.0; made = m.made };
  some = some;
  took = took;
  reads = reads;
  all = all;
  fails = fails;
}
  where
    free : Plain schemas anything (comparison left) (free_compared_at left)
    free = free_compared_law left

    some : Start (fit_rule left) []
    some =
        let spot : Spot = record { line = 1; col = 1 } in
        let right : Side = fixed spot left.plus in record {
          more = token_of (Mark Le) ∷ token_of (Number left.plus) ∷ token_of (Mark RightParen) ∷ [];
          item = Bound (check_of left AtMost right);
          is = record {
            «from» = check_of left AtMost right;
            is = (
              record {
                «from» = (AtMost, (right, tt));
                is = record {
                  front = token_of (Mark Le) ∷ [];
                  back = token_of (Number left.plus) ∷ token_of (Mark RightParen) ∷ [];
                  whole = refl;
                  first = record { token = token_of (Mark Le); only = refl; holds = refl };
                  then = record {
                    front = token_of (Number left.plus) ∷ [];
                    back = token_of (Mark RightParen) ∷ [];
                    whole = refl;
                    first = side_in right (token_of (Number left.plus) ∷ []) (Right (Right (record { «from» = (spot, left.plus); is = record { token = token_of (Number left.plus); only = refl; holds = (refl, refl) }; made = refl })));
                    then = record { token = token_of (Mark RightParen); only = refl; holds = refl };
                  };
                };
                made = refl;
              },
              (omega (arith, ints), omega (arith, ints)),
            );
            made = refl;
          };
        }

    by_free : (s : ℕ) (tokens : List Token) (check : Check) (rest : List Token) → free_compared_at left tokens ≡ Ok (check, rest) → compared_at s left tokens ≡ bounded s check rest
    by_free s tokens check rest e = compared_is s left tokens ∙ then_ok (λ check r. bounded s check r) e

    took : (tokens : List Token) (rule : Rule) (rest : List Token) → compared_at start left tokens ≡ Ok (rule, rest) → Took (fit_rule left) (compared_at start left) tokens rule rest
    took tokens rule rest e = let b = bound (free_compared_at left tokens) (λ check r. bounded start check r) (rule, rest) (sym (compared_is start left tokens) ∙ e) in
        by_fits b.item b.rest (fits64 b.item.most) refl (free.took tokens b.item b.rest b.is) b.left
      where
        by_fits : (check : Check) (r : List Token) (f : Bool) → fits64 check.most ≡ f → Took (comparison left) (free_compared_at left) tokens check r
            → cond {A = Read Rule} f (Ok (Bound check, r)) (Err (record { code = Many; left = start })) ≡ Ok (rule, rest) → Took (fit_rule left) (compared_at start left) tokens rule rest
        by_fits check r false f t e = absurd cc
        by_fits check r true f t e =
            let rule_is : Bound check ≡ rule = (same_read e).item in
            let rest_is : r ≡ rest = (same_read e).rests in record {
              front = t.front;
              whole = t.whole ∙ ap (λ x. t.front ++ x) rest_is;
              is = record { «from» = check; is = (t.is, fits_is check.most f); made = sym rule_is };
              again = λ last alike. by_free start (t.front ++ last) check last (t.again last (subst (λ x. Alike x last) (sym rest_is) alike)) ∙ fit_bound start check last (fits_is check.most f) ∙ ap (λ x. Ok (x, last)) rule_is;
            }

    reads : (rule : Rule) (front rest : List Token) → fit_rule left rule front → anything rest ≡ false → compared_at start left (front ++ rest) ≡ Ok (rule, rest)
    reads rule front rest m ends =
        by_free start (front ++ rest) m.«from» rest (free.reads m.«from» front rest m.is.0 refl) ∙ fit_bound start m.«from» rest m.is.1 ∙ ap (λ x. Ok (x, rest)) (sym m.made)

    all : (rule : Rule) (front rest : List Token) → bounded_rule left rule front → anything rest ≡ false → (compared_at start left (front ++ rest) ≡ Ok (rule, rest)) ⊎ Passes (compared_at start left (front ++ rest))
    all rule front rest m ends = by_fits (fits64 m.«from».most) refl
      where
        read : compared_at start left (front ++ rest) ≡ bounded start m.«from» rest
        read = by_free start (front ++ rest) m.«from» rest (free.reads m.«from» front rest m.is refl)

        by_fits : (f : Bool) → fits64 m.«from».most ≡ f → (compared_at start left (front ++ rest) ≡ Ok (rule, rest)) ⊎ Passes (compared_at start left (front ++ rest))
        by_fits true f = inl (read ∙ fit_bound start m.«from» rest (fits_is m.«from».most f) ∙ ap (λ x. Ok (x, rest)) (sym m.made))
        by_fits false f = inr (record { left = start; is = read ∙ unfit_bound start m.«from» rest f })

    fails : (tokens : List Token) (fault : ReadFault) → compared_at start left tokens ≡ Err fault
        → Stuck schemas (bounded_rule left) (fit_rule left) (compared_at start left) tokens fault ⊎ Trouble (λ s. compared_at s left) (bounded_rule left) (fit_rule left) (bounded_rule left) (unfit_rule left) start tokens fault
    fails tokens fault e = inr (by_first (bound_err (free_compared_at left tokens) (λ check r. bounded start check r) fault (sym (compared_is start left tokens) ∙ e)))
      where
        loose : Stuck schemas (comparison left) (comparison left) (free_compared_at left) tokens fault → Loose (λ s. compared_at s left) (bounded_rule left) tokens fault
        loose stuck = record {
          front = stuck.front;
          rest = stuck.rest;
          whole = stuck.whole;
          place = stuck.place;
          begins = start_map Bound (λ check l is. record { «from» = check; is = is; made = refl }) stuck.front stuck.begins;
          again = λ s last alike. compared_is s left (stuck.front ++ last) ∙ then_err (λ check r. bounded s check r) (stuck.again last alike);
        }

        not_empty : (check : Check) (l : List Token) → comparison left check l → l ≡ [] → ⊥
        not_empty check l m e = by_order m.«from».0 m.is.front m.is.first (first_empty m.is.front m.is.back (sym m.is.whole ∙ e))
          where
            first_empty : (a b : List Token) → a ++ b ≡ [] → a ≡ []
            first_empty [] b e = refl
            first_empty (x ∷ a) b e = absurd cc

            one_empty : (k : TokenKind) (l : List Token) → kind k l → l ≡ [] → ⊥
            one_empty k l is e = let bad : is.token ∷ [] ≡ [] = sym is.only ∙ e in absurd cc

            by_order : (by : Order) (l : List Token) → order by l → l ≡ [] → ⊥
            by_order AtMost l is e = one_empty _ l is e
            by_order Below l is e = one_empty _ l is e
            by_order AtLeast l is e = one_empty _ l is e
            by_order Above l is e = one_empty _ l is e

        by_fits : (check : Check) (r : List Token) (f : Bool) → fits64 check.most ≡ f → Took (comparison left) (free_compared_at left) tokens check r
            → cond {A = Read Rule} f (Ok (Bound check, r)) (Err (record { code = Many; left = start })) ≡ Err fault → Unfit (λ s. compared_at s left) (unfit_rule left) start tokens fault
        by_fits check r true f t e = absurd cc
        by_fits check r false f t e = record {
          item = Bound check;
          front = t.front;
          rest = r;
          whole = t.whole;
          place = let same : record { code = Many; left = start } ≡ fault = cc in sym same;
          is = record { «from» = check; is = (t.is, fits_not check.most f); made = refl };
          some = not_empty check t.front t.is;
          again = λ s last. by_free s (t.front ++ last) check last (free.reads check t.front last t.is refl) ∙ unfit_bound s check last f;
        }

        by_stuck : Stuck schemas (comparison left) (comparison left) (free_compared_at left) tokens fault ⊎ ⊥ → Trouble (λ s. compared_at s left) (bounded_rule left) (fit_rule left) (bounded_rule left) (unfit_rule left) start tokens fault
        by_stuck (inl stuck) = IsLoose (loose stuck)
        by_stuck (inr never) = absurd never

        by_first : (free_compared_at left tokens ≡ Err fault) ⊎ Read_first (free_compared_at left tokens) (λ check r. bounded start check r) (Err fault) → Trouble (λ s. compared_at s left) (bounded_rule left) (fit_rule left) (bounded_rule left) (unfit_rule left) start tokens fault
        by_first (inl e) = by_stuck (free.fails tokens fault e)
        by_first (inr b) = IsUnfit (by_fits b.item b.rest (fits64 b.item.most) refl (free.took tokens b.item b.rest b.is) b.left)

-- what stands behind the first column of a check

abbrev pub side_rule : (Side → Rule → List Token → Type 0) → Ident → Rule → List Token → Type 0
side_rule R col = Then (side_tail col) R

abbrev pub checked_rule : Ident → Rule → List Token → Type 0
checked_rule col = Either (Made (OneOf col) text_rule) (side_rule bounded_rule col)

abbrev pub small_checked_rule : Ident → Rule → List Token → Type 0
small_checked_rule col = Either (Made (OneOf col) few_text_rule) (side_rule fit_rule col)

abbrev CheckedTrouble : ℕ → Ident → List Token → ReadFault → Type 0
CheckedTrouble start col = Trouble (λ s. checked_at s col) (checked_rule col) (small_checked_rule col) (side_rule bounded_rule col) (side_rule unfit_rule col) start

pub order_no_side : (check : Check) (left : Side) (front rest : List Token) → comparison left check front → clash_side (front ++ rest) ≡ false
order_no_side check left front rest m = by_order m.«from».0 m.is.front m.is.back m.is.whole m.is.first
  where
    by_kind : (k : TokenKind) (a b : List Token) → front ≡ a ++ b → kind k a → (is_kind (Mark Plus) k ≡ false) → is_kind (Mark Minus) k ≡ false → clash_side (front ++ rest) ≡ false
    by_kind k a b whole is plus minus =
        let both : (kind k · (λ l. l ≡ b)) front = record { front = a; back = b; whole = whole; first = is; then = refl } in
        ap (λ t. t || is_next (Mark Minus) (front ++ rest)) (kind_first (Mark Plus) k (λ l. l ≡ b) front rest both ∙ plus) ∙ kind_first (Mark Minus) k (λ l. l ≡ b) front rest both ∙ minus

    by_order : (by : Order) (a b : List Token) → front ≡ a ++ b → order by a → clash_side (front ++ rest) ≡ false
    by_order AtMost a b whole is = by_kind (Mark Le) a b whole is refl refl
    by_order Below a b whole is = by_kind (Mark Lt) a b whole is refl refl
    by_order AtLeast a b whole is = by_kind (Mark Ge) a b whole is refl refl
    by_order Above a b whole is = by_kind (Mark Gt) a b whole is refl refl

side_checked_law : (start : ℕ) (col : Ident)
    → Lawful schemas anything (side_rule bounded_rule col) (side_rule fit_rule col) (Trouble (λ s l. side_of col l >>= λ left r. compared_at s left r) (side_rule bounded_rule col) (side_rule fit_rule col) (side_rule bounded_rule col) (side_rule unfit_rule col) start)
    (λ tokens. side_of col tokens >>= λ left r. compared_at start left r)
side_checked_law start col = after (side_of_law col) (λ left. compared_law start left)
    (λ left rule tokens rest m ends. order_no_side m.«from» left tokens rest m.is)
    (λ tokens fault never. absurd never)
    (λ tokens left rest fault took trouble. trouble_behind (side_of col) (λ left s r. compared_at s left r) start tokens left rest fault took trouble)

-- a side's tail or an order doesn't begin with `in`
no_in : (col : Ident) (rule : Rule) (front rest : List Token) → side_rule bounded_rule col rule front → is_next (Name (codes "in")) (front ++ rest) ≡ false
no_in col rule front rest t = by_tail t.parts.first
  where
    whole : front ++ rest ≡ t.parts.front ++ (t.parts.back ++ rest)
    whole = ap (λ l. l ++ rest) t.parts.whole ∙ append_assoc t.parts.front t.parts.back rest

    by_order : (by : Order) (a b more : List Token) → order by a → is_next (Name (codes "in")) (a ++ b ++ more) ≡ false
    by_order AtMost a b more is = only_first' (Mark Le) a b more is refl
      where
        only_first' : (k : TokenKind) (a b more : List Token) → kind k a → is_kind (Name (codes "in")) k ≡ false → is_next (Name (codes "in")) (a ++ b ++ more) ≡ false
        only_first' k a b more is e = ap (λ l. is_next (Name (codes "in")) (l ++ b ++ more)) is.only ∙ ap (λ x. is_kind (Name (codes "in")) x) is.holds ∙ e
    by_order Below a b more is = ap (λ l. is_next (Name (codes "in")) (l ++ b ++ more)) is.only ∙ ap (λ x. is_kind (Name (codes "in")) x) is.holds
    by_order AtLeast a b more is = ap (λ l. is_next (Name (codes "in")) (l ++ b ++ more)) is.only ∙ ap (λ x. is_kind (Name (codes "in")) x) is.holds
    by_order Above a b more is = ap (λ l. is_next (Name (codes "in")) (l ++ b ++ more)) is.only ∙ ap (λ x. is_kind (Name (codes "in")) x) is.holds

    by_tail : side_tail col t.head t.parts.front → is_next (Name (codes "in")) (front ++ rest) ≡ false
    by_tail (Left m) = ap (λ l. is_next (Name (codes "in")) l) whole ∙ kind_first (Name (codes "in")) (Mark Plus) (kind (Number m.«from»)) t.parts.front (t.parts.back ++ rest) m.is
    by_tail (Right (Left m)) = ap (λ l. is_next (Name (codes "in")) l) whole ∙ kind_first (Name (codes "in")) (Mark Minus) (kind (Number m.«from»)) t.parts.front (t.parts.back ++ rest) m.is
    by_tail (Right (Right m)) =
        let c = t.parts.then.is in
        ap (λ l. is_next (Name (codes "in")) l) (whole ∙ ap (λ l. l ++ (t.parts.back ++ rest)) m.is ∙ ap (λ l. l ++ rest) c.is.whole) ∙ by_order c.«from».0 c.is.front c.is.back rest c.is.first

pub checked_law : (start : ℕ) (col : Ident) → Lawful schemas anything (checked_rule col) (small_checked_rule col) (CheckedTrouble start col) (checked_at start col)
unfolding checked_at
checked_law start col = either (is_next (Name (codes "in"))) in_alike (texts_law col) (side_checked_law start col)
    (λ rule front rest m. kind_next (Name (codes "in")) (mark LeftParen · list text m.«from» · mark RightParen) front rest m.is)
    (λ rule front rest t ends. no_in col rule front rest t)
    (λ tokens fault e over. trouble_same (λ r. r) start tokens fault (λ r l is. Left is) (λ r l is. Left is) (λ r l is. is) (λ r l is. is)
    (λ s l other alike is. yes_read s l (sym (in_alike tokens l alike) ∙ e) ∙ is) (over_inside start tokens fault over))
    (λ tokens fault e trouble. trouble_same (λ r. r) start tokens fault (λ r l is. Right is) (λ r l is. Right is) (λ r l is. is) (λ r l is. is)
    (λ s l other alike is. no_read s l (sym (in_alike tokens l alike) ∙ e) ∙ is) trouble)
  where
    in_alike : (a b : List Token) → Alike a b → is_next (Name (codes "in")) a ≡ is_next (Name (codes "in")) b
    in_alike = next_alike (λ token. is_kind (Name (codes "in")) token.kind)

    yes_read : (s : ℕ) (l : List Token) → is_next (Name (codes "in")) l ≡ true → checked_at s col l ≡ texts_at col l
    yes_read s l e = ap (λ b. cond b (texts_at col l) (side_of col l >>= λ left r. compared_at s left r)) e

    no_read : (s : ℕ) (l : List Token) → is_next (Name (codes "in")) l ≡ false → checked_at s col l ≡ (side_of col l >>= λ left r. compared_at s left r)
    no_read s l e = ap (λ b. cond b (texts_at col l) (side_of col l >>= λ left r. compared_at s left r)) e

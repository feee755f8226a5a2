-- What stands in the parentheses of a check, and checks as a whole.
use Rattle.std.proofs.Common.{◌≡◌, ◌∙◌, ℕ, ◌≤◌, Bool, true, false, List, ◌++◌, length, Ok, Err, refl, sym, ap, subst, append_assoc, cond, codes}
use Rattle.sv_lex.specs.declared.marks.Mark.TheVariants.{LeftParen, RightParen}
use Rattle.sv_lex.specs.declared.tokens.Token.{Token}
use Rattle.sv_lex.specs.declared.tokens.TokenKind.TheVariants.{Name, Mark}
use Rattle.sv_app.specs.declared.apps.Ident.{Ident}
use Rattle.sv_app.specs.declared.refusals.Code.TheVariants.{Many}
use Rattle.sv_app.specs.declared.schemas.Check.{Check}
use Rattle.sv_app.specs.Schema.{Rule, Bound, OneOf, Different, Refers}
use Rattle.sv_reader.specs.declared.faults.ReadFault.{ReadFault}
use Rattle.sv_schema_reader.specs.declared.parts.Side.{Side}
use Rattle.sv_reader.specs.Grammar.{◌·◌, word, mark, name, text, separated}
use Rattle.sv_schema_reader.specs.Grammar.{IsSide, check_of, Compared}
use Rattle.sv_schema_reader.specs.Limits.{Fits64, IsSmallRule}
use Rattle.sv_reader.specs.Reading.{Read, ◌>>=◌, is_next, is_some, name_of, token_at, kind_at, name_at, is_name}
use Rattle.sv_schema_reader.specs.Reading.{side_of, fixed_at, fits64, bounded, compared_at, order_of, side_at, texts_at, checked_at, check_body_at}
use Rattle.sv_schema_reader.proofs.CheckLaws.{bounded_rule, fit_rule, unfit_rule, compared_law, checked_rule, small_checked_rule, side_rule, checked_law}
use Rattle.sv_reader.proofs.MadeLaws.{Made}
use Rattle.sv_reader.proofs.AnswerLaws.{next_alike, Alike, anything}
use Rattle.sv_reader.proofs.PartLaws.{name_law, name_next, both_assoc, assoc_both}
use Rattle.sv_reader.proofs.ReadLaws.{Lawful, Then, Either, Left, Right, after, either, same_languages}
use Rattle.sv_schema_reader.proofs.SideLaws.{side_tail, IsFixed, fixed_law, fixed_no_name, side_in, side_out, comparison}
use Rattle.sv_schema_reader.proofs.TextLaws.{text_rule}
use Rattle.sv_schema_reader.proofs.TroubleLaws.{Trouble, trouble_behind, trouble_same, Agree, Equal, Unequal, agree_then, agree_either}
use Rattle.sv_schema_reader.proofs.MatterLaws.{schemas}

-- the language of a check's inside, by what follows its first column
abbrev inner_rule : (Ident → Rule → List Token → Type 0) → (Side → Rule → List Token → Type 0) → Rule → List Token → Type 0
inner_rule C R = Either (Then name C) (Then IsFixed R)

abbrev bound_rule : (Side → Rule → List Token → Type 0) → Rule → List Token → Type 0
bound_rule R = Either (Then name (side_rule R)) (Then IsFixed R)

abbrev InnerTrouble : ℕ → List Token → ReadFault → Type 0
InnerTrouble start = Trouble check_body_at (inner_rule checked_rule bounded_rule) (inner_rule small_checked_rule fit_rule) (bound_rule bounded_rule) (bound_rule unfit_rule) start

named_law : (start : ℕ) → Lawful schemas anything (Then name checked_rule) (Then name small_checked_rule)
    (Trouble (λ s l. name_at l >>= λ col r. checked_at s col r) (Then name checked_rule) (Then name small_checked_rule) (Then name (side_rule bounded_rule)) (Then name (side_rule unfit_rule)) start)
    (λ tokens. name_at tokens >>= λ col r. checked_at start col r)
named_law start = after (name_law schemas anything) (λ col. checked_law start col) (λ col rule tokens rest is ends. refl) (λ tokens fault never. absurd never)
    (λ tokens col rest fault took trouble. trouble_behind name_at (λ col s r. checked_at s col r) start tokens col rest fault took trouble)

fixed_check_law : (start : ℕ) → Lawful schemas anything (Then IsFixed bounded_rule) (Then IsFixed fit_rule)
    (Trouble (λ s l. fixed_at l >>= λ left r. compared_at s left r) (Then IsFixed bounded_rule) (Then IsFixed fit_rule) (Then IsFixed bounded_rule) (Then IsFixed unfit_rule) start)
    (λ tokens. fixed_at tokens >>= λ left r. compared_at start left r)
fixed_check_law start = after (fixed_law anything) (λ left. compared_law start left) (λ left rule tokens rest is ends. refl) (λ tokens fault never. absurd never)
    (λ tokens left rest fault took trouble. trouble_behind fixed_at (λ left s r. compared_at s left r) start tokens left rest fault took trouble)

inner_law : (start : ℕ) → Lawful schemas anything (inner_rule checked_rule bounded_rule) (inner_rule small_checked_rule fit_rule) (InnerTrouble start) (check_body_at start)
unfolding check_body_at
inner_law start = either is_name name_alike (named_law start) (fixed_check_law start)
    (λ rule front rest t. name_next t.head (checked_rule t.head rule) front rest t.parts)
    (λ rule front rest t ends. ap (λ l. is_name (l ++ rest)) t.parts.whole ∙ ap is_name (append_assoc t.parts.front t.parts.back rest) ∙ fixed_no_name t.head t.parts.front (t.parts.back ++ rest) t.parts.first)
    (λ tokens fault e trouble. trouble_same (λ r. r) start tokens fault (λ r l is. Left is) (λ r l is. Left is) (λ r l is. Left is) (λ r l is. Left is)
    (λ s l other alike is. yes_read s l (sym (name_alike tokens l alike) ∙ e) ∙ is) trouble)
    (λ tokens fault e trouble. trouble_same (λ r. r) start tokens fault (λ r l is. Right is) (λ r l is. Right is) (λ r l is. Right is) (λ r l is. Right is)
    (λ s l other alike is. no_read s l (sym (name_alike tokens l alike) ∙ e) ∙ is) trouble)
  where
    name_alike : (a b : List Token) → Alike a b → is_name a ≡ is_name b
    name_alike = next_alike (λ token. is_some (name_of token))

    yes_read : (s : ℕ) (l : List Token) → is_name l ≡ true → check_body_at s l ≡ (name_at l >>= λ col r. checked_at s col r)
    yes_read s l e = ap (λ b. cond b (name_at l >>= λ col r. checked_at s col r) (fixed_at l >>= λ left r. compared_at s left r)) e

    no_read : (s : ℕ) (l : List Token) → is_name l ≡ false → check_body_at s l ≡ (fixed_at l >>= λ left r. compared_at s left r)
    no_read s l e = ap (λ b. cond b (name_at l >>= λ col r. checked_at s col r) (fixed_at l >>= λ left r. compared_at s left r)) e

-- the same, as the grammar has it

abbrev pub check_body : Rule → List Token → Type 0
check_body (OneOf col texts) = name col · word (codes "in") · mark LeftParen · separated text texts · mark RightParen · mark RightParen
check_body (Bound check) = Compared check · mark RightParen
check_body (Different col) = λ _. ⊥
check_body (Refers col table target) = λ _. ⊥

-- a comparison behind its first side
whole_comparison : (left : Side) (check : Check) (front back l : List Token) → l ≡ front ++ back → IsSide left front → comparison left check back → (Compared check · mark RightParen) l
whole_comparison left check front back l whole side m =
    let x = m.is in
    let y = x.then in record {
      front = front ++ (x.front ++ y.front);
      back = y.back;
      whole = whole ∙ ap (λ z. front ++ z) (x.whole ∙ ap (λ z. x.front ++ z) y.whole ∙ sym (append_assoc x.front y.front y.back)) ∙ sym (append_assoc front (x.front ++ y.front) y.back);
      first = record {
        left = left;
        by = m.«from».0;
        right = m.«from».1.0;
        is = m.made;
        written = record { front = front; back = x.front ++ y.front; whole = refl; first = side; then = record { front = x.front; back = y.front; whole = refl; first = x.first; then = y.first } };
      };
      then = y.then;
    }

text_in : (texts : List (List ℕ)) (l : List Token) → text_rule texts l → (word (codes "in") · mark LeftParen · separated text texts · mark RightParen · mark RightParen) l
text_in texts l b = record {
  front = b.front;
  back = b.back;
  whole = b.whole;
  first = b.first;
  then = record { front = b.then.front; back = b.then.back; whole = b.then.whole; first = b.then.first; then = assoc_both b.then.then };
}

text_out : (texts : List (List ℕ)) (l : List Token) → (word (codes "in") · mark LeftParen · separated text texts · mark RightParen · mark RightParen) l → text_rule texts l
text_out texts l b = record {
  front = b.front;
  back = b.back;
  whole = b.whole;
  first = b.first;
  then = record { front = b.then.front; back = b.then.back; whole = b.then.whole; first = b.then.first; then = both_assoc b.then.then };
}

-- a comparison is one of a rule of which something holds
abbrev such_rule : (Check → Type 0) → Side → Rule → List Token → Type 0
such_rule W left = Made Bound (λ check l. comparison left check l × W check)

such : (W : Check → Type 0) (rule : Rule) (l : List Token) → bound_rule (such_rule W) rule l → Made Bound (λ check l. (Compared check · mark RightParen) l × W check) rule l
such W rule l (Left t) =
    let u = t.parts.then in
    let m = u.parts.then in record {
      «from» = m.«from»;
      is = (
        whole_comparison u.head m.«from» (t.parts.front ++ u.parts.front) u.parts.back l
            (t.parts.whole ∙ ap (λ z. t.parts.front ++ z) u.parts.whole ∙ sym (append_assoc t.parts.front u.parts.front u.parts.back))
            (side_in u.head (t.parts.front ++ u.parts.front) (Left (record { head = t.head; parts = record { front = t.parts.front; back = u.parts.front; whole = refl; first = t.parts.first; then = u.parts.first } })))
            m.is.0,
        m.is.1,
      );
      made = m.made;
    }
such W rule l (Right t) = let m = t.parts.then in record {
  «from» = m.«from»;
  is = (whole_comparison t.head m.«from» t.parts.front t.parts.back l t.parts.whole (side_in t.head t.parts.front (Right t.parts.first)) m.is.0, m.is.1);
  made = m.made;
}

as_such : (W : Check → Type 0) (check : Check) (l : List Token) → (Compared check · mark RightParen) l → W check → bound_rule (such_rule W) (Bound check) l
as_such W check l b w = by_side (side_out c.left c.written.front c.written.first)
  where
    c : Compared check b.front
    c = b.first

    tail : List Token
    tail = c.written.then.front ++ (c.written.then.back ++ b.back)

    whole : l ≡ c.written.front ++ (c.written.then.front ++ (c.written.then.back ++ b.back))
    whole = b.whole ∙ ap (λ z. z ++ b.back) c.written.whole ∙ append_assoc c.written.front c.written.back b.back
        ∙ ap (λ z. c.written.front ++ z) (ap (λ z. z ++ b.back) c.written.then.whole ∙ append_assoc c.written.then.front c.written.then.back b.back)

    rest : such_rule W c.left (Bound check) (c.written.then.front ++ (c.written.then.back ++ b.back))
    rest = record {
      «from» = check;
      is = (
        record {
          «from» = (c.by, (c.right, tt));
          is = record {
            front = c.written.then.front;
            back = c.written.then.back ++ b.back;
            whole = refl;
            first = c.written.then.first;
            then = record { front = c.written.then.back; back = b.back; whole = refl; first = c.written.then.then; then = b.then };
          };
          made = c.is;
        },
        w,
      );
      made = refl;
    }

    by_side : Either (Then name side_tail) IsFixed c.left c.written.front → bound_rule (such_rule W) (Bound check) l
    by_side (Right is) = Right (record { head = c.left; parts = record { front = c.written.front; back = c.written.then.front ++ (c.written.then.back ++ b.back); whole = whole; first = is; then = rest } })
    by_side (Left t) = Left (record {
      head = t.head;
      parts = record {
        front = t.parts.front;
        back = t.parts.back ++ (c.written.then.front ++ (c.written.then.back ++ b.back));
        whole = whole ∙ ap (λ z. z ++ (c.written.then.front ++ (c.written.then.back ++ b.back))) t.parts.whole ∙ append_assoc t.parts.front t.parts.back (c.written.then.front ++ (c.written.then.back ++ b.back));
        first = t.parts.first;
        then = record { head = c.left; parts = record { front = t.parts.back; back = c.written.then.front ++ (c.written.then.back ++ b.back); whole = refl; first = t.parts.then; then = rest } };
      };
    })

abbrev Holds : (Check → Type 0) → (List (List ℕ) → Type 0) → Rule → Type 0
Holds W V (Bound check) = W check
Holds W V (OneOf col texts) = V texts
Holds W V (Different col) = Unit {0}
Holds W V (Refers col table target) = Unit {0}

abbrev such_inner : (Check → Type 0) → (List (List ℕ) → Type 0) → Rule → List Token → Type 0
such_inner W V = inner_rule (λ col. Either (Made (OneOf col) (λ texts l. text_rule texts l × V texts)) (side_rule (such_rule W) col)) (such_rule W)

such_in : (W : Check → Type 0) (V : List (List ℕ) → Type 0) (rule : Rule) (l : List Token) → such_inner W V rule l → check_body rule l × Holds W V rule
such_in W V rule l is = by_first is
  where
    bound_in : bound_rule (such_rule W) rule l → check_body rule l × Holds W V rule
    bound_in b = let m = such W rule l b in subst (λ r. check_body r l × Holds W V r) (sym m.made) m.is

    by_checked : (col : Ident) (front back : List Token) → l ≡ front ++ back → name col front → Either (Made (OneOf col) (λ texts l. text_rule texts l × V texts)) (side_rule (such_rule W) col) rule back → check_body rule l × Holds W V rule
    by_checked col front back whole is (Left m) = subst (λ r. check_body r l × Holds W V r) (sym m.made)
        (record { front = front; back = back; whole = whole; first = is; then = text_in m.«from» back m.is.0 }, m.is.1)
    by_checked col front back whole is (Right t) = bound_in (Left (record { head = col; parts = record { front = front; back = back; whole = whole; first = is; then = t } }))

    by_first : such_inner W V rule l → check_body rule l × Holds W V rule
    by_first (Left t) = by_checked t.head t.parts.front t.parts.back t.parts.whole t.parts.first t.parts.then
    by_first (Right t) = bound_in (Right t)

such_out : (W : Check → Type 0) (V : List (List ℕ) → Type 0) (rule : Rule) (l : List Token) → check_body rule l → Holds W V rule → such_inner W V rule l
such_out W V (OneOf col texts) l b v = Left (record {
  head = col;
  parts = record {
    front = b.front;
    back = b.back;
    whole = b.whole;
    first = b.first;
    then = Left (record { «from» = texts; is = (text_out texts b.back b.then, v); made = refl });
  };
})
such_out W V (Bound check) l b w = by_bound (as_such W check l b w)
  where
    by_bound : bound_rule (such_rule W) (Bound check) l → such_inner W V (Bound check) l
    by_bound (Left t) = Left (record { head = t.head; parts = record { front = t.parts.front; back = t.parts.back; whole = t.parts.whole; first = t.parts.first; then = Right t.parts.then } })
    by_bound (Right t) = Right t
such_out W V (Different col) l b w = absurd b
such_out W V (Refers col table target) l b w = absurd b

abbrev AnyCheck : Check → Type 0
AnyCheck check = Unit {0}

abbrev AnyTexts : List (List ℕ) → Type 0
AnyTexts texts = Unit {0}

-- whatever holds
any_rule : (left : Side) (rule : Rule) (l : List Token) → bounded_rule left rule l → such_rule AnyCheck left rule l
any_rule left rule l m = record { «from» = m.«from»; is = (m.is, tt); made = m.made }

rule_any : (left : Side) (rule : Rule) (l : List Token) → such_rule AnyCheck left rule l → bounded_rule left rule l
rule_any left rule l m = record { «from» = m.«from»; is = m.is.0; made = m.made }

then_map : {A B : Type 0} {P : A → List Token → Type 0} {Q R : A → B → List Token → Type 0} → ((a : A) (b : B) (l : List Token) → Q a b l → R a b l) → (b : B) (l : List Token) → Then P Q b l → Then P R b l
then_map map b l t = record { head = t.head; parts = record { front = t.parts.front; back = t.parts.back; whole = t.parts.whole; first = t.parts.first; then = map t.head b t.parts.back t.parts.then } }

any_in : (rule : Rule) (l : List Token) → inner_rule checked_rule bounded_rule rule l → such_inner AnyCheck AnyTexts rule l
any_in rule l (Right t) = Right (then_map any_rule rule l t)
any_in rule l (Left t) = Left (then_map by_checked rule l t)
  where
    by_checked : (col : Ident) (rule : Rule) (l : List Token) → checked_rule col rule l → Either (Made (OneOf col) (λ texts l. text_rule texts l × AnyTexts texts)) (side_rule (such_rule AnyCheck) col) rule l
    by_checked col rule l (Left m) = Left (record { «from» = m.«from»; is = (m.is, tt); made = m.made })
    by_checked col rule l (Right t) = Right (then_map any_rule rule l t)

any_out : (rule : Rule) (l : List Token) → such_inner AnyCheck AnyTexts rule l → inner_rule checked_rule bounded_rule rule l
any_out rule l (Right t) = Right (then_map rule_any rule l t)
any_out rule l (Left t) = Left (then_map by_checked rule l t)
  where
    by_checked : (col : Ident) (rule : Rule) (l : List Token) → Either (Made (OneOf col) (λ texts l. text_rule texts l × AnyTexts texts)) (side_rule (such_rule AnyCheck) col) rule l → checked_rule col rule l
    by_checked col rule l (Left m) = Left (record { «from» = m.«from»; is = m.is.0; made = m.made })
    by_checked col rule l (Right t) = Right (then_map rule_any rule l t)

any_bound : (rule : Rule) (l : List Token) → bound_rule bounded_rule rule l → bound_rule (such_rule AnyCheck) rule l
any_bound rule l (Left t) = Left (then_map (λ col r m u. then_map any_rule r m u) rule l t)
any_bound rule l (Right t) = Right (then_map any_rule rule l t)

abbrev FewTexts : List (List ℕ) → Type 0
FewTexts texts = length texts ≤ 16

abbrev Fitting : Check → Type 0
Fitting check = Fits64 check.most

abbrev pub Unfitting : Check → Type 0
Unfitting check = Fits64 check.most → ⊥

any_holds : (rule : Rule) → Holds AnyCheck AnyTexts rule
any_holds (Bound check) = tt
any_holds (OneOf col texts) = tt
any_holds (Different col) = tt
any_holds (Refers col table target) = tt

small_holds : (rule : Rule) → Holds Fitting FewTexts rule → IsSmallRule rule
small_holds (Bound check) h = h
small_holds (OneOf col texts) h = h
small_holds (Different col) h = tt
small_holds (Refers col table target) h = tt

holds_small : (rule : Rule) → IsSmallRule rule → Holds Fitting FewTexts rule
holds_small (Bound check) h = h
holds_small (OneOf col texts) h = h
holds_small (Different col) h = tt
holds_small (Refers col table target) h = tt

abbrev pub small_body : Rule → List Token → Type 0
small_body rule l = check_body rule l × IsSmallRule rule

-- a rule with a bound of which something holds
abbrev pub such_check : (Check → Type 0) → Rule → Type 0
such_check W (Bound check) = W check
such_check W (OneOf col texts) = ⊥
such_check W (Different col) = ⊥
such_check W (Refers col table target) = ⊥

abbrev pub such_body : (Check → Type 0) → Rule → List Token → Type 0
such_body W rule l = check_body rule l × such_check W rule

bound_body : (W : Check → Type 0) (rule : Rule) (l : List Token) → bound_rule (such_rule W) rule l → such_body W rule l
bound_body W rule l b = let m = such W rule l b in subst (λ r. such_body W r l) (sym m.made) m.is

abbrev pub BodyTrouble : ℕ → List Token → ReadFault → Type 0
BodyTrouble start = Trouble check_body_at check_body small_body (such_body AnyCheck) (such_body Unfitting) start

pub body_law : (start : ℕ) → Lawful schemas anything check_body small_body (BodyTrouble start) (check_body_at start)
body_law start = same_languages (inner_law start) into out small_into small_out
    (λ tokens fault trouble. trouble_same (λ r. r) start tokens fault into small_into (λ r l b. bound_body AnyCheck r l (any_bound r l b)) (λ r l b. bound_body Unfitting r l b) (λ s l other alike is. is) trouble)
  where
    into : (rule : Rule) (l : List Token) → inner_rule checked_rule bounded_rule rule l → check_body rule l
    into rule l is = (such_in AnyCheck AnyTexts rule l (any_in rule l is)).0

    out : (rule : Rule) (l : List Token) → check_body rule l → inner_rule checked_rule bounded_rule rule l
    out rule l b = any_out rule l (such_out AnyCheck AnyTexts rule l b (any_holds rule))

    small_into : (rule : Rule) (l : List Token) → inner_rule small_checked_rule fit_rule rule l → small_body rule l
    small_into rule l is = let b = such_in Fitting FewTexts rule l is in (b.0, small_holds rule b.1)

    small_out : (rule : Rule) (l : List Token) → small_body rule l → inner_rule small_checked_rule fit_rule rule l
    small_out rule l b = such_out Fitting FewTexts rule l b.0 (holds_small rule b.1)

-- the same answer wherever the check begins, unless its bound hasn't 64 bits

bounded_agree : (s t : ℕ) (check : Check) (r : List Token) → Agree s t (bounded s check r) (bounded t check r)
bounded_agree s t check r = by_fits (fits64 check.most)
  where
    by_fits : (f : Bool) → Agree s t (cond {A = Read Rule} f (Ok (Bound check, r)) (Err (record { code = Many; left = s }))) (cond {A = Read Rule} f (Ok (Bound check, r)) (Err (record { code = Many; left = t })))
    by_fits true = Equal refl
    by_fits false = Unequal refl refl

compared_agree : (s t : ℕ) (left : Side) (tokens : List Token) → Agree s t (compared_at s left tokens) (compared_at t left tokens)
unfolding compared_at
compared_agree s t left tokens =
    agree_then (token_at (λ token. order_of token.kind) tokens) _ _ (λ by r1. agree_then (side_at r1) _ _ (λ right r2. agree_then (kind_at (Mark RightParen) r2) _ _ (λ _ r3. bounded_agree s t (check_of left by right) r3)))

checked_agree : (s t : ℕ) (col : Ident) (tokens : List Token) → Agree s t (checked_at s col tokens) (checked_at t col tokens)
unfolding checked_at
checked_agree s t col tokens = agree_either (is_next (Name (codes "in")) tokens) (texts_at col tokens) (texts_at col tokens) _ _ (Equal refl) (agree_then (side_of col tokens) _ _ (λ left r. compared_agree s t left r))

pub body_agree : (s t : ℕ) (tokens : List Token) → Agree s t (check_body_at s tokens) (check_body_at t tokens)
unfolding check_body_at
body_agree s t tokens = agree_either (is_name tokens) _ _ _ _ (agree_then (name_at tokens) _ _ (λ col r. checked_agree s t col r)) (agree_then (fixed_at tokens) _ _ (λ left r. compared_agree s t left r))

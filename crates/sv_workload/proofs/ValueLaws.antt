-- Numbers, values and rows: each reading reads just the tokens that the grammar gives.
use Rattle.std.proofs.Common.{◌≡◌, ◌∙◌, ℕ, ℤ, pos, negsuc, neg_ℤ, Bool, true, false, List, [], ◌∷◌, ◌++◌, Some, refl, sym, ap, subst, arith, int_le}
use Rattle.std.proofs.lemmas.Int.{ints}
use Rattle.sv_value.specs.declared.values.Val.{Val}
use Rattle.sv_value.specs.declared.values.Val.TheVariants as vals
use Rattle.sv_lex.specs.declared.marks.Mark.TheVariants.{LeftParen, Comma, Semi, Minus}
use Rattle.sv_lex.specs.declared.tokens.Token.{Token}
use Rattle.sv_lex.specs.declared.tokens.TokenKind.{TokenKind}
use Rattle.sv_lex.specs.declared.tokens.TokenKind.TheVariants.{Name, Number, Text, Mark}
use Rattle.sv_app.specs.declared.apps.Ident.{Ident}
use Rattle.sv_reader.specs.Grammar.{◌·◌, kind, mark, name, text}
use Rattle.sv_reader.specs.Reading.{is_kind, is_next, is_text, is_some, bytes_of, given, list_at}
use Rattle.sv_reader.proofs.KindLaws.{token_of}
use Rattle.sv_reader.proofs.ListLaws.{list}
use Rattle.sv_reader.proofs.MadeLaws.{Made, both_map, take_last, take_plain, skip_plain, skip_last}
use Rattle.sv_reader.proofs.AnswerLaws.{next_alike}
use Rattle.sv_reader.proofs.PartLaws.{kind_next, name_law, text_law}
use Rattle.sv_reader.proofs.AnswerLaws.{anything}
use Rattle.sv_reader.proofs.ReadLaws.{Plain, Means, leaf, Either, Left, Right, either, same_plain}
use Rattle.sv_reader.proofs.PartLaws.{both_assoc, assoc_both}
use Rattle.sv_workload.specs.declared.written.Row.{Row}
use Rattle.sv_workload.specs.Grammar.{number, IsInteger, Plain as PlainInteger, Negated, value, row}
use Rattle.sv_workload.specs.Reading.{natural_of, natural_at, integer_at, value_at, value_step, row_at}
use Rattle.sv_workload.proofs.ElementLaws.{list_plain}
use Rattle.sv_reader.proofs.MatterLaws.{bare}

abbrev pub Natural : ℤ → List Token → Type 0
Natural = Means (λ token. natural_of token.kind)

pub natural_law : Plain bare anything Natural natural_at
natural_law = leaf bare anything (λ token. natural_of token.kind) (token_of (Number (pos 0))) (pos 0) refl

-- a number that was read
pub record IsNumber (z : ℤ) (k : TokenKind) : Type 0 where
  pub n : ℕ
  pub value : z ≡ pos n
  pub is : k ≡ Number (pos n)

not_below : (n : ℕ) → int_le (pos 0) (pos n) ≡ true
not_below n = grind (arith, ints)

given_same : {A : Type 0} (b : Bool) (a x : A) → given b a ≡ Some x → x ≡ a
given_same true a x e = cc
given_same false a x e = absurd cc

pub natural_is : (k : TokenKind) (z : ℤ) → natural_of k ≡ Some z → IsNumber z k
natural_is (Number (pos n)) z e = record { n = n; value = given_same (int_le (pos 0) (pos n)) (pos n) z e; is = refl }
natural_is (Number (negsuc n)) z e = absurd cc
natural_is (Name bytes) z e = absurd cc
natural_is (Text bytes) z e = absurd cc
natural_is (Mark m) z e = absurd cc

pub number_of : (z : ℤ) (l : List Token) (m : Natural z l) → (n : ℕ) × (z ≡ pos n) × number n l
number_of z l m = let is = natural_is m.token.kind z m.holds in (is.n, is.value, record { token = m.token; only = m.only; holds = is.is })

pub natural_there : (n : ℕ) → natural_of (Number (pos n)) ≡ Some (pos n)
natural_there n = ap (λ b. given b (pos n)) (not_below n)

pub of_number : (n : ℕ) (l : List Token) → number n l → Natural (pos n) l
of_number n l is = record { token = is.token; only = is.only; holds = ap natural_of is.holds ∙ ap (λ b. given b (pos n)) (not_below n) }

abbrev signed : ℤ → List Token → Type 0
signed = Made (λ z. neg_ℤ z) (λ z. kind (Mark Minus) · Natural z)

pub integer_law : Plain bare anything IsInteger integer_at
unfolding integer_at
integer_law = same_plain
    (either (is_next (Mark Minus)) (next_alike (λ token. is_kind (Mark Minus) token.kind)) (skip_plain (Mark Minus) (λ z. neg_ℤ z) (take_last (λ z. neg_ℤ z) natural_law)) natural_law
    (λ z front rest m. kind_next (Mark Minus) (Natural m.«from») front rest m.is) (λ z front rest m ends. no_sign z front rest m) (λ tokens fault t is. is) (λ tokens fault t is. is))
    into out
  where
    no_sign : (z : ℤ) (front rest : List Token) → Natural z front → is_next (Mark Minus) (front ++ rest) ≡ false
    no_sign z front rest m = ap (λ l. is_next (Mark Minus) (l ++ rest)) m.only ∙ ap (is_kind (Mark Minus)) (natural_is m.token.kind z m.holds).is

    into : (z : ℤ) (l : List Token) → Either signed Natural z l → IsInteger z l
    into z l (Left m) = by_number m.is (number_of m.«from» m.is.back m.is.then)
      where
        by_number : (b : (kind (Mark Minus) · Natural m.«from») l) → (n : ℕ) × (m.«from» ≡ pos n) × number n b.back → IsInteger z l
        by_number b found = subst (λ x. IsInteger x l) (ap neg_ℤ (sym found.1) ∙ sym m.made)
            (Negated found.0 l (record { front = b.front; back = b.back; whole = b.whole; first = b.first; then = found.2 }))
    into z l (Right m) = let found = number_of z l m in subst (λ x. IsInteger x l) (sym found.1) (PlainInteger found.0 l found.2)

    out : (z : ℤ) (l : List Token) → IsInteger z l → Either signed Natural z l
    out _ _ (PlainInteger n l is) = Right (of_number n l is)
    out _ _ (Negated n l is) = Left (record { «from» = pos n; is = both_map (λ x is. is) (λ x is. of_number n x is) is; made = refl })

abbrev worded : Val → List Token → Type 0
worded = Made (λ t. vals.Text t) text

abbrev counted : Val → List Token → Type 0
counted = Made (λ z. vals.Int z) IsInteger

pub no_text : (z : ℤ) (l rest : List Token) → IsInteger z l → is_text (l ++ rest) ≡ false
no_text _ _ rest (PlainInteger n l is) = ap (λ x. is_text (x ++ rest)) is.only ∙ ap (λ k. is_some (bytes_of k)) is.holds
no_text _ _ rest (Negated n l is) = ap (λ x. is_text (x ++ rest)) (is.whole ∙ ap (λ x. x ++ is.back) is.first.only) ∙ ap (λ k. is_some (bytes_of k)) is.first.holds

pub value_law : Plain bare anything value value_at
unfolding value_at
value_law = same_plain
    (either is_text (next_alike (λ token. is_some (bytes_of token.kind))) (take_last (λ t. vals.Text t) (text_law bare anything)) (take_last (λ z. vals.Int z) integer_law)
    (λ v front rest m. ap (λ l. is_text (l ++ rest)) m.is.only ∙ ap (λ k. is_some (bytes_of k)) m.is.holds) (λ v front rest m ends. no_text m.«from» front rest m.is)
    (λ tokens fault t is. is) (λ tokens fault t is. is))
    into out
  where
    into : (v : Val) (l : List Token) → Either worded counted v l → value v l
    into v l (Left m) = subst (λ x. value x l) (sym m.made) m.is
    into v l (Right m) = subst (λ x. value x l) (sym m.made) m.is

    out : (v : Val) (l : List Token) → value v l → Either worded counted v l
    out (vals.Text t) l is = Left (record { «from» = t; is = is; made = refl })
    out (vals.Int z) l is = Right (record { «from» = z; is = is; made = refl })

pub integer_some : (z : ℤ) (l : List Token) → IsInteger z l → l ≡ [] → ⊥
integer_some _ _ (PlainInteger n l is) e = let bad : is.token ∷ [] ≡ [] = sym is.only ∙ e in absurd cc
integer_some _ _ (Negated n l is) e = let bad : is.first.token ∷ is.back ≡ [] = sym (is.whole ∙ ap (λ x. x ++ is.back) is.first.only) ∙ e in absurd cc

pub head_same : {x y : Token} {xs ys : List Token} → x ∷ xs ≡ y ∷ ys → x ≡ y
head_same e = cc

pub integer_comma : (z : ℤ) (l : List Token) → IsInteger z l → (token : Token) (others : List Token) → l ≡ token ∷ others → token.kind ≡ Mark Comma → ⊥
integer_comma _ _ (PlainInteger n l is) token others w e =
    let first : token ≡ is.token = head_same (sym w ∙ is.only) in
    let bad : Number (pos n) ≡ Mark Comma = sym is.holds ∙ ap (λ (t : Token). t.kind) (sym first) ∙ e in
    absurd cc
integer_comma _ _ (Negated n l is) token others w e =
    let first : token ≡ is.first.token = head_same (sym w ∙ is.whole ∙ ap (λ x. x ++ is.back) is.first.only) in
    let bad : Mark Minus ≡ Mark Comma = sym is.first.holds ∙ ap (λ (t : Token). t.kind) (sym first) ∙ e in
    absurd cc

pub text_some : (t : List ℕ) (l : List Token) → text t l → l ≡ [] → ⊥
text_some t l is e = let bad : is.token ∷ [] ≡ [] = sym is.only ∙ e in absurd cc

pub text_comma : (t : List ℕ) (l : List Token) → text t l → (token : Token) (others : List Token) → l ≡ token ∷ others → token.kind ≡ Mark Comma → ⊥
text_comma t l is token others w e =
    let first : token ≡ is.token = head_same (sym w ∙ is.only) in
    let bad : Text t ≡ Mark Comma = sym is.holds ∙ ap (λ (t : Token). t.kind) (sym first) ∙ e in
    absurd cc

pub value_some : (v : Val) (l : List Token) → value v l → l ≡ [] → ⊥
value_some (vals.Int z) l is e = integer_some z l is e
value_some (vals.Text t) l is e = text_some t l is e

pub value_comma : (v : Val) (token : Token) (l : List Token) → value v (token ∷ l) → token.kind ≡ Mark Comma → ⊥
value_comma (vals.Int z) token l is e = integer_comma z (token ∷ l) is token l refl e
value_comma (vals.Text t) token l is e = text_comma t (token ∷ l) is token l refl e

pub values_law : Plain bare anything (list value) (list_at value_step [])
unfolding value_step
values_law = list_plain value_law value_some value_comma

abbrev row_parts : Ident × (List Val × Unit {0}) → List Token → Type 0
row_parts x = name x.0 · mark LeftParen · list value x.1.0 · mark Semi

abbrev row_made : Ident → List Val × Unit {0} → Row
row_made table x = record { table = table; values = x.0 }

pub row_law : Plain bare anything row row_at
unfolding row_at
row_law = same_plain
    (take_plain row_made (name_law bare anything) (λ table. skip_plain (Mark LeftParen) (row_made table)
    (take_plain (λ vs (last : Unit {0}). row_made table (vs, last)) values_law (λ vs. skip_last bare anything (Mark Semi) (row_made table (vs, tt))))))
    (λ r l m. subst (λ x. row x l) (sym m.made) (both_map (λ x is. is) (λ x is. both_map (λ y is. is) (λ y is. assoc_both is) is) m.is))
    (λ r l is. record { «from» = (r.table, (r.values, tt)); is = both_map (λ x is. is) (λ x is. both_map (λ y is. is) (λ y is. both_assoc is) is) is; made = refl })

-- Tokens none of which is of some kind, and where one that is may stand.
use Rattle.std.proofs.Common.{◌≡◌, ◌⊎◌, inl, inr, List, [], ◌∷◌, ◌++◌, refl, sym, subst}
use Rattle.std.specs.List.{AllByRecursion}
use Rattle.sv_lex.specs.declared.tokens.Token.{Token}
use Rattle.sv_lex.specs.declared.tokens.TokenKind.{TokenKind}
use Rattle.sv_reader.specs.Grammar.{Both, One, kind}

-- none of these tokens is of such a kind
abbrev pub Clear : (TokenKind → Type 0) → List Token → Type 0
Clear Q tokens = AllByRecursion (λ token. Q token.kind → ⊥) tokens

pub head_of : {x y : Token} {xs ys : List Token} → x ∷ xs ≡ y ∷ ys → x ≡ y
head_of e = cc

pub tail_of : {x y : Token} {xs ys : List Token} → x ∷ xs ≡ y ∷ ys → xs ≡ ys
tail_of e = cc

pub no_tokens : (xs ys : List Token) → xs ++ ys ≡ [] → ys ≡ []
no_tokens [] ys e = e
no_tokens (x ∷ xs) ys e = absurd cc

-- a token behind the first of two parts, and one in it
pub record Past (front back before : List Token) (token : Token) (more : List Token) : Type 0 where
  pub rest : List Token
  pub before_is : before ≡ front ++ rest
  pub back_is : back ≡ rest ++ token ∷ more

pub record Inside (front back before : List Token) (token : Token) (more : List Token) : Type 0 where
  pub rest : List Token
  pub front_is : front ≡ before ++ token ∷ rest
  pub more_is : more ≡ rest ++ back

pub either_part : (front back before more : List Token) (token : Token) → front ++ back ≡ before ++ token ∷ more → Inside front back before token more ⊎ Past front back before token more
either_part [] back before more token e = inr (record { rest = before; before_is = refl; back_is = e })
either_part (x ∷ front) back [] more token e = inl (record { rest = front; front_is = λ i. head_of e i ∷ front; more_is = sym (tail_of e) })
either_part (x ∷ front) back (y ∷ before) more token e = by_order (either_part front back before more token (tail_of e))
  where
    by_order : Inside front back before token more ⊎ Past front back before token more → Inside (x ∷ front) back (y ∷ before) token more ⊎ Past (x ∷ front) back (y ∷ before) token more
    by_order (inl a) = inl (record { rest = a.rest; front_is = λ i. head_of e i ∷ a.front_is i; more_is = a.more_is })
    by_order (inr a) = inr (record { rest = a.rest; before_is = λ i. head_of (sym e) i ∷ a.before_is i; back_is = a.back_is })

-- the last token stands in the last part
pub record EndsIn (whole front back : List Token) (last : Token) : Type 0 where
  pub rest : List Token
  pub before_is : whole ≡ front ++ rest
  pub is : back ≡ rest ++ last ∷ []

pub ends_in : (whole front ys : List Token) (last y : Token) → whole ++ last ∷ [] ≡ front ++ y ∷ ys → EndsIn whole front (y ∷ ys) last
ends_in whole [] ys last y e = record { rest = whole; before_is = refl; is = sym e }
ends_in [] (z ∷ front) ys last y e = absurd (none front (sym (tail_of e)))
  where
    none : (l : List Token) → l ++ y ∷ ys ≡ [] → ⊥
    none l e = let bad : y ∷ ys ≡ [] = no_tokens l (y ∷ ys) e in absurd cc
ends_in (x ∷ whole) (z ∷ front) ys last y e =
    let next = ends_in whole front ys last y (tail_of e) in
    record { rest = next.rest; before_is = λ i. head_of e i ∷ next.before_is i; is = next.is }

module _ (Q : TokenKind → Type 0) where
  pub clear_append : (xs ys : List Token) → Clear Q xs → Clear Q ys → Clear Q (xs ++ ys)
  clear_append [] ys a b = b
  clear_append (x ∷ xs) ys a b = (a.0, clear_append xs ys a.1 b)

  pub nowhere : (tokens before more : List Token) (token : Token) → Clear Q tokens → Q token.kind → tokens ≡ before ++ token ∷ more → ⊥
  nowhere [] [] more token none is e = absurd cc
  nowhere [] (y ∷ before) more token none is e = absurd cc
  nowhere (x ∷ tokens) [] more token none is e = none.0 (subst (λ (t : Token). Q t.kind) (sym (head_of e)) is)
  nowhere (x ∷ tokens) (y ∷ before) more token none is e = nowhere tokens before more token none.1 is (tail_of e)

  pub skip : (front back before more : List Token) (token : Token) → Clear Q front → Q token.kind → front ++ back ≡ before ++ token ∷ more → Past front back before token more
  skip front back before more token none is e = by_order (either_part front back before more token e)
    where
      by_order : Inside front back before token more ⊎ Past front back before token more → Past front back before token more
      by_order (inl a) = absurd (nowhere front before a.rest token none is a.front_is)
      by_order (inr a) = a

  pub one_clear : {Holds : Token → Type 0} (k : TokenKind) (tokens : List Token) → One Holds tokens → ((token : Token) → Holds token → token.kind ≡ k) → (Q k → ⊥) → Clear Q tokens
  one_clear {Holds} k tokens o kind_is never = subst (Clear Q) (sym o.only) ((λ q. never (subst Q (kind_is o.token o.holds) q)), tt)

  pub kind_clear : (k : TokenKind) (tokens : List Token) → kind k tokens → (Q k → ⊥) → Clear Q tokens
  kind_clear k tokens o never = one_clear k tokens o (λ token is. is) never

  pub both_clear : {F G : List Token → Type 0} (tokens : List Token) (b : Both F G tokens) → Clear Q b.front → Clear Q b.back → Clear Q tokens
  both_clear {F} {G} tokens b f g = subst (Clear Q) (sym b.whole) (clear_append b.front b.back f g)

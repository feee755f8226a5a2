-- What stands in a check: no other check, no other closing parenthesis, and names with which it can be completed within 64 bits.
use Rattle.std.proofs.Common.{◌≡◌, ◌∙◌, ℤ, pos, ◌⊎◌, inl, inr, List, [], ◌∷◌, ◌++◌, refl, sym, ap, subst, arith, append_assoc, append-nil, codes}
use Rattle.std.proofs.lemmas.Int.{ints}
use Rattle.sv_value.specs.declared.spots.Spot.{Spot}
use Rattle.sv_lex.specs.declared.marks.Mark.TheVariants.{LeftParen, RightParen, Lt, Le, Gt, Ge, Plus, Minus}
use Rattle.sv_lex.specs.declared.tokens.Token.{Token}
use Rattle.sv_lex.specs.declared.tokens.TokenKind.{TokenKind}
use Rattle.sv_lex.specs.declared.tokens.TokenKind.TheVariants.{Name, Number, Mark}
use Rattle.sv_app.specs.declared.apps.Ident.{Ident}
use Rattle.sv_app.specs.declared.schemas.Check.{Check}
use Rattle.sv_app.specs.Schema.{Bound}
use Rattle.sv_schema_reader.specs.declared.parts.Side.{Side}
use Rattle.sv_schema_reader.specs.declared.parts.Order.{Order}
use Rattle.sv_schema_reader.specs.declared.parts.Order.TheVariants.{AtMost, Below, AtLeast, Above}
use Rattle.sv_reader.specs.Grammar.{IsName, name}
use Rattle.sv_schema_reader.specs.Grammar.{named, IsSide, Alone, More, Less, Plain, Negated, order, check_of, item, Demand}
use Rattle.sv_schema_reader.specs.Limits.{Fits64}
use Rattle.sv_schema_reader.specs.Refused.{IsFirst}
use Rattle.sv_reader.proofs.KindLaws.{token_of}
use Rattle.sv_schema_reader.proofs.ClearLaws.{Clear, head_of, tail_of, Past, Inside, either_part, clear_append, nowhere, skip, one_clear, kind_clear, both_clear}

module _ (Q : TokenKind → Type 0) (names : (ident : Ident) (token : Token) → IsName ident token → Q token.kind → ⊥) (numbers : (n : ℤ) → Q (Number n) → ⊥)
    (plus : Q (Mark Plus) → ⊥) (minus : Q (Mark Minus) → ⊥) where
  pub names_clear : (ident : Ident) (tokens : List Token) → name ident tokens → Clear Q tokens
  names_clear ident tokens n = subst (Clear Q) (sym n.only) ((λ q. names ident n.token n.holds q), tt)

  pub side_clear : (side : Side) (tokens : List Token) → IsSide side tokens → Clear Q tokens
  side_clear _ _ (Alone ident tokens n) = names_clear ident tokens n
  side_clear _ _ (More ident n tokens b) = both_clear Q tokens b (names_clear ident b.front b.first)
      (both_clear Q b.back b.then (kind_clear Q (Mark Plus) b.then.front b.then.first plus) (kind_clear Q (Number n) b.then.back b.then.then (numbers n)))
  side_clear _ _ (Less ident n tokens b) = both_clear Q tokens b (names_clear ident b.front b.first)
      (both_clear Q b.back b.then (kind_clear Q (Mark Minus) b.then.front b.then.first minus) (kind_clear Q (Number n) b.then.back b.then.then (numbers n)))
  side_clear _ _ (Plain spot n tokens o) = one_clear Q (Number n) tokens o (λ token is. is.0) (numbers n)
  side_clear _ _ (Negated spot n tokens b) = both_clear Q tokens b (one_clear Q (Mark Minus) b.front b.first (λ token is. is.0) minus) (kind_clear Q (Number n) b.back b.then (numbers n))

pub order_clear : (Q : TokenKind → Type 0) → (Q (Mark Le) → ⊥) → (Q (Mark Lt) → ⊥) → (Q (Mark Ge) → ⊥) → (Q (Mark Gt) → ⊥) → (by : Order) (tokens : List Token) → order by tokens → Clear Q tokens
order_clear Q le lt ge gt AtMost tokens is = kind_clear Q (Mark Le) tokens is le
order_clear Q le lt ge gt Below tokens is = kind_clear Q (Mark Lt) tokens is lt
order_clear Q le lt ge gt AtLeast tokens is = kind_clear Q (Mark Ge) tokens is ge
order_clear Q le lt ge gt Above tokens is = kind_clear Q (Mark Gt) tokens is gt

-- a check, part by part

abbrev IsHere : Spot → Token → Type 0
IsHere spot word = (word.kind ≡ Name (codes "check")) × (word.spot ≡ spot)

abbrev laid : Token → Token → List Token → List Token → List Token → Token → List Token
laid word paren left by right close = word ∷ (paren ∷ (left ++ (by ++ (right ++ close ∷ []))))

pub record Parts (spot : Spot) (check : Check) (tokens : List Token) : Type 0 where
  pub word : Token
  pub paren : Token
  pub close : Token
  pub left : Side
  pub by : Order
  pub right : Side
  pub first : List Token
  pub middle : List Token
  pub second : List Token
  pub whole : tokens ≡ laid word paren first middle second close
  pub here : IsHere spot word
  pub opens : paren.kind ≡ Mark LeftParen
  pub closes : close.kind ≡ Mark RightParen
  pub lefts : IsSide left first
  pub orders : order by middle
  pub rights : IsSide right second

pub parts_of : (spot : Spot) (check : Check) (tokens : List Token) → item (Demand spot (Bound check)) tokens → Parts spot check tokens
parts_of spot check tokens b =
    let p = b.then in
    let c = p.then in
    let w = c.first.written in
    let inner : c.front ++ c.back ≡ w.front ++ (w.then.front ++ (w.then.back ++ c.then.token ∷ []))
    = (λ i. (w.whole ∙ ap (λ l. w.front ++ l) w.then.whole) i ++ c.then.only i)
    ∙ append_assoc w.front (w.then.front ++ w.then.back) (c.then.token ∷ [])
    ∙ ap (λ l. w.front ++ l) (append_assoc w.then.front w.then.back (c.then.token ∷ [])) in record {
      word = b.first.token;
      paren = p.first.token;
      close = c.then.token;
      left = c.first.left;
      by = c.first.by;
      right = c.first.right;
      first = w.front;
      middle = w.then.front;
      second = w.then.back;
      whole = b.whole ∙ ap (λ l. l ++ b.back) b.first.only
          ∙ ap (λ l. b.first.token ∷ l) (p.whole ∙ ap (λ l. l ++ p.back) p.first.only ∙ ap (λ l. p.first.token ∷ l) (c.whole ∙ inner));
      here = b.first.holds;
      opens = p.first.holds;
      closes = c.then.holds;
      lefts = w.first;
      orders = w.then.first;
      rights = w.then.then;
    }

check_in : (spot : Spot) (word paren close : Token) (left : Side) (by : Order) (right : Side) (first middle second : List Token) → IsHere spot word → paren.kind ≡ Mark LeftParen → close.kind ≡ Mark RightParen
    → IsSide left first → order by middle → IsSide right second → item (Demand spot (Bound (check_of left by right))) (laid word paren first middle second close)
check_in spot word paren close left by right first middle second here opens closes lefts orders rights = record {
  front = word ∷ [];
  back = paren ∷ (first ++ (middle ++ (second ++ close ∷ [])));
  whole = refl;
  first = record { token = word; only = refl; holds = here };
  then = record {
    front = paren ∷ [];
    back = first ++ (middle ++ (second ++ close ∷ []));
    whole = refl;
    first = record { token = paren; only = refl; holds = opens };
    then = record {
      front = first ++ (middle ++ second);
      back = close ∷ [];
      whole = sym (append_assoc first (middle ++ second) (close ∷ []) ∙ ap (λ l. first ++ l) (append_assoc middle second (close ∷ [])));
      first = record {
        left = left;
        by = by;
        right = right;
        is = refl;
        written = record { front = first; back = middle ++ second; whole = refl; first = lefts; then = record { front = middle; back = second; whole = refl; first = orders; then = rights } };
      };
      then = record { token = close; only = refl; holds = closes };
    };
  };
}

-- its closing parenthesis is the last token

abbrev pub IsClose : TokenKind → Type 0
IsClose k = k ≡ Mark RightParen

name_no_close : (ident : Ident) (token : Token) → IsName ident token → IsClose token.kind → ⊥
name_no_close ident token is e = let bad : Name ident.name ≡ Mark RightParen = sym is.0 ∙ e in absurd cc

pub close_last : (spot : Spot) (check : Check) (tokens before more : List Token) (token : Token) → item (Demand spot (Bound check)) tokens → IsClose token.kind → tokens ≡ before ++ token ∷ more → more ≡ []
close_last spot check tokens before more token is closes e =
    let p = parts_of spot check tokens is in
    let body : List Token = p.first ++ (p.middle ++ p.second) in
    let whole : tokens ≡ (p.word ∷ (p.paren ∷ body)) ++ p.close ∷ []
    = p.whole ∙ ap (λ l. p.word ∷ (p.paren ∷ l)) (sym (append_assoc p.first (p.middle ++ p.second) (p.close ∷ []) ∙ ap (λ l. p.first ++ l) (append_assoc p.middle p.second (p.close ∷ [])))) in
    let sides : (side : Side) (l : List Token) → IsSide side l → Clear IsClose l = side_clear IsClose name_no_close (λ n e. absurd cc) (λ e. absurd cc) (λ e. absurd cc) in
    let clear : Clear IsClose body = clear_append IsClose p.first (p.middle ++ p.second) (sides p.left p.first p.lefts)
    (clear_append IsClose p.middle p.second (order_clear IsClose (λ e. absurd cc) (λ e. absurd cc) (λ e. absurd cc) (λ e. absurd cc) p.by p.middle p.orders) (sides p.right p.second p.rights)) in
    let none : Clear IsClose (p.word ∷ (p.paren ∷ body)) = ((λ e. not_word p.word p.here.0 e), ((λ e. not_paren p.paren p.opens e), clear)) in
    let past = skip IsClose (p.word ∷ (p.paren ∷ body)) (p.close ∷ []) before more token none closes (sym whole ∙ e) in
    by_rest past.rest past.back_is
  where
    not_word : (word : Token) → word.kind ≡ Name (codes "check") → IsClose word.kind → ⊥
    not_word word w e = let bad : Name (codes "check") ≡ Mark RightParen = sym w ∙ e in absurd cc

    not_paren : (paren : Token) → paren.kind ≡ Mark LeftParen → IsClose paren.kind → ⊥
    not_paren paren p e = let bad : Mark LeftParen ≡ Mark RightParen = sym p ∙ e in absurd cc

    by_rest : {close : Token} (rest : List Token) → close ∷ [] ≡ rest ++ token ∷ more → more ≡ []
    by_rest [] e = sym (tail_of e)
    by_rest (x ∷ rest) e = let bad : token ∷ more ≡ [] = empty rest (sym (tail_of e)) in absurd cc
      where
        empty : (l : List Token) → l ++ token ∷ more ≡ [] → token ∷ more ≡ []
        empty [] e = e
        empty (y ∷ l) e = absurd cc

-- a name stands first in its side

record Named (before : List Token) (token : Token) : Type 0 where
  pub empty : before ≡ []
  pub ident : Ident
  pub is : IsName ident token

name_first : (ident : Ident) (front back before more : List Token) (token : Token) → name ident front → Clear IsFirst back → IsFirst token.kind → front ++ back ≡ before ++ token ∷ more → Named before token
name_first ident front back [] more token n none first e = record { empty = refl; ident = ident; is = subst (IsName ident) (head_of (ap (λ l. l ++ back) (sym n.only) ∙ e)) n.holds }
name_first ident front back (y ∷ before) more token n none first e = absurd (nowhere IsFirst back before more token none first (tail_of (ap (λ l. l ++ back) (sym n.only) ∙ e)))

named_side : (side : Side) (tokens before more : List Token) (token : Token) → IsSide side tokens → IsFirst token.kind → tokens ≡ before ++ token ∷ more → Named before token
named_side _ _ before more token (Alone ident tokens n) first e = name_first ident tokens [] before more token n tt first (append-nil tokens ∙ e)
named_side _ _ before more token (More ident n tokens b) first e = name_first ident b.front b.back before more token b.first
    (both_clear IsFirst b.back b.then (kind_clear IsFirst (Mark Plus) b.then.front b.then.first (λ f. absurd cc)) (kind_clear IsFirst (Number n) b.then.back b.then.then (λ f. f))) first (sym b.whole ∙ e)
named_side _ _ before more token (Less ident n tokens b) first e = name_first ident b.front b.back before more token b.first
    (both_clear IsFirst b.back b.then (kind_clear IsFirst (Mark Minus) b.then.front b.then.first (λ f. absurd cc)) (kind_clear IsFirst (Number n) b.then.back b.then.then (λ f. f))) first (sym b.whole ∙ e)
named_side _ _ before more token (Plain spot n tokens o) first e = absurd (nowhere IsFirst tokens before more token (one_clear IsFirst (Number n) tokens o (λ token is. is.0) (λ f. f)) first e)
named_side _ _ before more token (Negated spot n tokens b) first e = absurd (nowhere IsFirst tokens before more token
    (both_clear IsFirst tokens b (one_clear IsFirst (Mark Minus) b.front b.first (λ token is. is.0) (λ f. absurd cc)) (kind_clear IsFirst (Number n) b.back b.then (λ f. f))) first e)

-- a check that ends with a name is completed

pub record Completed (spot : Spot) (word : Token) (before : List Token) (token : Token) : Type 0 where
  pub check : Check
  pub rest : List Token
  pub is : item (Demand spot (Bound check)) (word ∷ (before ++ token ∷ rest))
  pub small : Fits64 check.most

even : (left : Side) (by : Order) (ident : Ident) → Fits64 (check_of left by (named ident left.plus)).most
even left AtMost ident = (omega (arith, ints), omega (arith, ints))
even left Below ident = (omega (arith, ints), omega (arith, ints))
even left AtLeast ident = (omega (arith, ints), omega (arith, ints))
even left Above ident = (omega (arith, ints), omega (arith, ints))

pub completed : (spot : Spot) (check : Check) (word : Token) (before more : List Token) (token : Token) → item (Demand spot (Bound check)) (word ∷ (before ++ token ∷ more)) → IsFirst token.kind
    → Completed spot word before token
completed spot check word before more token is first = by_before before (tail_of p.whole)
  where
    p : Parts spot check (word ∷ (before ++ token ∷ more))
    p = parts_of spot check (word ∷ (before ++ token ∷ more)) is

    here : IsHere spot word
    here = subst (IsHere spot) (sym (head_of p.whole)) p.here

    close : Token
    close = token_of (Mark RightParen)

    -- in the first side
    in_first : (paren : Token) (front : List Token) → paren.kind ≡ Mark LeftParen → Named front token → Completed spot word (paren ∷ front) token
    in_first paren front opens n =
        let side : Side = named n.ident (pos 0) in
        let one : IsSide side (token ∷ []) = Alone n.ident (token ∷ []) (record { token = token; only = refl; holds = n.is }) in record {
          check = check_of side AtMost side;
          rest = token_of (Mark Le) ∷ token ∷ close ∷ [];
          is = subst (λ l. item (Demand spot (Bound (check_of side AtMost side))) (word ∷ (paren ∷ (l ++ token ∷ token_of (Mark Le) ∷ token ∷ close ∷ [])))) (sym n.empty)
              (check_in spot word paren close side AtMost side (token ∷ []) (token_of (Mark Le) ∷ []) (token ∷ []) here opens refl one (record { token = token_of (Mark Le); only = refl; holds = refl }) one);
          small = even side AtMost n.ident;
        }

    -- in the second one
    in_second : (paren : Token) (front : List Token) → paren.kind ≡ Mark LeftParen → front ≡ p.first ++ p.middle → (ident : Ident) → IsName ident token → Completed spot word (paren ∷ front) token
    in_second paren front opens e ident n =
        let side : Side = named ident p.left.plus in
        let second : List Token = token ∷ token_of (Mark Plus) ∷ token_of (Number p.left.plus) ∷ [] in
        let more : IsSide side second = More ident p.left.plus second (record {
          front = token ∷ [];
          back = token_of (Mark Plus) ∷ token_of (Number p.left.plus) ∷ [];
          whole = refl;
          first = record { token = token; only = refl; holds = n };
          then = record {
            front = token_of (Mark Plus) ∷ [];
            back = token_of (Number p.left.plus) ∷ [];
            whole = refl;
            first = record { token = token_of (Mark Plus); only = refl; holds = refl };
            then = record { token = token_of (Number p.left.plus); only = refl; holds = refl };
          };
        }) in
        let same : front ++ (second ++ close ∷ []) ≡ p.first ++ (p.middle ++ (second ++ close ∷ [])) = ap (λ l. l ++ (second ++ close ∷ [])) e ∙ append_assoc p.first p.middle (second ++ close ∷ []) in record {
          check = check_of p.left p.by side;
          rest = token_of (Mark Plus) ∷ token_of (Number p.left.plus) ∷ close ∷ [];
          is = subst (λ l. item (Demand spot (Bound (check_of p.left p.by side))) (word ∷ (paren ∷ l))) (sym same)
              (check_in spot word paren close p.left p.by side p.first p.middle second here opens refl p.lefts p.orders more);
          small = even p.left p.by ident;
        }

    by_before : (l : List Token) → l ++ token ∷ more ≡ p.paren ∷ (p.first ++ (p.middle ++ (p.second ++ p.close ∷ []))) → Completed spot word l token
    by_before [] e = absurd (no_paren (subst IsFirst (ap (λ (t : Token). t.kind) (head_of e) ∙ p.opens) first))
      where
        no_paren : IsFirst (Mark LeftParen) → ⊥
        no_paren f = absurd cc
    by_before (paren ∷ front) e = by_first (either_part p.first (p.middle ++ (p.second ++ p.close ∷ [])) front more token (sym (tail_of e)))
      where
        opens : paren.kind ≡ Mark LeftParen
        opens = ap (λ (t : Token). t.kind) (head_of e) ∙ p.opens

        by_second : (a : Past p.first (p.middle ++ (p.second ++ p.close ∷ [])) front token more) (b : Past p.middle (p.second ++ p.close ∷ []) a.rest token more)
            → Inside p.second (p.close ∷ []) b.rest token more ⊎ Past p.second (p.close ∷ []) b.rest token more → Completed spot word (paren ∷ front) token
        by_second a b (inl c) =
            let n = named_side p.right p.second b.rest c.rest token p.rights first c.front_is in
            in_second paren front opens (a.before_is ∙ ap (λ l. p.first ++ l) (b.before_is ∙ ap (λ l. p.middle ++ l) n.empty ∙ append-nil p.middle)) n.ident n.is
        by_second a b (inr c) = absurd (nowhere IsFirst (p.close ∷ []) c.rest more token ((λ f. no_close (subst IsFirst p.closes f)), tt) first c.back_is)
          where
            no_close : IsFirst (Mark RightParen) → ⊥
            no_close f = absurd cc

        by_first : Inside p.first (p.middle ++ (p.second ++ p.close ∷ [])) front token more ⊎ Past p.first (p.middle ++ (p.second ++ p.close ∷ [])) front token more → Completed spot word (paren ∷ front) token
        by_first (inl a) = in_first paren front opens (named_side p.left p.first front a.rest token p.lefts first a.front_is)
        by_first (inr a) =
            let clear : Clear IsFirst p.middle = order_clear IsFirst (λ f. absurd cc) (λ f. absurd cc) (λ f. absurd cc) (λ f. absurd cc) p.by p.middle p.orders in
            let b = skip IsFirst p.middle (p.second ++ p.close ∷ []) a.rest more token clear first a.back_is in
            by_second a b (either_part p.second (p.close ∷ []) b.rest more token b.back_is)

-- Lists of elements behind commas, up to any closing mark.
use Rattle.std.proofs.Common.{◌≡◌, ◌∙◌, ◌<◌, ◌⊎◌, inl, inr, true, false, List, [], ◌∷◌, ◌++◌, length, Ok, Err, refl, sym, ap, subst, append_assoc, append-nil}
use Rattle.sv_value.specs.declared.spots.Spot.{Spot}
use Rattle.sv_lex.specs.declared.marks.Mark.TheVariants.{Comma}
use Rattle.sv_lex.specs.declared.tokens.Token.{Token}
use Rattle.sv_lex.specs.declared.tokens.TokenKind.{TokenKind}
use Rattle.sv_lex.specs.declared.tokens.TokenKind.TheVariants.{Mark}
use Rattle.sv_reader.specs.declared.faults.ReadFault.{ReadFault}
use Rattle.sv_reader.specs.Grammar.{◌·◌, kind, mark, others}
use Rattle.sv_reader.specs.Reading.{Read, ◌>>=◌, is_kind, is_next, kind_at}
use Rattle.sv_reader.proofs.KindLaws.{kind_same}
use Rattle.sv_reader.proofs.MadeLaws.{Made, take_last, skip_plain, skip_last}
use Rattle.sv_reader.proofs.AnswerLaws.{next_alike}
use Rattle.sv_reader.proofs.PartLaws.{kind_next}
use Rattle.sv_reader.proofs.AnswerLaws.{anything, then_ok, then_err}
use Rattle.sv_reader.proofs.ReadLaws.{Stuck, Plain, Then, Either, Left, Right, either, same_plain, after}
use Rattle.sv_reader.proofs.PartLaws.{only_first, both_assoc, assoc_both}
use Rattle.sv_reader.proofs.TurnLaws.{Words, Last, More, TurnStuck, TurnOver, Turning, turns_law, turn_read, turn_err, end_read, shorter}
use Rattle.sv_workload.specs.Grammar.{listed}
use Rattle.sv_workload.specs.Reading.{more_to, listed_to}
use Rattle.sv_workload.proofs.ElementLaws.{plain_of}
use Rattle.sv_reader.proofs.MatterLaws.{bare}

module _ {A : Type 0} {X : A → List Token → Type 0} {x : List Token → Read A} (close : TokenKind) (law : Plain bare anything X x)
    (apart : is_kind (Mark Comma) close ≡ false) (closed : (a : A) (front rest : List Token) → X a front → is_next close (front ++ rest) ≡ false) where
  abbrev CommaX : A → List Token → Type 0
  CommaX a = mark Comma · X a

  abbrev comma_x : List Token → Read A
  comma_x tokens = kind_at (Mark Comma) tokens >>= λ _ r. x r

  itself : Plain bare anything (Made (λ (a : A). a) X) x
  itself = same_plain law (λ a l is. record { «from» = a; is = is; made = refl }) (λ a l m. subst (λ y. X y l) (sym m.made) m.is)

  comma_law : Plain bare anything CommaX comma_x
  comma_law = same_plain (skip_plain (Mark Comma) (λ (a : A). a) itself) (λ a l m. subst (λ y. CommaX y l) (sym m.made) m.is) (λ a l is. record { «from» = a; is = is; made = refl })

  abbrev add : List A → A → List A
  add xs a = xs ++ a ∷ []

  abbrev Added : List A → List A → List Token → Type 0
  Added s = Made (add s) CommaX

  added : (s : List A) → Plain bare anything (Added s) (λ tokens. comma_x tokens >>= λ a r. Ok (add s a, r))
  added s = take_last (add s) comma_law

  comma_some : (a : A) (l : List Token) → CommaX a l → l ≡ [] → ⊥
  comma_some a l is e = let bad : [] ≡ is.first.token ∷ is.back = sym e ∙ is.whole ∙ ap (λ y. y ++ is.back) is.first.only in absurd cc

  turn_fails : (s : List A) (tokens : List Token) (fault : ReadFault) → Stuck bare (Added s) (Added s) (λ tokens. comma_x tokens >>= λ a r. Ok (add s a, r)) tokens fault ⊎ ⊥
      → TurnStuck bare (Added s) (Added s) (λ tokens. comma_x tokens >>= λ a r. Ok (add s a, r)) tokens fault ⊎ TurnOver bare (Added s) (Added s) (λ tokens. comma_x tokens >>= λ a r. Ok (add s a, r)) tokens fault
  turn_fails s tokens fault (inl stuck) = inl (record {
    front = stuck.front;
    rest = stuck.rest;
    whole = stuck.whole;
    place = stuck.place;
    small = inl stuck.small;
    begins = stuck.begins;
    again = stuck.again;
  })
  turn_fails s tokens fault (inr never) = absurd never

  turning : Turning bare anything anything (is_next (Mark Comma)) (λ s tokens. comma_x tokens >>= λ a r. Ok (add s a, r)) (λ s tokens. kind_at close tokens >>= λ _ r. Ok (s, r)) Added Added (kind close)
  turning = record {
    alike = next_alike (λ token. is_kind (Mark Comma) token.kind);
    inside = λ s m l is. is;
    some = λ s m l is e. comma_some is.«from» l is.is e;
    took = λ s tokens m rest t e. (added s).took tokens m rest e;
    reads = λ s m front rest is clear. (added s).reads m front rest is refl;
    all = λ s m front rest is clear. inl ((added s).reads m front rest is refl);
    first = λ s m front rest is. kind_next (Mark Comma) (X is.«from») front rest is.is;
    fails = λ s tokens fault t e. turn_fails s tokens fault ((added s).fails tokens fault e);
    ends = λ s. skip_last bare anything close s;
    stop = λ l rest is clear. only_first (Mark Comma) close l rest is ∙ apart;
    near_turn = λ s m front rest is. refl;
    near_end = λ l rest is clear. refl;
  }

  -- one turn more of the loop

  pub more_turn : (s : List A) (tokens : List Token) (a : A) (rest : List Token) → is_next (Mark Comma) tokens ≡ true → comma_x tokens ≡ Ok (a, rest) → more_to close x s tokens ≡ more_to close x (s ++ a ∷ []) rest
  more_turn s tokens a rest t e = turn_read turning s tokens (add s a) rest t (then_ok (λ a r. Ok (add s a, r)) e)

  pub less_turn : (s : List A) (tokens : List Token) (a : A) (rest : List Token) → is_next (Mark Comma) tokens ≡ true → comma_x tokens ≡ Ok (a, rest) → length rest < length tokens
  less_turn s tokens a rest t e = shorter turning s tokens (add s a) rest t (then_ok (λ a r. Ok (add s a, r)) e)

  pub turn_fault : (s : List A) (tokens : List Token) (fault : ReadFault) → is_next (Mark Comma) tokens ≡ true → comma_x tokens ≡ Err fault → more_to close x s tokens ≡ Err fault
  turn_fault s tokens fault t e = turn_err turning s tokens fault t (then_err (λ a r. Ok (add s a, r)) e)

  pub turn_close : (s : List A) (tokens : List Token) (spot : Spot) (r : List Token) → is_next (Mark Comma) tokens ≡ false → kind_at close tokens ≡ Ok (spot, r) → more_to close x s tokens ≡ Ok (s, r)
  turn_close s tokens spot r t k = end_read turning s tokens t ∙ then_ok (λ _ x. Ok (s, x)) k

  pub turn_close_fault : (s : List A) (tokens : List Token) (fault : ReadFault) → is_next (Mark Comma) tokens ≡ false → kind_at close tokens ≡ Err fault → more_to close x s tokens ≡ Err fault
  turn_close_fault s tokens fault t k = end_read turning s tokens t ∙ then_err (λ _ x. Ok (s, x)) k

  -- the elements that were added
  abbrev Tail : List A → List Token → Type 0
  Tail xs = others X xs · kind close

  pub record Grown (s e : List A) (l : List Token) : Type 0 where
    pub items : List A
    pub made : e ≡ s ++ items
    pub is : Tail items l

  tail_more : (a : A) (xs : List A) (front back : List Token) → CommaX a front → Tail xs back → Tail (a ∷ xs) (front ++ back)
  tail_more a xs front back b t = record {
    front = front ++ t.front;
    back = t.back;
    whole = ap (λ y. front ++ y) t.whole ∙ sym (append_assoc front t.front t.back);
    first = assoc_both (record { front = front; back = t.front; whole = refl; first = b; then = t.first });
    then = t.then;
  }

  words_grown : (s e : List A) (l : List Token) → Words Added (kind close) s e l → Grown s e l
  words_grown _ _ _ (Last s l is) = record { items = []; made = sym (append-nil s); is = record { front = []; back = l; whole = refl; first = refl; then = is } }
  words_grown _ _ _ (More s m e front back b more) = by_more (words_grown m e back more)
    where
      by_more : Grown m e back → Grown s e (front ++ back)
      by_more t = record {
        items = b.«from» ∷ t.items;
        made = t.made ∙ ap (λ y. y ++ t.items) b.made ∙ append_assoc s (b.«from» ∷ []) t.items;
        is = tail_more b.«from» t.items front back b.is t.is;
      }

  grown_words : (s xs : List A) (l : List Token) → Tail xs l → Words Added (kind close) s (s ++ xs) l
  grown_words s [] l t = subst (λ y. Words Added (kind close) s y l) (sym (append-nil s)) (Last s l (subst (λ y. kind close y) (sym (t.whole ∙ ap (λ y. y ++ t.back) t.first)) t.then))
  grown_words s (a ∷ xs) l t =
      let b = both_assoc t.first in
      let whole : b.front ++ (b.back ++ t.back) ≡ l = sym (append_assoc b.front b.back t.back) ∙ ap (λ y. y ++ t.back) (sym b.whole) ∙ sym t.whole in
      subst (λ y. Words Added (kind close) s (s ++ a ∷ xs) y) whole
      (More s (s ++ a ∷ []) (s ++ a ∷ xs) b.front (b.back ++ t.back) (record { «from» = a; is = b.first; made = refl })
      (subst (λ y. Words Added (kind close) (s ++ a ∷ []) y (b.back ++ t.back)) (append_assoc s (a ∷ []) xs)
      (grown_words (s ++ a ∷ []) xs (b.back ++ t.back) (record { front = b.back; back = t.back; whole = refl; first = b.then; then = t.then }))))

  more_law : (s : List A) → Plain bare anything (Grown s) (more_to close x s)
  more_law s = same_plain (plain_of (turns_law turning s)) (λ e l is. words_grown s e l is)
      (λ e l g. subst (λ y. Words Added (kind close) s y l) (sym g.made) (grown_words s g.items l g.is))

  abbrev Empty : List A → List Token → Type 0
  Empty = Made (λ (_ : Unit {0}). let xs : List A = [] in xs) (λ _. kind close)

  abbrev Some : List A → List Token → Type 0
  Some = Then X (λ a. Grown (a ∷ []))

  -- the elements up to the closing mark
  pub listed_law : Plain bare anything (λ xs. listed X xs · kind close) (listed_to close x)
  listed_law = same_plain
      (either (is_next close) (next_alike (λ token. is_kind close token.kind)) (skip_last bare anything close []) (after law (λ a. more_law (a ∷ [])) (λ a b tokens rest is ends. refl) (λ tokens fault is. is) (λ tokens a rest fault took is. is))
      (λ xs front rest m. kind_alone front rest m.is) (λ xs front rest t ends. not_closed xs front rest t) (λ tokens fault t is. is) (λ tokens fault t is. is))
      into out
    where
      kind_alone : (front rest : List Token) → kind close front → is_next close (front ++ rest) ≡ true
      kind_alone front rest is = only_first close close front rest is ∙ kind_same close

      not_closed : (xs : List A) (front rest : List Token) → Some xs front → is_next close (front ++ rest) ≡ false
      not_closed xs front rest t = ap (λ l. is_next close (l ++ rest)) t.parts.whole ∙ ap (is_next close) (append_assoc t.parts.front t.parts.back rest) ∙ closed t.head t.parts.front (t.parts.back ++ rest) t.parts.first

      into : (xs : List A) (l : List Token) → Either Empty Some xs l → (listed X xs · kind close) l
      into xs l (Left m) = subst (λ y. (listed X y · kind close) l) (sym m.made) (record { front = []; back = l; whole = refl; first = refl; then = m.is })
      into xs l (Right t) = subst (λ y. (listed X y · kind close) l) (sym t.parts.then.made) (record {
        front = t.parts.front ++ t.parts.then.is.front;
        back = t.parts.then.is.back;
        whole = t.parts.whole ∙ ap (λ y. t.parts.front ++ y) t.parts.then.is.whole ∙ sym (append_assoc t.parts.front t.parts.then.is.front t.parts.then.is.back);
        first = record { front = t.parts.front; back = t.parts.then.is.front; whole = refl; first = t.parts.first; then = t.parts.then.is.first };
        then = t.parts.then.is.then;
      })

      out : (xs : List A) (l : List Token) → (listed X xs · kind close) l → Either Empty Some xs l
      out [] l is = Left (record { «from» = tt; is = subst (λ y. kind close y) (sym (is.whole ∙ ap (λ y. y ++ is.back) is.first)) is.then; made = refl })
      out (a ∷ xs) l is = Right (record {
        head = a;
        parts = record {
          front = is.first.front;
          back = is.first.back ++ is.back;
          whole = is.whole ∙ ap (λ y. y ++ is.back) is.first.whole ∙ append_assoc is.first.front is.first.back is.back;
          first = is.first.first;
          then = record { items = xs; made = refl; is = record { front = is.first.back; back = is.back; whole = refl; first = is.first.then; then = is.then } };
        };
      })

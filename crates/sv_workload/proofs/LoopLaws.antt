-- Elements that stand one behind another: the loop that reads them judges them, if the reading of one element does.
use Rattle.std.proofs.Common.{◌≡◌, ◌∙◌, ℕ, zero, suc, ◌<◌, Bool, true, false, if◌then◌else◌, cond, List, [], ◌∷◌, ◌++◌, length, Ok, Err, refl, sym, ap, subst, append_assoc, append-nil, arith}
use Rattle.std.proofs.lemmas.List.{length-append}
use Rattle.sv_lex.specs.declared.tokens.Token.{Token}
use Rattle.sv_app.specs.declared.refusals.Code.{Code}
use Rattle.sv_reader.specs.declared.faults.ReadFault.{ReadFault}
use Rattle.sv_reader.proofs.FuelLaws as fuel
use Rattle.sv_reader.specs.Reading.{Read, ◌>>=◌, turns_at, keep}
use Rattle.sv_reader.proofs.AnswerLaws.{same_read}
use Rattle.sv_workload.specs.Elements.{Refusals, Among, Here, Behind, AreNone}
use Rattle.sv_workload.specs.Grammar.{many}
use Rattle.sv_workload.proofs.JudgeLaws.{Alike, Judged, judged_map, Both, Either, InFirst, InSecond, judged_then}

-- an element at the front of these tokens
pub record Element {A : Type 0} (element : A → List Token → Type 0) (tokens : List Token) (a : A) (rest : List Token) : Type 0 where
  pub front : List Token
  pub whole : tokens ≡ front ++ rest
  pub is : element a front

-- what is asked of one element: its reading judges it, and its first token tells whether it begins
pub record Steps {S A : Type 0} (test : List Token → Bool) (read : S → List Token → Read A) (add : S → A → S) (state : List A → S) (element : A → List Token → Type 0) (refused : List A → List Token → Refusals) : Type 0 where
  pub judges : (before : List A) (tokens : List Token) → test tokens ≡ true → Judged (Element element tokens) (refused before tokens) tokens (read (state before) tokens)
  pub shrinks : (s : S) (tokens : List Token) (a : A) (rest : List Token) → test tokens ≡ true → read s tokens ≡ Ok (a, rest) → length rest < length tokens
  pub some : (a : A) → element a [] → ⊥
  pub opens : (a : A) (front rest : List Token) → element a front → test (front ++ rest) ≡ true
  pub stops : (before : List A) (tokens : List Token) → test tokens ≡ false → AreNone (refused before tokens)
  pub adds : (before : List A) (a : A) → state (before ++ a ∷ []) ≡ add (state before) a

-- elements at the front, up to a token that begins none
pub record Elements {S A : Type 0} (test : List Token → Bool) (state : List A → S) (element : A → List Token → Type 0) (before : List A) (tokens : List Token) (s : S) (rest : List Token) : Type 0 where
  pub items : List A
  pub front : List Token
  pub whole : tokens ≡ front ++ rest
  pub are : many element items front
  pub made : s ≡ state (before ++ items)
  pub ends : test rest ≡ false

module _ {S A : Type 0} {test : List Token → Bool} {read : S → List Token → Read A} {add : S → A → S} {state : List A → S} {element : A → List Token → Type 0} {refused : List A → List Token → Refusals}
    (law : Steps test read add state element refused) where
  abbrev pub turn : S → List Token → Read S
  turn s tokens = read s tokens >>= λ a r. Ok (add s a, r)

  abbrev pub loop : S → List Token → Read S
  loop = turns_at test turn keep

  pub less : (s : S) (tokens : List Token) (m : S) (rest : List Token) → test tokens ≡ true → turn s tokens ≡ Ok (m, rest) → length rest < length tokens
  less s tokens m rest t e = by_read (read s tokens) refl e
    where
      by_read : (found : Read A) → read s tokens ≡ found → (found >>= λ a r. Ok (add s a, r)) ≡ Ok (m, rest) → length rest < length tokens
      by_read (Err fault) f e = absurd cc
      by_read (Ok (a, r)) f e = let same = same_read e in subst (λ x. length x < length tokens) same.rests (law.shrinks s tokens a r t f)

  pub unrolled : (s : S) (tokens : List Token) → loop s tokens ≡ (if test tokens then (turn s tokens >>= λ m rest. loop m rest) else keep s tokens)
  unrolled s tokens = fuel.unrolled test turn keep less s tokens

  pub more : (s : S) (tokens : List Token) (a : A) (rest : List Token) → test tokens ≡ true → read s tokens ≡ Ok (a, rest) → loop s tokens ≡ loop (add s a) rest
  more s tokens a rest t e = unrolled s tokens ∙ ap (λ b. cond b (turn s tokens >>= λ m rest. loop m rest) (keep s tokens)) t ∙ ap (λ (found : Read A). (found >>= λ a r. Ok (add s a, r)) >>= λ m rest. loop m rest) e

  pub fault : (s : S) (tokens : List Token) (f : ReadFault) → test tokens ≡ true → read s tokens ≡ Err f → loop s tokens ≡ Err f
  fault s tokens f t e = unrolled s tokens ∙ ap (λ b. cond b (turn s tokens >>= λ m rest. loop m rest) (keep s tokens)) t ∙ ap (λ (found : Read A). (found >>= λ a r. Ok (add s a, r)) >>= λ m rest. loop m rest) e

  pub end : (s : S) (tokens : List Token) → test tokens ≡ false → loop s tokens ≡ Ok (s, tokens)
  end s tokens t = unrolled s tokens ∙ ap (λ b. cond b (turn s tokens >>= λ m rest. loop m rest) (keep s tokens)) t

  abbrev Loops : List A → List Token → Type 0
  Loops before tokens = Judged (Elements test state element before tokens) (Among element refused before tokens) tokens (loop (state before) tokens)

  contra : {b : Bool} → b ≡ true → b ≡ false → ⊥
  contra t f = let bad : true ≡ false = sym t ∙ f in absurd cc

  no_front : (a : A) (front rest : List Token) → element a front → front ≡ [] → ⊥
  no_front a front rest is e = law.some a (subst (λ l. element a l) e is)

  -- where no element begins
  stopped : (before : List A) (tokens : List Token) → test tokens ≡ false → Loops before tokens
  stopped before tokens t = record {
    took = λ s rest e. let same = same_read (sym (end (state before) tokens t) ∙ e) in record {
      items = [];
      front = [];
      whole = same.rests;
      are = refl;
      made = sym same.item ∙ ap state (sym (append-nil before));
      ends = subst (λ l. test l ≡ false) same.rests t;
    };
    right = λ s rest e. none;
    wrong = λ f e. let bad : ◌≡◌ {A = Read S} (Ok (state before, tokens)) (Err f) = sym (end (state before) tokens t) ∙ e in absurd cc;
    unique = unique;
    within = λ code here is. absurd (none code here is);
    shorter = λ s rest is. omega (arith, ap length is.whole, length-append is.front rest);
  }
    where
      by_among : (other : List A) (l : List Token) (code : Code) (here : List Token) → Among element refused other l code here → test l ≡ false → ⊥
      by_among _ _ _ _ (Here other l code here is) t = law.stops other l t code here is
      by_among _ _ _ _ (Behind other a front rest code here is more) t = contra (law.opens a front rest is) t

      none : AreNone (Among element refused before tokens)
      none code here is = by_among before tokens code here is t

      only : (s : S) (rest : List Token) (is : Elements test state element before tokens s rest) → Alike s (state before) rest tokens
      only s rest is = by_items is.items is.are is.made
        where
          by_items : (items : List A) → many element items is.front → s ≡ state (before ++ items) → Alike s (state before) rest tokens
          by_items [] are made = record { items = made ∙ ap state (append-nil before); rests = sym (is.whole ∙ ap (λ l. l ++ rest) are) }
          by_items (a ∷ items) are made = absurd (contra
              (subst (λ l. test l ≡ true) (sym (is.whole ∙ ap (λ l. l ++ rest) are.whole ∙ append_assoc are.front are.back rest)) (law.opens a are.front (are.back ++ rest) are.first)) t)

      unique : (a b : S) (r s : List Token) → Elements test state element before tokens a r → Elements test state element before tokens b s → Alike a b r s
      unique a b r s is was = let x = only a r is in let y = only b s was in record { items = x.items ∙ sym y.items; rests = x.rests ∙ sym y.rests }

  split : (b : List A) (l : List Token) (code : Code) (here : List Token) → Among element refused b l code here → Either (Element element l) (refused b l) (λ a middle. Among element refused (b ++ a ∷ []) middle) code here
  split _ _ _ _ (Here b l code here is) = InFirst is
  split _ _ _ _ (Behind b a front rest code here is r) = InSecond a rest (record { front = front; whole = refl; is = is }) r

  -- where one does
  goes_on : (before : List A) (tokens : List Token) → test tokens ≡ true → ((a : A) (middle : List Token) → length middle < length tokens → Loops (before ++ a ∷ []) middle) → Loops before tokens
  goes_on before tokens t others = judged_map same into out refused_into (λ code here r. split before tokens code here r) (judged_then (λ a m. loop (add (state before) a) m) (law.judges before tokens t) next)
    where
      same : loop (state before) tokens ≡ (read (state before) tokens >>= λ a m. loop (add (state before) a) m)
      same = by_read (read (state before) tokens) refl
        where
          by_read : (found : Read A) → read (state before) tokens ≡ found → loop (state before) tokens ≡ (found >>= λ a m. loop (add (state before) a) m)
          by_read (Ok (a, m)) e = more (state before) tokens a m t e
          by_read (Err f) e = fault (state before) tokens f t e

      smaller : (a : A) (middle : List Token) → Element element tokens a middle → length middle < length tokens
      smaller a middle is = by_front is.front is.is is.whole
        where
          by_front : (front : List Token) → element a front → tokens ≡ front ++ middle → length middle < length tokens
          by_front [] is e = absurd (law.some a is)
          by_front (x ∷ front) is e = omega (arith, ap length e, length-append front middle)

      next : (a : A) (middle : List Token) → Element element tokens a middle
          → Judged (Elements test state element (before ++ a ∷ []) middle) (Among element refused (before ++ a ∷ []) middle) middle (loop (add (state before) a) middle)
      next a middle is = subst (λ s. Judged (Elements test state element (before ++ a ∷ []) middle) (Among element refused (before ++ a ∷ []) middle) middle (loop s middle)) (law.adds before a)
          (others a middle (smaller a middle is))

      into : (s : S) (rest : List Token) → Both (Element element tokens) (λ a middle. Elements test state element (before ++ a ∷ []) middle) s rest → Elements test state element before tokens s rest
      into s rest b = record {
        items = b.head ∷ b.second.items;
        front = b.first.front ++ b.second.front;
        whole = b.first.whole ∙ ap (λ l. b.first.front ++ l) b.second.whole ∙ sym (append_assoc b.first.front b.second.front rest);
        are = record { front = b.first.front; back = b.second.front; whole = refl; first = b.first.is; then = b.second.are };
        made = b.second.made ∙ ap state (append_assoc before (b.head ∷ []) b.second.items);
        ends = b.second.ends;
      }

      out : (s : S) (rest : List Token) → Elements test state element before tokens s rest → Both (Element element tokens) (λ a middle. Elements test state element (before ++ a ∷ []) middle) s rest
      out s rest is = by_items is.items is.are is.made
        where
          by_items : (items : List A) → many element items is.front → s ≡ state (before ++ items) → Both (Element element tokens) (λ a middle. Elements test state element (before ++ a ∷ []) middle) s rest
          by_items [] are made = absurd (contra t (subst (λ l. test l ≡ false) (sym (is.whole ∙ ap (λ l. l ++ rest) are)) is.ends))
          by_items (a ∷ items) are made = record {
            head = a;
            middle = are.back ++ rest;
            first = record { front = are.front; whole = is.whole ∙ ap (λ l. l ++ rest) are.whole ∙ append_assoc are.front are.back rest; is = are.first };
            second = record { items = items; front = are.back; whole = refl; are = are.then; made = made ∙ ap state (sym (append_assoc before (a ∷ []) items)); ends = is.ends };
          }

      refused_into : (code : Code) (here : List Token) → Either (Element element tokens) (refused before tokens) (λ a middle. Among element refused (before ++ a ∷ []) middle) code here → Among element refused before tokens code here
      refused_into code here (InFirst is) = Here before tokens code here is
      refused_into code here (InSecond a middle is r) = subst (λ l. Among element refused before l code here) (sym is.whole) (Behind before a is.front middle code here is.is r)

  judged_within : (n : ℕ) (before : List A) (tokens : List Token) → length tokens < n → Loops before tokens
  judged_within zero before tokens lt = absurd (omega (arith, lt))
  judged_within (suc n) before tokens lt = by_test (λ a middle lm. judged_within n (before ++ a ∷ []) middle (omega (arith, lm, lt))) (test tokens) refl
    where
      by_test : ((a : A) (middle : List Token) → length middle < length tokens → Loops (before ++ a ∷ []) middle) → (b : Bool) → test tokens ≡ b → Loops before tokens
      by_test others true t = goes_on before tokens t others
      by_test others false t = stopped before tokens t

  pub judged_loop : (before : List A) (tokens : List Token) → Loops before tokens
  judged_loop before tokens = judged_within (suc (length tokens)) before tokens (omega arith)

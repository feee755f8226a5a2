-- Checks as a whole: what is read of them, and where they are refused.
use Rattle.std.proofs.Common.{◌≡◌, ◌∙◌, ℕ, ◌⊎◌, inl, inr, Bool, List, [], ◌∷◌, ◌++◌, length, Ok, refl, sym, ap, subst, append-nil, codes}
use Rattle.sv_value.specs.declared.spots.Spot.{Spot}
use Rattle.sv_lex.specs.declared.marks.Mark.TheVariants.{LeftParen}
use Rattle.sv_lex.specs.declared.tokens.Token.{Token}
use Rattle.sv_lex.specs.declared.tokens.TokenKind.TheVariants.{Name, Mark}
use Rattle.sv_app.specs.declared.refusals.Code.TheVariants.{Syntax, Many}
use Rattle.sv_app.specs.Schema.{Rule, Bound, OneOf, Different, Refers}
use Rattle.sv_reader.specs.declared.faults.ReadFault.{ReadFault}
use Rattle.sv_reader.specs.Grammar.{◌·◌, word_at, mark}
use Rattle.sv_schema_reader.specs.Limits.{IsSmallRule}
use Rattle.sv_reader.specs.Reading.{Read, ◌>>=◌, refuse, found_at, given, is_kind, kind_at}
use Rattle.sv_schema_reader.specs.Reading.{check_body_at, Demanded, check_at}
use Rattle.sv_schema_reader.specs.Refused.{IsPart, InCheck, IsElement, Outside}
use Rattle.sv_schema_reader.proofs.BodyLaws.{check_body, small_body, such_body, Unfitting, BodyTrouble, body_law, body_agree}
use Rattle.sv_reader.proofs.KindLaws.{token_of}
use Rattle.sv_reader.proofs.MadeLaws.{Made, placed, kind_law, take, take_last, skip}
use Rattle.sv_reader.proofs.AnswerLaws.{alike_same, anything, many_syntax}
use Rattle.sv_reader.proofs.ReadLaws.{Start, Took, Stuck, Over, Passes, Lawful, Limited, same_languages, open_map, open_start}
use Rattle.sv_schema_reader.proofs.TroubleLaws.{Inside, Loose, Unfit, IsInside, IsLoose, IsUnfit, Agree, agree_then, agree_first, agree_misplaced}
use Rattle.sv_schema_reader.proofs.MatterLaws.{schemas}

-- "check" "(" and what stands behind them
abbrev pub check_words : Demanded → List Token → Type 0
check_words d = word_at d.0 (codes "check") · mark LeftParen · check_body d.1

abbrev pub small_check : Demanded → List Token → Type 0
small_check d l = check_words d l × IsSmallRule d.1

-- a check whose place in the document is told
abbrev told_check_at : ℕ → List Token → Read Demanded
told_check_at start tokens =
    kind_at (Name (codes "check")) tokens >>= λ spot r1. kind_at (Mark LeftParen) r1 >>= λ _ r2. check_body_at start r2 >>= λ rule r3. Ok ((spot, rule), r3)

check_is : (tokens : List Token) → check_at tokens ≡ told_check_at (length tokens) tokens
unfolding check_at
check_is tokens = refl

-- trouble behind the parenthesis, and behind the word
record BehindParen (start : ℕ) (tokens : List Token) (fault : ReadFault) : Type 0 where
  pub paren : Token
  pub rest : List Token
  pub whole : tokens ≡ paren ∷ rest
  pub is : paren.kind ≡ Mark LeftParen
  pub trouble : BodyTrouble start rest fault

record BehindWord (start : ℕ) (tokens : List Token) (fault : ReadFault) : Type 0 where
  pub word : Token
  pub rest : List Token
  pub whole : tokens ≡ word ∷ rest
  pub is : word.kind ≡ Name (codes "check")
  pub more : BehindParen start rest fault

abbrev parts : Spot × Rule → List Token → Type 0
parts x = placed (Name (codes "check")) x.0 · mark LeftParen · check_body x.1

abbrev small_parts : Spot × Rule → List Token → Type 0
small_parts x = placed (Name (codes "check")) x.0 · mark LeftParen · small_body x.1

told_law : (start : ℕ) → Lawful schemas anything (Made (λ (x : Spot × Rule). let d : Demanded = (x.0, x.1) in d) parts) (Made (λ (x : Spot × Rule). let d : Demanded = (x.0, x.1) in d) small_parts) (BehindWord start) (told_check_at start)
told_law start = take (λ spot rule. let d : Demanded = (spot, rule) in d) (kind_law schemas anything (Name (codes "check")))
    (λ spot. skip (Mark LeftParen) (λ rule. let d : Demanded = (spot, rule) in d) (take_last (λ rule. let d : Demanded = (spot, rule) in d) (body_law start)) behind_paren)
    (λ spot rule tokens rest is ends. refl) (λ tokens fault never. absurd never) behind_word
  where
    behind_paren : (tokens : List Token) (spot : Spot) (rest : List Token) (fault : ReadFault) → Took (placed (Mark LeftParen)) (kind_at (Mark LeftParen)) tokens spot rest → BodyTrouble start rest fault → BehindParen start tokens fault
    behind_paren tokens spot rest fault took trouble = record { paren = took.is.token; rest = rest; whole = took.whole ∙ ap (λ l. l ++ rest) took.is.only; is = took.is.holds.0; trouble = trouble }

    behind_word : (tokens : List Token) (spot : Spot) (rest : List Token) (fault : ReadFault) → Took (placed (Name (codes "check"))) (kind_at (Name (codes "check"))) tokens spot rest → BehindParen start rest fault → BehindWord start tokens fault
    behind_word tokens spot rest fault took more = record { word = took.is.token; rest = rest; whole = took.whole ∙ ap (λ l. l ++ rest) took.is.only; is = took.is.holds.0; more = more }

words_in : (d : Demanded) (l : List Token) → Made (λ (x : Spot × Rule). let d : Demanded = (x.0, x.1) in d) parts d l → check_words d l
words_in d l m = subst (λ x. check_words x l) (sym m.made) m.is

words_out : (d : Demanded) (l : List Token) → check_words d l → Made (λ (x : Spot × Rule). let d : Demanded = (x.0, x.1) in d) parts d l
words_out d l is = record { «from» = d; is = is; made = refl }

small_in : (d : Demanded) (l : List Token) → Made (λ (x : Spot × Rule). let d : Demanded = (x.0, x.1) in d) small_parts d l → small_check d l
small_in d l m = subst (λ x. small_check x l) (sym m.made)
    (record { front = m.is.front; back = m.is.back; whole = m.is.whole; first = m.is.first; then = record { front = m.is.then.front; back = m.is.then.back; whole = m.is.then.whole; first = m.is.then.first; then = m.is.then.then.0 } }, m.is.then.then.1)

small_out : (d : Demanded) (l : List Token) → small_check d l → Made (λ (x : Spot × Rule). let d : Demanded = (x.0, x.1) in d) small_parts d l
small_out d l is = record {
  «from» = d;
  is = record {
    front = is.0.front;
    back = is.0.back;
    whole = is.0.whole;
    first = is.0.first;
    then = record { front = is.0.then.front; back = is.0.then.back; whole = is.0.then.whole; first = is.0.then.first; then = (is.0.then.then, is.1) };
  };
  made = refl;
}

told : (start : ℕ) → Lawful schemas anything check_words small_check (BehindWord start) (told_check_at start)
told start = same_languages (told_law start) words_in words_out small_in small_out (λ tokens fault is. is)

told_agree : (s t : ℕ) (tokens : List Token) → Agree s t (told_check_at s tokens) (told_check_at t tokens)
told_agree s t tokens =
    agree_then (kind_at (Name (codes "check")) tokens) _ _ (λ spot r1. agree_then (kind_at (Mark LeftParen) r1) _ _ (λ _ r2.
    agree_first (check_body_at s r2) (check_body_at t r2) (λ rule r3. let d : Demanded = (spot, rule) in Ok (d, r3)) (body_agree s t r2)))

-- behind the word and the parenthesis

pub words_behind : (word paren : Token) (rule : Rule) (l : List Token) → word.kind ≡ Name (codes "check") → paren.kind ≡ Mark LeftParen → check_body rule l → check_words (word.spot, rule) (word ∷ paren ∷ l)
words_behind word paren rule l w p b = record {
  front = word ∷ [];
  back = paren ∷ l;
  whole = refl;
  first = record { token = word; only = refl; holds = (w, refl) };
  then = record { front = paren ∷ []; back = l; whole = refl; first = record { token = paren; only = refl; holds = p }; then = b };
}

check_behind : (word paren : Token) (l : List Token) → word.kind ≡ Name (codes "check") → paren.kind ≡ Mark LeftParen
    → check_at (word ∷ paren ∷ l) ≡ (check_body_at (length (word ∷ paren ∷ l)) l >>= λ rule r3. Ok ((word.spot, rule), r3))
check_behind word paren l w p = check_is (word ∷ paren ∷ l)
    ∙ ap (λ (b : Bool). found_at (given b word.spot) word (paren ∷ l) >>= λ spot r1. kind_at (Mark LeftParen) r1 >>= λ _ r2. check_body_at (length (word ∷ paren ∷ l)) r2 >>= λ rule r3. Ok ((spot, rule), r3)) (ap (λ k. is_kind (Name (codes "check")) k) w)
    ∙ ap (λ (b : Bool). found_at (given b paren.spot) paren l >>= λ _ r2. check_body_at (length (word ∷ paren ∷ l)) r2 >>= λ rule r3. Ok ((word.spot, rule), r3)) (ap (λ k. is_kind (Mark LeftParen) k) p)

module _ (word paren : Token) (w : word.kind ≡ Name (codes "check")) (p : paren.kind ≡ Mark LeftParen) where
  start_words : (front : List Token) → Start check_body front → Start check_words (word ∷ paren ∷ front)
  start_words front start = record { more = start.more; item = (word.spot, start.item); is = words_behind word paren start.item (front ++ start.more) w p start.is }

  start_small : (front : List Token) → Start small_body front → Start small_check (word ∷ paren ∷ front)
  start_small front start = record { more = start.more; item = (word.spot, start.item); is = (words_behind word paren start.item (front ++ start.more) w p start.is.0, start.is.1) }

  inside_over : (rest : List Token) (fault : ReadFault) → Inside check_body_at check_body small_body rest fault → Over schemas check_words small_check check_at (word ∷ paren ∷ rest) fault
  inside_over rest fault over = record {
    front = word ∷ paren ∷ over.front;
    element = over.element;
    rest = over.rest;
    whole = ap (λ l. word ∷ paren ∷ l) over.whole;
    place = over.place;
    is = over.is;
    small = open_map (word ∷ paren ∷ []) start_small over.small;
    begins = start_words (over.front ++ over.element) over.begins;
    again = λ last. check_behind word paren (over.front ++ over.element ++ last) w p
        ∙ ap (λ (r : Read Rule). r >>= λ rule r3. Ok ((word.spot, rule), r3)) (over.again (length (word ∷ paren ∷ (over.front ++ over.element ++ last))) last);
  }

  loose_stuck : (rest : List Token) (fault : ReadFault) → Loose check_body_at (such_body (λ _. Unit {0})) rest fault → Stuck schemas check_words small_check check_at (word ∷ paren ∷ rest) fault
  loose_stuck rest fault loose = record {
    front = word ∷ paren ∷ loose.front;
    rest = loose.rest;
    whole = ap (λ l. word ∷ paren ∷ l) loose.whole;
    place = loose.place;
    small = record {
      shorter = word ∷ [];
      part = paren ∷ loose.front;
      whole = refl;
      start = some_check;
      is = by_rule loose.begins.item loose.begins.is;
    };
    begins = start_words loose.front (record { more = loose.begins.more; item = loose.begins.item; is = loose.begins.is.0 });
    again = λ last alike. check_behind word paren (loose.front ++ last) w p
        ∙ ap (λ (r : Read Rule). r >>= λ rule r3. Ok ((word.spot, rule), r3)) (loose.again (length (word ∷ paren ∷ (loose.front ++ last))) last alike);
  }
    where
      some_check : Start small_check (word ∷ [])
      some_check = let some = (body_law 0).some in record {
        more = token_of (Mark LeftParen) ∷ some.more;
        item = (word.spot, some.item);
        is = (words_behind word (token_of (Mark LeftParen)) some.item some.more w refl some.is.0, some.is.1);
      }

      not_whole : (rule : Rule) → check_body rule (loose.front ++ loose.begins.more) → loose.begins.more ≡ [] → ⊥
      not_whole rule is e = by_read ((body_law 0).all rule loose.front loose.rest (subst (λ l. check_body rule l) (ap (λ l. loose.front ++ l) e ∙ append-nil loose.front) is) refl)
        where
          stuck : check_body_at 0 (loose.front ++ loose.rest) ≡ refuse Syntax loose.rest
          stuck = loose.again 0 loose.rest (alike_same loose.rest)

          by_read : (check_body_at 0 (loose.front ++ loose.rest) ≡ Ok (rule, loose.rest)) ⊎ Passes (check_body_at 0 (loose.front ++ loose.rest)) → ⊥
          by_read (inl read) = let bad : ◌≡◌ {A = Read Rule} (Ok (rule, loose.rest)) (refuse Syntax loose.rest) = sym read ∙ stuck in absurd cc
          by_read (inr many) = many_syntax many.left (length loose.rest) (sym many.is ∙ stuck)

      by_rule : (rule : Rule) → such_body (λ _. Unit {0}) rule (loose.front ++ loose.begins.more) → IsPart (word ∷ []) (paren ∷ loose.front)
      by_rule (Bound check) is = InCheck (word ∷ []) [] word (paren ∷ loose.front) loose.begins.more word.spot check refl
          (words_behind word paren (Bound check) (loose.front ++ loose.begins.more) w p is.0) (not_whole (Bound check) is.0)
      by_rule (OneOf col texts) is = absurd is.1
      by_rule (Different col) is = absurd is.1
      by_rule (Refers col table target) is = absurd is.1

  unfit_over : (rest : List Token) (fault : ReadFault) → Unfit check_body_at (such_body Unfitting) (length (word ∷ paren ∷ rest)) rest fault → Over schemas check_words small_check check_at (word ∷ paren ∷ rest) fault
  unfit_over rest fault unfit = record {
    front = [];
    element = word ∷ paren ∷ unfit.front;
    rest = unfit.rest;
    whole = ap (λ l. word ∷ paren ∷ l) unfit.whole;
    place = unfit.place ∙ ap (λ l. record { code = Many; left = length (word ∷ paren ∷ l) }) unfit.whole;
    is = by_rule unfit.item unfit.is;
    small = open_start some_check;
    begins = record { more = []; item = (word.spot, unfit.item); is = words_behind word paren unfit.item (unfit.front ++ []) w p (subst (λ l. check_body unfit.item l) (sym (append-nil unfit.front)) unfit.is.0) };
    again = λ last. check_behind word paren (unfit.front ++ last) w p
        ∙ ap (λ (r : Read Rule). r >>= λ rule r3. Ok ((word.spot, rule), r3)) (unfit.again (length (word ∷ paren ∷ (unfit.front ++ last))) last);
  }
    where
      some_check : Start small_check []
      some_check = let some = (body_law 0).some in record { more = word ∷ paren ∷ some.more; item = (word.spot, some.item); is = (words_behind word paren some.item some.more w p some.is.0, some.is.1) }

      by_rule : (rule : Rule) → such_body Unfitting rule unfit.front → IsElement (word ∷ paren ∷ unfit.front)
      by_rule (Bound check) is = Outside word.spot check (word ∷ paren ∷ unfit.front) (words_behind word paren (Bound check) unfit.front w p is.0) is.1
      by_rule (OneOf col texts) is = absurd is.1
      by_rule (Different col) is = absurd is.1
      by_rule (Refers col table target) is = absurd is.1

pub check_law : Limited schemas anything check_words small_check check_at
check_law = record {
  inside = λ d l is. is.0;
  some = (told 0).some;
  took = λ tokens d rest e. let took = (told (length tokens)).took tokens d rest (sym (check_is tokens) ∙ e) in record {
    front = took.front;
    whole = took.whole;
    is = took.is;
    again = λ last alike. check_is (took.front ++ last) ∙ (told (length (took.front ++ last))).reads d took.front last took.is refl;
  };
  reads = λ d front rest is ends. check_is (front ++ rest) ∙ (told (length (front ++ rest))).reads d front rest is ends;
  all = λ d front rest is ends. subst (λ (x : Read Demanded). (x ≡ Ok (d, rest)) ⊎ Passes x) (sym (check_is (front ++ rest))) ((told (length (front ++ rest))).all d front rest is ends);
  fails = λ tokens fault e. by_fault tokens fault ((told (length tokens)).fails tokens fault (sym (check_is tokens) ∙ e));
}
  where
    by_trouble : (word paren : Token) → word.kind ≡ Name (codes "check") → paren.kind ≡ Mark LeftParen → (rest : List Token) (fault : ReadFault) → BodyTrouble (length (word ∷ paren ∷ rest)) rest fault
        → Stuck schemas check_words small_check check_at (word ∷ paren ∷ rest) fault ⊎ Over schemas check_words small_check check_at (word ∷ paren ∷ rest) fault
    by_trouble word paren w p rest fault (IsInside over) = inr (inside_over word paren w p rest fault over)
    by_trouble word paren w p rest fault (IsLoose loose) = inl (loose_stuck word paren w p rest fault loose)
    by_trouble word paren w p rest fault (IsUnfit unfit) = inr (unfit_over word paren w p rest fault unfit)

    by_fault : (tokens : List Token) (fault : ReadFault) → Stuck schemas check_words small_check (told_check_at (length tokens)) tokens fault ⊎ BehindWord (length tokens) tokens fault
        → Stuck schemas check_words small_check check_at tokens fault ⊎ Over schemas check_words small_check check_at tokens fault
    by_fault tokens fault (inl stuck) = inl (record {
      front = stuck.front;
      rest = stuck.rest;
      whole = stuck.whole;
      place = stuck.place;
      small = stuck.small;
      begins = stuck.begins;
      again = λ last alike. check_is (stuck.front ++ last)
          ∙ agree_misplaced (length last) (told_agree (length tokens) (length (stuck.front ++ last)) (stuck.front ++ last)) (stuck.again last alike);
    })
    by_fault tokens fault (inr b) =
        let whole : tokens ≡ b.word ∷ b.more.paren ∷ b.more.rest = b.whole ∙ ap (λ l. b.word ∷ l) b.more.whole in
        subst (λ t. Stuck schemas check_words small_check check_at t fault ⊎ Over schemas check_words small_check check_at t fault) (sym whole)
        (by_trouble b.word b.more.paren b.is b.more.is b.more.rest fault (subst (λ n. BodyTrouble n b.more.rest fault) (ap length whole) b.more.trouble))

-- Steps: what is refused of one besides the grammar is known by its mark, and the loop that reads them judges them.
use Rattle.std.proofs.Common.{◌≡◌, ◌≢◌, ◌∙◌, ℕ, zero, suc, pos, ◌+◌, ◌<◌, ◌≤◌, ◌⊎◌, inl, inr, nat_le, Bool, true, false, ◌||◌, List, [], ◌∷◌, ◌++◌, length, map, get_or, Option, Some, None, Ok, refl, sym, ap, subst, append_assoc, arith, codes}
use Rattle.std.specs.List.{Contains}
use Rattle.std.proofs.lemmas.Bool.Decides.{nat_tests}
use Rattle.std.proofs.lemmas.List.{length-append, length-map, map-append}
use Rattle.sv_lex.specs.declared.marks.Mark.TheVariants.{Semi}
use Rattle.sv_lex.specs.declared.tokens.Token.{Token}
use Rattle.sv_lex.specs.declared.tokens.TokenKind.TheVariants.{Name, Number, Mark}
use Rattle.sv_app.specs.declared.refusals.Code.{Code}
use Rattle.sv_app.specs.declared.refusals.Code.TheVariants as codes_of
use Rattle.sv_app.specs.Schema.{Declaration}
use Rattle.sv_app.specs.Trees.{Transaction}
use Rattle.sv_reader.specs.declared.faults.ReadFault.{ReadFault}
use Rattle.sv_reader.specs.Grammar.{◌·◌, word, mark, name}
use Rattle.sv_reader.specs.Reading.{given}
use Rattle.sv_reader.proofs.KindLaws.{token_of}
use Rattle.sv_reader.proofs.ReadLaws.{Start}
use Rattle.sv_workload.specs.declared.lines.Steps.{Steps}
use Rattle.sv_workload.specs.declared.written.Color.{Color}
use Rattle.sv_workload.specs.declared.written.Color.TheVariants as colors
use Rattle.sv_workload.specs.declared.written.Verb.{Verb}
use Rattle.sv_workload.specs.declared.written.Verb.TheVariants as verbs
use Rattle.sv_workload.specs.Documents.{step_of}
use Rattle.sv_workload.specs.Elements.{Refusals, Begins, IsMisplaced, AreNone}
use Rattle.sv_workload.specs.Grammar.{number, packet, call, line}
use Rattle.sv_workload.specs.LastRefused.{BeginsWord, IsOutside, CallRefused, asks, shows, total, session_words, site_words, LineRefused, TooManyAsks, TooManyShows, BadSession, BadSite, BadOrigin, BadSeq, BadSlot, BadTarget}
use Rattle.sv_workload.specs.LastRefused as last
use Rattle.sv_workload.specs.LineReading.{verb_full, is_full, full_mark, most_number, tail_mark, number_mark, verb_mark, line_mark, line_from, step_asks, step_shows, with_step, is_more}
use Rattle.sv_workload.specs.Reading.{verb_named, verb_of, line_at, out_mark, settled}
use Rattle.sv_workload.specs.Written.{Line, Ask, Order, Deliver, Settle, Catch, Show, Cut, Move}
use Rattle.sv_workload.proofs.JudgeLaws.{Judged, judged_map}
use Rattle.sv_workload.proofs.LastLaws.{line_some, line_none}
use Rattle.sv_workload.proofs.LineLaws.{named, verb_word, verb_back, verb_there, color_word, Tail, tail_law, line_join, line_law}
use Rattle.sv_workload.proofs.LoopLaws as loops
use Rattle.sv_workload.proofs.LoopLaws.{Element}
use Rattle.sv_workload.proofs.MarkLaws.{Marks, At, Before, no_marks, place_marks, marks_or, lift_marks, Standing, Mark as OfMark, Misplaced, judged_marked}
use Rattle.sv_workload.proofs.NumberMarkLaws.{SentRefused, tail_same, OutAt, out_marks, out_place, BehindNumber, number_less, behind_marks, PacketRefused, packet_marks, TableRefused, table_marks, asked_marks}
use Rattle.sv_workload.proofs.ValueLaws.{head_same}

pub is_verb : (token : Token) (v : Verb) → verb_of token ≡ Some v → token.kind ≡ Name (verb_word v)
is_verb token v e = named verb_named verb_word verb_back token.kind v e

pub verb_is : (token : Token) (v : Verb) → token.kind ≡ Name (verb_word v) → verb_of token ≡ Some v
verb_is token v e = ap (λ k. verb_of (record token { kind = k })) e ∙ verb_there v

one_verb : (token : Token) (a b : Verb) → token.kind ≡ Name (verb_word a) → token.kind ≡ Name (verb_word b) → a ≡ b
one_verb token a b e f = let same : Some a ≡ Some b = sym (verb_is token a e) ∙ verb_is token b f in cc

-- the words of the steps

record Spelled (sites : ℕ) (bytes : List ℕ) (most : ℕ) : Type 0 where
  pub verb : Verb
  pub is : bytes ≡ verb_word verb
  pub most_is : most_number sites verb ≡ most

session_word : (sites : ℕ) (bytes : List ℕ) → Contains session_words bytes → Spelled sites bytes 64
session_word sites bytes has = by_place has.0 has.1 has.2
  where
    by_place : (k : ℕ) → k < 3 → get_or session_words k bytes ≡ bytes → Spelled sites bytes 64
    by_place zero lt e = record { verb = verbs.Ask; is = sym e; most_is = refl }
    by_place (suc zero) lt e = record { verb = verbs.Order; is = sym e; most_is = refl }
    by_place (suc (suc zero)) lt e = record { verb = verbs.Move; is = sym e; most_is = refl }
    by_place (suc (suc (suc k))) lt e = absurd (omega (arith, lt))

site_word : (sites : ℕ) (bytes : List ℕ) → Contains site_words bytes → Spelled sites bytes sites
site_word sites bytes has = by_place has.0 has.1 has.2
  where
    by_place : (k : ℕ) → k < 5 → get_or site_words k bytes ≡ bytes → Spelled sites bytes sites
    by_place zero lt e = record { verb = verbs.Deliver; is = sym e; most_is = refl }
    by_place (suc zero) lt e = record { verb = verbs.Settle; is = sym e; most_is = refl }
    by_place (suc (suc zero)) lt e = record { verb = verbs.Catch; is = sym e; most_is = refl }
    by_place (suc (suc (suc zero))) lt e = record { verb = verbs.Show; is = sym e; most_is = refl }
    by_place (suc (suc (suc (suc zero)))) lt e = record { verb = verbs.Cut; is = sym e; most_is = refl }
    by_place (suc (suc (suc (suc (suc k))))) lt e = absurd (omega (arith, lt))

any_word : (bytes : List ℕ) → Contains (session_words ++ site_words) bytes → (v : Verb) × (bytes ≡ verb_word v)
any_word bytes has = by_place has.0 has.1 has.2
  where
    by_place : (k : ℕ) → k < 8 → get_or (session_words ++ site_words) k bytes ≡ bytes → (v : Verb) × (bytes ≡ verb_word v)
    by_place zero lt e = (verbs.Ask, sym e)
    by_place (suc zero) lt e = (verbs.Order, sym e)
    by_place (suc (suc zero)) lt e = (verbs.Move, sym e)
    by_place (suc (suc (suc zero))) lt e = (verbs.Deliver, sym e)
    by_place (suc (suc (suc (suc zero)))) lt e = (verbs.Settle, sym e)
    by_place (suc (suc (suc (suc (suc zero))))) lt e = (verbs.Catch, sym e)
    by_place (suc (suc (suc (suc (suc (suc zero)))))) lt e = (verbs.Show, sym e)
    by_place (suc (suc (suc (suc (suc (suc (suc zero))))))) lt e = (verbs.Cut, sym e)
    by_place (suc (suc (suc (suc (suc (suc (suc (suc k)))))))) lt e = absurd (omega (arith, lt))

pub word_any : (v : Verb) → Contains (session_words ++ site_words) (verb_word v)
word_any verbs.Ask = (0, omega arith, refl)
word_any verbs.Order = (1, omega arith, refl)
word_any verbs.Move = (2, omega arith, refl)
word_any verbs.Deliver = (3, omega arith, refl)
word_any verbs.Settle = (4, omega arith, refl)
word_any verbs.Catch = (5, omega arith, refl)
word_any verbs.Show = (6, omega arith, refl)
word_any verbs.Cut = (7, omega arith, refl)

-- what a step may begin with

abbrev zero_number : Token
zero_number = token_of (Number (pos 0))

number_begins : (token found : Token) (v : Verb) (n : ℕ) → token.kind ≡ Name (verb_word v) → found.kind ≡ Number (pos n) → Begins line (token ∷ found ∷ [])
number_begins token found v n w k = by_tail (tail_law v n).some
  where
    by_tail : Start (Tail v n) [] → Begins line (token ∷ found ∷ [])
    by_tail t = record {
      more = t.more;
      item = t.item;
      is = line_join v n t.item (token ∷ []) (found ∷ []) t.more (record { token = token; only = refl; holds = w }) (record { token = found; only = refl; holds = k }) t.is;
    }

word_begins : (token : Token) (v : Verb) → token.kind ≡ Name (verb_word v) → Begins line (token ∷ [])
word_begins token v w = let b = number_begins token zero_number v 0 w refl in record { more = zero_number ∷ b.more; item = b.item; is = b.is }

-- a part and the mark behind it
part_begins : {A : Type 0} (P : A → List Token → Type 0) (token found : Token) (v : Verb) (n : ℕ) (made : A → Line) → token.kind ≡ Name (verb_word v) → found.kind ≡ Number (pos n)
    → ((a : A) (l : List Token) → (P a · mark Semi) l → Tail v n (made a) l) → (l : List Token) → Begins P l → Begins line (token ∷ found ∷ l)
part_begins P token found v n made w k tail l b = record {
  more = b.more ++ token_of (Mark Semi) ∷ [];
  item = made b.item;
  is = line_join v n (made b.item) (token ∷ []) (found ∷ []) (l ++ (b.more ++ token_of (Mark Semi) ∷ [])) (record { token = token; only = refl; holds = w }) (record { token = found; only = refl; holds = k })
      (tail b.item (l ++ (b.more ++ token_of (Mark Semi) ∷ []))
      (record { front = l ++ b.more; back = token_of (Mark Semi) ∷ []; whole = sym (append_assoc l b.more (token_of (Mark Semi) ∷ [])); first = b.is; then = record { token = token_of (Mark Semi); only = refl; holds = refl } }));
}

-- one more is counted
pub total_more : {A : Type 0} (count : A → ℕ) (before : List A) (a : A) → total count (before ++ a ∷ []) ≡ total count before + count a
total_more count [] a = omega arith
total_more count (x ∷ before) a = let more = total_more count before a in omega (arith, more)

module _ (schema : List Declaration) (txns : List Transaction) where
  -- the steps that were read, and how many of them ask or show
  abbrev pub state : List Line → Steps
  state before = record { steps = map (step_of schema txns) before; asks = total asks before; shows = total shows before }

  pub asks_same : (l : Line) → asks l ≡ step_asks (step_of schema txns l)
  asks_same (Ask n c) = refl
  asks_same (Order n) = refl
  asks_same (Deliver n p) = refl
  asks_same (Settle n) = refl
  asks_same (Catch n) = refl
  asks_same (Show n t) = refl
  asks_same (Cut n) = refl
  asks_same (Move n s) = refl

  pub shows_same : (l : Line) → shows l ≡ step_shows (step_of schema txns l)
  shows_same (Ask n c) = refl
  shows_same (Order n) = refl
  shows_same (Deliver n p) = refl
  shows_same (Settle n) = refl
  shows_same (Catch n) = refl
  shows_same (Show n t) = refl
  shows_same (Cut n) = refl
  shows_same (Move n s) = refl

  abbrev pub with_line : Steps → Line → Steps
  with_line s l = with_step s (step_of schema txns l)

  pub state_push : (before : List Line) (l : Line) → state (before ++ l ∷ []) ≡ with_line (state before) l
  state_push before l = λ i. record {
    steps = map-append (step_of schema txns) before (l ∷ []) i;
    asks = (total_more asks before l ∙ ap (λ n. total asks before + n) (asks_same l)) i;
    shows = (total_more shows before l ∙ ap (λ n. total shows before + n) (shows_same l)) i;
  }

  -- too many steps

  pub data Crowded (before : List Line) : Verb → Type 0 where
    Steps' : (v : Verb) → 65536 ≤ length before → Crowded before v
    Asks' : 8192 ≤ total asks before → Crowded before verbs.Ask
    Shows' : 64 ≤ total shows before → Crowded before verbs.Show

  le_true : (m n : ℕ) → m ≤ n → nat_le m n ≡ true
  le_true m n le = grind (arith, nat_tests, le)

  true_le : (m n : ℕ) → nat_le m n ≡ true → m ≤ n
  true_le m n e = grind (arith, nat_tests, e)

  or_true : (b : Bool) → b || true ≡ true
  or_true true = refl
  or_true false = refl

  crowded_full : (before : List Line) (v : Verb) → Crowded before v → is_full (state before) v ≡ true
  crowded_full before _ (Steps' v le) = ap (λ b. b || verb_full (state before) v) (le_true 65536 (length (map (step_of schema txns) before)) (omega (arith, le, length-map before (step_of schema txns))))
  crowded_full before _ (Asks' le) = ap (λ b. nat_le 65536 (length (map (step_of schema txns) before)) || b) (le_true 8192 (total asks before) le) ∙ or_true (nat_le 65536 (length (map (step_of schema txns) before)))
  crowded_full before _ (Shows' le) = ap (λ b. nat_le 65536 (length (map (step_of schema txns) before)) || b) (le_true 64 (total shows before) le) ∙ or_true (nat_le 65536 (length (map (step_of schema txns) before)))

  full_crowded : (before : List Line) (v : Verb) → is_full (state before) v ≡ true → Crowded before v
  full_crowded before v e = by_steps (nat_le 65536 (length (map (step_of schema txns) before))) refl e
    where
      by_verb : (v : Verb) → verb_full (state before) v ≡ true → Crowded before v
      by_verb verbs.Ask t = Asks' (true_le 8192 (total asks before) t)
      by_verb verbs.Show t = Shows' (true_le 64 (total shows before) t)
      by_verb verbs.Order t = absurd cc
      by_verb verbs.Deliver t = absurd cc
      by_verb verbs.Settle t = absurd cc
      by_verb verbs.Catch t = absurd cc
      by_verb verbs.Cut t = absurd cc
      by_verb verbs.Move t = absurd cc

      by_steps : (b : Bool) → nat_le 65536 (length (map (step_of schema txns) before)) ≡ b → b || verb_full (state before) v ≡ true → Crowded before v
      by_steps true t e = Steps' v (let le = true_le 65536 (length (map (step_of schema txns) before)) t in omega (arith, le, length-map before (step_of schema txns)))
      by_steps false t e = by_verb v e

  module _ (sites : ℕ) where
    -- what is refused behind the number

    abbrev pub TailRefused : Verb → List Token → Refusals
    TailRefused verbs.Ask rest code here = CallRefused txns rest code here
    TailRefused verbs.Deliver rest code here = PacketRefused sites rest code here
    TailRefused verbs.Show rest code here = TableRefused schema rest code here
    TailRefused verbs.Move rest code here = OutAt codes_of.BadStep 1 sites rest code here
    TailRefused _ rest code here = ⊥

    tail_marks : (token found : Token) (v : Verb) (n : ℕ) (rest : List Token) → token.kind ≡ Name (verb_word v) → found.kind ≡ Number (pos n)
        → Marks line (token ∷ found ∷ rest) (TailRefused v rest) (tail_mark schema txns sites v rest)
    tail_marks token found verbs.Ask n rest w k = lift_marks (token ∷ found ∷ []) rest (part_begins call token found verbs.Ask n (λ c. Ask n c) w k (λ c l is. record { «from» = c; is = is; made = refl })) (asked_marks txns rest)
    tail_marks token found verbs.Deliver n rest w k = lift_marks (token ∷ found ∷ []) rest (part_begins packet token found verbs.Deliver n (λ s. Deliver n s) w k (λ s l is. record { «from» = s; is = is; made = refl })) (packet_marks sites rest)
    tail_marks token found verbs.Show n rest w k = lift_marks (token ∷ found ∷ []) rest (part_begins name token found verbs.Show n (λ t. Show n t) w k (λ t l is. record { «from» = t; is = is; made = refl })) (table_marks schema rest)
    tail_marks token found verbs.Move n rest w k = lift_marks (token ∷ found ∷ []) rest (part_begins number token found verbs.Move n (λ s. Move n s) w k (λ s l is. record { «from» = s; is = is; made = refl }))
        (out_marks number rest [] rest codes_of.BadStep 1 sites refl (λ site s is. record { more = []; item = s; is = record { token = site; only = refl; holds = is } }))
    tail_marks token found verbs.Order n rest w k = no_marks line (token ∷ found ∷ rest)
    tail_marks token found verbs.Settle n rest w k = no_marks line (token ∷ found ∷ rest)
    tail_marks token found verbs.Catch n rest w k = no_marks line (token ∷ found ∷ rest)
    tail_marks token found verbs.Cut n rest w k = no_marks line (token ∷ found ∷ rest)

    tail_within : (v : Verb) (rest : List Token) (code : Code) (here : List Token) → TailRefused v rest code here → length here ≤ length rest
    tail_within verbs.Ask rest code here is = (asked_marks txns rest).within code here is
    tail_within verbs.Deliver rest code here is = (packet_marks sites rest).within code here is
    tail_within verbs.Show rest code here is = (table_marks schema rest).within code here is
    tail_within verbs.Move rest code here is = omega (arith, ap length is.1)
    tail_within verbs.Order rest code here is = absurd is
    tail_within verbs.Settle rest code here is = absurd is
    tail_within verbs.Catch rest code here is = absurd is
    tail_within verbs.Cut rest code here is = absurd is

    abbrev pub NumberRefused : Verb → List Token → Refusals
    NumberRefused v others code here = OutAt codes_of.BadStep 1 (most_number sites v) others code here ⊎ BehindNumber (TailRefused v) others code here

    number_within : (v : Verb) (others : List Token) (code : Code) (here : List Token) → NumberRefused v others code here → length here ≤ length others
    number_within v others code here (inl is) = omega (arith, ap length is.1)
    number_within v others code here (inr is) = let lt = number_less is.n others is.front is.rest is.whole is.is in let le = tail_within v is.rest code here is.refused in omega (arith, lt, le)

    number_marks : (token : Token) (others : List Token) (v : Verb) → token.kind ≡ Name (verb_word v) → Marks line (token ∷ others) (NumberRefused v others) (number_mark schema txns sites v others)
    number_marks token others v w = marks_or (out_marks line (token ∷ others) (token ∷ []) others codes_of.BadStep 1 (most_number sites v) refl (λ found n k. number_begins token found v n w k))
        (behind_marks line (token ∷ others) (token ∷ []) others (TailRefused v) (λ rest. tail_mark schema txns sites v rest) refl (λ found n rest k. tail_marks token found v n rest w k))
        order
      where
        order : (fault : ReadFault) → out_mark codes_of.BadStep 1 (most_number sites v) others ≡ Some fault → (code : Code) (here : List Token) → BehindNumber (TailRefused v) others code here → Before fault code here
        order fault e code here is =
            let lt = number_less is.n others is.front is.rest is.whole is.is in let le = tail_within v is.rest code here is.refused in
            let place = out_place codes_of.BadStep 1 (most_number sites v) others fault e in
            inl (omega (arith, lt, le, place))

    module _ (before : List Line) where
      -- all that is refused of a step besides the grammar
      abbrev pub Marked : Token → List Token → Verb → Refusals
      Marked token others v code here = At codes_of.Many (token ∷ others) (Crowded before v) code here ⊎ NumberRefused v others code here

      verb_marks : (token : Token) (others : List Token) (v : Verb) → token.kind ≡ Name (verb_word v)
          → Marks line (token ∷ others) (Marked token others v) (verb_mark schema txns sites (state before) (Some v) token others)
      verb_marks token others v w = marks_or
          (place_marks line (token ∷ others) [] token others codes_of.Many (Crowded before v) (is_full (state before) v) refl (word_begins token v w) (full_crowded before v) (crowded_full before v))
          (number_marks token others v w) order
        where
          order : (fault : ReadFault) → full_mark (state before) v (token ∷ others) ≡ Some fault → (code : Code) (here : List Token) → NumberRefused v others code here → Before fault code here
          order fault e code here is = by_full (is_full (state before) v) e
            where
              by_full : (b : Bool) → given b (record { code = codes_of.Many; left = length (token ∷ others) }) ≡ Some fault → Before fault code here
              by_full false e = absurd cc
              by_full true e = let same : record { code = codes_of.Many; left = length (token ∷ others) } ≡ fault = cc in let le = number_within v others code here is in
                  inl (omega (arith, le, ap (λ (f : ReadFault). f.left) same))

      -- a refusal of a step, sorted by the word of the step
      data Sorted (token : Token) (others : List Token) (code : Code) (here : List Token) : Type 0 where
        Placed : code ≡ codes_of.Syntax → IsMisplaced line (token ∷ others) here → Sorted token others code here
        Worded : (v : Verb) → token.kind ≡ Name (verb_word v) → Marked token others v code here → Sorted token others code here

      word_first : (bytes : List ℕ) (token : Token) (others front rest : List Token) → token ∷ others ≡ front ++ rest → word bytes front → (token.kind ≡ Name bytes) × (others ≡ rest)
      word_first bytes token others front rest e is =
          let whole : token ∷ others ≡ is.token ∷ rest = e ∙ ap (λ l. l ++ rest) is.only in
          (ap (λ (t : Token). t.kind) (head_same whole) ∙ is.holds, tail_same whole)

      -- a word and a number
      record Numbered (bytes : List ℕ) (at : ℕ) (Rest : List Token → Type 0) (token : Token) (others here : List Token) : Type 0 where
        pub spelled : token.kind ≡ Name bytes
        pub front : List Token
        pub back : List Token
        pub whole : others ≡ front ++ (back ++ here)
        pub is : number at front
        pub rest : Rest back

      numbered : (bytes : List ℕ) (at : ℕ) (Rest : List Token → Type 0) (token : Token) (others front here : List Token) → token ∷ others ≡ front ++ here → (word bytes · number at · Rest) front → Numbered bytes at Rest token others here
      numbered bytes at Rest token others front here e is =
          let head = word_first bytes token others is.front (is.back ++ here) (e ∙ ap (λ l. l ++ here) is.whole ∙ append_assoc is.front is.back here) is.first in record {
            spelled = head.0;
            front = is.then.front;
            back = is.then.back;
            whole = head.1 ∙ ap (λ l. l ++ here) is.then.whole ∙ append_assoc is.then.front is.then.back here;
            is = is.then.first;
            rest = is.then.then;
          }

      numbered_last : (bytes : List ℕ) (at : ℕ) (token : Token) (others front here : List Token) → token ∷ others ≡ front ++ here → (word bytes · number at) front
          → (token.kind ≡ Name bytes) × (nfront : List Token) × (others ≡ nfront ++ here) × number at nfront
      numbered_last bytes at token others front here e is =
          let head = word_first bytes token others is.front (is.back ++ here) (e ∙ ap (λ l. l ++ here) is.whole ∙ append_assoc is.front is.back here) is.first in (head.0, is.back, head.1, is.then)

      sorted : (token : Token) (others : List Token) (code : Code) (here all : List Token) → all ≡ token ∷ others → LineRefused schema txns sites before all code here → Sorted token others code here
      sorted token others _ _ all e (last.Misplaced here some is) = Placed refl (subst (λ l. IsMisplaced line l here) e is)
      sorted token others _ _ all e (last.TooMany bytes has is many) = let v = any_word bytes has in Worded v.0 (subst (λ l. BeginsWord bytes l) e is ∙ ap Name v.1) (inl (refl, e, Steps' v.0 many))
      sorted token others _ _ all e (TooManyAsks is many) = Worded verbs.Ask (subst (λ l. BeginsWord (codes "ask") l) e is) (inl (refl, e, Asks' many))
      sorted token others _ _ all e (TooManyShows is many) = Worded verbs.Show (subst (λ l. BeginsWord (codes "show") l) e is) (inl (refl, e, Shows' many))
      sorted token others _ _ all e (BadSession bytes front here w has is out) =
          let s = session_word sites bytes has in let head = word_first bytes token others front here (sym e ∙ w) is in
          Worded s.verb (head.0 ∙ ap Name s.is) (inr (inl (refl, sym head.1, subst (λ m. IsOutside 1 m others) (sym s.most_is) (subst (λ l. IsOutside 1 64 l) (sym head.1) out))))
      sorted token others _ _ all e (BadSite bytes front here w has is out) =
          let s = site_word sites bytes has in let head = word_first bytes token others front here (sym e ∙ w) is in
          Worded s.verb (head.0 ∙ ap Name s.is) (inr (inl (refl, sym head.1, subst (λ m. IsOutside 1 m others) (sym s.most_is) (subst (λ l. IsOutside 1 sites l) (sym head.1) out))))
      sorted token others _ _ all e (BadOrigin at front here w is out) =
          let n = numbered (codes "deliver") at (λ l. word (codes "blue") l) token others front here (sym e ∙ w) is in
          Worded verbs.Deliver n.spelled (inr (inr (record {
            n = at;
            front = n.front;
            rest = n.back ++ here;
            whole = n.whole;
            is = n.is;
            refused = record { color = colors.Blue; word = n.rest.token; others = here; whole = ap (λ l. l ++ here) n.rest.only; is = n.rest.holds; refused = inl (refl, refl, out) };
          })))
      sorted token others _ _ all e (BadSeq at origin front here w is out) =
          let n = numbered (codes "deliver") at (λ l. (word (codes "blue") · number origin) l) token others front here (sym e ∙ w) is in
          Worded verbs.Deliver n.spelled (inr (inr (record {
            n = at;
            front = n.front;
            rest = n.back ++ here;
            whole = n.whole;
            is = n.is;
            refused = record {
              color = colors.Blue;
              word = n.rest.first.token;
              others = n.rest.back ++ here;
              whole = ap (λ l. l ++ here) (n.rest.whole ∙ ap (λ l. l ++ n.rest.back) n.rest.first.only);
              is = n.rest.first.holds;
              refused = inr (record { n = origin; front = n.rest.back; rest = here; whole = refl; is = n.rest.then; refused = (refl, refl, out) });
            };
          })))
      sorted token others _ _ all e (BadSlot at front here w is out) =
          let n = numbered (codes "deliver") at (λ l. word (codes "red") l) token others front here (sym e ∙ w) is in
          Worded verbs.Deliver n.spelled (inr (inr (record {
            n = at;
            front = n.front;
            rest = n.back ++ here;
            whole = n.whole;
            is = n.is;
            refused = record { color = colors.Red; word = n.rest.token; others = here; whole = ap (λ l. l ++ here) n.rest.only; is = n.rest.holds; refused = (refl, refl, out) };
          })))
      sorted token others _ _ all e (BadTarget of front here w is out) =
          let n = numbered_last (codes "move") of token others front here (sym e ∙ w) is in
          Worded verbs.Move n.0 (inr (inr (record { n = of; front = n.1; rest = here; whole = n.2; is = n.3; refused = (refl, refl, out) })))
      sorted token others _ _ all e (last.NoTable at front here table w is begins none) =
          let n = numbered_last (codes "show") at token others front here (sym e ∙ w) is in
          Worded verbs.Show n.0 (inr (inr (record { n = at; front = n.1; rest = here; whole = n.2; is = n.3; refused = (refl, refl, (table, begins, none)) })))
      sorted token others _ _ all e (last.InCall of front rest code here w is refused) =
          let n = numbered_last (codes "ask") of token others front rest (sym e ∙ w) is in
          Worded verbs.Ask n.0 (inr (inr (record { n = of; front = n.1; rest = rest; whole = n.2; is = n.3; refused = refused })))

      -- and back

      module _ (token : Token) (others : List Token) where
        abbrev Refused : Code → List Token → Type 0
        Refused = LineRefused schema txns sites before (token ∷ others)

        crowd_in : (v : Verb) → token.kind ≡ Name (verb_word v) → Crowded before v → Refused codes_of.Many (token ∷ others)
        crowd_in _ w (Steps' v le) = last.TooMany (verb_word v) (word_any v) w le
        crowd_in _ w (Asks' le) = TooManyAsks w le
        crowd_in _ w (Shows' le) = TooManyShows w le

        session_in : (k : ℕ) → k < 3 → (bytes : List ℕ) → get_or session_words k bytes ≡ bytes → token.kind ≡ Name bytes → IsOutside 1 64 others → Refused codes_of.BadStep others
        session_in k lt bytes e w out = BadSession bytes (token ∷ []) others refl (k, lt, e) (record { token = token; only = refl; holds = w }) out

        site_in : (k : ℕ) → k < 5 → (bytes : List ℕ) → get_or site_words k bytes ≡ bytes → token.kind ≡ Name bytes → IsOutside 1 sites others → Refused codes_of.BadStep others
        site_in k lt bytes e w out = BadSite bytes (token ∷ []) others refl (k, lt, e) (record { token = token; only = refl; holds = w }) out

        number_in : (v : Verb) → token.kind ≡ Name (verb_word v) → IsOutside 1 (most_number sites v) others → Refused codes_of.BadStep others
        number_in verbs.Ask w out = session_in 0 (omega arith) (codes "ask") refl w out
        number_in verbs.Order w out = session_in 1 (omega arith) (codes "order") refl w out
        number_in verbs.Move w out = session_in 2 (omega arith) (codes "move") refl w out
        number_in verbs.Deliver w out = site_in 0 (omega arith) (codes "deliver") refl w out
        number_in verbs.Settle w out = site_in 1 (omega arith) (codes "settle") refl w out
        number_in verbs.Catch w out = site_in 2 (omega arith) (codes "catch") refl w out
        number_in verbs.Show w out = site_in 3 (omega arith) (codes "show") refl w out
        number_in verbs.Cut w out = site_in 4 (omega arith) (codes "cut") refl w out

        word_number : (bytes : List ℕ) (at : ℕ) (front : List Token) → token.kind ≡ Name bytes → number at front → (word bytes · number at) (token ∷ front)
        word_number bytes at front w is = record { front = token ∷ []; back = front; whole = refl; first = record { token = token; only = refl; holds = w }; then = is }

        word_number_then : (bytes : List ℕ) (at : ℕ) (Rest : List Token → Type 0) (front back : List Token) → token.kind ≡ Name bytes → number at front → Rest back → (word bytes · number at · Rest) (token ∷ front ++ back)
        word_number_then bytes at Rest front back w is rest = record {
          front = token ∷ [];
          back = front ++ back;
          whole = refl;
          first = record { token = token; only = refl; holds = w };
          then = record { front = front; back = back; whole = refl; first = is; then = rest };
        }

        packet_in : token.kind ≡ Name (codes "deliver") → (code : Code) (here : List Token) (b : BehindNumber (λ rest. PacketRefused sites rest) others code here) → Refused code here
        packet_in w code here b = by_color p.color p.is p.refused
          where
            p : PacketRefused sites b.rest code here
            p = b.refused

            by_color : (c : Color) → p.word.kind ≡ Name (color_word c) → SentRefused sites c p.others code here → Refused code here
            by_color colors.Blue s (inl r) = subst (λ k. Refused k here) (sym r.0) (subst (λ l. Refused codes_of.BadStep l) (sym r.1)
                (BadOrigin b.n (token ∷ b.front ++ p.word ∷ []) p.others (ap (λ l. token ∷ l) (b.whole ∙ ap (λ l. b.front ++ l) p.whole ∙ sym (append_assoc b.front (p.word ∷ []) p.others)))
                (word_number_then (codes "deliver") b.n (λ l. word (codes "blue") l) b.front (p.word ∷ []) w b.is (record { token = p.word; only = refl; holds = s })) r.2))
            by_color colors.Blue s (inr q) = subst (λ k. Refused k here) (sym q.refused.0) (subst (λ l. Refused codes_of.BadStep l) (sym q.refused.1)
                (BadSeq b.n q.n (token ∷ b.front ++ p.word ∷ q.front) q.rest
                (ap (λ l. token ∷ l) (b.whole ∙ ap (λ l. b.front ++ l) (p.whole ∙ ap (λ l. p.word ∷ l) q.whole) ∙ sym (append_assoc b.front (p.word ∷ q.front) q.rest)))
                (word_number_then (codes "deliver") b.n (λ l. (word (codes "blue") · number q.n) l) b.front (p.word ∷ q.front) w b.is
                (record { front = p.word ∷ []; back = q.front; whole = refl; first = record { token = p.word; only = refl; holds = s }; then = q.is })) q.refused.2))
            by_color colors.Red s r = subst (λ k. Refused k here) (sym r.0) (subst (λ l. Refused codes_of.BadStep l) (sym r.1)
                (BadSlot b.n (token ∷ b.front ++ p.word ∷ []) p.others (ap (λ l. token ∷ l) (b.whole ∙ ap (λ l. b.front ++ l) p.whole ∙ sym (append_assoc b.front (p.word ∷ []) p.others)))
                (word_number_then (codes "deliver") b.n (λ l. word (codes "red") l) b.front (p.word ∷ []) w b.is (record { token = p.word; only = refl; holds = s })) r.2))

        tail_in : (v : Verb) → token.kind ≡ Name (verb_word v) → (code : Code) (here : List Token) → BehindNumber (TailRefused v) others code here → Refused code here
        tail_in verbs.Ask w code here b = last.InCall b.n (token ∷ b.front) b.rest code here (ap (λ l. token ∷ l) b.whole) (word_number (codes "ask") b.n b.front w b.is) b.refused
        tail_in verbs.Deliver w code here b = packet_in w code here b
        tail_in verbs.Show w code here b = subst (λ k. Refused k here) (sym b.refused.0) (subst (λ l. Refused codes_of.Unknown l) (sym b.refused.1)
            (last.NoTable b.n (token ∷ b.front) b.rest b.refused.2.0 (ap (λ l. token ∷ l) b.whole) (word_number (codes "show") b.n b.front w b.is) b.refused.2.1 b.refused.2.2))
        tail_in verbs.Move w code here b = subst (λ k. Refused k here) (sym b.refused.0) (subst (λ l. Refused codes_of.BadStep l) (sym b.refused.1)
            (BadTarget b.n (token ∷ b.front) b.rest (ap (λ l. token ∷ l) b.whole) (word_number (codes "move") b.n b.front w b.is) b.refused.2))
        tail_in verbs.Order w code here b = absurd b.refused
        tail_in verbs.Settle w code here b = absurd b.refused
        tail_in verbs.Catch w code here b = absurd b.refused
        tail_in verbs.Cut w code here b = absurd b.refused

        marked_in : (v : Verb) → token.kind ≡ Name (verb_word v) → (code : Code) (here : List Token) → Marked token others v code here → Refused code here
        marked_in v w code here (inl is) = subst (λ k. Refused k here) (sym is.0) (subst (λ l. Refused codes_of.Many l) (sym is.1) (crowd_in v w is.2))
        marked_in v w code here (inr (inl is)) = subst (λ k. Refused k here) (sym is.0) (subst (λ l. Refused codes_of.BadStep l) (sym is.1) (number_in v w is.2))
        marked_in v w code here (inr (inr b)) = tail_in v w code here b

      line_judged : (tokens : List Token) → is_more tokens ≡ true → Judged (Element line tokens) (LineRefused schema txns sites before tokens) tokens (line_from schema txns sites (state before) tokens)
      unfolding line_from
      line_judged [] e = absurd cc
      line_judged (token ∷ others) e = by_verb (verb_of token) refl
        where
          some : token ∷ others ≢ []
          some e = absurd cc

          by_verb : (v : Option Verb) → verb_of token ≡ v
              → Judged (Element line (token ∷ others)) (LineRefused schema txns sites before (token ∷ others)) (token ∷ others) (settled (verb_mark schema txns sites (state before) v token others) (line_at (token ∷ others)))
          by_verb None e = judged_map refl (λ a rest is. is) (λ a rest is. is) into (λ code here is. out code here (sorted token others code here (token ∷ others) refl is))
              (judged_marked line_law (token ∷ others) (λ code here. ⊥) None (no_marks line (token ∷ others)))
            where
              into : (code : Code) (here : List Token) → Standing line_law (token ∷ others) (λ code here. ⊥) code here → LineRefused schema txns sites before (token ∷ others) code here
              into code here (OfMark never) = absurd never
              into code here (Misplaced s is) = subst (λ k. LineRefused schema txns sites before (token ∷ others) k here) (sym s) (last.Misplaced here some is)

              out : (code : Code) (here : List Token) → Sorted token others code here → Standing line_law (token ∷ others) (λ code here. ⊥) code here
              out code here (Placed s is) = Misplaced s is
              out code here (Worded v w is) = let bad : Some v ≡ None = sym (verb_is token v w) ∙ e in absurd cc
          by_verb (Some v) e = judged_map refl (λ a rest is. is) (λ a rest is. is) into (λ code here is. out code here (sorted token others code here (token ∷ others) refl is))
              (judged_marked line_law (token ∷ others) (Marked token others v) (verb_mark schema txns sites (state before) (Some v) token others) (verb_marks token others v (is_verb token v e)))
            where
              into : (code : Code) (here : List Token) → Standing line_law (token ∷ others) (Marked token others v) code here → LineRefused schema txns sites before (token ∷ others) code here
              into code here (OfMark is) = marked_in token others v (is_verb token v e) code here is
              into code here (Misplaced s is) = subst (λ k. LineRefused schema txns sites before (token ∷ others) k here) (sym s) (last.Misplaced here some is)

              out : (code : Code) (here : List Token) → Sorted token others code here → Standing line_law (token ∷ others) (Marked token others v) code here
              out code here (Placed s is) = Misplaced s is
              out code here (Worded w k is) = OfMark (subst (λ x. Marked token others x code here) (one_verb token w v k (is_verb token v e)) is)

    -- the loop

    pub line_shrinks : (s : Steps) (tokens : List Token) (l : Line) (rest : List Token) → is_more tokens ≡ true → line_from schema txns sites s tokens ≡ Ok (l, rest) → length rest < length tokens
    unfolding line_from
    line_shrinks s tokens l rest t e = by_mark (line_mark schema txns sites s tokens) e
      where
        by_front : (front : List Token) → line l front → tokens ≡ front ++ rest → length rest < length tokens
        by_front [] is w = absurd (line_some l is)
        by_front (x ∷ front) is w = omega (arith, ap length w, length-append front rest)

        by_mark : (mark : Option ReadFault) → settled mark (line_at tokens) ≡ Ok (l, rest) → length rest < length tokens
        by_mark (Some fault) e = absurd cc
        by_mark None e = let took = line_law.took tokens l rest e in by_front took.front took.is took.whole

    line_opens : (l : Line) (front rest : List Token) → line l front → is_more (front ++ rest) ≡ true
    line_opens l [] rest is = absurd (line_some l is)
    line_opens l (x ∷ front) rest is = refl

    line_stops : (before : List Line) (tokens : List Token) → is_more tokens ≡ false → AreNone (LineRefused schema txns sites before tokens)
    line_stops before [] t code here is = line_none schema txns sites before code here is
    line_stops before (token ∷ others) t code here is = absurd cc

    pub line_steps : loops.Steps is_more (line_from schema txns sites) with_line state line (LineRefused schema txns sites)
    line_steps = record { judges = line_judged; shrinks = line_shrinks; some = line_some; opens = line_opens; stops = line_stops; adds = state_push }

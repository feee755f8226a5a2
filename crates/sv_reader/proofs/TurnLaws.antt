-- Readings that go on in turns.
use Rattle.std.proofs.Common.{◌≡◌, ◌∙◌, ℕ, zero, suc, ◌<◌, ◌⊎◌, inl, inr, Bool, true, false, if◌then◌else◌, List, [], ◌∷◌, ◌++◌, length, Ok, Err, refl, sym, ap, subst, arith, append_assoc, cond}
use Rattle.std.proofs.lemmas.List.{length-append}
use Rattle.sv_lex.specs.declared.tokens.Token.{Token}
use Rattle.sv_app.specs.declared.refusals.Code.TheVariants.{Many}
use Rattle.sv_reader.specs.declared.faults.ReadFault.{ReadFault}
use Rattle.sv_reader.specs.Reading.{Read, ◌>>=◌, turns_at}
use Rattle.sv_reader.proofs.MatterLaws.{Matter}
use Rattle.sv_reader.proofs.FuelLaws as fuel
use Rattle.sv_reader.proofs.MadeLaws.{Made}
use Rattle.sv_reader.proofs.AnswerLaws.{near, Alike, bound, Bound, bound_err}
use Rattle.sv_reader.proofs.ReadLaws.{Start, Open, Took, StuckAt, OverAt, Misread, Stuck, Over, Passes, Lawful, Plain, start_map, open_map, took_same, stuck_same, read_same, misread_behind}

-- turns, and then the end
pub data Words {S : Type 0} (T : S → S → List Token → Type 0) (E : List Token → Type 0) : S → S → List Token → Type 0 where
  Last : (s : S) (l : List Token) → E l → Words T E s s l
  More : (s m e : S) (front back : List Token) → T s m front → Words T E m e back → Words T E s e (front ++ back)

-- a front that is small, or only promises a turn
abbrev pub Promising : (matter : Matter) → {A : Type 0} → (A → List Token → Type 0) → List Token → Type 0
Promising matter Small front = Open matter Small front ⊎ matter.IsPart [] front

abbrev pub TurnStuck : (matter : Matter) → {A : Type 0} → (A → List Token → Type 0) → (A → List Token → Type 0) → (List Token → Read A) → List Token → ReadFault → Type 0
TurnStuck matter All Small read tokens fault = StuckAt All (Promising matter Small) read tokens fault

abbrev pub TurnOver : (matter : Matter) → {A : Type 0} → (A → List Token → Type 0) → (A → List Token → Type 0) → (List Token → Read A) → List Token → ReadFault → Type 0
TurnOver matter All Small read tokens fault = OverAt matter All (Promising matter Small) read tokens fault

-- what is asked of turns and their end
pub record Turning (matter : Matter) {S : Type 0} (before clash test : List Token → Bool) (turn end : S → List Token → Read S) (T TS : S → S → List Token → Type 0) (E : List Token → Type 0) : Type 0 where
  pub alike : (a b : List Token) → Alike a b → test a ≡ test b
  pub inside : (s m : S) (l : List Token) → TS s m l → T s m l
  pub some : (s m : S) (l : List Token) → TS s m l → l ≡ [] → ⊥
  pub took : (s : S) (tokens : List Token) (m : S) (rest : List Token) → test tokens ≡ true → turn s tokens ≡ Ok (m, rest) → Took (TS s) (turn s) tokens m rest
  pub reads : (s m : S) (front rest : List Token) → TS s m front → before rest ≡ false → turn s (front ++ rest) ≡ Ok (m, rest)
  pub all : (s m : S) (front rest : List Token) → T s m front → before rest ≡ false → (turn s (front ++ rest) ≡ Ok (m, rest)) ⊎ Passes (turn s (front ++ rest))
  pub first : (s m : S) (front rest : List Token) → T s m front → test (front ++ rest) ≡ true
  pub fails : (s : S) (tokens : List Token) (fault : ReadFault) → test tokens ≡ true → turn s tokens ≡ Err fault → TurnStuck matter (T s) (TS s) (turn s) tokens fault ⊎ TurnOver matter (T s) (TS s) (turn s) tokens fault
  pub ends : (s : S) → Plain matter clash (Made (λ (_ : Unit {0}). s) (λ _. E)) (end s)
  pub stop : (l rest : List Token) → E l → clash rest ≡ false → test (l ++ rest) ≡ false
  pub near_turn : (s m : S) (front rest : List Token) → T s m front → before (front ++ rest) ≡ false
  pub near_end : (l rest : List Token) → E l → clash rest ≡ false → before (l ++ rest) ≡ false

length_some : (front rest : List Token) → (front ≡ [] → ⊥) → length rest < length (front ++ rest)
length_some [] rest some = absurd (some refl)
length_some (x ∷ front) rest some = omega (arith, length-append front rest)

module _ {matter : Matter} {S : Type 0} {before clash test : List Token → Bool} {turn end : S → List Token → Read S} {T TS : S → S → List Token → Type 0} {E : List Token → Type 0}
    (law : Turning matter before clash test turn end T TS E) where
  pub shorter : (s : S) (tokens : List Token) (m : S) (rest : List Token) → test tokens ≡ true → turn s tokens ≡ Ok (m, rest) → length rest < length tokens
  shorter s tokens m rest t e = let took = law.took s tokens m rest t e in
      subst (λ l. length rest < length l) (sym took.whole) (length_some took.front rest (law.some s m took.front took.is))

  pub turn_read : (s : S) (tokens : List Token) (m : S) (rest : List Token) → test tokens ≡ true → turn s tokens ≡ Ok (m, rest) → turns_at test turn end s tokens ≡ turns_at test turn end m rest
  turn_read s tokens m rest t e = fuel.turn_read test turn end shorter s tokens m rest t e

  pub turn_err : (s : S) (tokens : List Token) (fault : ReadFault) → test tokens ≡ true → turn s tokens ≡ Err fault → turns_at test turn end s tokens ≡ Err fault
  turn_err s tokens fault t e = fuel.turn_err test turn end shorter s tokens fault t e

  pub end_read : (s : S) (tokens : List Token) → test tokens ≡ false → turns_at test turn end s tokens ≡ end s tokens
  end_read s tokens t = fuel.end_read test turn end shorter s tokens t

  unrolled : (s : S) (tokens : List Token) → turns_at test turn end s tokens ≡ (if test tokens then (turn s tokens >>= λ m rest. turns_at test turn end m rest) else end s tokens)
  unrolled s tokens = fuel.unrolled test turn end shorter s tokens

  last_word : (X : S → S → List Token → Type 0) (s e : S) (l : List Token) → Made (λ (_ : Unit {0}). s) (λ _. E) e l → Words X E s e l
  last_word X s e l m = subst (λ x. Words X E s x l) (sym m.made) (Last s l m.is)

  -- what was read

  by_end : (s : S) (tokens : List Token) (e : S) (rest : List Token) → test tokens ≡ false → end s tokens ≡ Ok (e, rest) → Took (Words TS E s) (turns_at test turn end s) tokens e rest
  by_end s tokens e rest t is =
      took_same tokens e rest (λ l m. last_word TS s e l m) (λ l alike. end_read s l (sym (law.alike tokens l alike) ∙ t)) ((law.ends s).took tokens e rest is)

  by_turn : (s : S) (tokens : List Token) (m : S) (r : List Token) (e : S) (rest : List Token) → test tokens ≡ true → Took (TS s) (turn s) tokens m r → Took (Words TS E m) (turns_at test turn end m) r e rest
      → Took (Words TS E s) (turns_at test turn end s) tokens e rest
  by_turn s tokens m r e rest t first others = record {
    front = first.front ++ others.front;
    whole = first.whole ∙ ap (λ l. first.front ++ l) others.whole ∙ sym (append_assoc first.front others.front rest);
    is = More s m e first.front others.front first.is others.is;
    again = λ last alike.
        let back : Alike r (others.front ++ last) = near others.front rest last r others.whole alike in
        let all : Alike tokens (first.front ++ (others.front ++ last)) = near first.front r (others.front ++ last) tokens first.whole back in
        ap (λ l. turns_at test turn end s l) (append_assoc first.front others.front last)
        ∙ turn_read s (first.front ++ (others.front ++ last)) m (others.front ++ last) (sym (law.alike tokens (first.front ++ (others.front ++ last)) all) ∙ t) (first.again (others.front ++ last) back)
        ∙ others.again last alike;
  }

  took_all : (n : ℕ) (s : S) (tokens : List Token) (e : S) (rest : List Token) → length tokens < n → turns_at test turn end s tokens ≡ Ok (e, rest) → Took (Words TS E s) (turns_at test turn end s) tokens e rest
  took_all zero s tokens e rest lt is = absurd (omega (arith, lt))
  took_all (suc n) s tokens e rest lt is = by_test (λ m r less is. took_all n m r e rest less is) (test tokens) refl (sym (unrolled s tokens) ∙ is)
    where
      by_bound : ((m : S) (r : List Token) → length r < n → turns_at test turn end m r ≡ Ok (e, rest) → Took (Words TS E m) (turns_at test turn end m) r e rest)
          → test tokens ≡ true → Bound (turn s tokens) (λ m r. turns_at test turn end m r) (Ok (e, rest)) → Took (Words TS E s) (turns_at test turn end s) tokens e rest
      by_bound more t b = by_turn s tokens b.item b.rest e rest t (law.took s tokens b.item b.rest t b.is)
          (more b.item b.rest (let less = shorter s tokens b.item b.rest t b.is in omega (arith, less, lt)) b.left)

      by_test : ((m : S) (r : List Token) → length r < n → turns_at test turn end m r ≡ Ok (e, rest) → Took (Words TS E m) (turns_at test turn end m) r e rest) → (b : Bool) → test tokens ≡ b → cond b (turn s tokens >>= λ m r. turns_at test turn end m r) (end s tokens) ≡ Ok (e, rest) → Took (Words TS E s) (turns_at test turn end s) tokens e rest
      by_test more false t is = by_end s tokens e rest t is
      by_test more true t is = by_bound more t (bound (turn s tokens) (λ m r. turns_at test turn end m r) (e, rest) is)

  -- what is in the language

  pub near_words : (s e : S) (l rest : List Token) → Words T E s e l → clash rest ≡ false → before (l ++ rest) ≡ false
  near_words _ _ _ rest (Last s l is) clear = law.near_end l rest is clear
  near_words _ _ _ rest (More s m e front back is others) clear = ap before (append_assoc front back rest) ∙ law.near_turn s m front (back ++ rest) is

  words_inside : (s e : S) (l : List Token) → Words TS E s e l → Words T E s e l
  words_inside _ _ _ (Last s l is) = Last s l is
  words_inside _ _ _ (More s m e front back is others) = More s m e front back (law.inside s m front is) (words_inside m e back others)

  reads_all : (s e : S) (l rest : List Token) → Words TS E s e l → clash rest ≡ false → turns_at test turn end s (l ++ rest) ≡ Ok (e, rest)
  reads_all _ _ _ rest (Last s l is) clear = end_read s (l ++ rest) (law.stop l rest is clear) ∙ (law.ends s).reads s l rest (record { «from» = tt; is = is; made = refl }) clear
  reads_all _ _ _ rest (More s m e front back is others) clear =
      let b : before (back ++ rest) ≡ false = near_words m e back rest (words_inside m e back others) clear in
      ap (λ l. turns_at test turn end s l) (append_assoc front back rest)
      ∙ turn_read s (front ++ (back ++ rest)) m (back ++ rest) (law.first s m front (back ++ rest) (law.inside s m front is)) (law.reads s m front (back ++ rest) is b)
      ∙ reads_all m e back rest others clear

  all_words : (s e : S) (l rest : List Token) → Words T E s e l → clash rest ≡ false → (turns_at test turn end s (l ++ rest) ≡ Ok (e, rest)) ⊎ Passes (turns_at test turn end s (l ++ rest))
  all_words _ _ _ rest (Last s l is) clear = inl (end_read s (l ++ rest) (law.stop l rest is clear) ∙ (law.ends s).reads s l rest (record { «from» = tt; is = is; made = refl }) clear)
  all_words _ _ _ rest (More s m e front back is others) clear =
      read_same (ap (λ l. turns_at test turn end s l) (append_assoc front back rest))
      (by_first (all_words m e back rest others clear) (law.all s m front (back ++ rest) is (near_words m e back rest others clear)))
    where
      by_first : (turns_at test turn end m (back ++ rest) ≡ Ok (e, rest)) ⊎ Passes (turns_at test turn end m (back ++ rest))
          → (turn s (front ++ (back ++ rest)) ≡ Ok (m, back ++ rest)) ⊎ Passes (turn s (front ++ (back ++ rest)))
          → (turns_at test turn end s (front ++ (back ++ rest)) ≡ Ok (e, rest)) ⊎ Passes (turns_at test turn end s (front ++ (back ++ rest)))
      by_first next (inl read) = read_same (turn_read s (front ++ (back ++ rest)) m (back ++ rest) (law.first s m front (back ++ rest) is) read) next
      by_first next (inr many) = inr (record { left = many.left; is = turn_err s (front ++ (back ++ rest)) (record { code = Many; left = many.left }) (law.first s m front (back ++ rest) is) many.is })

  -- where it fails

  abbrev AllMisread : S → List Token → ReadFault → Type 0
  AllMisread s tokens fault = Misread matter (Words T E s) (Open matter (Words TS E s)) (turns_at test turn end s) tokens fault

  end_some : (X : S → S → List Token → Type 0) (s : S) → Start (Words X E s) []
  end_some X s = start_map (λ e. e) (λ e l m. last_word X s e l m) [] (law.ends s).some

  goes_on : (X : S → S → List Token → Type 0) (s : S) (front : List Token) → Start (X s) front → Start (Words X E s) front
  goes_on X s front start = let next = end_some X start.item in record {
    more = start.more ++ next.more;
    item = next.item;
    is = subst (λ l. Words X E s next.item l) (append_assoc front start.more next.more) (More s start.item next.item (front ++ start.more) next.more start.is next.is);
  }

  behind : (X : S → S → List Token → Type 0) (s m : S) (front : List Token) → X s m front → (l : List Token) → Start (Words X E m) l → Start (Words X E s) (front ++ l)
  behind X s m front is l start = record {
    more = start.more;
    item = start.item;
    is = subst (λ x. Words X E s start.item x) (sym (append_assoc front l start.more)) (More s m start.item front (l ++ start.more) is start.is);
  }

  small_turn : (s : S) (front : List Token) → Promising matter (TS s) front → Open matter (Words TS E s) front
  small_turn s front (inl opened) = open_map [] (λ l start. goes_on TS s l start) opened
  small_turn s front (inr part) = record { shorter = []; part = front; whole = refl; start = end_some TS s; is = part }

  -- the first turn, or what stands behind it, is misread

  misread_turn : (s : S) (tokens : List Token) (fault : ReadFault) → test tokens ≡ true → Misread matter (T s) (Promising matter (TS s)) (turn s) tokens fault → AllMisread s tokens fault
  misread_turn s tokens fault t misread = misread_behind [] refl (goes_on T s) (λ front more whole begins small. small_turn s front small)
      (λ last alike other e. turn_err s last other (sym (law.alike tokens last alike) ∙ t) e) misread

  misread_later : (s : S) (tokens : List Token) (m : S) (r : List Token) (fault : ReadFault) → test tokens ≡ true → Took (TS s) (turn s) tokens m r → AllMisread m r fault → AllMisread s tokens fault
  misread_later s tokens m r fault t first misread = misread_behind first.front first.whole (behind T s m first.front (law.inside s m first.front first.is))
      (λ front more whole begins opened. open_map first.front (behind TS s m first.front first.is) opened)
      (λ last alike other e.
      turn_read s (first.front ++ last) m last (sym (law.alike tokens (first.front ++ last) (near first.front r last tokens first.whole alike)) ∙ t) (first.again last alike) ∙ e)
      misread

  fails_all : (n : ℕ) (s : S) (tokens : List Token) (fault : ReadFault) → length tokens < n → turns_at test turn end s tokens ≡ Err fault → AllMisread s tokens fault
  fails_all zero s tokens fault lt is = absurd (omega (arith, lt))
  fails_all (suc n) s tokens fault lt is = by_test (λ m r less is. fails_all n m r fault less is) (test tokens) refl (sym (unrolled s tokens) ∙ is)
    where
      by_bound : ((m : S) (r : List Token) → length r < n → turns_at test turn end m r ≡ Err fault → AllMisread m r fault)
          → test tokens ≡ true → (turn s tokens ≡ Err fault) ⊎ Bound (turn s tokens) (λ m r. turns_at test turn end m r) (Err fault) → AllMisread s tokens fault
      by_bound more t (inl e) = misread_turn s tokens fault t (law.fails s tokens fault t e)
      by_bound more t (inr b) = misread_later s tokens b.item b.rest fault t (law.took s tokens b.item b.rest t b.is)
          (more b.item b.rest (let less = shorter s tokens b.item b.rest t b.is in omega (arith, less, lt)) b.left)

      by_stop : test tokens ≡ false → Stuck matter (Made (λ (_ : Unit {0}). s) (λ _. E)) (Made (λ (_ : Unit {0}). s) (λ _. E)) (end s) tokens fault ⊎ ⊥ → AllMisread s tokens fault
      by_stop t (inl stuck) = inl (stuck_same tokens fault (λ e l m. last_word T s e l m) (λ e l m. last_word TS s e l m) (λ l alike. end_read s l (sym (law.alike tokens l alike) ∙ t)) stuck)
      by_stop t (inr never) = absurd never

      by_test : ((m : S) (r : List Token) → length r < n → turns_at test turn end m r ≡ Err fault → AllMisread m r fault)
          → (b : Bool) → test tokens ≡ b → cond b (turn s tokens >>= λ m r. turns_at test turn end m r) (end s tokens) ≡ Err fault → AllMisread s tokens fault
      by_test more false t is = by_stop t ((law.ends s).fails tokens fault is)
      by_test more true t is = by_bound more t (bound_err (turn s tokens) (λ m r. turns_at test turn end m r) fault is)

  pub turns_law : (s : S) → Lawful matter clash (Words T E s) (Words TS E s) (Over matter (Words T E s) (Words TS E s) (turns_at test turn end s)) (turns_at test turn end s)
  turns_law s = record {
    inside = λ e l is. words_inside s e l is;
    some = end_some TS s;
    took = λ tokens e rest is. took_all (suc (length tokens)) s tokens e rest (omega arith) is;
    reads = λ e front rest is clear. reads_all s e front rest is clear;
    all = λ e front rest is clear. all_words s e front rest is clear;
    fails = λ tokens fault is. fails_all (suc (length tokens)) s tokens fault (omega arith) is;
  }

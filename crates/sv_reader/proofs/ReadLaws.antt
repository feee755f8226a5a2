-- What it means that a reading reads a language, and how readings are put together.
use Rattle.std.proofs.Common.{◌≡◌, ◌∙◌, ℕ, ◌⊎◌, inl, inr, Bool, true, false, if◌then◌else◌, List, [], ◌∷◌, ◌++◌, length, Option, Some, None, Ok, Err, refl, sym, ap, subst, append_assoc, append-nil, cond}
use Rattle.sv_lex.specs.declared.tokens.Token.{Token}
use Rattle.sv_app.specs.declared.refusals.Code.TheVariants.{Syntax, Many}
use Rattle.sv_reader.specs.declared.faults.ReadFault.{ReadFault}
use Rattle.sv_reader.specs.Grammar.{Both, One}
use Rattle.sv_reader.specs.Reading.{Read, ◌>>=◌, refuse, found_at, token_at}
use Rattle.sv_reader.proofs.AnswerLaws.{Alike, alike_behind, near, anything, same_read, Bound, bound, bound_err, then_ok, then_err}
use Rattle.sv_reader.proofs.MatterLaws.{Matter}

-- something may begin with these tokens
pub record Start {A : Type 0} (L : A → List Token → Type 0) (front : List Token) : Type 0 where
  pub more : List Token
  pub item : A
  pub is : L item (front ++ more)

-- the same, but for a part that passes no limit by itself
pub record Open (matter : Matter) {A : Type 0} (L : A → List Token → Type 0) (front : List Token) : Type 0 where
  pub shorter : List Token
  pub part : List Token
  pub whole : front ≡ shorter ++ part
  pub start : Start L shorter
  pub is : matter.IsPart shorter part

-- what was read is in the language, and is read again whatever stands behind it, if that begins alike
pub record Took {A : Type 0} (L : A → List Token → Type 0) (read : List Token → Read A) (tokens : List Token) (item : A) (rest : List Token) : Type 0 where
  pub front : List Token
  pub whole : tokens ≡ front ++ rest
  pub is : L item front
  pub again : (last : List Token) → Alike rest last → read (front ++ last) ≡ Ok (item, last)

-- no rule allows what stands behind the front, of which this holds
pub record StuckAt {A : Type 0} (All : A → List Token → Type 0) (Small : List Token → Type 0) (read : List Token → Read A) (tokens : List Token) (fault : ReadFault) : Type 0 where
  pub front : List Token
  pub rest : List Token
  pub whole : tokens ≡ front ++ rest
  pub place : fault ≡ record { code = Syntax; left = length rest }
  pub small : Small front
  pub begins : Start All front
  pub again : (last : List Token) → Alike rest last → read (front ++ last) ≡ refuse Syntax last

-- the element behind the front, of which this holds, passes a limit
pub record OverAt (matter : Matter) {A : Type 0} (All : A → List Token → Type 0) (Small : List Token → Type 0) (read : List Token → Read A) (tokens : List Token) (fault : ReadFault) : Type 0 where
  pub front : List Token
  pub element : List Token
  pub rest : List Token
  pub whole : tokens ≡ front ++ element ++ rest
  pub place : fault ≡ record { code = Many; left = length (element ++ rest) }
  pub is : matter.IsElement element
  pub small : Small front
  pub begins : Start All (front ++ element)
  pub again : (last : List Token) → read (front ++ element ++ last) ≡ refuse Many (element ++ last)

-- one of the two
abbrev pub Misread : (matter : Matter) → {A : Type 0} → (A → List Token → Type 0) → (List Token → Type 0) → (List Token → Read A) → List Token → ReadFault → Type 0
Misread matter All Small read tokens fault = StuckAt All Small read tokens fault ⊎ OverAt matter All Small read tokens fault

abbrev pub Stuck : (matter : Matter) → {A : Type 0} → (A → List Token → Type 0) → (A → List Token → Type 0) → (List Token → Read A) → List Token → ReadFault → Type 0
Stuck matter All Small read tokens fault = StuckAt All (Open matter Small) read tokens fault

abbrev pub Over : (matter : Matter) → {A : Type 0} → (A → List Token → Type 0) → (A → List Token → Type 0) → (List Token → Read A) → List Token → ReadFault → Type 0
Over matter All Small read tokens fault = OverAt matter All (Open matter Small) read tokens fault

-- something passes a limit
pub record Passes {A : Type 0} (answer : Read A) : Type 0 where
  pub left : ℕ
  pub is : answer ≡ Err (record { code = Many; left = left })

-- no fault but those of place
abbrev pub none : List Token → ReadFault → Type 0
none tokens fault = ⊥

-- A reading, which may not be followed by what clashes, reads all of a language but what isn't small
pub record Lawful (matter : Matter) {A : Type 0} (clash : List Token → Bool) (All Small : A → List Token → Type 0) (Bad : List Token → ReadFault → Type 0) (read : List Token → Read A) : Type 0 where
  pub inside : (item : A) (tokens : List Token) → Small item tokens → All item tokens
  pub some : Start Small []
  pub took : (tokens : List Token) (item : A) (rest : List Token) → read tokens ≡ Ok (item, rest) → Took Small read tokens item rest
  pub reads : (item : A) (front rest : List Token) → Small item front → clash rest ≡ false → read (front ++ rest) ≡ Ok (item, rest)
  pub all : (item : A) (front rest : List Token) → All item front → clash rest ≡ false → (read (front ++ rest) ≡ Ok (item, rest)) ⊎ Passes (read (front ++ rest))
  pub fails : (tokens : List Token) (fault : ReadFault) → read tokens ≡ Err fault → Stuck matter All Small read tokens fault ⊎ Bad tokens fault

-- where all is small
abbrev pub Plain : Matter → {A : Type 0} → (List Token → Bool) → (A → List Token → Type 0) → (List Token → Read A) → Type 0
Plain matter clash L read = Lawful matter clash L L none read

pub open_start : {matter : Matter} {A : Type 0} {L : A → List Token → Type 0} {front : List Token} → Start L front → Open matter L front
open_start {matter} {A} {L} {front} start = record { shorter = front; part = []; whole = sym (append-nil front); start = start; is = matter.empty front }

-- what may begin does so also as a part of something larger
pub open_map : {matter : Matter} {A B : Type 0} {L : A → List Token → Type 0} {M : B → List Token → Type 0} (pre : List Token) {front : List Token}
    → ((shorter : List Token) → Start L shorter → Start M (pre ++ shorter)) → Open matter L front → Open matter M (pre ++ front)
open_map {matter} {A} {B} {L} {M} pre {front} map opened = record {
  shorter = pre ++ opened.shorter;
  part = opened.part;
  whole = ap (λ l. pre ++ l) opened.whole ∙ sym (append_assoc pre opened.shorter opened.part);
  start = map opened.shorter opened.start;
  is = matter.behind pre opened.shorter opened.part opened.is;
}

-- one token that means something
abbrev pub Means : {A : Type 0} → (Token → Option A) → A → List Token → Type 0
Means meaning item = One (λ token. meaning token ≡ Some item)

-- a token of this kind, and its place
leaf_found : {A : Type 0} (meaning : Token → Option A) (token : Token) (rest : List Token) (item : A) → meaning token ≡ Some item → token_at meaning (token ∷ rest) ≡ Ok (item, rest)
leaf_found {A} meaning token rest item e = ap (λ (found : Option A). found_at found token rest) e

leaf_took : {A : Type 0} (meaning : Token → Option A) (tokens : List Token) (item : A) (rest : List Token) → token_at meaning tokens ≡ Ok (item, rest) → Took (Means meaning) (token_at meaning) tokens item rest
leaf_took meaning [] item rest e = absurd cc
leaf_took {A} meaning (token ∷ others) item rest e = by_meaning (meaning token) refl e
  where
    by_meaning : (found : Option A) → meaning token ≡ found → found_at found token others ≡ Ok (item, rest) → Took (Means meaning) (token_at meaning) (token ∷ others) item rest
    by_meaning None m e = absurd cc
    by_meaning (Some a) m e =
        let same = same_read e in
        let is : meaning token ≡ Some item = m ∙ ap Some same.item in
        record {
          front = token ∷ [];
          whole = ap (λ l. token ∷ l) same.rests;
          is = record { token = token; only = refl; holds = is };
          again = λ last alike. leaf_found meaning token last item is;
        }

leaf_fails : {matter : Matter} {A : Type 0} (meaning : Token → Option A) (token : Token) (item : A) → meaning token ≡ Some item
    → (tokens : List Token) (fault : ReadFault) → token_at meaning tokens ≡ Err fault → Stuck matter (Means meaning) (Means meaning) (token_at meaning) tokens fault
leaf_fails {matter} {A} meaning sample item m tokens fault e = by_tokens tokens e
  where
    some : Start (Means meaning) []
    some = record { more = sample ∷ []; item = item; is = record { token = sample; only = refl; holds = m } }

    by_meaning : (token : Token) (others : List Token) (found : Option A) → meaning token ≡ found → found_at found token others ≡ Err fault → Stuck matter (Means meaning) (Means meaning) (token_at meaning) (token ∷ others) fault
    by_meaning token others (Some a) m e = absurd cc
    by_meaning token others None m e = record {
      front = [];
      rest = token ∷ others;
      whole = refl;
      place = let same : record { code = Syntax; left = length (token ∷ others) } ≡ fault = cc in sym same;
      small = open_start some;
      begins = some;
      again = again;
    }
      where
        again : (last : List Token) → Alike (token ∷ others) last → token_at meaning last ≡ refuse Syntax last
        again [] alike = absurd alike
        again (other ∷ last) alike = ap (λ (found : Option A). found_at found other last) (ap meaning (sym alike) ∙ m)

    by_tokens : (tokens : List Token) → token_at meaning tokens ≡ Err fault → Stuck matter (Means meaning) (Means meaning) (token_at meaning) tokens fault
    by_tokens (token ∷ others) e = by_meaning token others (meaning token) refl e
    by_tokens [] e = record {
      front = [];
      rest = [];
      whole = refl;
      place = let same : record { code = Syntax; left = 0 } ≡ fault = cc in sym same;
      small = open_start some;
      begins = some;
      again = again;
    }
      where
        again : (last : List Token) → Alike [] last → token_at meaning last ≡ refuse Syntax last
        again [] alike = refl
        again (other ∷ last) alike = absurd alike

pub leaf : (matter : Matter) {A : Type 0} (clash : List Token → Bool) (meaning : Token → Option A) (token : Token) (item : A) → meaning token ≡ Some item → Plain matter clash (Means meaning) (token_at meaning)
leaf matter {A} clash meaning token item m = record {
  inside = λ a tokens is. is;
  some = record { more = token ∷ []; item = item; is = record { token = token; only = refl; holds = m } };
  took = leaf_took meaning;
  reads = reads;
  all = λ a front rest is ends. inl (reads a front rest is ends);
  fails = λ tokens fault e. inl (leaf_fails meaning token item m tokens fault e);
}
  where
    reads : (a : A) (front rest : List Token) → Means meaning a front → clash rest ≡ false → token_at meaning (front ++ rest) ≡ Ok (a, rest)
    reads a front rest is clear = ap (λ l. token_at meaning (l ++ rest)) is.only ∙ leaf_found meaning is.token rest a is.holds

-- nothing, which is always the same
pub record Is {A : Type 0} (same item : A) (tokens : List Token) : Type 0 where
  pub empty : tokens ≡ []
  pub is : item ≡ same

pub ret : (matter : Matter) {A : Type 0} (clash : List Token → Bool) (same : A) → Plain matter clash (Is same) (λ tokens. Ok (same, tokens))
ret matter {A} clash same = record {
  inside = λ a tokens is. is;
  some = record { more = []; item = same; is = record { empty = refl; is = refl } };
  took = λ tokens item rest e. let s = same_read e in record {
    front = [];
    whole = s.rests;
    is = record { empty = refl; is = sym s.item };
    again = λ last alike. ap (λ (a : A). Ok (a, last)) s.item;
  };
  reads = reads;
  all = λ a front rest is ends. inl (reads a front rest is ends);
  fails = λ tokens fault e. absurd cc;
}
  where
    reads : (a : A) (front rest : List Token) → Is same a front → clash rest ≡ false → ◌≡◌ {A = Read A} (Ok (same, front ++ rest)) (Ok (a, rest))
    reads a front rest is clear = ap (λ (l : List Token). Ok (same, l ++ rest)) is.empty ∙ ap (λ (b : A). Ok (b, rest)) (sym is.is)

-- a part and, behind it, one that may depend on it
pub record Then {A B : Type 0} (P : A → List Token → Type 0) (Q : A → B → List Token → Type 0) (item : B) (tokens : List Token) : Type 0 where
  pub head : A
  pub parts : Both (P head) (Q head item) tokens

pub then_parts : {A B : Type 0} (P : A → List Token → Type 0) (Q : A → B → List Token → Type 0) (head : A) (item : B) (front back : List Token)
    → P head front → Q head item back → Then P Q item (front ++ back)
then_parts P Q head item front back p q = record { head = head; parts = record { front = front; back = back; whole = refl; first = p; then = q } }

pub alike_element : (matter : Matter) {element : List Token} (front : List Token) → matter.IsElement element → (rest last : List Token) → Alike (front ++ element ++ rest) (front ++ element ++ last)
alike_element matter {element} front is rest last = let some = matter.headed element is in
    subst (λ l. Alike l (front ++ element ++ last)) (sym (append_assoc front element rest)) (subst (λ l. Alike (front ++ (element ++ rest)) l) (sym (append_assoc front element last))
    (alike_behind front (element ++ rest) (element ++ last) (subst (λ l. Alike (l ++ rest) (l ++ last)) (sym some.whole) refl)))

-- what was misread behind other tokens

pub regroup : (before front element l : List Token) → before ++ (front ++ element ++ l) ≡ before ++ front ++ element ++ l
regroup before front element l = sym (append_assoc before (front ++ element) l) ∙ ap (λ x. x ++ l) (sym (append_assoc before front element))

pub start_less : {A : Type 0} {L : A → List Token → Type 0} (front element : List Token) → Start L (front ++ element) → Start L front
start_less {A} {L} front element start = record { more = element ++ start.more; item = start.item; is = subst (λ l. L start.item l) (append_assoc front element start.more) start.is }

pub stuck_behind : {A B : Type 0} {P : A → List Token → Type 0} {Q : B → List Token → Type 0} {Small Whole : List Token → Type 0} {p : List Token → Read A} {q : List Token → Read B} {tokens rest : List Token} {fault : ReadFault}
    (before : List Token) → tokens ≡ before ++ rest → ((l : List Token) → Start P l → Start Q (before ++ l))
    → ((front more : List Token) → rest ≡ front ++ more → Start P front → Small front → Whole (before ++ front))
    → ((last : List Token) → Alike rest last → (other : ReadFault) → p last ≡ Err other → q (before ++ last) ≡ Err other) → StuckAt P Small p rest fault → StuckAt Q Whole q tokens fault
stuck_behind {A} {B} {P} {Q} {Small} {Whole} {p} {q} {tokens} {rest} {fault} before whole start small same stuck = record {
  front = before ++ stuck.front;
  rest = stuck.rest;
  whole = whole ∙ ap (λ l. before ++ l) stuck.whole ∙ sym (append_assoc before stuck.front stuck.rest);
  place = stuck.place;
  small = small stuck.front stuck.rest stuck.whole stuck.begins stuck.small;
  begins = start stuck.front stuck.begins;
  again = λ last alike. ap q (append_assoc before stuck.front last)
      ∙ same (stuck.front ++ last) (near stuck.front stuck.rest last rest stuck.whole alike) (record { code = Syntax; left = length last }) (stuck.again last alike);
}

pub over_behind : {matter : Matter} {A B : Type 0} {P : A → List Token → Type 0} {Q : B → List Token → Type 0} {Small Whole : List Token → Type 0} {p : List Token → Read A} {q : List Token → Read B} {tokens rest : List Token} {fault : ReadFault}
    (before : List Token) → tokens ≡ before ++ rest → ((l : List Token) → Start P l → Start Q (before ++ l))
    → ((front more : List Token) → rest ≡ front ++ more → Start P front → Small front → Whole (before ++ front))
    → ((last : List Token) → Alike rest last → (other : ReadFault) → p last ≡ Err other → q (before ++ last) ≡ Err other) → OverAt matter P Small p rest fault → OverAt matter Q Whole q tokens fault
over_behind {matter} {A} {B} {P} {Q} {Small} {Whole} {p} {q} {tokens} {rest} {fault} before whole start small same over = record {
  front = before ++ over.front;
  element = over.element;
  rest = over.rest;
  whole = whole ∙ ap (λ l. before ++ l) over.whole ∙ regroup before over.front over.element over.rest;
  place = over.place;
  is = over.is;
  small = small over.front (over.element ++ over.rest) (over.whole ∙ append_assoc over.front over.element over.rest) (start_less over.front over.element over.begins) over.small;
  begins = subst (λ l. Start Q l) (sym (append_assoc before over.front over.element)) (start (over.front ++ over.element) over.begins);
  again = λ last.
      let alike : Alike rest (over.front ++ over.element ++ last) = subst (λ l. Alike l (over.front ++ over.element ++ last)) (sym over.whole) (alike_element matter over.front over.is over.rest last) in
      ap q (sym (regroup before over.front over.element last)) ∙ same (over.front ++ over.element ++ last) alike (record { code = Many; left = length (over.element ++ last) }) (over.again last);
}

pub misread_behind : {matter : Matter} {A B : Type 0} {P : A → List Token → Type 0} {Q : B → List Token → Type 0} {Small Whole : List Token → Type 0} {p : List Token → Read A} {q : List Token → Read B} {tokens rest : List Token} {fault : ReadFault}
    (before : List Token) → tokens ≡ before ++ rest → ((l : List Token) → Start P l → Start Q (before ++ l))
    → ((front more : List Token) → rest ≡ front ++ more → Start P front → Small front → Whole (before ++ front))
    → ((last : List Token) → Alike rest last → (other : ReadFault) → p last ≡ Err other → q (before ++ last) ≡ Err other) → Misread matter P Small p rest fault → Misread matter Q Whole q tokens fault
misread_behind before whole start small same (inl stuck) = inl (stuck_behind before whole start small same stuck)
misread_behind before whole start small same (inr over) = inr (over_behind before whole start small same over)

-- one reading behind another

pub took_then : {A B : Type 0} {P : A → List Token → Type 0} {Q : A → B → List Token → Type 0} (p : List Token → Read A) (q : A → List Token → Read B)
    (tokens : List Token) (head : A) (rest : List Token) (item : B) (last : List Token)
    → Took P p tokens head rest → Took (Q head) (q head) rest item last → Took (Then P Q) (λ l. p l >>= q) tokens item last
took_then {A} {B} {P} {Q} p q tokens head rest item last first second = record {
  front = first.front ++ second.front;
  whole = first.whole ∙ ap (λ l. first.front ++ l) second.whole ∙ sym (append_assoc first.front second.front last);
  is = then_parts P Q head item first.front second.front first.is second.is;
  again = λ other alike.
      let near : Alike rest (second.front ++ other) = subst (λ l. Alike l (second.front ++ other)) (sym second.whole) (alike_behind second.front last other alike) in
      ap (λ l. p l >>= q) (append_assoc first.front second.front other) ∙ then_ok q (first.again (second.front ++ other) near) ∙ second.again other alike;
}

-- the first of two parts may begin, and so may the second behind a first one

pub start_first : {A B : Type 0} (P : A → List Token → Type 0) (Q : A → B → List Token → Type 0) → ((a : A) → Start (Q a) []) → (front : List Token) → Start P front → Start (Then P Q) front
start_first P Q some front start = let next = some start.item in record {
  more = start.more ++ next.more;
  item = next.item;
  is = subst (λ l. Then P Q next.item l) (append_assoc front start.more next.more) (then_parts P Q start.item next.item (front ++ start.more) next.more start.is next.is);
}

pub start_behind : {A B : Type 0} (P : A → List Token → Type 0) (Q : A → B → List Token → Type 0) (head : A) (before : List Token) → P head before → (front : List Token) → Start (Q head) front → Start (Then P Q) (before ++ front)
start_behind P Q head before is front start = record {
  more = start.more;
  item = start.item;
  is = subst (λ l. Then P Q start.item l) (sym (append_assoc before front start.more)) (then_parts P Q head start.item before (front ++ start.more) is start.is);
}

-- the first of two parts is stuck
stuck_first : {matter : Matter} {A B : Type 0} {P PS : A → List Token → Type 0} {Q QS : A → B → List Token → Type 0} (p : List Token → Read A) (q : A → List Token → Read B)
    → ((a : A) → Start (Q a) []) → ((a : A) → Start (QS a) []) → (tokens : List Token) (fault : ReadFault)
    → Stuck matter P PS p tokens fault → Stuck matter (Then P Q) (Then PS QS) (λ l. p l >>= q) tokens fault
stuck_first {matter} {A} {B} {P} {PS} {Q} {QS} p q some small tokens fault stuck = stuck_behind [] refl (start_first P Q some)
    (λ front more whole begins opened. open_map [] (start_first PS QS small) opened) (λ last alike other e. then_err q e) stuck

-- the second of two parts is stuck
stuck_second : {matter : Matter} {A B : Type 0} {P PS : A → List Token → Type 0} {Q QS : A → B → List Token → Type 0} (p : List Token → Read A) (q : A → List Token → Read B)
    (tokens : List Token) (head : A) (rest : List Token) (fault : ReadFault)
    → ((l : List Token) → PS head l → P head l) → Took PS p tokens head rest → Stuck matter (Q head) (QS head) (q head) rest fault → Stuck matter (Then P Q) (Then PS QS) (λ l. p l >>= q) tokens fault
stuck_second {matter} {A} {B} {P} {PS} {Q} {QS} p q tokens head rest fault inside first stuck = stuck_behind first.front first.whole (start_behind P Q head first.front (inside first.front first.is))
    (λ front more whole begins opened. open_map first.front (start_behind PS QS head first.front first.is) opened) (λ last alike other e. then_ok q (first.again last alike) ∙ e) stuck

-- an answer that is the same
pub read_same : {A : Type 0} {a : A} {rest : List Token} {x y : Read A} → x ≡ y → (y ≡ Ok (a, rest)) ⊎ Passes y → (x ≡ Ok (a, rest)) ⊎ Passes x
read_same same (inl is) = inl (same ∙ is)
read_same same (inr many) = inr (record { left = many.left; is = same ∙ many.is })

pub after : {matter : Matter} {A B : Type 0} {before clash : List Token → Bool} {P PS : A → List Token → Type 0} {Q QS : A → B → List Token → Type 0} {PBad Bad : List Token → ReadFault → Type 0} {QBad : A → List Token → ReadFault → Type 0}
    {p : List Token → Read A} {q : A → List Token → Read B}
    → Lawful matter before P PS PBad p → ((a : A) → Lawful matter clash (Q a) (QS a) (QBad a) (q a))
    → ((a : A) (b : B) (tokens rest : List Token) → Q a b tokens → clash rest ≡ false → before (tokens ++ rest) ≡ false)
    → ((tokens : List Token) (fault : ReadFault) → PBad tokens fault → Bad tokens fault)
    → ((tokens : List Token) (a : A) (rest : List Token) (fault : ReadFault) → Took PS p tokens a rest → QBad a rest fault → Bad tokens fault)
    → Lawful matter clash (Then P Q) (Then PS QS) Bad (λ tokens. p tokens >>= q)
after {matter} {A} {B} {before} {clash} {P} {PS} {Q} {QS} {PBad} {Bad} {QBad} {p} {q} first second clear bad worse = record {
  inside = λ b tokens is. record {
    head = is.head;
    parts = record {
      front = is.parts.front;
      back = is.parts.back;
      whole = is.parts.whole;
      first = first.inside is.head is.parts.front is.parts.first;
      then = (second is.head).inside b is.parts.back is.parts.then;
    };
  };
  some = let a = first.some in let b = (second a.item).some in record { more = a.more ++ b.more; item = b.item; is = then_parts PS QS a.item b.item a.more b.more a.is b.is };
  took = took;
  reads = reads;
  all = all;
  fails = fails;
}
  where
    took : (tokens : List Token) (item : B) (rest : List Token) → p tokens >>= q ≡ Ok (item, rest) → Took (Then PS QS) (λ l. p l >>= q) tokens item rest
    took tokens item rest e = let b = bound (p tokens) q (item, rest) e in
        took_then p q tokens b.item b.rest item rest (first.took tokens b.item b.rest b.is) ((second b.item).took b.rest item rest b.left)

    near : (a : A) (b : B) (back rest : List Token) → Q a b back → clash rest ≡ false → before (back ++ rest) ≡ false
    near a b back rest is ends = clear a b back rest is ends

    parts_whole : (P : A → List Token → Type 0) (Q : A → B → List Token → Type 0) (b : B) (front rest : List Token) (is : Then P Q b front) → front ++ rest ≡ is.parts.front ++ (is.parts.back ++ rest)
    parts_whole P Q b front rest is = ap (λ l. l ++ rest) is.parts.whole ∙ append_assoc is.parts.front is.parts.back rest

    reads : (b : B) (front rest : List Token) → Then PS QS b front → clash rest ≡ false → p (front ++ rest) >>= q ≡ Ok (b, rest)
    reads b front rest is ends =
        let next : before (is.parts.back ++ rest) ≡ false = near is.head b is.parts.back rest ((second is.head).inside b is.parts.back is.parts.then) ends in
        ap (λ l. p l >>= q) (parts_whole PS QS b front rest is)
        ∙ then_ok q (first.reads is.head is.parts.front (is.parts.back ++ rest) is.parts.first next) ∙ (second is.head).reads b is.parts.back rest is.parts.then ends

    all : (b : B) (front rest : List Token) → Then P Q b front → clash rest ≡ false → (p (front ++ rest) >>= q ≡ Ok (b, rest)) ⊎ Passes (p (front ++ rest) >>= q)
    all b front rest is ends =
        subst (λ l. (p l >>= q ≡ Ok (b, rest)) ⊎ Passes (p l >>= q)) (sym (parts_whole P Q b front rest is))
        (by_first (first.all is.head is.parts.front (is.parts.back ++ rest) is.parts.first (near is.head b is.parts.back rest is.parts.then ends)))
      where
        by_first : (p (is.parts.front ++ (is.parts.back ++ rest)) ≡ Ok (is.head, is.parts.back ++ rest)) ⊎ Passes (p (is.parts.front ++ (is.parts.back ++ rest)))
            → (p (is.parts.front ++ (is.parts.back ++ rest)) >>= q ≡ Ok (b, rest)) ⊎ Passes (p (is.parts.front ++ (is.parts.back ++ rest)) >>= q)
        by_first (inl e) = read_same (then_ok q e) ((second is.head).all b is.parts.back rest is.parts.then ends)
        by_first (inr many) = inr (record { left = many.left; is = then_err q many.is })

    fails : (tokens : List Token) (fault : ReadFault) → p tokens >>= q ≡ Err fault → Stuck matter (Then P Q) (Then PS QS) (λ l. p l >>= q) tokens fault ⊎ Bad tokens fault
    fails tokens fault e = by_first (bound_err (p tokens) q fault e)
      where
        by_stuck : Stuck matter P PS p tokens fault ⊎ PBad tokens fault → Stuck matter (Then P Q) (Then PS QS) (λ l. p l >>= q) tokens fault ⊎ Bad tokens fault
        by_stuck (inl stuck) = inl (stuck_first p q (λ a. let s = (second a).some in record { more = s.more; item = s.item; is = (second a).inside s.item s.more s.is }) (λ a. (second a).some) tokens fault stuck)
        by_stuck (inr is) = inr (bad tokens fault is)

        by_second : (b : Bound (p tokens) q (Err fault)) → Stuck matter (Q b.item) (QS b.item) (q b.item) b.rest fault ⊎ QBad b.item b.rest fault → Stuck matter (Then P Q) (Then PS QS) (λ l. p l >>= q) tokens fault ⊎ Bad tokens fault
        by_second b (inl stuck) = inl (stuck_second p q tokens b.item b.rest fault (λ l. first.inside b.item l) (first.took tokens b.item b.rest b.is) stuck)
        by_second b (inr is) = inr (worse tokens b.item b.rest fault (first.took tokens b.item b.rest b.is) is)

        by_first : (p tokens ≡ Err fault) ⊎ Bound (p tokens) q (Err fault) → Stuck matter (Then P Q) (Then PS QS) (λ l. p l >>= q) tokens fault ⊎ Bad tokens fault
        by_first (inl e) = by_stuck (first.fails tokens fault e)
        by_first (inr b) = by_second b ((second b.item).fails b.rest fault b.left)

-- where the next token chooses between two readings
pub data Either {A : Type 0} (P Q : A → List Token → Type 0) (item : A) (tokens : List Token) : Type 0 where
  Left : P item tokens → Either P Q item tokens
  Right : Q item tokens → Either P Q item tokens

pub took_same : {A : Type 0} {L M : A → List Token → Type 0} {r s : List Token → Read A} (tokens : List Token) (item : A) (rest : List Token)
    → ((l : List Token) → L item l → M item l) → ((l : List Token) → Alike tokens l → s l ≡ r l) → Took L r tokens item rest → Took M s tokens item rest
took_same {A} {L} {M} {r} {s} tokens item rest into same took = record {
  front = took.front;
  whole = took.whole;
  is = into took.front took.is;
  again = λ last alike. same (took.front ++ last) (subst (λ l. Alike l (took.front ++ last)) (sym took.whole) (alike_behind took.front rest last alike)) ∙ took.again last alike;
}

pub start_map : {A B : Type 0} {L : A → List Token → Type 0} {M : B → List Token → Type 0} (f : A → B) → ((a : A) (l : List Token) → L a l → M (f a) l) → (front : List Token) → Start L front → Start M front
start_map f into front start = record { more = start.more; item = f start.item; is = into start.item (front ++ start.more) start.is }

pub stuck_same : {matter : Matter} {A : Type 0} {P PS Q QS : A → List Token → Type 0} {r s : List Token → Read A} (tokens : List Token) (fault : ReadFault)
    → ((a : A) (l : List Token) → P a l → Q a l) → ((a : A) (l : List Token) → PS a l → QS a l) → ((l : List Token) → Alike tokens l → s l ≡ r l) → Stuck matter P PS r tokens fault → Stuck matter Q QS s tokens fault
stuck_same {matter} {A} {P} {PS} {Q} {QS} {r} {s} tokens fault into small same stuck = stuck_behind [] refl (start_map (λ a. a) into)
    (λ front more whole begins opened. open_map [] (start_map (λ a. a) small) opened) (λ last alike other e. same last alike ∙ e) stuck

pub either : {matter : Matter} {A : Type 0} {clash : List Token → Bool} {P PS Q QS : A → List Token → Type 0} {PBad QBad Bad : List Token → ReadFault → Type 0} {p q : List Token → Read A} (test : List Token → Bool)
    → ((a b : List Token) → Alike a b → test a ≡ test b)
    → Lawful matter clash P PS PBad p → Lawful matter clash Q QS QBad q
    → ((a : A) (front rest : List Token) → P a front → test (front ++ rest) ≡ true)
    → ((a : A) (front rest : List Token) → Q a front → clash rest ≡ false → test (front ++ rest) ≡ false)
    → ((tokens : List Token) (fault : ReadFault) → test tokens ≡ true → PBad tokens fault → Bad tokens fault) → ((tokens : List Token) (fault : ReadFault) → test tokens ≡ false → QBad tokens fault → Bad tokens fault)
    → Lawful matter clash (Either P Q) (Either PS QS) Bad (λ tokens. if test tokens then p tokens else q tokens)
either {matter} {A} {clash} {P} {PS} {Q} {QS} {PBad} {QBad} {Bad} {p} {q} test same left right first other lbad rbad = record {
  inside = inside;
  some = start_map (λ a. a) (λ a l is. Left is) [] left.some;
  took = λ tokens item rest e. by_took tokens item rest (test tokens) refl e;
  reads = reads;
  all = all;
  fails = λ tokens fault e. by_fails tokens fault (test tokens) refl e;
}
  where
    yes_read : (tokens : List Token) → test tokens ≡ true → cond (test tokens) (p tokens) (q tokens) ≡ p tokens
    yes_read tokens e = ap (λ b. cond b (p tokens) (q tokens)) e

    no_read : (tokens : List Token) → test tokens ≡ false → cond (test tokens) (p tokens) (q tokens) ≡ q tokens
    no_read tokens e = ap (λ b. cond b (p tokens) (q tokens)) e

    inside : (a : A) (tokens : List Token) → Either PS QS a tokens → Either P Q a tokens
    inside a tokens (Left is) = Left (left.inside a tokens is)
    inside a tokens (Right is) = Right (right.inside a tokens is)

    by_took : (tokens : List Token) (item : A) (rest : List Token) (b : Bool) → test tokens ≡ b → cond b (p tokens) (q tokens) ≡ Ok (item, rest)
        → Took (Either PS QS) (λ l. if test l then p l else q l) tokens item rest
    by_took tokens item rest true t e = took_same tokens item rest (λ l is. Left is) (λ l alike. yes_read l (sym (same tokens l alike) ∙ t)) (left.took tokens item rest e)
    by_took tokens item rest false t e = took_same tokens item rest (λ l is. Right is) (λ l alike. no_read l (sym (same tokens l alike) ∙ t)) (right.took tokens item rest e)

    reads : (a : A) (front rest : List Token) → Either PS QS a front → clash rest ≡ false → cond (test (front ++ rest)) (p (front ++ rest)) (q (front ++ rest)) ≡ Ok (a, rest)
    reads a front rest (Left is) ends = yes_read (front ++ rest) (first a front rest (left.inside a front is)) ∙ left.reads a front rest is ends
    reads a front rest (Right is) ends = no_read (front ++ rest) (other a front rest (right.inside a front is) ends) ∙ right.reads a front rest is ends

    all : (a : A) (front rest : List Token) → Either P Q a front → clash rest ≡ false
        → (cond (test (front ++ rest)) (p (front ++ rest)) (q (front ++ rest)) ≡ Ok (a, rest)) ⊎ Passes (cond (test (front ++ rest)) (p (front ++ rest)) (q (front ++ rest)))
    all a front rest (Left is) ends = read_same (yes_read (front ++ rest) (first a front rest is)) (left.all a front rest is ends)
    all a front rest (Right is) ends = read_same (no_read (front ++ rest) (other a front rest is ends)) (right.all a front rest is ends)

    left_fails : (tokens : List Token) (fault : ReadFault) → test tokens ≡ true → Stuck matter P PS p tokens fault ⊎ PBad tokens fault → Stuck matter (Either P Q) (Either PS QS) (λ l. if test l then p l else q l) tokens fault ⊎ Bad tokens fault
    left_fails tokens fault t (inl stuck) = inl (stuck_same tokens fault (λ a l is. Left is) (λ a l is. Left is) (λ l alike. yes_read l (sym (same tokens l alike) ∙ t)) stuck)
    left_fails tokens fault t (inr is) = inr (lbad tokens fault t is)

    right_fails : (tokens : List Token) (fault : ReadFault) → test tokens ≡ false → Stuck matter Q QS q tokens fault ⊎ QBad tokens fault → Stuck matter (Either P Q) (Either PS QS) (λ l. if test l then p l else q l) tokens fault ⊎ Bad tokens fault
    right_fails tokens fault t (inl stuck) = inl (stuck_same tokens fault (λ a l is. Right is) (λ a l is. Right is) (λ l alike. no_read l (sym (same tokens l alike) ∙ t)) stuck)
    right_fails tokens fault t (inr is) = inr (rbad tokens fault t is)

    by_fails : (tokens : List Token) (fault : ReadFault) (b : Bool) → test tokens ≡ b → cond b (p tokens) (q tokens) ≡ Err fault → Stuck matter (Either P Q) (Either PS QS) (λ l. if test l then p l else q l) tokens fault ⊎ Bad tokens fault
    by_fails tokens fault true t e = left_fails tokens fault t (left.fails tokens fault e)
    by_fails tokens fault false t e = right_fails tokens fault t (right.fails tokens fault e)

-- a reading of the same languages, and one that answers the same
pub same_languages : {matter : Matter} {A : Type 0} {clash : List Token → Bool} {P PS Q QS : A → List Token → Type 0} {PBad Bad : List Token → ReadFault → Type 0} {read : List Token → Read A}
    → Lawful matter clash P PS PBad read
    → ((a : A) (l : List Token) → P a l → Q a l) → ((a : A) (l : List Token) → Q a l → P a l) → ((a : A) (l : List Token) → PS a l → QS a l) → ((a : A) (l : List Token) → QS a l → PS a l)
    → ((tokens : List Token) (fault : ReadFault) → PBad tokens fault → Bad tokens fault) → Lawful matter clash Q QS Bad read
same_languages {matter} {A} {clash} {P} {PS} {Q} {QS} {PBad} {Bad} {read} law into out small_into small_out bad = record {
  inside = λ a l is. into a l (law.inside a l (small_out a l is));
  some = start_map (λ a. a) small_into [] law.some;
  took = λ tokens item rest e. took_same tokens item rest (λ l is. small_into item l is) (λ l alike. refl) (law.took tokens item rest e);
  reads = λ a front rest is ends. law.reads a front rest (small_out a front is) ends;
  all = λ a front rest is ends. law.all a front rest (out a front is) ends;
  fails = λ tokens fault e. by_fails tokens fault (law.fails tokens fault e);
}
  where
    by_fails : (tokens : List Token) (fault : ReadFault) → Stuck matter P PS read tokens fault ⊎ PBad tokens fault → Stuck matter Q QS read tokens fault ⊎ Bad tokens fault
    by_fails tokens fault (inl stuck) = inl (stuck_same tokens fault into small_into (λ l alike. refl) stuck)
    by_fails tokens fault (inr is) = inr (bad tokens fault is)

-- the same for a language that is small as a whole
pub same_plain : {matter : Matter} {A : Type 0} {clash : List Token → Bool} {P Q : A → List Token → Type 0} {read : List Token → Read A}
    → Plain matter clash P read → ((a : A) (l : List Token) → P a l → Q a l) → ((a : A) (l : List Token) → Q a l → P a l) → Plain matter clash Q read
same_plain {matter} law into out = same_languages law into out into out (λ tokens fault is. is)

pub same_reading : {matter : Matter} {A : Type 0} {clash : List Token → Bool} {P PS : A → List Token → Type 0} {Bad : List Token → ReadFault → Type 0} {r s : List Token → Read A}
    → ((l : List Token) → s l ≡ r l) → Lawful matter clash P PS Bad r → Lawful matter clash P PS Bad s
same_reading {matter} {A} {clash} {P} {PS} {Bad} {r} {s} same law = record {
  inside = law.inside;
  some = law.some;
  took = λ tokens item rest e. took_same tokens item rest (λ l is. is) (λ l alike. same l) (law.took tokens item rest (sym (same tokens) ∙ e));
  reads = λ a front rest is ends. same (front ++ rest) ∙ law.reads a front rest is ends;
  all = λ a front rest is ends. subst (λ (x : Read A). (x ≡ Ok (a, rest)) ⊎ Passes x) (sym (same (front ++ rest))) (law.all a front rest is ends);
  fails = λ tokens fault e. by_fails tokens fault (law.fails tokens fault (sym (same tokens) ∙ e));
}
  where
    by_fails : (tokens : List Token) (fault : ReadFault) → Stuck matter P PS r tokens fault ⊎ Bad tokens fault → Stuck matter P PS s tokens fault ⊎ Bad tokens fault
    by_fails tokens fault (inl stuck) = inl (stuck_same tokens fault (λ a l is. is) (λ a l is. is) (λ l alike. same l) stuck)
    by_fails tokens fault (inr is) = inr is

-- one part behind another, where the first may be followed by anything
pub follow : {matter : Matter} {A B : Type 0} {clash : List Token → Bool} {P : A → List Token → Type 0} {Q : A → B → List Token → Type 0} {p : List Token → Read A} {q : A → List Token → Read B}
    → Plain matter anything P p → ((a : A) → Plain matter clash (Q a) (q a)) → Plain matter clash (Then P Q) (λ tokens. p tokens >>= q)
follow {matter} first second = after first second (λ a b tokens rest is ends. refl) (λ tokens fault is. is) (λ tokens a rest fault took is. is)

-- what passes a limit in a part does so in the whole

pub over_first : {matter : Matter} {A B : Type 0} {P PS : A → List Token → Type 0} {Q QS : A → B → List Token → Type 0} (p : List Token → Read A) (q : A → List Token → Read B)
    → ((a : A) → Start (Q a) []) → ((a : A) → Start (QS a) []) → (tokens : List Token) (fault : ReadFault)
    → Over matter P PS p tokens fault → Over matter (Then P Q) (Then PS QS) (λ l. p l >>= q) tokens fault
over_first {matter} {A} {B} {P} {PS} {Q} {QS} p q some small tokens fault over = over_behind [] refl (start_first P Q some)
    (λ front more whole begins opened. open_map [] (start_first PS QS small) opened) (λ last alike other e. then_err q e) over

pub over_second : {matter : Matter} {A B : Type 0} {P PS : A → List Token → Type 0} {Q QS : A → B → List Token → Type 0} (p : List Token → Read A) (q : A → List Token → Read B)
    (tokens : List Token) (head : A) (rest : List Token) (fault : ReadFault)
    → ((l : List Token) → PS head l → P head l) → Took PS p tokens head rest → Over matter (Q head) (QS head) (q head) rest fault → Over matter (Then P Q) (Then PS QS) (λ l. p l >>= q) tokens fault
over_second {matter} {A} {B} {P} {PS} {Q} {QS} p q tokens head rest fault inside first over = over_behind first.front first.whole (start_behind P Q head first.front (inside first.front first.is))
    (λ front more whole begins opened. open_map first.front (start_behind PS QS head first.front first.is) opened) (λ last alike other e. then_ok q (first.again last alike) ∙ e) over

pub over_same : {matter : Matter} {A : Type 0} {P PS Q QS : A → List Token → Type 0} {r s : List Token → Read A} (tokens : List Token) (fault : ReadFault)
    → ((a : A) (l : List Token) → P a l → Q a l) → ((a : A) (l : List Token) → PS a l → QS a l) → ((l : List Token) → Alike tokens l → s l ≡ r l) → Over matter P PS r tokens fault → Over matter Q QS s tokens fault
over_same {matter} {A} {P} {PS} {Q} {QS} {r} {s} tokens fault into small same over = over_behind [] refl (start_map (λ a. a) into)
    (λ front more whole begins opened. open_map [] (start_map (λ a. a) small) opened) (λ last alike other e. same last alike ∙ e) over

-- A reading whose only other faults are elements that pass a limit
abbrev pub Limited : Matter → {A : Type 0} → (List Token → Bool) → (A → List Token → Type 0) → (A → List Token → Type 0) → (List Token → Read A) → Type 0
Limited matter clash All Small read = Lawful matter clash All Small (Over matter All Small read) read

pub limited : {matter : Matter} {A : Type 0} {clash : List Token → Bool} {P : A → List Token → Type 0} {read : List Token → Read A} → Plain matter clash P read → Limited matter clash P P read
limited {matter} law = same_languages law (λ a l is. is) (λ a l is. is) (λ a l is. is) (λ a l is. is) (λ tokens fault is. absurd is)

pub same_limited : {matter : Matter} {A : Type 0} {clash : List Token → Bool} {P PS Q QS : A → List Token → Type 0} {read : List Token → Read A}
    → Limited matter clash P PS read → ((a : A) (l : List Token) → P a l → Q a l) → ((a : A) (l : List Token) → Q a l → P a l) → ((a : A) (l : List Token) → PS a l → QS a l) → ((a : A) (l : List Token) → QS a l → PS a l) → Limited matter clash Q QS read
same_limited {matter} law into out small_into small_out = same_languages law into out small_into small_out (λ tokens fault over. over_same tokens fault into small_into (λ l alike. refl) over)

pub after_limited : {matter : Matter} {A B : Type 0} {before clash : List Token → Bool} {P PS : A → List Token → Type 0} {Q QS : A → B → List Token → Type 0} {p : List Token → Read A} {q : A → List Token → Read B}
    → Limited matter before P PS p → ((a : A) → Limited matter clash (Q a) (QS a) (q a))
    → ((a : A) (b : B) (tokens rest : List Token) → Q a b tokens → clash rest ≡ false → before (tokens ++ rest) ≡ false)
    → Limited matter clash (Then P Q) (Then PS QS) (λ tokens. p tokens >>= q)
after_limited {matter} {A} {B} {before} {clash} {P} {PS} {Q} {QS} {p} {q} first second clear = after first second clear
    (λ tokens fault over. over_first p q (λ a. start_map (λ b. b) (second a).inside [] (second a).some) (λ a. (second a).some) tokens fault over)
    (λ tokens a rest fault took over. over_second p q tokens a rest fault (λ l. first.inside a l) took over)

pub either_limited : {matter : Matter} {A : Type 0} {clash : List Token → Bool} {P PS Q QS : A → List Token → Type 0} {p q : List Token → Read A} (test : List Token → Bool)
    → ((a b : List Token) → Alike a b → test a ≡ test b)
    → Limited matter clash P PS p → Limited matter clash Q QS q
    → ((a : A) (front rest : List Token) → P a front → test (front ++ rest) ≡ true)
    → ((a : A) (front rest : List Token) → Q a front → clash rest ≡ false → test (front ++ rest) ≡ false)
    → Limited matter clash (Either P Q) (Either PS QS) (λ tokens. if test tokens then p tokens else q tokens)
either_limited {matter} {A} {clash} {P} {PS} {Q} {QS} {p} {q} test same left right first other = either test same left right first other
    (λ tokens fault t over. over_same tokens fault (λ a l is. Left is) (λ a l is. Left is) (λ l alike. ap (λ b. cond b (p l) (q l)) (sym (same tokens l alike) ∙ t)) over)
    (λ tokens fault t over. over_same tokens fault (λ a l is. Right is) (λ a l is. Right is) (λ l alike. ap (λ b. cond b (p l) (q l)) (sym (same tokens l alike) ∙ t)) over)

pub same_reading_limited : {matter : Matter} {A : Type 0} {clash : List Token → Bool} {P PS : A → List Token → Type 0} {r s : List Token → Read A}
    → ((l : List Token) → s l ≡ r l) → Limited matter clash P PS r → Limited matter clash P PS s
same_reading_limited {matter} {A} {clash} {P} {PS} {r} {s} same law =
    same_reading same (same_languages law (λ a l is. is) (λ a l is. is) (λ a l is. is) (λ a l is. is) (λ tokens fault over. over_same tokens fault (λ a l is. is) (λ a l is. is) (λ l alike. same l) over))

-- what may be followed by anything
pub any_clash : {matter : Matter} {A : Type 0} {P PS : A → List Token → Type 0} {read : List Token → Read A} (clash : List Token → Bool) → Limited matter anything P PS read → Limited matter clash P PS read
any_clash {matter} clash law = record {
  inside = law.inside;
  some = law.some;
  took = law.took;
  reads = λ a front rest is ends. law.reads a front rest is refl;
  all = λ a front rest is ends. law.all a front rest is refl;
  fails = law.fails;
}

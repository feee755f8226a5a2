-- The sessions of a run: each is judged, and the loop judges all of them.
use Rattle.std.proofs.Common.{◌≡◌, ◌∙◌, ℕ, pos, suc, ◌+◌, ◌<◌, ◌≤◌, ◌⊎◌, inl, inr, nat_le, Bool, true, false, if◌then◌else◌, List, [], ◌∷◌, ◌++◌, length, map, Option, Some, None, Ok, refl, sym, ap, subst, append_assoc, arith, codes}
use Rattle.std.proofs.lemmas.Bool.Decides.{nat_tests}
use Rattle.std.proofs.lemmas.List.{length-append, length-map}
use Rattle.sv_lex.specs.declared.marks.Mark.TheVariants.{LeftBrace, RightBrace}
use Rattle.sv_lex.specs.declared.tokens.Token.{Token}
use Rattle.sv_lex.specs.declared.tokens.TokenKind.TheVariants.{Name, Number, Mark}
use Rattle.sv_app.specs.declared.refusals.Code.{Code}
use Rattle.sv_app.specs.declared.refusals.Code.TheVariants.{Syntax, Many, BadStep}
use Rattle.sv_app.specs.declared.requests.Request.{Request}
use Rattle.sv_app.specs.Codes.{number_of}
use Rattle.sv_app.specs.Trees.{Transaction}
use Rattle.sv_reader.specs.declared.faults.ReadFault.{ReadFault}
use Rattle.sv_reader.specs.Grammar.{word, mark}
use Rattle.sv_reader.specs.Reading.{Read, ◌>>=◌, is_kind, is_some, ident_of, is_name, given, found_at}
use Rattle.sv_reader.proofs.KindLaws.{token_of, kind_is, kind_same}
use Rattle.sv_reader.proofs.MadeLaws.{take_plain, skip_plain, skip_last}
use Rattle.sv_reader.proofs.AnswerLaws.{anything, same_read}
use Rattle.sv_reader.proofs.ReadLaws.{Plain, same_plain}
use Rattle.sv_workload.specs.declared.written.Call.{Call}
use Rattle.sv_workload.specs.Documents.{request_of}
use Rattle.sv_workload.specs.Elements.{Refusals, Begins, IsMisplaced, Among, AreNone}
use Rattle.sv_workload.specs.Grammar.{many, session_head, entry, session}
use Rattle.sv_workload.specs.LastRefused.{BeginsWith, BeginsWord, IsOutside, BeginsCall, EntryRefused, SessionRefused, Misplaced as SessionMisplaced, TooMany, BadNumber, InCalls, NoEnd, total, requests_in}
use Rattle.sv_workload.specs.Reading.{at_front, or_else, settled, is_out, out_mark, natural_of}
use Rattle.sv_workload.specs.LineReading.{is_more}
use Rattle.sv_workload.specs.SessionReading.{entries_from, session_head_at, session_mark, session_head_from, closed, session_from, sessions_from}
use Rattle.sv_workload.specs.Written.{Session}
use Rattle.sv_workload.proofs.EntryLaws.{begins_call, call_begins, entry_steps}
use Rattle.sv_workload.proofs.InitLaws.{contra}
use Rattle.sv_workload.proofs.JudgeLaws as judge
use Rattle.sv_workload.proofs.JudgeLaws.{Alike, Found, Judged, judged_map, judged_then, Either, InFirst, InSecond}
use Rattle.sv_workload.proofs.LoopLaws.{Element, Elements, Steps, judged_loop}
use Rattle.sv_workload.proofs.LastLaws.{session_none}
use Rattle.sv_workload.proofs.MarkLaws.{Marks, At, Before, no_marks, place_marks, marks_or, marks_map, Standing, Mark as OfMark, Misplaced, judged_marked}
use Rattle.sv_workload.proofs.SettingLaws.{count_law, out_is, is_out_by}
use Rattle.sv_workload.proofs.ValueLaws.{head_same}
use Rattle.sv_reader.proofs.MatterLaws.{bare}

abbrev head_made : ℕ → Unit {0} → ℕ
head_made n last = n

pub session_head_law : Plain bare anything session_head session_head_at
unfolding session_head_at
session_head_law = same_plain (skip_plain (Name (codes "session")) (λ (x : ℕ × Unit {0}). head_made x.0 x.1) (take_plain head_made count_law (λ n. skip_last bare anything (Mark LeftBrace) n)))
    (λ n l m. subst (λ x. session_head x l) (sym m.made) m.is) (λ n l is. record { «from» = (n, tt); is = is; made = refl })

-- the head of a session may begin with its word, and with its word and a number

word_begins : (token : Token) → token.kind ≡ Name (codes "session") → Begins session_head (token ∷ [])
word_begins token e = record {
  more = token_of (Number (pos 0)) ∷ token_of (Mark LeftBrace) ∷ [];
  item = 0;
  is = record {
    front = token ∷ [];
    back = token_of (Number (pos 0)) ∷ token_of (Mark LeftBrace) ∷ [];
    whole = refl;
    first = record { token = token; only = refl; holds = e };
    then = record {
      front = token_of (Number (pos 0)) ∷ [];
      back = token_of (Mark LeftBrace) ∷ [];
      whole = refl;
      first = record { token = token_of (Number (pos 0)); only = refl; holds = refl };
      then = record { token = token_of (Mark LeftBrace); only = refl; holds = refl };
    };
  };
}

number_begins : (first found : Token) (n : ℕ) → first.kind ≡ Name (codes "session") → found.kind ≡ Number (pos n) → Begins session_head (first ∷ found ∷ [])
number_begins first found n e f = record {
  more = token_of (Mark LeftBrace) ∷ [];
  item = n;
  is = record {
    front = first ∷ [];
    back = found ∷ token_of (Mark LeftBrace) ∷ [];
    whole = refl;
    first = record { token = first; only = refl; holds = e };
    then = record {
      front = found ∷ [];
      back = token_of (Mark LeftBrace) ∷ [];
      whole = refl;
      first = record { token = found; only = refl; holds = f };
      then = record { token = token_of (Mark LeftBrace); only = refl; holds = refl };
    };
  };
}

word_split : (front here : List Token) (token : Token) (others : List Token) → token ∷ others ≡ front ++ here → word (codes "session") front → (token.kind ≡ Name (codes "session")) × (others ≡ here)
word_split front here token others w is =
    let whole : token ∷ others ≡ is.token ∷ here = w ∙ ap (λ l. l ++ here) is.only in
    (ap (λ (t : Token). t.kind) (head_same whole) ∙ is.holds, tail whole)
  where
    tail : {x y : Token} {xs ys : List Token} → x ∷ xs ≡ y ∷ ys → xs ≡ ys
    tail e = cc

module _ (index : ℕ) where
  -- what is refused of the head that begins here
  pub data HeadRefused (tokens : List Token) : Code → List Token → Type 0 where
    HeadMisplaced : (here : List Token) → IsMisplaced session_head tokens here → HeadRefused tokens Syntax here
    HeadMany : BeginsWord (codes "session") tokens → 64 ≤ index → HeadRefused tokens Many tokens
    HeadNumber : (front here : List Token) → tokens ≡ front ++ here → word (codes "session") front → IsOutside (suc index) (suc index) here → HeadRefused tokens BadStep here

  abbrev Crowded : List Token → Refusals
  Crowded tokens = At Many tokens (64 ≤ index)

  abbrev Numbered : List Token → Refusals
  Numbered others = At BadStep others (IsOutside (suc index) (suc index) others)

  module _ (token : Token) (others : List Token) (w : token.kind ≡ Name (codes "session")) where
    crowd_marks : Marks session_head (token ∷ others) (Crowded (token ∷ others)) (at_front (given (nat_le 64 index) Many) (token ∷ others))
    crowd_marks = by_test (nat_le 64 index) refl
      where
        by_test : (t : Bool) → nat_le 64 index ≡ t → Marks session_head (token ∷ others) (Crowded (token ∷ others)) (at_front (given t Many) (token ∷ others))
        by_test true t = place_marks session_head (token ∷ others) [] token others Many (64 ≤ index) true refl (word_begins token w) (λ s. grind (arith, nat_tests, t)) (λ is. refl)
        by_test false t = place_marks session_head (token ∷ others) [] token others Many (64 ≤ index) false refl (word_begins token w) (λ s. absurd cc)
            (λ is. absurd (let lt : index < 64 = grind (arith, nat_tests, t) in omega (arith, is, lt)))

  number_marks : (token : Token) (others : List Token) → token.kind ≡ Name (codes "session") → Marks session_head (token ∷ others) (Numbered others) (out_mark BadStep (suc index) (suc index) others)
  number_marks token [] w = marks_map (λ code here is. absurd is) (λ code here is. is.2.is) (no_marks session_head (token ∷ []))
  number_marks token (found ∷ more) w = by_out (is_out (suc index) (suc index) (natural_of found.kind)) refl
    where
      by_out : (b : Bool) → is_out (suc index) (suc index) (natural_of found.kind) ≡ b
          → Marks session_head (token ∷ found ∷ more) (Numbered (found ∷ more)) (given b (record { code = BadStep; left = length (found ∷ more) }))
      by_out false o = marks_map (λ code here is. absurd is) (λ code here is. contra (is_out_by (suc index) (suc index) found more is.2) o) (no_marks session_head (token ∷ found ∷ more))
      by_out true o = let out = out_is (suc index) (suc index) found more o in
          place_marks session_head (token ∷ found ∷ more) (token ∷ []) found more BadStep (IsOutside (suc index) (suc index) (found ∷ more)) true refl (number_begins token found out.n w out.is) (λ t. out) (λ is. refl)

  head_marks : (token : Token) (others : List Token) → token.kind ≡ Name (codes "session")
      → Marks session_head (token ∷ others) (λ code here. Crowded (token ∷ others) code here ⊎ Numbered others code here) (session_mark index (token ∷ others))
  head_marks token others w =
      subst (λ (b : Bool). Marks session_head (token ∷ others) marked (if b then both else None)) (sym (ap (is_kind (Name (codes "session"))) w ∙ kind_same (Name (codes "session"))))
      (marks_or (crowd_marks token others w) (number_marks token others w) order)
    where
      marked : Refusals
      marked code here = Crowded (token ∷ others) code here ⊎ Numbered others code here

      both : Option ReadFault
      both = or_else (at_front (given (nat_le 64 index) Many) (token ∷ others)) (out_mark BadStep (suc index) (suc index) others)

      order : (fault : ReadFault) → at_front (given (nat_le 64 index) Many) (token ∷ others) ≡ Some fault → (code : Code) (here : List Token) → Numbered others code here → Before fault code here
      order fault e code here is = by_test (nat_le 64 index) e
        where
          by_test : (t : Bool) → at_front (given t Many) (token ∷ others) ≡ Some fault → Before fault code here
          by_test false e = absurd cc
          by_test true e = let same : record { code = Many; left = length (token ∷ others) } ≡ fault = cc in
              inl (omega (arith, ap (λ (f : ReadFault). f.left) same, ap length is.1))

  pub head_judged : (token : Token) (others : List Token) → Judged (Element session_head (token ∷ others)) (HeadRefused (token ∷ others)) (token ∷ others) (session_head_from index (token ∷ others))
  unfolding session_head_from
  head_judged token others = by_word (is_kind (Name (codes "session")) token.kind) refl
    where
      tokens : List Token
      tokens = token ∷ others

      Judges : Option ReadFault → Type 0
      Judges mark = Judged (Element session_head (token ∷ others)) (HeadRefused (token ∷ others)) (token ∷ others) (settled mark (session_head_at (token ∷ others)))

      marked : Refusals
      marked code here = Crowded (token ∷ others) code here ⊎ Numbered others code here

      into : token.kind ≡ Name (codes "session") → (code : Code) (here : List Token) → Standing session_head_law (token ∷ others) marked code here → HeadRefused (token ∷ others) code here
      into w code here (Misplaced s is) = subst (λ c. HeadRefused (token ∷ others) c here) (sym s) (HeadMisplaced here is)
      into w code here (OfMark (inl is)) = subst (λ c. HeadRefused (token ∷ others) c here) (sym is.0) (subst (λ l. HeadRefused (token ∷ others) Many l) (sym is.1) (HeadMany w is.2))
      into w code here (OfMark (inr is)) = subst (λ c. HeadRefused (token ∷ others) c here) (sym is.0) (subst (λ l. HeadRefused (token ∷ others) BadStep l) (sym is.1)
          (HeadNumber (token ∷ []) others refl (record { token = token; only = refl; holds = w }) is.2))

      out : (code : Code) (here all : List Token) → all ≡ token ∷ others → HeadRefused all code here → Standing session_head_law (token ∷ others) marked code here
      out _ _ all e (HeadMisplaced here is) = Misplaced refl (subst (λ l. IsMisplaced session_head l here) e is)
      out _ _ all e (HeadMany begins many) = OfMark (inl (refl, e, many))
      out _ _ all e (HeadNumber front here w is outside) = let split = word_split front here token others (sym e ∙ w) is in
          OfMark (inr (refl, sym split.1, subst (λ l. IsOutside (suc index) (suc index) l) (sym split.1) outside))

      -- another word
      none_into : (code : Code) (here : List Token) → Standing session_head_law (token ∷ others) (λ code here. ⊥) code here → HeadRefused (token ∷ others) code here
      none_into code here (Misplaced s is) = subst (λ c. HeadRefused (token ∷ others) c here) (sym s) (HeadMisplaced here is)
      none_into code here (OfMark is) = absurd is

      none_out : is_kind (Name (codes "session")) token.kind ≡ false → (code : Code) (here all : List Token) → all ≡ token ∷ others → HeadRefused all code here
          → Standing session_head_law (token ∷ others) (λ code here. ⊥) code here
      none_out t _ _ all e (HeadMisplaced here is) = Misplaced refl (subst (λ l. IsMisplaced session_head l here) e is)
      none_out t _ _ all e (HeadMany begins many) = absurd (contra (ap (is_kind (Name (codes "session"))) (subst (λ l. BeginsWord (codes "session") l) e begins) ∙ kind_same (Name (codes "session"))) t)
      none_out t _ _ all e (HeadNumber front here w is outside) = let split = word_split front here token others (sym e ∙ w) is in
          absurd (contra (ap (is_kind (Name (codes "session"))) split.0 ∙ kind_same (Name (codes "session"))) t)

      by_word : (b : Bool) → is_kind (Name (codes "session")) token.kind ≡ b → Judges (session_mark index (token ∷ others))
      by_word true t = let w = kind_is (Name (codes "session")) token.kind t in
          judged_map refl (λ a rest is. is) (λ a rest is. is) (into w) (λ code here is. out code here (token ∷ others) refl is)
          (judged_marked session_head_law (token ∷ others) marked (session_mark index (token ∷ others)) (head_marks token others w))
      by_word false t = subst (λ (m : Option ReadFault). Judges m) (ap (λ (b : Bool). if b then or_else (at_front (given (nat_le 64 index) Many) (token ∷ others)) (out_mark BadStep (suc index) (suc index) others) else None) (sym t))
          (judged_map refl (λ a rest is. is) (λ a rest is. is) none_into (λ code here is. none_out t code here (token ∷ others) refl is)
          (judged_marked session_head_law (token ∷ others) (λ code here. ⊥) None (no_marks session_head (token ∷ others))))

-- the brace that ends a session

pub record Closed {A : Type 0} (a : A) (rest : List Token) (found : A) (behind : List Token) : Type 0 where
  pub brace : List Token
  pub whole : rest ≡ brace ++ behind
  pub is : mark RightBrace brace
  pub made : found ≡ a

pub record Unclosed (rest : List Token) (code : Code) (here : List Token) : Type 0 where
  pub none : BeginsWith (Mark RightBrace) rest → ⊥
  pub syntax : code ≡ Syntax
  pub place : here ≡ rest

closed_shorter : {A : Type 0} (a : A) (rest : List Token) (found : A) (behind : List Token) → Closed a rest found behind → length behind < length rest
closed_shorter a rest found behind is = omega (arith, ap length is.whole, length-append is.brace behind, ap length is.is.only)

closed_begins : {A : Type 0} (a : A) (rest : List Token) (found : A) (behind : List Token) → Closed a rest found behind → BeginsWith (Mark RightBrace) rest
closed_begins a rest found behind is = subst (λ l. BeginsWith (Mark RightBrace) l) (sym (is.whole ∙ ap (λ l. l ++ behind) is.is.only)) is.is.holds

pub closed_judged : {A : Type 0} (a : A) (rest : List Token) → Judged (Closed a rest) (Unclosed rest) rest (closed a rest)
closed_judged {A} a rest = by_rest rest
  where
    unique : (rest : List Token) (x y : A) (r s : List Token) → Closed a rest x r → Closed a rest y s → Alike x y r s
    unique rest x y r s is was = record { items = is.made ∙ sym was.made; rests = tail (sym (is.whole ∙ ap (λ l. l ++ r) is.is.only) ∙ was.whole ∙ ap (λ l. l ++ s) was.is.only) }
      where
        tail : {x y : Token} {xs ys : List Token} → x ∷ xs ≡ y ∷ ys → xs ≡ ys
        tail e = cc

    within : (rest : List Token) (code : Code) (here : List Token) → Unclosed rest code here → length here ≤ length rest
    within rest code here is = omega (arith, ap length is.place)

    shorter : (rest : List Token) (x : A) (behind : List Token) → Closed a rest x behind → length behind ≤ length rest
    shorter rest x behind is = let lt = closed_shorter a rest x behind is in omega (arith, lt)

    missing : (rest : List Token) → (BeginsWith (Mark RightBrace) rest → ⊥) → Found (Closed a rest) (Unclosed rest) (record { code = Syntax; left = length rest })
    missing rest none = record {
      here = rest;
      first = record {
        is = record { none = none; syntax = refl; place = refl };
        first = λ code there is. inr (ap length is.place, subst (λ c. 1 ≤ number_of c) (sym is.syntax) (omega arith));
      };
      place = refl;
      inside = λ x behind is. absurd (none (closed_begins a rest x behind is));
    }

    by_rest : (rest : List Token) → Judged (Closed a rest) (Unclosed rest) rest (closed a rest)
    by_rest [] = record {
      took = λ x r e. absurd cc;
      right = λ x r e. absurd cc;
      wrong = λ fault e. let same : record { code = Syntax; left = 0 } ≡ fault = cc in subst (λ f. Found (Closed a []) (Unclosed []) f) same (missing [] (λ is. is));
      unique = unique [];
      within = within [];
      shorter = shorter [];
    }
    by_rest (token ∷ others) = by_kind (is_kind (Mark RightBrace) token.kind) refl
      where
        Answer : Bool → Read A
        Answer b = found_at (given b token.spot) token others >>= λ _ r. Ok (a, r)

        by_kind : (b : Bool) → is_kind (Mark RightBrace) token.kind ≡ b → Judged (Closed a (token ∷ others)) (Unclosed (token ∷ others)) (token ∷ others) (Answer b)
        by_kind true t = let k = kind_is (Mark RightBrace) token.kind t in record {
          took = λ x r e. let same = same_read e in record { brace = token ∷ []; whole = ap (λ l. token ∷ l) same.rests; is = record { token = token; only = refl; holds = k }; made = sym same.item };
          right = λ x r e code here is. is.none k;
          wrong = λ fault e. absurd cc;
          unique = unique (token ∷ others);
          within = within (token ∷ others);
          shorter = shorter (token ∷ others);
        }
        by_kind false t = record {
          took = λ x r e. absurd cc;
          right = λ x r e. absurd cc;
          wrong = λ fault e. let same : record { code = Syntax; left = length (token ∷ others) } ≡ fault = cc in
              subst (λ f. Found (Closed a (token ∷ others)) (Unclosed (token ∷ others)) f) same
              (missing (token ∷ others) (λ k. contra (ap (is_kind (Mark RightBrace)) k ∙ kind_same (Mark RightBrace)) t));
          unique = unique (token ∷ others);
          within = within (token ∷ others);
          shorter = shorter (token ∷ others);
        }

-- a session

map_same : {A : Type 0} (xs : List A) → map (λ x. x) xs ≡ xs
map_same [] = refl
map_same (x ∷ xs) = ap (λ l. x ∷ l) (map_same xs)

abbrev calls_state : List Call → List Call
calls_state calls = map (λ c. c) calls

brace_call : (token : Token) (others : List Token) → token.kind ≡ Mark RightBrace → is_name (token ∷ others) ≡ false
brace_call token others k = ap (λ k. is_some (ident_of token.spot k)) k

module _ (txns : List Transaction) where
  module _ (index count : ℕ) (token : Token) (others : List Token) where
    abbrev tokens : List Token
    tokens = token ∷ others

    abbrev Calls : List Token → List Call → List Token → Type 0
    Calls middle = Elements is_name calls_state entry [] middle

    abbrev SessionIs : Session → List Token → Type 0
    SessionIs = judge.Both (Element session_head tokens) (λ n middle. judge.Both (Calls middle) (λ calls rest. Closed (record { number = n; calls = calls }) rest))

    abbrev SessionWrong : Refusals
    SessionWrong = Either (Element session_head tokens) (HeadRefused index tokens) (λ n middle. Either (Calls middle) (Among entry (EntryRefused txns count) [] middle) (λ calls rest. Unclosed rest))

    parts_judged : Judged SessionIs SessionWrong tokens (session_from txns index count tokens)
    unfolding session_from
    parts_judged = judged_then (λ n r1. entries_from txns count [] r1 >>= λ calls r2. closed (record { number = n; calls = calls }) r2) (head_judged index token others)
        (λ n middle is. judged_then (λ calls r2. closed (record { number = n; calls = calls }) r2) (judged_loop (entry_steps txns (λ c. c) count) [] middle)
        (λ calls rest was. closed_judged (record { number = n; calls = calls }) rest))

    session_in : (s : Session) (rest : List Token) → SessionIs s rest → Element session tokens s rest
    session_in s rest b =
        let calls = b.second.first in
        let brace = b.second.second in
        record {
          front = b.first.front ++ (calls.front ++ brace.brace);
          whole = b.first.whole ∙ ap (λ l. b.first.front ++ l) (calls.whole ∙ ap (λ l. calls.front ++ l) brace.whole ∙ sym (append_assoc calls.front brace.brace rest))
              ∙ sym (append_assoc b.first.front (calls.front ++ brace.brace) rest);
          is = subst (λ x. session x (b.first.front ++ (calls.front ++ brace.brace))) (sym (brace.made ∙ ap (λ cs. record { number = b.head; calls = cs }) (calls.made ∙ map_same calls.items))) (record {
            front = b.first.front;
            back = calls.front ++ brace.brace;
            whole = refl;
            first = b.first.is;
            then = record { front = calls.front; back = brace.brace; whole = refl; first = calls.are; then = brace.is };
          });
        }

    session_out : (s : Session) (rest : List Token) → Element session tokens s rest → SessionIs s rest
    session_out s rest e =
        let is = e.is in
        let brace = is.then.then in
        record {
          head = s.number;
          middle = is.back ++ rest;
          first = record { front = is.front; whole = e.whole ∙ ap (λ l. l ++ rest) is.whole ∙ append_assoc is.front is.back rest; is = is.first };
          second = record {
            head = s.calls;
            middle = is.then.back ++ rest;
            first = record {
              items = s.calls;
              front = is.then.front;
              whole = ap (λ l. l ++ rest) is.then.whole ∙ append_assoc is.then.front is.then.back rest;
              are = is.then.first;
              made = sym (map_same s.calls);
              ends = ap (λ l. is_name (l ++ rest)) brace.only ∙ brace_call brace.token rest brace.holds;
            };
            second = record { brace = is.then.back; whole = refl; is = brace; made = refl };
          };
        }

    -- no call begins here
    no_call : (rest : List Token) → (BeginsCall rest → ⊥) → is_name rest ≡ false
    no_call rest none = by_test (is_name rest) refl
      where
        by_test : (b : Bool) → is_name rest ≡ b → b ≡ false
        by_test true t = absurd (none (begins_call rest t))
        by_test false t = refl

    module _ (before : List Session) (its_index : index ≡ length before) (its_count : count ≡ requests_in before) where
      wrong_in : (code : Code) (here : List Token) → SessionWrong code here → SessionRefused txns before tokens code here
      wrong_in code here (InFirst head) = by_head code here head
        where
          by_head : (code : Code) (here : List Token) → HeadRefused index tokens code here → SessionRefused txns before tokens code here
          by_head _ _ (HeadMisplaced here is) = SessionMisplaced here (λ e. absurd cc) is
          by_head _ _ (HeadMany begins many) = TooMany begins (omega (arith, many, its_index))
          by_head _ _ (HeadNumber front here w is outside) = BadNumber front here w is (subst (λ n. IsOutside (suc n) (suc n) here) its_index outside)
      wrong_in code here (InSecond n middle is (InFirst among)) = InCalls n is.front middle code here is.whole is.is (subst (λ c. Among entry (EntryRefused txns c) [] middle code here) its_count among)
      wrong_in code here (InSecond n middle is (InSecond calls rest was unclosed)) =
          subst (λ c. SessionRefused txns before tokens c here) (sym unclosed.syntax) (subst (λ l. SessionRefused txns before tokens Syntax l) (sym unclosed.place)
          (NoEnd n was.items (is.front ++ was.front) rest (is.whole ∙ ap (λ l. is.front ++ l) was.whole ∙ sym (append_assoc is.front was.front rest))
          (record { front = is.front; back = was.front; whole = refl; first = is.is; then = was.are }) (λ begins. contra (call_begins rest begins) was.ends) unclosed.none))

      wrong_out : (code : Code) (here all : List Token) → all ≡ tokens → SessionRefused txns before all code here → SessionWrong code here
      wrong_out _ _ all e (SessionMisplaced here some is) = InFirst (HeadMisplaced here (subst (λ l. IsMisplaced session_head l here) e is))
      wrong_out _ _ all e (TooMany begins many) = subst (λ l. SessionWrong Many l) (sym e) (InFirst (HeadMany (subst (λ l. BeginsWord (codes "session") l) e begins) (omega (arith, many, its_index))))
      wrong_out _ _ all e (BadNumber front here w is outside) = InFirst (HeadNumber front here (sym e ∙ w) is (subst (λ n. IsOutside (suc n) (suc n) here) (sym its_index) outside))
      wrong_out _ _ all e (InCalls n front rest code here w is among) =
          InSecond n rest (record { front = front; whole = sym e ∙ w; is = is }) (InFirst (subst (λ c. Among entry (EntryRefused txns c) [] rest code here) (sym its_count) among))
      wrong_out _ _ all e (NoEnd n calls front here w is ends brace) =
          InSecond n (is.back ++ here) (record { front = is.front; whole = sym e ∙ w ∙ ap (λ l. l ++ here) is.whole ∙ append_assoc is.front is.back here; is = is.first })
          (InSecond (calls_state calls) here (record { items = calls; front = is.back; whole = refl; are = is.then; made = refl; ends = no_call here ends }) (record { none = brace; syntax = refl; place = refl }))

      pub session_judged : Judged (Element session tokens) (SessionRefused txns before tokens) tokens (session_from txns index count tokens)
      session_judged = judged_map refl session_in session_out wrong_in (λ code here is. wrong_out code here tokens refl is) parts_judged

  abbrev pub seen : Session → List Request
  seen s = map (request_of txns) s.calls

  abbrev pub sessions_seen : List Session → List (List Request)
  sessions_seen sessions = map seen sessions

  -- as many requests are seen as there are
  pub total_seen : (before : List Session) → total length (sessions_seen before) ≡ requests_in before
  total_seen [] = refl
  total_seen (s ∷ before) = (λ i. length-map s.calls (request_of txns) i + total_seen before i)

  session_some : (s : Session) → session s [] → ⊥
  session_some s is = let bad : [] ≡ is.first.first.token ∷ (is.first.back ++ is.back) = is.whole ∙ ap (λ l. l ++ is.back) (is.first.whole ∙ ap (λ l. l ++ is.first.back) is.first.first.only) in absurd cc

  session_opens : (s : Session) (front rest : List Token) → session s front → is_more (front ++ rest) ≡ true
  session_opens s [] rest is = absurd (session_some s is)
  session_opens s (token ∷ front) rest is = refl

  judges : (before : List Session) (tokens : List Token) → is_more tokens ≡ true
      → Judged (Element session tokens) (SessionRefused txns before tokens) tokens (session_from txns (length (sessions_seen before)) (total length (sessions_seen before)) tokens)
  judges before [] e = absurd cc
  judges before (token ∷ others) e =
      session_judged (length (sessions_seen before)) (total length (sessions_seen before)) token others before (length-map before seen) (total_seen before)

  pub session_shrinks : (index count : ℕ) (tokens : List Token) (s : Session) (rest : List Token) → is_more tokens ≡ true → session_from txns index count tokens ≡ Ok (s, rest) → length rest < length tokens
  session_shrinks index count [] s rest t e = absurd cc
  session_shrinks index count (token ∷ others) s rest t e = by_element (session_in index count token others s rest ((parts_judged index count token others).took s rest e))
    where
      by_front : (front : List Token) → session s front → token ∷ others ≡ front ++ rest → length rest < length (token ∷ others)
      by_front [] is w = absurd (session_some s is)
      by_front (x ∷ front) is w = omega (arith, ap length w, length-append front rest)

      by_element : Element session (token ∷ others) s rest → length rest < length (token ∷ others)
      by_element e = by_front e.front e.is e.whole

  session_stops : (before : List Session) (tokens : List Token) → is_more tokens ≡ false → AreNone (SessionRefused txns before tokens)
  session_stops before (token ∷ others) t code here refused = absurd cc
  session_stops before [] t code here refused = session_none txns before code here refused

  abbrev pub session_read : List (List Request) → List Token → Read Session
  session_read sessions tokens = session_from txns (length sessions) (total length sessions) tokens

  pub session_steps : Steps is_more session_read (λ sessions s. sessions ++ seen s ∷ []) sessions_seen session (SessionRefused txns)
  session_steps = record {
    judges = judges;
    shrinks = λ sessions tokens s rest t e. session_shrinks (length sessions) (total length sessions) tokens s rest t e;
    some = session_some;
    opens = session_opens;
    stops = session_stops;
    adds = map_push;
  }
    where
      map_push : (before : List Session) (s : Session) → map seen (before ++ s ∷ []) ≡ map seen before ++ seen s ∷ []
      map_push [] s = refl
      map_push (x ∷ before) s = ap (λ l. seen x ∷ l) (map_push before s)

  pub sessions_judged : (tokens : List Token) → Judged (Elements is_more sessions_seen session [] tokens) (Among session (SessionRefused txns) [] tokens) tokens (sessions_from txns [] tokens)
  sessions_judged tokens = judged_loop session_steps [] tokens

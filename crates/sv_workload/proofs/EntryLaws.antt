-- The calls of a session: what is refused of a call besides the grammar, and that the loop judges all of them.
use Rattle.std.proofs.Common.{◌≡◌, ◌∙◌, ℕ, ◌+◌, ◌<◌, ◌≤◌, ◌⊎◌, inl, inr, nat_le, nat_lt, Bool, true, false, if◌then◌else◌, List, [], ◌∷◌, ◌++◌, length, map, Option, Some, None, Ok, refl, sym, ap, subst, append_assoc, arith}
use Rattle.std.proofs.Math.Nat.{eq-or-lt_of_le}
use Rattle.std.proofs.lemmas.Bool.Decides.{nat_tests}
use Rattle.std.proofs.lemmas.List.{length-append, length-map}
use Rattle.sv_lex.specs.declared.marks.Mark.TheVariants.{Semi}
use Rattle.sv_lex.specs.declared.tokens.Token.{Token}
use Rattle.sv_lex.specs.declared.tokens.TokenKind.TheVariants.{Mark}
use Rattle.sv_app.specs.declared.refusals.Code.{Code}
use Rattle.sv_app.specs.declared.refusals.Code.TheVariants.{Many}
use Rattle.sv_app.specs.Codes.{number_of}
use Rattle.sv_app.specs.Trees.{Transaction}
use Rattle.sv_reader.specs.declared.faults.ReadFault.{ReadFault}
use Rattle.sv_reader.specs.Reading.{Read, given, is_name}
use Rattle.sv_reader.proofs.KindLaws.{token_of}
use Rattle.sv_reader.proofs.MadeLaws.{take_plain, skip_last}
use Rattle.sv_reader.proofs.PartLaws.{name_next}
use Rattle.sv_reader.proofs.AnswerLaws.{anything}
use Rattle.sv_reader.proofs.ReadLaws.{Plain, same_plain}
use Rattle.sv_workload.specs.declared.written.Call.{Call}
use Rattle.sv_workload.specs.Elements.{Refusals, Begins, IsMisplaced, AreNone}
use Rattle.sv_workload.specs.Grammar.{call, entry}
use Rattle.sv_workload.specs.LastRefused.{CallRefused, NoTxn, Unfit, LongList, BeginsCall, EntryRefused, TooMany, InCall}
use Rattle.sv_workload.specs.LastRefused as last
use Rattle.sv_workload.specs.Reading.{at_front, settled, call_mark}
use Rattle.sv_workload.specs.SessionReading.{entry_at, sooner, crowd_mark, entry_mark, entry_from}
use Rattle.sv_workload.proofs.CallLaws.{call_law}
use Rattle.sv_workload.proofs.CallMarkLaws.{call_marks, name_begins_call}
use Rattle.sv_workload.proofs.InitLaws.{named, name_begins, begins_row, contra}
use Rattle.sv_workload.proofs.JudgeLaws.{Judged, judged_map}
use Rattle.sv_workload.proofs.LoopLaws.{Element, Steps}
use Rattle.sv_workload.proofs.MarkLaws.{FirstMark, Marks, At, Before, place_marks, lift_marks, Standing, Mark as OfMark, Misplaced, judged_marked}
use Rattle.sv_reader.proofs.MatterLaws.{bare}

abbrev entry_made : Call → Unit {0} → Call
entry_made c last = c

pub entry_law : Plain bare anything entry entry_at
unfolding entry_at
entry_law = same_plain (take_plain entry_made call_law (λ c. skip_last bare anything (Mark Semi) c))
    (λ c l m. subst (λ x. entry x l) (sym m.made) m.is) (λ c l is. record { «from» = (c, tt); is = is; made = refl })

-- the earlier of two marks

abbrev Any : Refusals → Refusals → Refusals
Any m n code here = m code here ⊎ n code here

-- what isn't before the first of a kind
low_of : {A : Type 0} {P : A → List Token → Type 0} {tokens : List Token} {marked : Refusals} (f : ReadFault) (x : FirstMark P tokens marked f) (other : Code) (there : List Token) → marked other there → Before f other there
low_of f x other there is = subst (λ k. (length there < k) ⊎ ((length there ≡ k) × (number_of f.code ≤ number_of other))) (sym x.place) (x.first.first other there is)

low_under : (f g : ReadFault) (other : Code) (there : List Token) → (g.left < f.left) ⊎ ((g.left ≡ f.left) × (number_of f.code ≤ number_of g.code)) → Before g other there → Before f other there
low_under f g other there (inl lt) (inl l) = inl (omega (arith, lt, l))
low_under f g other there (inl lt) (inr l) = inl (omega (arith, lt, l.0))
low_under f g other there (inr e) (inl l) = inl (omega (arith, e.0, l))
low_under f g other there (inr e) (inr l) = inr (l.0 ∙ e.0, omega (arith, e.1, l.1))

module _ {A : Type 0} {P : A → List Token → Type 0} {tokens : List Token} {m n : Refusals} where
  marks_within : {first second : Option ReadFault} → Marks P tokens m first → Marks P tokens n second → (code : Code) (here : List Token) → Any m n code here → length here ≤ length tokens
  marks_within a b code here (inl is) = a.within code here is
  marks_within a b code here (inr is) = b.within code here is

  first_left : (f : ReadFault) → FirstMark P tokens m f → ((other : Code) (there : List Token) → n other there → Before f other there) → FirstMark P tokens (Any m n) f
  first_left f x low = record {
    pre = x.pre;
    token = x.token;
    others = x.others;
    whole = x.whole;
    begins = x.begins;
    place = x.place;
    first = record { is = inl x.first.is; first = λ other there is. by_any other there is };
  }
    where
      moved : (other : Code) (there : List Token) → Before f other there → (length there < length (x.token ∷ x.others)) ⊎ ((length there ≡ length (x.token ∷ x.others)) × (number_of f.code ≤ number_of other))
      moved other there l = subst (λ k. (length there < k) ⊎ ((length there ≡ k) × (number_of f.code ≤ number_of other))) x.place l

      by_any : (other : Code) (there : List Token) → Any m n other there → (length there < length (x.token ∷ x.others)) ⊎ ((length there ≡ length (x.token ∷ x.others)) × (number_of f.code ≤ number_of other))
      by_any other there (inl is) = x.first.first other there is
      by_any other there (inr is) = moved other there (low other there is)

  first_right : (f : ReadFault) → FirstMark P tokens n f → ((other : Code) (there : List Token) → m other there → Before f other there) → FirstMark P tokens (Any m n) f
  first_right f x low = record {
    pre = x.pre;
    token = x.token;
    others = x.others;
    whole = x.whole;
    begins = x.begins;
    place = x.place;
    first = record { is = inr x.first.is; first = λ other there is. by_any other there is };
  }
    where
      moved : (other : Code) (there : List Token) → Before f other there → (length there < length (x.token ∷ x.others)) ⊎ ((length there ≡ length (x.token ∷ x.others)) × (number_of f.code ≤ number_of other))
      moved other there l = subst (λ k. (length there < k) ⊎ ((length there ≡ k) × (number_of f.code ≤ number_of other))) x.place l

      by_any : (other : Code) (there : List Token) → Any m n other there → (length there < length (x.token ∷ x.others)) ⊎ ((length there ≡ length (x.token ∷ x.others)) × (number_of f.code ≤ number_of other))
      by_any other there (inl is) = moved other there (low other there is)
      by_any other there (inr is) = x.first.first other there is

  pub marks_sooner : (first second : Option ReadFault) → Marks P tokens m first → Marks P tokens n second
      → ((f g : ReadFault) → first ≡ Some f → second ≡ Some g → f.left ≡ g.left → number_of f.code ≤ number_of g.code) → Marks P tokens (Any m n) (sooner first second)
  marks_sooner None second a b tie = record { none = λ e code here is. never e code here is; some = λ f e. first_right f (b.some f e) (λ other there is. absurd (a.none refl other there is)); within = marks_within a b }
    where
      never : second ≡ None → (code : Code) (here : List Token) → Any m n code here → ⊥
      never e code here (inl is) = a.none refl code here is
      never e code here (inr is) = b.none e code here is
  marks_sooner (Some f) None a b tie = record {
    none = λ e. absurd cc;
    some = λ g e. let same : f ≡ g = cc in subst (λ x. FirstMark P tokens (Any m n) x) same (first_left f (a.some f refl) (λ other there is. absurd (b.none refl other there is)));
    within = marks_within a b;
  }
  marks_sooner (Some f) (Some g) a b tie = by_test (nat_lt f.left g.left) refl
    where
      one : (x : ReadFault) → FirstMark P tokens (Any m n) x → Marks P tokens (Any m n) (Some x)
      one x first = record { none = λ e. absurd cc; some = λ y e. let same : x ≡ y = cc in subst (λ z. FirstMark P tokens (Any m n) z) same first; within = marks_within a b }

      under : g.left ≤ f.left → (g.left < f.left) ⊎ ((g.left ≡ f.left) × (number_of f.code ≤ number_of g.code))
      under le = by_near (eq-or-lt_of_le le)
        where
          by_near : (g.left ≡ f.left) ⊎ (g.left < f.left) → (g.left < f.left) ⊎ ((g.left ≡ f.left) × (number_of f.code ≤ number_of g.code))
          by_near (inr lt) = inl lt
          by_near (inl same) = inr (same, tie f g refl refl (sym same))

      by_test : (t : Bool) → nat_lt f.left g.left ≡ t → Marks P tokens (Any m n) (if t then Some g else Some f)
      by_test true t = one g (first_right g (b.some g refl) (λ other there is. low_under g f other there (inl (grind (arith, nat_tests, t))) (low_of f (a.some f refl) other there is)))
      by_test false t = one f (first_left f (a.some f refl) (λ other there is. low_under f g other there (under (grind (arith, nat_tests, t))) (low_of g (b.some g refl) other there is)))

-- what is refused of an entry besides the grammar

entry_begins : (l : List Token) → Begins call l → Begins entry l
entry_begins l b = record {
  more = b.more ++ token_of (Mark Semi) ∷ [];
  item = b.item;
  is = record {
    front = l ++ b.more;
    back = token_of (Mark Semi) ∷ [];
    whole = sym (append_assoc l b.more (token_of (Mark Semi) ∷ []));
    first = b.is;
    then = record { token = token_of (Mark Semi); only = refl; holds = refl };
  };
}

entry_some : (c : Call) → entry c [] → ⊥
entry_some c is = let bad : [] ≡ is.first.first.token ∷ (is.first.back ++ is.back) = is.whole ∙ ap (λ l. l ++ is.back) (is.first.whole ∙ ap (λ l. l ++ is.first.back) is.first.first.only) in absurd cc

entry_opens : (c : Call) (front rest : List Token) → entry c front → is_name (front ++ rest) ≡ true
entry_opens c front rest is = ap (λ l. is_name (l ++ rest)) is.whole ∙ ap is_name (append_assoc is.front is.back rest) ∙ name_next c.txn _ is.front (is.back ++ rest) is.first

pub begins_call : (tokens : List Token) → is_name tokens ≡ true → BeginsCall tokens
begins_call tokens e = let b = begins_row tokens e in record { txn = b.table; is = b.is }

pub call_begins : (tokens : List Token) → BeginsCall tokens → is_name tokens ≡ true
call_begins tokens b = name_begins b.txn tokens b.is

-- no refusal of a call has a code above that of a limit
call_low : (txns : List Transaction) (tokens : List Token) (code : Code) (here : List Token) → CallRefused txns tokens code here → number_of code ≤ 6
call_low txns tokens _ _ (NoTxn txn is none) = omega arith
call_low txns tokens _ _ (Unfit c front rest txn w is its misfit) = omega arith
call_low txns tokens _ _ (LongList front here w is begins) = omega arith

module _ (txns : List Transaction) where
  abbrev Crowded : ℕ → List Token → Refusals
  Crowded count tokens = At Many tokens (8192 ≤ count)

  module _ (count : ℕ) (token : Token) (others : List Token) (e : is_name (token ∷ others) ≡ true) where
    abbrev tokens : List Token
    tokens = token ∷ others

    call_part : Marks entry tokens (CallRefused txns tokens) (call_mark txns tokens)
    call_part = let n = named token e in lift_marks [] tokens entry_begins (call_marks txns token others n.ident n.is)

    crowd_part : Marks entry tokens (Crowded count tokens) (crowd_mark count tokens)
    crowd_part = by_test (nat_le 8192 count) refl
      where
        holds : Begins entry (token ∷ [])
        holds = let b = begins_call tokens e in entry_begins (token ∷ []) (name_begins_call token b.txn b.is)

        by_test : (t : Bool) → nat_le 8192 count ≡ t → Marks entry tokens (Crowded count tokens) (at_front (given t Many) tokens)
        by_test true t = place_marks entry tokens [] token others Many (8192 ≤ count) true refl holds (λ s. grind (arith, nat_tests, t)) (λ is. refl)
        by_test false t = place_marks entry tokens [] token others Many (8192 ≤ count) false refl holds (λ s. absurd cc) (λ is. absurd (let lt : count < 8192 = grind (arith, nat_tests, t) in omega (arith, is, lt)))

    entry_marks : Marks entry tokens (λ code here. CallRefused txns tokens code here ⊎ Crowded count tokens code here) (entry_mark txns count tokens)
    entry_marks = marks_sooner (call_mark txns tokens) (crowd_mark count tokens) call_part crowd_part tie
      where
        tie : (f g : ReadFault) → call_mark txns tokens ≡ Some f → crowd_mark count tokens ≡ Some g → f.left ≡ g.left → number_of f.code ≤ number_of g.code
        tie f g c d same =
            let x = call_part.some f c in
            let y = crowd_part.some g d in
            subst (λ k. number_of f.code ≤ number_of k) (sym y.first.is.0) (call_low txns tokens f.code (x.token ∷ x.others) x.first.is)

  module _ {A : Type 0} (view : Call → A) (count : ℕ) where
    abbrev state : List Call → List A
    state calls = map view calls

    abbrev add : List A → Call → List A
    add seen c = seen ++ view c ∷ []

    abbrev read : List A → List Token → Read Call
    read seen tokens = entry_from txns (count + length seen) tokens

    entry_judged : (before : List Call) (tokens : List Token) → is_name tokens ≡ true → Judged (Element entry tokens) (EntryRefused txns count before tokens) tokens (read (state before) tokens)
    unfolding entry_from
    entry_judged before [] e = absurd cc
    entry_judged before (token ∷ others) e =
        judged_map refl (λ a rest is. is) (λ a rest is. is) into (λ code here is. out code here (token ∷ others) refl is)
        (judged_marked entry_law (token ∷ others) marked (entry_mark txns total (token ∷ others)) (entry_marks total token others e))
      where
        total : ℕ
        total = count + length (state before)

        same_total : total ≡ count + length before
        same_total = ap (λ n. count + n) (length-map before view)

        marked : Refusals
        marked code here = CallRefused txns (token ∷ others) code here ⊎ Crowded total (token ∷ others) code here

        into : (code : Code) (here : List Token) → Standing entry_law (token ∷ others) marked code here → EntryRefused txns count before (token ∷ others) code here
        into code here (Misplaced s is) = subst (λ c. EntryRefused txns count before (token ∷ others) c here) (sym s) (last.Misplaced here (begins_call (token ∷ others) e) is)
        into code here (OfMark (inl is)) = InCall code here is
        into code here (OfMark (inr is)) =
            subst (λ c. EntryRefused txns count before (token ∷ others) c here) (sym is.0) (subst (λ l. EntryRefused txns count before (token ∷ others) Many l) (sym is.1)
            (TooMany (begins_call (token ∷ others) e) (omega (arith, is.2, same_total))))

        out : (code : Code) (here all : List Token) → all ≡ token ∷ others → EntryRefused txns count before all code here → Standing entry_law (token ∷ others) marked code here
        out _ _ all w (last.Misplaced here begins is) = Misplaced refl (subst (λ l. IsMisplaced entry l here) w is)
        out _ _ all w (TooMany begins many) = OfMark (inr (refl, w, omega (arith, many, same_total)))
        out _ _ all w (InCall code here is) = OfMark (inl (subst (λ l. CallRefused txns l code here) w is))

    pub entry_shrinks : (seen : List A) (tokens : List Token) (c : Call) (rest : List Token) → is_name tokens ≡ true → read seen tokens ≡ Ok (c, rest) → length rest < length tokens
    unfolding entry_from
    entry_shrinks seen tokens c rest t e = by_mark (entry_mark txns (count + length seen) tokens) e
      where
        by_front : (front : List Token) → entry c front → tokens ≡ front ++ rest → length rest < length tokens
        by_front [] is w = absurd (entry_some c is)
        by_front (x ∷ front) is w = omega (arith, ap length w, length-append front rest)

        by_mark : (mark : Option ReadFault) → settled mark (entry_at tokens) ≡ Ok (c, rest) → length rest < length tokens
        by_mark (Some fault) e = absurd cc
        by_mark None e = let took = entry_law.took tokens c rest e in by_front took.front took.is took.whole

    entry_stops : (before : List Call) (tokens : List Token) → is_name tokens ≡ false → AreNone (EntryRefused txns count before tokens)
    entry_stops before tokens t code here is = by_case code here is
      where
        call_name : (code : Code) (here : List Token) → CallRefused txns tokens code here → is_name tokens ≡ true
        call_name _ _ (NoTxn txn is none) = name_begins txn tokens is
        call_name _ _ (Unfit c front rest txn w is its misfit) = ap is_name w ∙ name_next c.txn _ front rest is
        call_name _ _ (LongList front here w is begins) = ap is_name w ∙ name_next is.txn _ front here is.is

        by_case : (code : Code) (here : List Token) → EntryRefused txns count before tokens code here → ⊥
        by_case _ _ (last.Misplaced here begins is) = contra (call_begins tokens begins) t
        by_case _ _ (TooMany begins many) = contra (call_begins tokens begins) t
        by_case _ _ (InCall code here is) = contra (call_name code here is) t

    pub entry_steps : Steps is_name read add state entry (EntryRefused txns count)
    entry_steps = record { judges = entry_judged; shrinks = entry_shrinks; some = entry_some; opens = entry_opens; stops = entry_stops; adds = map_push }
      where
        map_push : (before : List Call) (c : Call) → map view (before ++ c ∷ []) ≡ map view before ++ view c ∷ []
        map_push [] c = refl
        map_push (x ∷ before) c = ap (λ l. view x ∷ l) (map_push before c)

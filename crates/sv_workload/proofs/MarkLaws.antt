-- Elements in which something may be refused that is no matter of the grammar: the first such place is known before the element is read.
use Rattle.std.proofs.Common.{◌≡◌, ◌∙◌, ℕ, zero, suc, ◌<◌, ◌≤◌, ◌⊎◌, inl, inr, Bool, true, false, List, [], ◌∷◌, ◌++◌, length, Option, Some, None, Ok, refl, sym, ap, subst, append_assoc, append-nil, arith}
use Rattle.std.proofs.lemmas.List.{length-append}
use Rattle.sv_lex.specs.declared.tokens.Token.{Token}
use Rattle.sv_app.specs.declared.refusals.Code.{Code}
use Rattle.sv_app.specs.declared.refusals.Code.TheVariants.{Syntax}
use Rattle.sv_app.specs.Codes.{number_of}
use Rattle.sv_reader.specs.declared.faults.ReadFault.{ReadFault}
use Rattle.sv_reader.specs.Reading.{Read, given}
use Rattle.sv_reader.proofs.AnswerLaws.{anything, same_read}
use Rattle.sv_reader.proofs.ReadLaws.{Plain, Took}
use Rattle.sv_workload.specs.Elements.{Refusals, Begins, IsMisplaced, IsFirst, AreNone}
use Rattle.sv_workload.specs.Reading.{settled, or_else}
use Rattle.sv_workload.proofs.ElementLaws.{Missing, missing}
use Rattle.sv_workload.proofs.JudgeLaws.{Alike, Found, Judged}
use Rattle.sv_workload.proofs.LoopLaws.{Element}
use Rattle.sv_reader.proofs.MatterLaws.{bare}

-- the first of the refusals that are no matter of the grammar; an element may begin with the tokens up to it
pub record FirstMark {A : Type 0} (element : A → List Token → Type 0) (tokens : List Token) (marked : Refusals) (fault : ReadFault) : Type 0 where
  pub pre : List Token
  pub token : Token
  pub others : List Token
  pub whole : tokens ≡ pre ++ token ∷ others
  pub begins : Begins element (pre ++ token ∷ [])
  pub place : fault.left ≡ length (token ∷ others)
  pub first : IsFirst marked fault.code (token ∷ others)

pub record Marks {A : Type 0} (element : A → List Token → Type 0) (tokens : List Token) (marked : Refusals) (mark : Option ReadFault) : Type 0 where
  pub none : mark ≡ None → AreNone marked
  pub some : (fault : ReadFault) → mark ≡ Some fault → FirstMark element tokens marked fault
  pub within : (code : Code) (here : List Token) → marked code here → length here ≤ length tokens

-- of two ways to split some tokens, the one with the shorter front
pub record Longer (front rest pre behind : List Token) : Type 0 where
  pub more : List Token
  pub fronts : pre ≡ front ++ more
  pub rests : rest ≡ more ++ behind

cons_tail : {x y : Token} {xs ys : List Token} → x ∷ xs ≡ y ∷ ys → (x ≡ y) × (xs ≡ ys)
cons_tail e = (cc, cc)

pub longer : (front rest pre behind : List Token) → front ++ rest ≡ pre ++ behind → length behind ≤ length rest → Longer front rest pre behind
longer [] rest pre behind e le = record { more = pre; fronts = refl; rests = e }
longer (x ∷ front) rest [] behind e le = absurd (omega (arith, le, ap length e, length-append front rest))
longer (x ∷ front) rest (y ∷ pre) behind e le = let same = cons_tail e in
    let more = longer front rest pre behind same.1 le in
    record { more = more.more; fronts = (λ i. sym same.0 i ∷ more.fronts i); rests = more.rests }

module _ {A : Type 0} {P : A → List Token → Type 0} {read : List Token → Read A} (law : Plain bare anything P read) where
  -- no element ends, and none is misplaced, where one may still go on

  pub past : (tokens pre : List Token) (token : Token) (others : List Token) (a : A) (front rest : List Token) → tokens ≡ pre ++ token ∷ others → Begins P (pre ++ token ∷ [])
      → tokens ≡ front ++ rest → P a front → length rest < length (token ∷ others)
  past tokens pre token others a front rest whole begins e is = by_order (le_or (length (token ∷ others)) (length rest))
    where
      le_or : (m n : ℕ) → (m ≤ n) ⊎ (n < m)
      le_or zero n = inl (omega arith)
      le_or (suc m) zero = inr (omega arith)
      le_or (suc m) (suc n) = by_less (le_or m n)
        where
          by_less : (m ≤ n) ⊎ (n < m) → (suc m ≤ suc n) ⊎ (suc n < suc m)
          by_less (inl le) = inl (omega (arith, le))
          by_less (inr lt) = inr (omega (arith, lt))

      by_longer : Longer front rest pre (token ∷ others) → ⊥
      by_longer l =
          let full : pre ++ token ∷ [] ++ begins.more ≡ front ++ (l.more ++ token ∷ begins.more)
          = append_assoc pre (token ∷ []) begins.more ∙ ap (λ x. x ++ token ∷ begins.more) l.fronts ∙ append_assoc front l.more (token ∷ begins.more) in
          let one : read (front ++ (l.more ++ token ∷ begins.more)) ≡ Ok (a, l.more ++ token ∷ begins.more) = law.reads a front (l.more ++ token ∷ begins.more) is refl in
          let two : read (pre ++ token ∷ [] ++ begins.more ++ []) ≡ Ok (begins.item, []) = law.reads begins.item (pre ++ token ∷ [] ++ begins.more) [] begins.is refl in
          let clash : ◌≡◌ {A = Read A} (Ok (a, l.more ++ token ∷ begins.more)) (Ok (begins.item, [])) = sym one ∙ ap read (sym full ∙ sym (append-nil (pre ++ token ∷ [] ++ begins.more))) ∙ two in
          no_more l.more (same_read clash).rests
        where
          no_more : (m : List Token) → m ++ token ∷ begins.more ≡ [] → ⊥
          no_more [] e = absurd cc
          no_more (x ∷ m) e = absurd cc

      by_order : (length (token ∷ others) ≤ length rest) ⊎ (length rest < length (token ∷ others)) → length rest < length (token ∷ others)
      by_order (inl le) = absurd (by_longer (longer front rest pre (token ∷ others) (sym e ∙ whole) le))
      by_order (inr lt) = lt

  pub misplaced_past : (tokens pre : List Token) (token : Token) (others here : List Token) → tokens ≡ pre ++ token ∷ others → Begins P (pre ++ token ∷ []) → IsMisplaced P tokens here
      → length here < length (token ∷ others)
  misplaced_past tokens pre token others here whole begins is = by_order (le_or (length (token ∷ others)) (length here))
    where
      le_or : (m n : ℕ) → (m ≤ n) ⊎ (n < m)
      le_or zero n = inl (omega arith)
      le_or (suc m) zero = inr (omega arith)
      le_or (suc m) (suc n) = by_less (le_or m n)
        where
          by_less : (m ≤ n) ⊎ (n < m) → (suc m ≤ suc n) ⊎ (suc n < suc m)
          by_less (inl le) = inl (omega (arith, le))
          by_less (inr lt) = inr (omega (arith, lt))

      by_more : (more : List Token) → pre ≡ is.front ++ more → here ≡ more ++ token ∷ others → ⊥
      by_more [] fronts rests = is.closed token others rests (record {
        more = begins.more;
        item = begins.item;
        is = subst (λ l. P begins.item (l ++ token ∷ [] ++ begins.more)) (fronts ∙ append-nil is.front) begins.is;
      })
      by_more (x ∷ more) fronts rests = is.closed x (more ++ token ∷ others) rests (record {
        more = more ++ token ∷ begins.more;
        item = begins.item;
        is = subst (λ l. P begins.item l)
            (append_assoc pre (token ∷ []) begins.more ∙ ap (λ l. l ++ token ∷ begins.more) (fronts ∙ sym (append_assoc is.front (x ∷ []) more)) ∙ append_assoc (is.front ++ x ∷ []) more (token ∷ begins.more)) begins.is;
      })

      by_order : (length (token ∷ others) ≤ length here) ⊎ (length here < length (token ∷ others)) → length here < length (token ∷ others)
      by_order (inl le) = let l = longer is.front here pre (token ∷ others) (sym is.whole ∙ whole) le in absurd (by_more l.more l.fronts l.rests)
      by_order (inr lt) = lt

  -- a mark, or a token that no rule allows
  pub data Standing (tokens : List Token) (marked : Refusals) (code : Code) (here : List Token) : Type 0 where
    Mark : marked code here → Standing tokens marked code here
    Misplaced : code ≡ Syntax → IsMisplaced P tokens here → Standing tokens marked code here

  -- one place is misplaced at most
  pub same_place : (tokens here there : List Token) → IsMisplaced P tokens here → IsMisplaced P tokens there → (length there < length here) ⊎ (length there ≡ length here)
  same_place tokens here there is was = by_order (three (length there) (length here))
    where
      three : (m n : ℕ) → (m < n) ⊎ ((m ≡ n) ⊎ (n < m))
      three zero zero = inr (inl refl)
      three zero (suc n) = inl (omega arith)
      three (suc m) zero = inr (inr (omega arith))
      three (suc m) (suc n) = by_three (three m n)
        where
          by_three : (m < n) ⊎ ((m ≡ n) ⊎ (n < m)) → (suc m < suc n) ⊎ ((suc m ≡ suc n) ⊎ (suc n < suc m))
          by_three (inl lt) = inl (omega (arith, lt))
          by_three (inr (inl e)) = inr (inl (ap suc e))
          by_three (inr (inr lt)) = inr (inr (omega (arith, lt)))

      by_longer : length here < length there → (l : Longer was.front there is.front here) → ⊥
      by_longer lt l = by_more l.more l.fronts l.rests
        where
          by_more : (more : List Token) → is.front ≡ was.front ++ more → there ≡ more ++ here → ⊥
          by_more [] fronts rests = absurd (omega (arith, lt, ap length rests))
          by_more (x ∷ more) fronts rests = was.closed x (more ++ here) rests (record {
            more = more ++ is.begins.more;
            item = is.begins.item;
            is = subst (λ l. P is.begins.item l) (ap (λ l. l ++ is.begins.more) (fronts ∙ sym (append_assoc was.front (x ∷ []) more)) ∙ append_assoc (was.front ++ x ∷ []) more is.begins.more) is.begins.is;
          })

      by_order : (length there < length here) ⊎ ((length there ≡ length here) ⊎ (length here < length there)) → (length there < length here) ⊎ (length there ≡ length here)
      by_order (inl lt) = inl lt
      by_order (inr (inl e)) = inr e
      by_order (inr (inr lt)) = absurd (by_longer lt (longer was.front there is.front here (sym was.whole ∙ is.whole) (omega (arith, lt))))

  pub judged_marked : (tokens : List Token) (marked : Refusals) (mark : Option ReadFault) → Marks P tokens marked mark → Judged (Element P tokens) (Standing tokens marked) tokens (settled mark (read tokens))
  judged_marked tokens marked mark marks = by_mark mark refl
    where
      element : (a : A) (rest : List Token) → read tokens ≡ Ok (a, rest) → Element P tokens a rest
      element a rest e = let took = law.took tokens a rest e in record { front = took.front; whole = took.whole; is = took.is }

      unique : (a b : A) (r s : List Token) → Element P tokens a r → Element P tokens b s → Alike a b r s
      unique a b r s is was =
          let same = same_read (sym (law.reads a is.front r is.is refl) ∙ ap read (sym is.whole ∙ was.whole) ∙ law.reads b was.front s was.is refl) in
          record { items = same.item; rests = same.rests }

      short : (rest : List Token) (front : List Token) → tokens ≡ front ++ rest → length rest ≤ length tokens
      short rest front e = omega (arith, ap length e, length-append front rest)

      within : (code : Code) (here : List Token) → Standing tokens marked code here → length here ≤ length tokens
      within code here (Mark is) = marks.within code here is
      within code here (Misplaced e is) = short here is.front is.whole

      shorter : (a : A) (rest : List Token) → Element P tokens a rest → length rest ≤ length tokens
      shorter a rest is = short rest is.front is.whole

      whole_read : (a : A) (rest : List Token) → read tokens ≡ Ok (a, rest) → (here : List Token) → IsMisplaced P tokens here → ⊥
      whole_read a rest e here is = by_longer (law.took tokens a rest e)
        where
          by_longer : Took P read tokens a rest → ⊥
          by_longer took = by_less (le_or (length here) (length rest))
            where
              le_or : (m n : ℕ) → (m ≤ n) ⊎ (n < m)
              le_or zero n = inl (omega arith)
              le_or (suc m) zero = inr (omega arith)
              le_or (suc m) (suc n) = by_step (le_or m n)
                where
                  by_step : (m ≤ n) ⊎ (n < m) → (suc m ≤ suc n) ⊎ (suc n < suc m)
                  by_step (inl le) = inl (omega (arith, le))
                  by_step (inr lt) = inr (omega (arith, lt))

              by_front : (more : List Token) → is.front ≡ took.front ++ more → ⊥
              by_front [] e = is.unfinished a (subst (λ l. P a l) (sym (e ∙ append-nil took.front)) took.is)
              by_front (x ∷ more) e =
                  let one : read (took.front ++ (x ∷ more ++ is.begins.more)) ≡ Ok (a, x ∷ more ++ is.begins.more) = law.reads a took.front (x ∷ more ++ is.begins.more) took.is refl in
                  let two : read (is.front ++ is.begins.more ++ []) ≡ Ok (is.begins.item, []) = law.reads is.begins.item (is.front ++ is.begins.more) [] is.begins.is refl in
                  let full : is.front ++ is.begins.more ++ [] ≡ took.front ++ (x ∷ more ++ is.begins.more)
                  = append-nil (is.front ++ is.begins.more) ∙ ap (λ l. l ++ is.begins.more) e ∙ append_assoc took.front (x ∷ more) is.begins.more in
                  let clash : ◌≡◌ {A = Read A} (Ok (is.begins.item, [])) (Ok (a, x ∷ more ++ is.begins.more)) = sym two ∙ ap read full ∙ one in
                  let bad : [] ≡ x ∷ more ++ is.begins.more = (same_read clash).rests in
                  absurd cc

              by_less : (length here ≤ length rest) ⊎ (length rest < length here) → ⊥
              by_less (inl le) = let l = longer took.front rest is.front here (sym took.whole ∙ is.whole) le in by_front l.more l.fronts
              by_less (inr lt) = let l = longer is.front here took.front rest (sym is.whole ∙ took.whole) (omega (arith, lt)) in by_more l.more l.fronts l.rests
                where
                  by_more : (more : List Token) → took.front ≡ is.front ++ more → here ≡ more ++ rest → ⊥
                  by_more [] fronts rests = absurd (omega (arith, lt, ap length rests))
                  by_more (x ∷ more) fronts rests = is.closed x (more ++ rest) rests (record {
                    more = more;
                    item = a;
                    is = subst (λ l. P a l) (fronts ∙ sym (append_assoc is.front (x ∷ []) more)) took.is;
                  })

      by_mark : (m : Option ReadFault) → mark ≡ m → Judged (Element P tokens) (Standing tokens marked) tokens (settled m (read tokens))
      by_mark None e = record {
        took = λ a rest r. element a rest r;
        right = λ a rest r code here standing. right a rest r code here standing;
        wrong = λ fault r. by_missing (missing law tokens fault r);
        unique = unique;
        within = within;
        shorter = shorter;
      }
        where
          right : (a : A) (rest : List Token) → read tokens ≡ Ok (a, rest) → (code : Code) (here : List Token) → Standing tokens marked code here → ⊥
          right a rest r code here (Mark is) = marks.none e code here is
          right a rest r code here (Misplaced s is) = whole_read a rest r here is

          by_missing : {fault : ReadFault} → Missing P tokens fault → Found (Element P tokens) (Standing tokens marked) fault
          by_missing {fault} m = record {
            here = m.here;
            first = record {
              is = Misplaced (ap (λ (f : ReadFault). f.code) m.place) m.is;
              first = λ code there other. by_other code there other;
            };
            place = ap (λ (f : ReadFault). f.left) m.place;
            inside = λ a rest is. inside a rest is;
          }
            where
              code_is : fault.code ≡ Syntax
              code_is = ap (λ (f : ReadFault). f.code) m.place

              by_place : (code : Code) (there : List Token) → code ≡ Syntax → (length there < length m.here) ⊎ (length there ≡ length m.here)
                  → (length there < length m.here) ⊎ ((length there ≡ length m.here) × (number_of fault.code ≤ number_of code))
              by_place code there s (inl lt) = inl lt
              by_place code there s (inr e) = inr (e, subst (λ c. number_of fault.code ≤ number_of c) (code_is ∙ sym s) (omega arith))

              by_other : (code : Code) (there : List Token) → Standing tokens marked code there → (length there < length m.here) ⊎ ((length there ≡ length m.here) × (number_of fault.code ≤ number_of code))
              by_other code there (Mark is) = absurd (marks.none e code there is)
              by_other code there (Misplaced s is) = by_place code there s (same_place tokens m.here there m.is is)

              inside : (a : A) (rest : List Token) → Element P tokens a rest → length rest < length m.here
              inside a rest is = absurd (whole_read a rest (ap read is.whole ∙ law.reads a is.front rest is.is refl) m.here m.is)
      by_mark (Some f) e = record {
        took = λ a rest r. absurd cc;
        right = λ a rest r. absurd cc;
        wrong = λ fault r. let same : f ≡ fault = cc in subst (λ x. Found (Element P tokens) (Standing tokens marked) x) same (by_first (marks.some f e));
        unique = unique;
        within = within;
        shorter = shorter;
      }
        where
          by_first : FirstMark P tokens marked f → Found (Element P tokens) (Standing tokens marked) f
          by_first m = record {
            here = m.token ∷ m.others;
            first = record { is = Mark m.first.is; first = λ code there other. by_other code there other };
            place = m.place;
            inside = λ a rest is. past tokens m.pre m.token m.others a is.front rest m.whole m.begins is.whole is.is;
          }
            where
              by_other : (code : Code) (there : List Token) → Standing tokens marked code there → (length there < length (m.token ∷ m.others)) ⊎ ((length there ≡ length (m.token ∷ m.others)) × (number_of f.code ≤ number_of code))
              by_other code there (Mark is) = m.first.first code there is
              by_other code there (Misplaced s is) = inl (misplaced_past tokens m.pre m.token m.others there m.whole m.begins is)

-- a refusal at one place, if a condition holds
abbrev pub At : Code → List Token → Type 0 → Refusals
At wanted place Holds code here = (code ≡ wanted) × (here ≡ place) × Holds

pub no_marks : {A : Type 0} (P : A → List Token → Type 0) (tokens : List Token) → Marks P tokens (λ code here. ⊥) None
no_marks P tokens = record { none = λ e code here is. is; some = λ fault e. absurd cc; within = λ code here is. absurd is }

pub place_marks : {A : Type 0} (P : A → List Token → Type 0) (tokens pre : List Token) (token : Token) (others : List Token) (wanted : Code) (Holds : Type 0) (test : Bool)
    → tokens ≡ pre ++ token ∷ others → Begins P (pre ++ token ∷ []) → (test ≡ true → Holds) → (Holds → test ≡ true)
    → Marks P tokens (At wanted (token ∷ others) Holds) (given test (record { code = wanted; left = length (token ∷ others) }))
place_marks P tokens pre token others wanted Holds true whole begins into out = record {
  none = λ e. absurd cc;
  some = λ fault e. let same : record { code = wanted; left = length (token ∷ others) } ≡ fault = cc in
      subst (λ f. FirstMark P tokens (At wanted (token ∷ others) Holds) f) same (record {
        pre = pre;
        token = token;
        others = others;
        whole = whole;
        begins = begins;
        place = refl;
        first = record { is = (refl, refl, into refl); first = λ other there is. inr (ap length is.1, subst (λ c. number_of wanted ≤ number_of c) (sym is.0) (omega arith)) };
      });
  within = λ code here is. omega (arith, ap length is.1, ap length whole, length-append pre (token ∷ others));
}
place_marks P tokens pre token others wanted Holds false whole begins into out = record {
  none = λ e code here is. let bad : false ≡ true = out is.2 in absurd cc;
  some = λ fault e. absurd cc;
  within = λ code here is. omega (arith, ap length is.1, ap length whole, length-append pre (token ∷ others));
}

-- marks of which those of the first kind come before the others

abbrev pub Before : ReadFault → Code → List Token → Type 0
Before fault code here = (length here < fault.left) ⊎ ((length here ≡ fault.left) × (number_of fault.code ≤ number_of code))

pub marks_or : {A : Type 0} {P : A → List Token → Type 0} {tokens : List Token} {m n : Refusals} {first second : Option ReadFault} → Marks P tokens m first → Marks P tokens n second
    → ((fault : ReadFault) → first ≡ Some fault → (code : Code) (here : List Token) → n code here → Before fault code here) → Marks P tokens (λ code here. m code here ⊎ n code here) (or_else first second)
marks_or {A} {P} {tokens} {m} {n} {first} {second} a b order = by_first first refl a order
  where
    within : Marks P tokens m first → (code : Code) (here : List Token) → m code here ⊎ n code here → length here ≤ length tokens
    within a code here (inl is) = a.within code here is
    within a code here (inr is) = b.within code here is

    by_first : (f : Option ReadFault) → first ≡ f → Marks P tokens m f → ((fault : ReadFault) → f ≡ Some fault → (code : Code) (here : List Token) → n code here → Before fault code here)
        → Marks P tokens (λ code here. m code here ⊎ n code here) (or_else f second)
    by_first None e c order = record {
      none = λ s code here is. no_case s code here is;
      some = λ fault s. by_second fault (b.some fault s);
      within = within a;
    }
      where
        no_case : second ≡ None → (code : Code) (here : List Token) → m code here ⊎ n code here → ⊥
        no_case s code here (inl is) = c.none refl code here is
        no_case s code here (inr is) = b.none s code here is

        by_second : (fault : ReadFault) → FirstMark P tokens n fault → FirstMark P tokens (λ code here. m code here ⊎ n code here) fault
        by_second fault f = record {
          pre = f.pre;
          token = f.token;
          others = f.others;
          whole = f.whole;
          begins = f.begins;
          place = f.place;
          first = record { is = inr f.first.is; first = λ other there is. by_other other there is };
        }
          where
            by_other : (other : Code) (there : List Token) → m other there ⊎ n other there → (length there < length (f.token ∷ f.others)) ⊎ ((length there ≡ length (f.token ∷ f.others)) × (number_of fault.code ≤ number_of other))
            by_other other there (inl is) = absurd (c.none refl other there is)
            by_other other there (inr is) = f.first.first other there is
    by_first (Some g) e c order = record {
      none = λ s. absurd cc;
      some = λ fault s. let same : g ≡ fault = cc in subst (λ x. FirstMark P tokens (λ code here. m code here ⊎ n code here) x) same (by_mark (c.some g refl));
      within = within a;
    }
      where
        by_mark : FirstMark P tokens m g → FirstMark P tokens (λ code here. m code here ⊎ n code here) g
        by_mark f = record {
          pre = f.pre;
          token = f.token;
          others = f.others;
          whole = f.whole;
          begins = f.begins;
          place = f.place;
          first = record { is = inl f.first.is; first = λ other there is. by_other other there is };
        }
          where
            placed : (other : Code) (there : List Token) → Before g other there → (length there < length (f.token ∷ f.others)) ⊎ ((length there ≡ length (f.token ∷ f.others)) × (number_of g.code ≤ number_of other))
            placed other there (inl lt) = inl (omega (arith, lt, f.place))
            placed other there (inr same) = inr (same.0 ∙ f.place, same.1)

            by_other : (other : Code) (there : List Token) → m other there ⊎ n other there → (length there < length (f.token ∷ f.others)) ⊎ ((length there ≡ length (f.token ∷ f.others)) × (number_of g.code ≤ number_of other))
            by_other other there (inl is) = f.first.first other there is
            by_other other there (inr is) = placed other there (order g refl other there is)

pub marks_map : {A : Type 0} {P : A → List Token → Type 0} {tokens : List Token} {m n : Refusals} {mark : Option ReadFault}
    → ((code : Code) (here : List Token) → m code here → n code here) → ((code : Code) (here : List Token) → n code here → m code here) → Marks P tokens m mark → Marks P tokens n mark
marks_map {A} {P} {tokens} {m} {n} {mark} into out marks = record {
  none = λ e code here is. marks.none e code here (out code here is);
  some = λ fault e. let f = marks.some fault e in record {
    pre = f.pre;
    token = f.token;
    others = f.others;
    whole = f.whole;
    begins = f.begins;
    place = f.place;
    first = record { is = into fault.code (f.token ∷ f.others) f.first.is; first = λ other there is. f.first.first other there (out other there is) };
  };
  within = λ code here is. marks.within code here (out code here is);
}

-- the marks of a part are those of a whole that begins with some tokens and the part
pub lift_marks : {A B : Type 0} {P : A → List Token → Type 0} {Q : B → List Token → Type 0} {m : Refusals} {mark : Option ReadFault} (before tokens : List Token)
    → ((l : List Token) → Begins P l → Begins Q (before ++ l)) → Marks P tokens m mark → Marks Q (before ++ tokens) m mark
lift_marks {A} {B} {P} {Q} {m} {mark} before tokens lift marks = record {
  none = marks.none;
  some = λ fault e. let f = marks.some fault e in record {
    pre = before ++ f.pre;
    token = f.token;
    others = f.others;
    whole = ap (λ l. before ++ l) f.whole ∙ sym (append_assoc before f.pre (f.token ∷ f.others));
    begins = subst (λ l. Begins Q l) (sym (append_assoc before f.pre (f.token ∷ []))) (lift (f.pre ++ f.token ∷ []) f.begins);
    place = f.place;
    first = f.first;
  };
  within = λ code here is. let le = marks.within code here is in omega (arith, le, length-append before tokens);
}

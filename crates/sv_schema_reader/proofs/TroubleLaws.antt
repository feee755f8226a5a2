-- Readings inside a check, which is refused at its first token if its bound hasn't 64 bits.
use Rattle.std.proofs.Common.{◌≡◌, ◌∙◌, ℕ, Bool, true, false, List, [], ◌∷◌, ◌++◌, length, Ok, Err, refl, sym, ap, subst, append_assoc, cond}
use Rattle.sv_lex.specs.declared.tokens.Token.{Token}
use Rattle.sv_app.specs.declared.refusals.Code.TheVariants.{Syntax, Many}
use Rattle.sv_reader.specs.declared.faults.ReadFault.{ReadFault}
use Rattle.sv_reader.specs.Reading.{Read, ◌>>=◌, refuse}
use Rattle.sv_schema_reader.specs.Refused.{IsElement}
use Rattle.sv_reader.proofs.AnswerLaws.{near, Alike, then_ok, many_syntax}
use Rattle.sv_reader.proofs.ReadLaws.{alike_element, Start, Open, Took, Over, Then, then_parts, start_map, open_map, regroup, start_behind}
use Rattle.sv_schema_reader.proofs.MatterLaws.{schemas}

-- a reading that is told how many tokens are left where its check begins
abbrev pub Inner : Type 0 → Type 0
Inner A = ℕ → List Token → Read A

-- an element inside the check passes a limit
pub record Inside {A : Type 0} (read : Inner A) (All Small : A → List Token → Type 0) (tokens : List Token) (fault : ReadFault) : Type 0 where
  pub front : List Token
  pub element : List Token
  pub rest : List Token
  pub whole : tokens ≡ front ++ element ++ rest
  pub place : fault ≡ record { code = Many; left = length (element ++ rest) }
  pub is : IsElement element
  pub small : Open schemas Small front
  pub begins : Start All (front ++ element)
  pub again : (start : ℕ) (last : List Token) → read start (front ++ element ++ last) ≡ refuse Many (element ++ last)

-- a check with a bound, of which only the front is well written
pub record Loose {A : Type 0} (read : Inner A) (Bounds : A → List Token → Type 0) (tokens : List Token) (fault : ReadFault) : Type 0 where
  pub front : List Token
  pub rest : List Token
  pub whole : tokens ≡ front ++ rest
  pub place : fault ≡ record { code = Syntax; left = length rest }
  pub begins : Start Bounds front
  pub again : (start : ℕ) (last : List Token) → Alike rest last → read start (front ++ last) ≡ refuse Syntax last

-- a whole check with a bound that hasn't 64 bits
pub record Unfit {A : Type 0} (read : Inner A) (Bad : A → List Token → Type 0) (start : ℕ) (tokens : List Token) (fault : ReadFault) : Type 0 where
  pub item : A
  pub front : List Token
  pub rest : List Token
  pub whole : tokens ≡ front ++ rest
  pub place : fault ≡ record { code = Many; left = start }
  pub is : Bad item front
  pub some : front ≡ [] → ⊥
  pub again : (start : ℕ) (last : List Token) → read start (front ++ last) ≡ Err (record { code = Many; left = start })

-- All: whatever is written; Small: what keeps the limits; Bounds: checks with a bound; Bad: those whose bound hasn't 64 bits
pub data Trouble {A : Type 0} (read : Inner A) (All Small Bounds Bad : A → List Token → Type 0) (start : ℕ) (tokens : List Token) (fault : ReadFault) : Type 0 where
  IsInside : Inside read All Small tokens fault → Trouble read All Small Bounds Bad start tokens fault
  IsLoose : Loose read Bounds tokens fault → Trouble read All Small Bounds Bad start tokens fault
  IsUnfit : Unfit read Bad start tokens fault → Trouble read All Small Bounds Bad start tokens fault

alike_some : (front rest last : List Token) → (front ≡ [] → ⊥) → Alike (front ++ rest) (front ++ last)
alike_some [] rest last some = absurd (some refl)
alike_some (x ∷ front) rest last some = refl

-- behind a part that is small as a whole
pub trouble_behind : {A B : Type 0} {P : A → List Token → Type 0} {Q QS QB QU : A → B → List Token → Type 0} (p : List Token → Read A) (q : A → Inner B)
    (start : ℕ) (tokens : List Token) (head : A) (rest : List Token) (fault : ReadFault)
    → Took P p tokens head rest → Trouble (q head) (Q head) (QS head) (QB head) (QU head) start rest fault
    → Trouble (λ s l. p l >>= λ a r. q a s r) (Then P Q) (Then P QS) (Then P QB) (Then P QU) start tokens fault
trouble_behind {A} {B} {P} {Q} {QS} {QB} {QU} p q start tokens head rest fault first (IsInside over) = IsInside (record {
  front = first.front ++ over.front;
  element = over.element;
  rest = over.rest;
  whole = first.whole ∙ ap (λ l. first.front ++ l) over.whole ∙ regroup first.front over.front over.element over.rest;
  place = over.place;
  is = over.is;
  small = open_map first.front (start_behind P QS head first.front first.is) over.small;
  begins = subst (λ l. Start (Then P Q) l) (sym (append_assoc first.front over.front over.element)) (start_behind P Q head first.front first.is (over.front ++ over.element) over.begins);
  again = λ s last.
      let back : Alike rest (over.front ++ over.element ++ last) = subst (λ l. Alike l (over.front ++ over.element ++ last)) (sym over.whole) (alike_element schemas over.front over.is over.rest last) in
      ap (λ l. p l >>= λ a r. q a s r) (sym (regroup first.front over.front over.element last)) ∙ then_ok (λ a r. q a s r) (first.again (over.front ++ over.element ++ last) back) ∙ over.again s last;
})
trouble_behind {A} {B} {P} {Q} {QS} {QB} {QU} p q start tokens head rest fault first (IsLoose loose) = IsLoose (record {
  front = first.front ++ loose.front;
  rest = loose.rest;
  whole = first.whole ∙ ap (λ l. first.front ++ l) loose.whole ∙ sym (append_assoc first.front loose.front loose.rest);
  place = loose.place;
  begins = start_behind P QB head first.front first.is loose.front loose.begins;
  again = λ s last alike.
      ap (λ l. p l >>= λ a r. q a s r) (append_assoc first.front loose.front last)
      ∙ then_ok (λ a r. q a s r) (first.again (loose.front ++ last) (near loose.front loose.rest last rest loose.whole alike)) ∙ loose.again s last alike;
})
trouble_behind {A} {B} {P} {Q} {QS} {QB} {QU} p q start tokens head rest fault first (IsUnfit unfit) = IsUnfit (record {
  item = unfit.item;
  front = first.front ++ unfit.front;
  rest = unfit.rest;
  whole = first.whole ∙ ap (λ l. first.front ++ l) unfit.whole ∙ sym (append_assoc first.front unfit.front unfit.rest);
  place = unfit.place;
  is = then_parts P QU head unfit.item first.front unfit.front first.is unfit.is;
  some = λ e. unfit.some (second_empty first.front unfit.front e);
  again = λ s last.
      let back : Alike rest (unfit.front ++ last) = subst (λ l. Alike l (unfit.front ++ last)) (sym unfit.whole) (alike_some unfit.front unfit.rest last unfit.some) in
      ap (λ l. p l >>= λ a r. q a s r) (append_assoc first.front unfit.front last) ∙ then_ok (λ a r. q a s r) (first.again (unfit.front ++ last) back) ∙ unfit.again s last;
})
  where
    second_empty : (a b : List Token) → a ++ b ≡ [] → b ≡ []
    second_empty [] b e = e
    second_empty (x ∷ a) b e = absurd cc

-- other languages, and a reading that answers the same where the tokens begin alike
pub trouble_same : {A B : Type 0} {r : Inner A} {t : Inner B} {P PS PB PU : A → List Token → Type 0} {Q QS QB QU : B → List Token → Type 0} (f : A → B) (start : ℕ) (tokens : List Token) (fault : ReadFault)
    → ((a : A) (l : List Token) → P a l → Q (f a) l) → ((a : A) (l : List Token) → PS a l → QS (f a) l) → ((a : A) (l : List Token) → PB a l → QB (f a) l) → ((a : A) (l : List Token) → PU a l → QU (f a) l)
    → ((s : ℕ) (l : List Token) (other : ReadFault) → Alike tokens l → r s l ≡ Err other → t s l ≡ Err other)
    → Trouble r P PS PB PU start tokens fault → Trouble t Q QS QB QU start tokens fault
trouble_same f start tokens fault all small bounds bad same (IsInside over) = IsInside (record {
  front = over.front;
  element = over.element;
  rest = over.rest;
  whole = over.whole;
  place = over.place;
  is = over.is;
  small = open_map [] (λ shorter s. start_map f small shorter s) over.small;
  begins = start_map f all (over.front ++ over.element) over.begins;
  again = λ s last. same s (over.front ++ over.element ++ last) (record { code = Many; left = length (over.element ++ last) })
      (subst (λ l. Alike l (over.front ++ over.element ++ last)) (sym over.whole) (alike_element schemas over.front over.is over.rest last)) (over.again s last);
})
trouble_same f start tokens fault all small bounds bad same (IsLoose loose) = IsLoose (record {
  front = loose.front;
  rest = loose.rest;
  whole = loose.whole;
  place = loose.place;
  begins = start_map f bounds loose.front loose.begins;
  again = λ s last alike. same s (loose.front ++ last) (record { code = Syntax; left = length last }) (near loose.front loose.rest last tokens loose.whole alike) (loose.again s last alike);
})
trouble_same f start tokens fault all small bounds bad same (IsUnfit unfit) = IsUnfit (record {
  item = f unfit.item;
  front = unfit.front;
  rest = unfit.rest;
  whole = unfit.whole;
  place = unfit.place;
  is = bad unfit.item unfit.front unfit.is;
  some = unfit.some;
  again = λ s last. same s (unfit.front ++ last) (record { code = Many; left = s })
      (subst (λ l. Alike l (unfit.front ++ last)) (sym unfit.whole) (alike_some unfit.front unfit.rest last unfit.some)) (unfit.again s last);
})

-- an element that passes a limit in a part that isn't told where the check begins
pub over_inside : {A : Type 0} {read : List Token → Read A} {All Small Bounds Bad : A → List Token → Type 0} (start : ℕ) (tokens : List Token) (fault : ReadFault)
    → Over schemas All Small read tokens fault → Trouble (λ _. read) All Small Bounds Bad start tokens fault
over_inside start tokens fault over = IsInside (record {
  front = over.front;
  element = over.element;
  rest = over.rest;
  whole = over.whole;
  place = over.place;
  is = over.is;
  small = over.small;
  begins = over.begins;
  again = λ s last. over.again last;
})

-- two answers that are the same, unless a bound hasn't 64 bits
pub data Agree {A : Type 0} (s t : ℕ) (x y : Read A) : Type 0 where
  Equal : x ≡ y → Agree s t x y
  Unequal : x ≡ Err (record { code = Many; left = s }) → y ≡ Err (record { code = Many; left = t }) → Agree s t x y

pub agree_then : {A B : Type 0} {s t : ℕ} (read : Read A) (x y : A → List Token → Read B) → ((a : A) (l : List Token) → Agree s t (x a l) (y a l)) → Agree s t (read >>= x) (read >>= y)
agree_then (Ok (a, l)) x y agree = agree a l
agree_then (Err fault) x y agree = Equal refl

pub agree_first : {A B : Type 0} {s t : ℕ} (x y : Read A) (more : A → List Token → Read B) → Agree s t x y → Agree s t (x >>= more) (y >>= more)
agree_first x y more (Equal e) = Equal (ap (λ r. r >>= more) e)
agree_first x y more (Unequal a b) = Unequal (ap (λ r. r >>= more) a) (ap (λ r. r >>= more) b)

pub agree_either : {A : Type 0} {s t : ℕ} (b : Bool) (x y u v : Read A) → Agree s t x y → Agree s t u v → Agree s t (cond b x u) (cond b y v)
agree_either true x y u v first second = first
agree_either false x y u v first second = second

-- a token that no rule allows is the same, wherever the check begins
pub agree_misplaced : {A : Type 0} {s t : ℕ} {x y : Read A} (left : ℕ) → Agree s t x y → x ≡ Err (record { code = Syntax; left = left }) → y ≡ Err (record { code = Syntax; left = left })
agree_misplaced left (Equal e) is = sym e ∙ is
agree_misplaced {A} {s} {t} {x} {y} left (Unequal a b) is = absurd (many_syntax s left (sym a ∙ is))

-- What it means that a reading judges tokens: it reads what stands there, or says which refusal is the first; and how such readings are put together.
use Rattle.std.proofs.Common.{◌≡◌, ◌∙◌, ◌<◌, ◌≤◌, ◌⊎◌, inl, inr, List, length, Ok, Err, refl, sym, subst, arith}
use Rattle.sv_lex.specs.declared.tokens.Token.{Token}
use Rattle.sv_app.specs.declared.refusals.Code.{Code}
use Rattle.sv_app.specs.Codes.{number_of}
use Rattle.sv_reader.specs.declared.faults.ReadFault.{ReadFault}
use Rattle.sv_reader.specs.Reading.{Read, ◌>>=◌}
use Rattle.sv_reader.proofs.AnswerLaws.{Bound, bound, bound_err}
use Rattle.sv_workload.specs.Elements.{Refusals, IsFirst, AreNone}

-- what is read, and the tokens behind it
abbrev pub Language : Type 0 → Type 1
Language A = A → List Token → Type 0

-- a fault is the first refusal, and stands before the end of what is there as a whole
pub record Found {A : Type 0} (L : Language A) (R : Refusals) (fault : ReadFault) : Type 0 where
  pub here : List Token
  pub first : IsFirst R fault.code here
  pub place : fault.left ≡ length here
  pub inside : (a : A) (rest : List Token) → L a rest → length rest < length here

-- two readings of the same
pub record Alike {A : Type 0} (a b : A) (r s : List Token) : Type 0 where
  pub items : a ≡ b
  pub rests : r ≡ s

pub record Judged {A : Type 0} (L : Language A) (R : Refusals) (tokens : List Token) (read : Read A) : Type 0 where
  pub took : (a : A) (rest : List Token) → read ≡ Ok (a, rest) → L a rest
  pub right : (a : A) (rest : List Token) → read ≡ Ok (a, rest) → AreNone R
  pub wrong : (fault : ReadFault) → read ≡ Err fault → Found L R fault
  pub unique : (a b : A) (r s : List Token) → L a r → L b s → Alike a b r s
  pub within : (code : Code) (here : List Token) → R code here → length here ≤ length tokens
  pub shorter : (a : A) (rest : List Token) → L a rest → length rest ≤ length tokens

-- what stands there and is not refused is read
pub reads : {A : Type 0} {L : Language A} {R : Refusals} {tokens : List Token} {read : Read A} → Judged L R tokens read → (a : A) (rest : List Token) → L a rest → AreNone R → read ≡ Ok (a, rest)
reads {A} {L} {R} {tokens} {read} judged a rest is right = by_read read refl
  where
    by_read : (found : Read A) → read ≡ found → read ≡ Ok (a, rest)
    by_read (Err fault) e = let f = judged.wrong fault e in absurd (right fault.code f.here f.first.is)
    by_read (Ok (b, s)) e = let same = judged.unique b a s rest (judged.took b s e) is in e ∙ (λ i. Ok (same.items i, same.rests i))

pub judged_map : {A : Type 0} {L M : Language A} {R S : Refusals} {tokens : List Token} {read other : Read A} → other ≡ read
    → ((a : A) (rest : List Token) → L a rest → M a rest) → ((a : A) (rest : List Token) → M a rest → L a rest)
    → ((code : Code) (here : List Token) → R code here → S code here) → ((code : Code) (here : List Token) → S code here → R code here) → Judged L R tokens read → Judged M S tokens other
judged_map {A} {L} {M} {R} {S} {tokens} {read} {other} same into out refused back judged = record {
  took = λ a rest e. into a rest (judged.took a rest (sym same ∙ e));
  right = λ a rest e code here is. judged.right a rest (sym same ∙ e) code here (back code here is);
  wrong = λ fault e. let f = judged.wrong fault (sym same ∙ e) in record {
    here = f.here;
    first = record { is = refused fault.code f.here f.first.is; first = λ code there is. f.first.first code there (back code there is) };
    place = f.place;
    inside = λ a rest is. f.inside a rest (out a rest is);
  };
  unique = λ a b r s is was. judged.unique a b r s (out a r is) (out b s was);
  within = λ code here is. judged.within code here (back code here is);
  shorter = λ a rest is. judged.shorter a rest (out a rest is);
}

-- one part and, behind it, another

pub record Both {A B : Type 0} (P : Language A) (Q : A → List Token → Language B) (b : B) (rest : List Token) : Type 0 where
  pub head : A
  pub middle : List Token
  pub first : P head middle
  pub second : Q head middle b rest

pub data Either {A : Type 0} (P : Language A) (RP : Refusals) (RQ : A → List Token → Refusals) (code : Code) (here : List Token) : Type 0 where
  InFirst : RP code here → Either P RP RQ code here
  InSecond : (a : A) (middle : List Token) → P a middle → RQ a middle code here → Either P RP RQ code here

pub judged_then : {A B : Type 0} {P : Language A} {RP : Refusals} {Q : A → List Token → Language B} {RQ : A → List Token → Refusals} {tokens : List Token} {p : Read A} (q : A → List Token → Read B)
    → Judged P RP tokens p → ((a : A) (middle : List Token) → P a middle → Judged (Q a middle) (RQ a middle) middle (q a middle)) → Judged (Both P Q) (Either P RP RQ) tokens (p >>= q)
judged_then {A} {B} {P} {RP} {Q} {RQ} {tokens} {p} q first second = record { took = took; right = right; wrong = wrong; unique = unique; within = within; shorter = shorter }
  where
    took : (b : B) (rest : List Token) → p >>= q ≡ Ok (b, rest) → Both P Q b rest
    took b rest e = let x = bound p q (b, rest) e in
        let is = first.took x.item x.rest x.is in
        record { head = x.item; middle = x.rest; first = is; second = (second x.item x.rest is).took b rest x.left }

    carried : (a b : A) (r s : List Token) (F : A → List Token → Type 0) → P a r → P b s → F a r → F b s
    carried a b r s F is was x = let same = first.unique a b r s is was in subst (λ y. F y s) same.items (subst (λ y. F a y) same.rests x)

    right : (b : B) (rest : List Token) → p >>= q ≡ Ok (b, rest) → AreNone (Either P RP RQ)
    right b rest e code here refused = by_case refused
      where
        by_case : Either P RP RQ code here → ⊥
        by_case (InFirst r) = let x = bound p q (b, rest) e in first.right x.item x.rest x.is code here r
        by_case (InSecond a m is r) = let x = bound p q (b, rest) e in
            let was = first.took x.item x.rest x.is in
            (second x.item x.rest was).right b rest x.left code here (carried a x.item m x.rest (λ y l. RQ y l code here) is was r)

    wrong : (fault : ReadFault) → p >>= q ≡ Err fault → Found (Both P Q) (Either P RP RQ) fault
    wrong fault e = by_bound (bound_err p q fault e)
      where
        by_bound : (p ≡ Err fault) ⊎ Bound p q (Err fault) → Found (Both P Q) (Either P RP RQ) fault
        by_bound (inl e) = let f = first.wrong fault e in record {
          here = f.here;
          first = record { is = InFirst f.first.is; first = λ code there other. by_other f code there other };
          place = f.place;
          inside = λ b rest is. let low = (second is.head is.middle is.first).shorter b rest is.second in let high = f.inside is.head is.middle is.first in omega (arith, low, high);
        }
          where
            by_other : (f : Found P RP fault) (code : Code) (there : List Token) → Either P RP RQ code there → (length there < length f.here) ⊎ ((length there ≡ length f.here) × (number_of fault.code ≤ number_of code))
            by_other f code there (InFirst r) = f.first.first code there r
            by_other f code there (InSecond a m is r) = let low = (second a m is).within code there r in let high = f.inside a m is in inl (omega (arith, low, high))
        by_bound (inr x) = let was = first.took x.item x.rest x.is in let f = (second x.item x.rest was).wrong fault x.left in record {
          here = f.here;
          first = record { is = InSecond x.item x.rest was f.first.is; first = λ code there other. by_other was f code there other };
          place = f.place;
          inside = λ b rest is. f.inside b rest (carried is.head x.item is.middle x.rest (λ y l. Q y l b rest) is.first was is.second);
        }
          where
            by_other : P x.item x.rest → (f : Found (Q x.item x.rest) (RQ x.item x.rest) fault) (code : Code) (there : List Token) → Either P RP RQ code there
                → (length there < length f.here) ⊎ ((length there ≡ length f.here) × (number_of fault.code ≤ number_of code))
            by_other was f code there (InFirst r) = absurd (first.right x.item x.rest x.is code there r)
            by_other was f code there (InSecond a m is r) = f.first.first code there (carried a x.item m x.rest (λ y l. RQ y l code there) is was r)

    unique : (a b : B) (r s : List Token) → Both P Q a r → Both P Q b s → Alike a b r s
    unique a b r s is was = (second was.head was.middle was.first).unique a b r s (carried is.head was.head is.middle was.middle (λ y l. Q y l a r) is.first was.first is.second) was.second

    within : (code : Code) (here : List Token) → Either P RP RQ code here → length here ≤ length tokens
    within code here (InFirst r) = first.within code here r
    within code here (InSecond a m is r) = let low = (second a m is).within code here r in let high = first.shorter a m is in omega (arith, low, high)

    shorter : (b : B) (rest : List Token) → Both P Q b rest → length rest ≤ length tokens
    shorter b rest is = let low = (second is.head is.middle is.first).shorter b rest is.second in let high = first.shorter is.head is.middle is.first in omega (arith, low, high)

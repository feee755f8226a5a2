-- Readings of elements that pass no limit: lists of them, and where they are misplaced.
use Rattle.std.proofs.Common.{◌≡◌, ◌∙◌, ◌⊎◌, inl, inr, Bool, false, List, [], ◌∷◌, ◌++◌, length, Ok, Err, refl, sym, ap, subst, append_assoc, append-nil}
use Rattle.sv_lex.specs.declared.marks.Mark.TheVariants.{Comma}
use Rattle.sv_lex.specs.declared.tokens.Token.{Token}
use Rattle.sv_lex.specs.declared.tokens.TokenKind.TheVariants.{Mark}
use Rattle.sv_app.specs.declared.refusals.Code.TheVariants.{Syntax, Many}
use Rattle.sv_reader.specs.declared.faults.ReadFault.{ReadFault}
use Rattle.sv_reader.specs.Reading.{Read, ◌>>=◌, refuse, list_at}
use Rattle.sv_reader.proofs.ListLaws.{Listed, Rooms, Any, list, list_limited}
use Rattle.sv_reader.proofs.AnswerLaws.{Alike, anything}
use Rattle.sv_reader.proofs.ReadLaws.{Stuck, Over, Plain, Limited, limited, same_plain, none}
use Rattle.sv_reader.proofs.StepLaws.{Stepping}
use Rattle.sv_reader.proofs.ListLaws.{snoc, all_snoc}
use Rattle.sv_workload.specs.Elements.{IsMisplaced}
use Rattle.sv_reader.proofs.MatterLaws.{bare}

-- what passes no limit in a language of which all is small
pub plain_of : {A : Type 0} {P : A → List Token → Type 0} {read : List Token → Read A} → Limited bare anything P P read → Plain bare anything P read
plain_of {A} {P} {read} law = record { inside = law.inside; some = law.some; took = law.took; reads = law.reads; all = law.all; fails = λ tokens fault e. by_fails tokens fault (law.fails tokens fault e) }
  where
    no_over : (tokens : List Token) (fault : ReadFault) → Over bare P P read tokens fault → ⊥
    no_over tokens fault over =
        let start = over.begins in
        let ok : read (over.front ++ over.element ++ start.more ++ []) ≡ Ok (start.item, []) = law.reads start.item (over.front ++ over.element ++ start.more) [] start.is refl in
        let clash : ◌≡◌ {A = Read A} (Ok (start.item, [])) (refuse Many (over.element ++ start.more)) = sym ok ∙ ap read (append-nil (over.front ++ over.element ++ start.more)) ∙ over.again start.more in
        absurd cc

    by_fails : (tokens : List Token) (fault : ReadFault) → Stuck bare P P read tokens fault ⊎ Over bare P P read tokens fault → Stuck bare P P read tokens fault ⊎ none tokens fault
    by_fails tokens fault (inl stuck) = inl stuck
    by_fails tokens fault (inr over) = inr (no_over tokens fault over)

-- x {"," x} ")"
module _ {A : Type 0} {P : A → List Token → Type 0} {p : List Token → Read A} (law : Plain bare anything P p) (some : (x : A) (l : List Token) → P x l → l ≡ [] → ⊥)
    (no_comma : (x : A) (token : Token) (l : List Token) → P x (token ∷ l) → token.kind ≡ Mark Comma → ⊥) where
  abbrev over : List A → List Token → Bool
  over xs tokens = false

  pub stepping : Stepping bare anything over (λ _. p) (λ _. P) (λ _. P) Any
  stepping = record {
    alike = λ xs a b alike. refl;
    law = λ _. limited law;
    some = λ _ x l is e. some x l is e;
    fits = λ xs x front rest is e. tt;
    roomy = λ xs x front rest is room. refl;
    ends = λ _. refl;
    passing = λ xs token l e. absurd cc;
    no_comma = λ _ x token l is e. no_comma x token l is e;
  }

  any_rooms : (s xs : List A) → Rooms snoc Any s xs
  any_rooms s [] = tt
  any_rooms s (x ∷ xs) = (tt, any_rooms (s ++ x ∷ []) xs)

  pub list_plain : Plain bare anything (list P) (list_at (λ xs tokens. p tokens >>= λ x r. Ok (xs ++ x ∷ [], r)) [])
  list_plain = same_plain (plain_of (list_limited stepping snoc (λ token l e. refl) (λ token l e. refl) [] (λ l. refl) (λ x. tt))) into out
    where
      into : (xs : List A) (l : List Token) → Listed snoc Any (list P) [] xs l → list P xs l
      into xs l listed = subst (λ x. list P x l) (sym (listed.made ∙ all_snoc [] listed.items)) listed.is

      out : (xs : List A) (l : List Token) → list P xs l → Listed snoc Any (list P) [] xs l
      out xs l is = record { items = xs; made = sym (all_snoc [] xs); is = is; rooms = any_rooms [] xs }

-- where an element is misplaced
pub record Missing {A : Type 0} (P : A → List Token → Type 0) (tokens : List Token) (fault : ReadFault) : Type 0 where
  pub here : List Token
  pub is : IsMisplaced P tokens here
  pub place : fault ≡ record { code = Syntax; left = length here }

alike_cons : (rest : List Token) (token : Token) (others last : List Token) → rest ≡ token ∷ others → Alike rest (token ∷ last)
alike_cons rest token others last e = subst (λ l. Alike l (token ∷ last)) (sym e) refl

pub missing : {A : Type 0} {P : A → List Token → Type 0} {read : List Token → Read A} → Plain bare anything P read → (tokens : List Token) (fault : ReadFault) → read tokens ≡ Err fault → Missing P tokens fault
missing {A} {P} {read} law tokens fault e = by_stuck (law.fails tokens fault e)
  where
    by_stuck : Stuck bare P P read tokens fault ⊎ ⊥ → Missing P tokens fault
    by_stuck (inr never) = absurd never
    by_stuck (inl stuck) = record {
      here = stuck.rest;
      place = stuck.place;
      is = record {
        front = stuck.front;
        whole = stuck.whole;
        begins = record { more = stuck.begins.more; item = stuck.begins.item; is = stuck.begins.is };
        unfinished = λ item is.
            let ok : read (stuck.front ++ stuck.rest) ≡ Ok (item, stuck.rest) = law.reads item stuck.front stuck.rest is refl in
            let clash : ◌≡◌ {A = Read A} (Ok (item, stuck.rest)) (Err fault) = sym ok ∙ ap read (sym stuck.whole) ∙ e in
            absurd cc;
        closed = λ token others r begins.
            let ok : read (stuck.front ++ token ∷ [] ++ begins.more ++ []) ≡ Ok (begins.item, []) = law.reads begins.item (stuck.front ++ token ∷ [] ++ begins.more) [] begins.is refl in
            let same : stuck.front ++ token ∷ [] ++ begins.more ++ [] ≡ stuck.front ++ (token ∷ begins.more) = append-nil (stuck.front ++ token ∷ [] ++ begins.more) ∙ append_assoc stuck.front (token ∷ []) begins.more in
            let clash : ◌≡◌ {A = Read A} (Ok (begins.item, [])) (refuse Syntax (token ∷ begins.more))
            = sym ok ∙ ap read same ∙ stuck.again (token ∷ begins.more) (alike_cons stuck.rest token others begins.more r) in
            absurd cc;
      };
    }

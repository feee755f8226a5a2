-- What steps behind commas read, as a list of elements.
use Rattle.std.proofs.Common.{◌≡◌, ◌∙◌, Bool, false, List, [], ◌∷◌, ◌++◌, refl, sym, ap, subst, append_assoc, append-nil}
use Rattle.sv_lex.specs.declared.marks.Mark.TheVariants.{RightParen, Comma}
use Rattle.sv_lex.specs.declared.tokens.Token.{Token}
use Rattle.sv_lex.specs.declared.tokens.TokenKind.TheVariants.{Mark}
use Rattle.sv_reader.proofs.MatterLaws.{Matter}
use Rattle.sv_reader.specs.Grammar.{◌·◌, mark, others, separated}
use Rattle.sv_reader.proofs.MadeLaws.{Made}
use Rattle.sv_reader.proofs.AnswerLaws.{anything}
use Rattle.sv_reader.proofs.ReadLaws.{Then, Limited, same_limited}
use Rattle.sv_reader.proofs.StepLaws.{Stepping, one_step, list_law}
use Rattle.sv_reader.specs.Reading.{Read, list_at}
use Rattle.sv_reader.proofs.PartLaws.{assoc_both}
use Rattle.sv_reader.proofs.TurnLaws.{Words, Last, More}

-- all elements added, one after the other
abbrev pub all_added : {S A : Type 0} → (S → A → S) → S → List A → S
all_added add s [] = s
all_added add s (x ∷ xs) = all_added add (add s x) xs

-- each element finds room
abbrev pub Rooms : {S A : Type 0} → (S → A → S) → (S → A → Type 0) → S → List A → Type 0
Rooms add Room s [] = Unit {0}
Rooms add Room s (x ∷ xs) = Room s x × Rooms add Room (add s x) xs

-- elements that were added, each of which found room
pub record Listed {S A : Type 0} (add : S → A → S) (Room : S → A → Type 0) (L : List A → List Token → Type 0) (s e : S) (l : List Token) : Type 0 where
  pub items : List A
  pub made : e ≡ all_added add s items
  pub is : L items l
  pub rooms : Rooms add Room s items

-- one element that found room
abbrev pub Roomy : {S A : Type 0} → (S → A → S) → (S → A → Type 0) → (A → List Token → Type 0) → S → S → List Token → Type 0
Roomy add Room P s = Made (add s) (λ x l. P x l × Room s x)

abbrev pub tail : {A : Type 0} → (A → List Token → Type 0) → List A → List Token → Type 0
tail P xs = others P xs · mark RightParen

abbrev pub list : {A : Type 0} → (A → List Token → Type 0) → List A → List Token → Type 0
list P xs = separated P xs · mark RightParen

module _ {S A : Type 0} (add : S → A → S) (Room : S → A → Type 0) (P : A → List Token → Type 0) where
  tail_more : (x : A) (xs : List A) (front back l : List Token) → l ≡ front ++ back → (mark Comma · P x) front → tail P xs back → tail P (x ∷ xs) l
  tail_more x xs front back l e b t = record {
    front = front ++ t.front;
    back = t.back;
    whole = e ∙ ap (λ y. front ++ y) t.whole ∙ sym (append_assoc front t.front t.back);
    first = assoc_both (record { front = front; back = t.front; whole = refl; first = b; then = t.first });
    then = t.then;
  }

  pub words_listed : (s e : S) (l : List Token) → Words (λ s m. mark Comma · Roomy add Room P s m) (mark RightParen) s e l → Listed add Room (tail P) s e l
  words_listed _ _ _ (Last s l is) = record { items = []; made = refl; is = record { front = []; back = l; whole = refl; first = refl; then = is }; rooms = tt }
  words_listed _ _ _ (More s m e front back b more) = more_listed s m e front back b (words_listed m e back more)
    where
      more_listed : (s m e : S) (front back : List Token) → (mark Comma · Roomy add Room P s m) front → Listed add Room (tail P) m e back → Listed add Room (tail P) s e (front ++ back)
      more_listed s m e front back b t =
          let same : m ≡ add s b.then.«from» = b.then.made in record {
            items = b.then.«from» ∷ t.items;
            made = t.made ∙ ap (λ y. all_added add y t.items) same;
            is = tail_more b.then.«from» t.items front back (front ++ back) refl (record { front = b.front; back = b.back; whole = b.whole; first = b.first; then = b.then.is.0 }) t.is;
            rooms = (b.then.is.1, subst (λ y. Rooms add Room y t.items) same t.rooms);
          }

  pub listed_words : (s : S) (xs : List A) (l : List Token) → tail P xs l → Rooms add Room s xs → Words (λ s m. mark Comma · Roomy add Room P s m) (mark RightParen) s (all_added add s xs) l
  listed_words s [] l t rooms = Last s l (subst (λ y. mark RightParen y) (sym (t.whole ∙ ap (λ y. y ++ t.back) t.first)) t.then)
  listed_words s (x ∷ xs) l t rooms =
      let a = t.first in
      let b = a.then in
      let whole : a.front ++ b.front ++ (b.back ++ t.back) ≡ l
      = sym (append_assoc (a.front ++ b.front) b.back t.back) ∙ ap (λ y. y ++ t.back) (append_assoc a.front b.front b.back ∙ ap (λ y. a.front ++ y) (sym b.whole) ∙ sym a.whole) ∙ sym t.whole in
      subst (λ y. Words (λ s m. mark Comma · Roomy add Room P s m) (mark RightParen) s (all_added add s (x ∷ xs)) y) whole
      (More s (add s x) (all_added add s (x ∷ xs)) (a.front ++ b.front) (b.back ++ t.back)
      (record { front = a.front; back = b.front; whole = refl; first = a.first; then = record { «from» = x; is = (b.first, rooms.0); made = refl } })
      (listed_words (add s x) xs (b.back ++ t.back) (record { front = b.back; back = t.back; whole = refl; first = b.then; then = t.then }) rooms.1))

  -- the same with a first element that has no comma before it

  pub first_listed : (s e : S) (l : List Token) → Then (Roomy add Room P s) (λ m. Words (λ s m. mark Comma · Roomy add Room P s m) (mark RightParen) m) e l → Listed add Room (list P) s e l
  first_listed s e l t =
      let more = words_listed t.head e t.parts.back t.parts.then in
      let one = t.parts.first in
      let same : t.head ≡ add s one.«from» = one.made in record {
        items = one.«from» ∷ more.items;
        made = more.made ∙ ap (λ y. all_added add y more.items) same;
        is = record {
          front = t.parts.front ++ more.is.front;
          back = more.is.back;
          whole = t.parts.whole ∙ ap (λ y. t.parts.front ++ y) more.is.whole ∙ sym (append_assoc t.parts.front more.is.front more.is.back);
          first = record { front = t.parts.front; back = more.is.front; whole = refl; first = one.is.0; then = more.is.first };
          then = more.is.then;
        };
        rooms = (one.is.1, subst (λ y. Rooms add Room y more.items) same more.rooms);
      }

  pub listed_first : (s e : S) (l : List Token) → Listed add Room (list P) s e l → Then (Roomy add Room P s) (λ m. Words (λ s m. mark Comma · Roomy add Room P s m) (mark RightParen) m) e l
  listed_first s e l listed = by_items listed.items listed.made listed.is listed.rooms
    where
      by_items : (xs : List A) → e ≡ all_added add s xs → list P xs l → Rooms add Room s xs → Then (Roomy add Room P s) (λ m. Words (λ s m. mark Comma · Roomy add Room P s m) (mark RightParen) m) e l
      by_items [] made is rooms = absurd is.first
      by_items (x ∷ xs) made is rooms = record {
        head = add s x;
        parts = record {
          front = is.first.front;
          back = is.first.back ++ is.back;
          whole = is.whole ∙ ap (λ y. y ++ is.back) is.first.whole ∙ append_assoc is.first.front is.first.back is.back;
          first = record { «from» = x; is = (is.first.first, rooms.0); made = refl };
          then = subst (λ y. Words (λ s m. mark Comma · Roomy add Room P s m) (mark RightParen) (add s x) y (is.first.back ++ is.back)) (sym made)
              (listed_words (add s x) xs (is.first.back ++ is.back) (record { front = is.first.back; back = is.back; whole = refl; first = is.first.then; then = is.then }) rooms.1);
        };
      }

pub words_map : {S : Type 0} {T U : S → S → List Token → Type 0} {E : List Token → Type 0} → ((s m : S) (l : List Token) → T s m l → U s m l) → (s e : S) (l : List Token) → Words T E s e l → Words U E s e l
words_map map _ _ _ (Last s l is) = Last s l is
words_map map _ _ _ (More s m e front back is more) = More s m e front back (map s m front is) (words_map map m e back more)

-- where everything has room
abbrev pub Any : {S A : Type 0} → S → A → Type 0
Any s x = Unit {0}

module _ {matter : Matter} {S A : Type 0} {before : List Token → Bool} {over : S → List Token → Bool} {p : S → List Token → Read A} {P PS : A → List Token → Type 0} {Room : S → A → Type 0}
    (stepping : Stepping matter before over p (λ _. P) (λ _. PS) Room) (add : S → A → S)
    (comma : (token : Token) (l : List Token) → token.kind ≡ Mark Comma → before (token ∷ l) ≡ false) (paren : (token : Token) (l : List Token) → token.kind ≡ Mark RightParen → before (token ∷ l) ≡ false) where
  abbrev Plainly : S → S → List Token → Type 0
  Plainly s = Then (Made (add s) P) (λ m. Words (λ s m. mark Comma · Made (add s) P m) (mark RightParen) m)

  abbrev Largely : S → S → List Token → Type 0
  Largely s = Then (Roomy add Any P s) (λ m. Words (λ s m. mark Comma · Roomy add Any P s m) (mark RightParen) m)

  roomed : (s m : S) (l : List Token) → Made (add s) P m l → Roomy add Any P s m l
  roomed s m l is = record { «from» = is.«from»; is = (is.is, tt); made = is.made }

  unroomed : (s m : S) (l : List Token) → Roomy add Any P s m l → Made (add s) P m l
  unroomed s m l is = record { «from» = is.«from»; is = is.is.0; made = is.made }

  turn_map : (X Y : S → S → List Token → Type 0) → ((s m : S) (l : List Token) → X s m l → Y s m l) → (s m : S) (l : List Token) → (mark Comma · X s m) l → (mark Comma · Y s m) l
  turn_map X Y map s m l b = record { front = b.front; back = b.back; whole = b.whole; first = b.first; then = map s m b.back b.then }

  enlarge : (s e : S) (l : List Token) → Plainly s e l → Largely s e l
  enlarge s e l t = record {
    head = t.head;
    parts = record {
      front = t.parts.front;
      back = t.parts.back;
      whole = t.parts.whole;
      first = roomed s t.head t.parts.front t.parts.first;
      then = words_map (turn_map (λ s. Made (add s) P) (Roomy add Any P) roomed) t.head e t.parts.back t.parts.then;
    };
  }

  reduce : (s e : S) (l : List Token) → Largely s e l → Plainly s e l
  reduce s e l t = record {
    head = t.head;
    parts = record {
      front = t.parts.front;
      back = t.parts.back;
      whole = t.parts.whole;
      first = unroomed s t.head t.parts.front t.parts.first;
      then = words_map (turn_map (Roomy add Any P) (λ s. Made (add s) P) unroomed) t.head e t.parts.back t.parts.then;
    };
  }

  pub list_limited : (s : S) → ((l : List Token) → over s l ≡ false) → ((x : A) → Room s x)
      → Limited matter anything (Listed add Any (list P) s) (Listed add Room (list PS) s) (list_at (one_step stepping add) s)
  list_limited s free room = same_limited (list_law stepping add comma paren s free room)
      (λ e l t. first_listed add Any P s e l (enlarge s e l t)) (λ e l listed. reduce s e l (listed_first add Any P s e l listed))
      (λ e l t. first_listed add Room PS s e l t) (λ e l listed. listed_first add Room PS s e l listed)

-- elements added at the end
abbrev pub snoc : {A : Type 0} → List A → A → List A
snoc xs x = xs ++ x ∷ []

pub all_snoc : {A : Type 0} (xs ys : List A) → all_added snoc xs ys ≡ xs ++ ys
all_snoc xs [] = sym (append-nil xs)
all_snoc xs (y ∷ ys) = all_snoc (xs ++ y ∷ []) ys ∙ append_assoc xs (y ∷ []) ys

pub any_rooms : {S A : Type 0} (add : S → A → S) (s : S) (xs : List A) → Rooms add Any s xs
any_rooms add s [] = tt
any_rooms add s (x ∷ xs) = (tt, any_rooms add (add s x) xs)

-- Members of lists.
use Rattle.std.proofs.Common.{◌≡◌, ◌⊎◌, inl, inr, ℕ, zero, suc, ◌<◌, List, [], ◌∷◌, ◌++◌, refl, sym, subst, arith}
use Rattle.std.specs.List.{flat_map}
use Rattle.std.proofs.lemmas.Bool.{cases_eq}
use Rattle.sv_effect.specs.Laws.{IsOneOf}
use Rattle.sv_effect.specs.TablesOfCut.{Family, all_to}

abbrev pub In : {A : Type 0} → A → List A → Type 0
In x xs = IsOneOf x xs

pub in_left : {A : Type 0} (x : A) (xs ys : List A) → In x xs → In x (xs ++ ys)
in_left x [] ys h = absurd h
in_left x (y ∷ xs) ys (inl e) = inl e
in_left x (y ∷ xs) ys (inr h) = inr (in_left x xs ys h)

pub in_right : {A : Type 0} (x : A) (xs ys : List A) → In x ys → In x (xs ++ ys)
in_right x [] ys h = h
in_right x (y ∷ xs) ys h = inr (in_right x xs ys h)

pub in_split : {A : Type 0} (x : A) (xs ys : List A) → In x (xs ++ ys) → In x xs ⊎ In x ys
in_split x [] ys h = inr h
in_split x (y ∷ xs) ys (inl e) = inl (inl e)
in_split {A} x (y ∷ xs) ys (inr h) = push (in_split x xs ys h)
  where
    push : In x xs ⊎ In x ys → In x (y ∷ xs) ⊎ In x ys
    push (inl a) = inl (inr a)
    push (inr b) = inr b

-- where a member of a `flat_map` comes from
pub record Comes {X A : Type 0} (f : X → List A) (xs : List X) (a : A) : Type 0 where
  pub from : X
  pub is : In from xs
  pub gives : In a (f from)

pub comes : {X A : Type 0} (f : X → List A) (xs : List X) (a : A) → In a (flat_map f xs) → Comes f xs a
comes f [] a h = absurd h
comes {X} {A} f (x ∷ xs) a h = split (in_split a (f x) (flat_map f xs) h) (λ i. comes f xs a i)
  where
    split : In a (f x) ⊎ In a (flat_map f xs) → (In a (flat_map f xs) → Comes f xs a) → Comes f (x ∷ xs) a
    split (inl i) ih = record { from = x; is = inl refl; gives = i }
    split (inr i) ih = let c : Comes f xs a = ih i in record { from = c.from; is = inr c.is; gives = c.gives }

-- where a member of a family comes from
pub record Source {A : Type 0} (f : Family A) (n : ℕ) (x : A) : Type 0 where
  pub origin : ℕ
  pub below : origin < n
  pub is : In x (f origin)

pub source : {A : Type 0} (f : Family A) (n : ℕ) (x : A) → In x (all_to f n) → Source f n x
unfolding all_to
source f zero x h = absurd h
source {A} f (suc n) x h = split (in_split x (all_to f n) (f n) h) (λ i. source f n x i)
  where
    split : In x (all_to f n) ⊎ In x (f n) → (In x (all_to f n) → Source f n x) → Source f (suc n) x
    split (inl i) ih = let s : Source f n x = ih i in record { origin = s.origin; below = (let l : s.origin < n = s.below in omega (arith, l)); is = s.is }
    split (inr i) ih = record { origin = n; below = omega arith; is = i }

pub in_all : {A : Type 0} (f : Family A) (n : ℕ) (x : A) → Source f n x → In x (all_to f n)
unfolding all_to
in_all f zero x s = absurd (let l : s.origin < 0 = s.below in omega (arith, l))
in_all {A} f (suc n) x s = split (cases_eq s.origin n) (λ l. in_all f n x (record { origin = s.origin; below = l; is = s.is }))
  where
    split : (s.origin ≡ n) ⊎ (s.origin ≡ n → ⊥) → (s.origin < n → In x (all_to f n)) → In x (all_to f n ++ f n)
    split (inl e) ih = in_right x (all_to f n) (f n) (subst (λ o. In x (f o)) e s.is)
    split (inr apart) ih = in_left x (all_to f n) (f n) (ih (let l : s.origin < suc n = s.below in omega (arith, l, apart)))

-- two families differ in one list, which has more
pub record Grown {A : Type 0} (f g : Family A) (o : ℕ) (more : List A) : Type 0 where
  pub here : g o ≡ f o ++ more
  pub others : (p : ℕ) → (p ≡ o → ⊥) → g p ≡ f p

pub grown_in : {A : Type 0} (f g : Family A) (o n : ℕ) (more : List A) (x : A) → Grown f g o more → In x (all_to g n) → In x (all_to f n ++ more)
grown_in {A} f g o n more x grown h = split (cases_eq s.origin o)
  where
    s : Source g n x
    s = source g n x h

    old : In x (f s.origin) → In x (all_to f n ++ more)
    old i = in_left x (all_to f n) more (in_all f n x (record { origin = s.origin; below = s.below; is = i }))

    split : (s.origin ≡ o) ⊎ (s.origin ≡ o → ⊥) → In x (all_to f n ++ more)
    split (inl e) = last (in_split x (f o) more (subst (λ l. In x l) grown.here (subst (λ p. In x (g p)) e s.is)))
      where
        last : In x (f o) ⊎ In x more → In x (all_to f n ++ more)
        last (inl i) = old (subst (λ p. In x (f p)) (sym e) i)
        last (inr i) = in_right x (all_to f n) more i
    split (inr apart) = old (subst (λ l. In x l) (grown.others s.origin apart) s.is)

pub in_grown : {A : Type 0} (f g : Family A) (o n : ℕ) (more : List A) (x : A) → Grown f g o more → o < n → In x (all_to f n ++ more) → In x (all_to g n)
in_grown {A} f g o n more x grown small h = split (in_split x (all_to f n) more h)
  where
    here : In x (f o ++ more) → In x (all_to g n)
    here i = in_all g n x (record { origin = o; below = small; is = subst (λ l. In x l) (sym grown.here) i })

    split : In x (all_to f n) ⊎ In x more → In x (all_to g n)
    split (inr i) = here (in_right x (f o) more i)
    split (inl i) = old (cases_eq s.origin o)
      where
        s : Source f n x
        s = source f n x i

        old : (s.origin ≡ o) ⊎ (s.origin ≡ o → ⊥) → In x (all_to g n)
        old (inl e) = here (in_left x (f o) more (subst (λ p. In x (f p)) e s.is))
        old (inr apart) = in_all g n x (record { origin = s.origin; below = s.below; is = subst (λ l. In x l) (sym (grown.others s.origin apart)) s.is })

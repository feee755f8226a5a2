-- Whether a place stands in a list.
use Rattle.std.proofs.Common.{◌≡◌, ◌⊎◌, inl, inr, ℕ, zero, suc, ◌<◌, ◌||◌, Bool, true, false, if◌then◌else◌, List, [], ◌∷◌, ◌++◌, refl, sym, ap, ◌∙◌, arith}
use Rattle.std.specs.Prelude.{map}
use Rattle.std.proofs.lemmas.Bool.{cases_eq}
use Rattle.sv_app.specs.declared.places.Place.{Place}
use Rattle.sv_effect.specs.Applied.{Change, place_of}
use Rattle.sv_effect.specs.TablesOfCut.{Family, is_place, at_place, all_to}
use Rattle.sv_effect.proofs.Members.{Grown}
use Rattle.sv_app.proofs.TestLaws.{or_left, or_right, or_assoc}

abbrev pub among : Place → List Place → Bool
among q [] = false
among q (p ∷ ps) = is_place q p || among q ps

pub among-append : (q : Place) (ps rs : List Place) → among q (ps ++ rs) ≡ (among q ps || among q rs)
among-append q [] rs = refl
among-append q (p ∷ ps) rs = either (is_place q p) (among-append q ps rs)
  where
    either : (b : Bool) → among q (ps ++ rs) ≡ (among q ps || among q rs) → (b || among q (ps ++ rs)) ≡ ((b || among q ps) || among q rs)
    either true ih = refl
    either false ih = ih

-- the changes that name the place
abbrev pub names : Place → List Change → Bool
names q cs = among q (map (λ c. place_of c.value) cs)

pub at_place-none : (q : Place) (cs : List Change) → names q cs ≡ false → at_place q cs ≡ []
at_place-none q [] none_named = refl
at_place-none q (c ∷ cs) none_named = rw (or_left (is_place q (place_of c.value)) (names q cs) none_named) (at_place-none q cs (or_right (is_place q (place_of c.value)) (names q cs) none_named))

pub at_place-append : (q : Place) (cs ds : List Change) → at_place q (cs ++ ds) ≡ at_place q cs ++ at_place q ds
at_place-append q [] ds = refl
at_place-append q (c ∷ cs) ds = either (is_place q (place_of c.value)) (at_place-append q cs ds)
  where
    either : (b : Bool) → at_place q (cs ++ ds) ≡ at_place q cs ++ at_place q ds
        → (if b then c ∷ at_place q (cs ++ ds) else at_place q (cs ++ ds)) ≡ (if b then c ∷ at_place q cs else at_place q cs) ++ at_place q ds
    either true ih = ap (λ l. c ∷ l) ih
    either false ih = ih

or-move : (a b c : Bool) → ((a || b) || c) ≡ ((a || c) || b)
or-move true b c = refl
or-move false true true = refl
or-move false true false = refl
or-move false false true = refl
or-move false false false = refl

all_to-same : {A : Type 0} (f g : Family A) (n : ℕ) → ((o : ℕ) → o < n → f o ≡ g o) → all_to f n ≡ all_to g n
unfolding all_to
all_to-same f g zero same = refl
all_to-same f g (suc n) same = λ i. all_to-same f g n (λ o lt. same o (omega (arith, lt))) i ++ same n (omega arith) i

-- one list has more
pub among-more : (q : Place) (f g : Family Place) (n o : ℕ) (more : List Place) → o < n → Grown f g o more → among q (all_to g n) ≡ (among q (all_to f n) || among q more)
unfolding all_to
among-more q f g zero o more lt grown = absurd (omega (arith, lt))
among-more q f g (suc n) o more lt grown =
    among-append q (all_to g n) (g n) ∙ split (cases_eq o n) (λ below. among-more q f g n o more below grown)
    ∙ ap (λ b. b || among q more) (sym (among-append q (all_to f n) (f n)))
  where
    split : (o ≡ n) ⊎ (o ≡ n → ⊥) → (o < n → among q (all_to g n) ≡ (among q (all_to f n) || among q more))
        → (among q (all_to g n) || among q (g n)) ≡ ((among q (all_to f n) || among q (f n)) || among q more)
    split (inl is) ih =
        (λ i. among q (all_to-same g f n (λ p less. grown.others p (λ e. absurd (omega (arith, e, is, less)))) i) || among q (last i))
        ∙ ap (λ b. among q (all_to f n) || b) (among-append q (f n) more)
        ∙ or_assoc (among q (all_to f n)) (among q (f n)) (among q more)
      where
        last : g n ≡ f n ++ more
        last = ap g (sym is) ∙ grown.here ∙ ap (λ x. f x ++ more) is
    split (inr apart) ih =
        (λ i. ih (omega (arith, lt, apart)) i || among q (grown.others n (λ e. apart (sym e)) i))
        ∙ or-move (among q (all_to f n)) (among q more) (among q (f n))

pub among-none : (q : Place) (f : Family Place) (n o : ℕ) → o < n → among q (all_to f n) ≡ false → among q (f o) ≡ false
unfolding all_to
among-none q f zero o lt none_named = absurd (omega (arith, lt))
among-none q f (suc n) o lt none_named = split (cases_eq o n) (λ below. among-none q f n o below (or_left (among q (all_to f n)) (among q (f n)) both))
  where
    both : (among q (all_to f n) || among q (f n)) ≡ false
    both = sym (among-append q (all_to f n) (f n)) ∙ none_named

    split : (o ≡ n) ⊎ (o ≡ n → ⊥) → (o < n → among q (f o) ≡ false) → among q (f o) ≡ false
    split (inl is) ih = ap (λ x. among q (f x)) is ∙ or_right (among q (all_to f n)) (among q (f n)) both
    split (inr apart) ih = ih (omega (arith, lt, apart))

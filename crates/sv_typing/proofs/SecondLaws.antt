-- One pass with a set of the names so far notes the same as each name beside all later ones: what is held depends on the members of a list of candidates alone.
use Rattle.std.proofs.Common.{◌≡◌, ◌⊎◌, inl, inr, ⊎_elim, ℕ, zero, suc, ◌+◌, ◌<◌, ◌≤◌, Bool, true, false, ◌||◌, List, [], ◌∷◌, ◌++◌, length, drop, get_or, map, refl, sym, ap, subst, ◌∙◌, arith, Option, Some, None, cond}
use Rattle.std.specs.List.{flat_map, Contains}
use Rattle.std.specs.BTreeSet.{BTreeSet, contains, IsEmpty}
use Rattle.std.specs.Cmp.Lexicographic.{nat_list_eq_equiv, texts_ties}
use Rattle.std.specs.Ordering.{eq_by_cmp}
use Rattle.sv_value.specs.declared.spots.Spot.{Spot}
use Rattle.sv_app.specs.declared.apps.Ident.{Ident}
use Rattle.sv_app.specs.declared.refusals.Code.{Code}
use Rattle.sv_app.specs.declared.refusals.Code.TheVariants.{Syntax, Unknown, Twice, Kind, Typing, Many, Cyclic, Unsatisfiable, BadInit, TooLong, BadStep, Reserved}
use Rattle.sv_app.specs.declared.refusals.Refusal.{Refusal}
use Rattle.sv_app.specs.Codes.{number_of}
use Rattle.sv_app.specs.Firsts.{comes_before, IsFirst}
use Rattle.sv_app.specs.Lookups.{is_named}
use Rattle.sv_app.specs.Typing.{fault_if, repeats}
use Rattle.sv_typing.specs.declared.seconds.Spelled.{Spelled}
use Rattle.sv_typing.specs.Noted.{sooner, noted}
use Rattle.sv_typing.specs.Seconds.{spelled, spelled_cmp, is_among}
use Rattle.sv_typing.proofs.FirstLaws.{first_behind, lesser_neither}
use Rattle.sv_typing.proofs.LookupLaws.{at_drop}
use Rattle.sv_typing.proofs.NotedLaws.{noted_append}

-- ---- members

pub In : Refusal → List Refusal → Type 0
In r [] = ⊥
In r (x ∷ xs) = (x ≡ r) ⊎ In r xs

in_front : (r : Refusal) (xs ys : List Refusal) → In r xs → In r (xs ++ ys)
unfolding In
in_front r [] ys h = absurd h
in_front r (x ∷ xs) ys (inl e) = inl e
in_front r (x ∷ xs) ys (inr h) = inr (in_front r xs ys h)

in_back : (r : Refusal) (xs ys : List Refusal) → In r ys → In r (xs ++ ys)
unfolding In
in_back r [] ys h = h
in_back r (x ∷ xs) ys h = inr (in_back r xs ys h)

in_either : (r : Refusal) (xs ys : List Refusal) → In r (xs ++ ys) → In r xs ⊎ In r ys
unfolding In
in_either r [] ys h = inr h
in_either r (x ∷ xs) ys (inl e) = inl (inl e)
in_either r (x ∷ xs) ys (inr h) = ⊎_elim (λ f. inl (inr f)) (λ b. inr b) (in_either r xs ys h)

contained : (r : Refusal) (xs : List Refusal) → In r xs → Contains xs r
unfolding In
contained r [] h = absurd h
contained r (x ∷ xs) (inl e) = (0, omega arith, e)
contained r (x ∷ xs) (inr h) = let c = contained r xs h in (suc c.0, omega (arith, c.1), c.2)

member_at : (r : Refusal) (xs : List Refusal) (k : ℕ) → k < length xs → get_or xs k r ≡ r → In r xs
unfolding In
member_at r [] k h e = absurd (omega (arith, h))
member_at r (x ∷ xs) zero h e = inl e
member_at r (x ∷ xs) (suc k) h e = inr (member_at r xs k (omega (arith, h)) e)

member : (r : Refusal) (xs : List Refusal) → Contains xs r → In r xs
member r xs c = member_at r xs c.0 c.1 c.2

-- ---- what is held depends on the members alone

is_twice : (code : Code) → number_of code ≡ 3 → code ≡ Twice
is_twice Syntax e = absurd (omega (arith, e))
is_twice Unknown e = absurd (omega (arith, e))
is_twice Twice e = refl
is_twice Kind e = absurd (omega (arith, e))
is_twice Typing e = absurd (omega (arith, e))
is_twice Many e = absurd (omega (arith, e))
is_twice Cyclic e = absurd (omega (arith, e))
is_twice (Unsatisfiable table cycle) e = absurd (omega (arith, e))
is_twice (BadInit inv row) e = absurd (omega (arith, e))
is_twice TooLong e = absurd (omega (arith, e))
is_twice BadStep e = absurd (omega (arith, e))
is_twice Reserved e = absurd (omega (arith, e))

-- each candidate is a name that stands twice
pub AllTwice : List Refusal → Type 0
AllTwice xs = (r : Refusal) → In r xs → r.code ≡ Twice

some_held : (held : Refusal) (xs : List Refusal) → (r : Refusal) × (noted (Some held) xs ≡ Some r)
some_held held [] = (held, refl)
some_held held (x ∷ xs) = some_held (sooner (Some held) x) xs

module _ (a b : Refusal) (xs ys : List Refusal) (to : (r : Refusal) → In r (a ∷ xs) → In r (b ∷ ys)) (from : (r : Refusal) → In r (b ∷ ys) → In r (a ∷ xs))
    (alike : (r s : Refusal) → In r (a ∷ xs) → In s (b ∷ ys) → number_of r.code ≡ number_of s.code → r.code ≡ s.code) where
  same_first : (r s : Refusal) → IsFirst (a ∷ xs) r → IsFirst (b ∷ ys) s → r ≡ s
  same_first r s f g =
      let there = contained r (b ∷ ys) (to r (member r (a ∷ xs) f.is)) in
      let here = contained s (a ∷ xs) (from s (member s (b ∷ ys) g.is)) in
      let behind : comes_before r s ≡ false = subst (λ other. comes_before other s ≡ false) there.2 (g.first there.0 r there.1) in
      let before : comes_before s r ≡ false = subst (λ other. comes_before other r ≡ false) here.2 (f.first here.0 s here.1) in
      let same = lesser_neither r.spot.line r.spot.col (number_of r.code) s.spot.line s.spot.col (number_of s.code) behind before in
      let code : r.code ≡ s.code = alike r s (member r (a ∷ xs) f.is) (member s (b ∷ ys) g.is) same.2 in
      λ i. record { spot = record { line = same.0 i; col = same.1 i }; code = code i }

  same_held : noted (Some a) xs ≡ noted (Some b) ys
  same_held =
      let first = some_held a xs in
      let second = some_held b ys in
      first.1 ∙ ap (λ r. Some r) (same_first first.0 second.0 (first_behind a first.0 xs first.1) (first_behind b second.0 ys second.1)) ∙ sym second.1

pub same_noted : (held : Option Refusal) (xs ys : List Refusal) → AllTwice xs → AllTwice ys → ((r : Refusal) → In r xs → In r ys) → ((r : Refusal) → In r ys → In r xs) → noted held xs ≡ noted held ys
unfolding In AllTwice
same_noted None [] [] p q to from = refl
same_noted None [] (y ∷ ys) p q to from = absurd (from y (inl refl))
same_noted None (x ∷ xs) [] p q to from = absurd (to x (inl refl))
same_noted None (x ∷ xs) (y ∷ ys) p q to from = same_held x y xs ys to from (λ r s h k e. p r h ∙ sym (q s k))
same_noted (Some held) xs ys p q to from = same_held held held xs ys (wider xs ys to) (wider ys xs from) alike
  where
    wider : (xs ys : List Refusal) → ((r : Refusal) → In r xs → In r ys) → (r : Refusal) → In r (held ∷ xs) → In r (held ∷ ys)
    wider xs ys to r h = ⊎_elim (λ e. inl e) (λ m. inr (to r m)) h

    alike : (r s : Refusal) → In r (held ∷ xs) → In s (held ∷ ys) → number_of r.code ≡ number_of s.code → r.code ≡ s.code
    alike r s (inl e) (inl f) same = ap (λ (x : Refusal). x.code) (sym e ∙ f)
    alike r s (inr m) k same = let twice : r.code ≡ Twice = p r m in twice ∙ sym (is_twice s.code (sym same ∙ ap number_of twice))
    alike r s (inl e) (inr m) same = let twice : s.code ≡ Twice = q s m in is_twice r.code (same ∙ ap number_of twice) ∙ sym twice

-- ---- names that stand twice, by a set

-- those of the names of which the test holds
hits : (Ident → Bool) → List Ident → List Refusal
hits test names = flat_map (λ later. fault_if (test later) later.spot Twice) names

-- each name that stands in the set or before it
pub again : (Ident → Bool) → List Ident → List Refusal
again seen [] = []
again seen (name ∷ names) = fault_if (seen name) name.spot Twice ++ again (λ other. is_named other name || seen other) names

fault_twice : (b : Bool) (spot : Spot) → AllTwice (fault_if b spot Twice)
unfolding In AllTwice
fault_twice true spot r (inl e) = ap (λ (x : Refusal). x.code) (sym e)
fault_twice true spot r (inr h) = absurd h
fault_twice false spot r h = absurd h

both_twice : (xs ys : List Refusal) → AllTwice xs → AllTwice ys → AllTwice (xs ++ ys)
unfolding AllTwice
both_twice xs ys p q r h = ⊎_elim (p r) (q r) (in_either r xs ys h)

hits_twice : (test : Ident → Bool) (names : List Ident) → AllTwice (hits test names)
unfolding In AllTwice hits
hits_twice test [] = λ r h. absurd h
hits_twice test (name ∷ names) = both_twice (fault_if (test name) name.spot Twice) (hits test names) (fault_twice (test name) name.spot) (hits_twice test names)

again_twice : (seen : Ident → Bool) (names : List Ident) → AllTwice (again seen names)
unfolding In AllTwice again
again_twice seen [] = λ r h. absurd h
again_twice seen (name ∷ names) =
    both_twice (fault_if (seen name) name.spot Twice) (again (λ other. is_named other name || seen other) names) (fault_twice (seen name) name.spot) (again_twice (λ other. is_named other name || seen other) names)

repeats_twice : (names : List Ident) → AllTwice (repeats names)
unfolding In AllTwice hits
repeats_twice [] = λ r h. absurd h
repeats_twice (name ∷ names) = both_twice (hits (λ later. is_named later name) names) (repeats names) (hits_twice (λ later. is_named later name) names) (repeats_twice names)

-- of two tests one holds
fault_either : (p q : Bool) (spot : Spot) (r : Refusal) → In r (fault_if (p || q) spot Twice) → In r (fault_if p spot Twice) ⊎ In r (fault_if q spot Twice)
fault_either true q spot r h = inl h
fault_either false q spot r h = inr h

fault_first : (p q : Bool) (spot : Spot) (r : Refusal) → In r (fault_if p spot Twice) → In r (fault_if (p || q) spot Twice)
unfolding In
fault_first true q spot r h = h
fault_first false q spot r h = absurd h

fault_second : (p q : Bool) (spot : Spot) (r : Refusal) → In r (fault_if q spot Twice) → In r (fault_if (p || q) spot Twice)
unfolding In
fault_second true true spot r h = h
fault_second true false spot r h = absurd h
fault_second false q spot r h = h

module _ (p q : Ident → Bool) where
  hits_either : (names : List Ident) (r : Refusal) → In r (hits (λ x. p x || q x) names) → In r (hits p names) ⊎ In r (hits q names)
  unfolding In hits
  hits_either [] r h = absurd h
  hits_either (name ∷ names) r h =
      ⊎_elim
      (λ f. ⊎_elim (λ a. inl (in_front r (fault_if (p name) name.spot Twice) (hits p names) a)) (λ b. inr (in_front r (fault_if (q name) name.spot Twice) (hits q names) b)) (fault_either (p name) (q name) name.spot r f))
      (λ m. ⊎_elim (λ a. inl (in_back r (fault_if (p name) name.spot Twice) (hits p names) a)) (λ b. inr (in_back r (fault_if (q name) name.spot Twice) (hits q names) b)) (hits_either names r m))
      (in_either r (fault_if (p name || q name) name.spot Twice) (hits (λ x. p x || q x) names) h)

  hits_first : (names : List Ident) (r : Refusal) → In r (hits p names) → In r (hits (λ x. p x || q x) names)
  unfolding In hits
  hits_first [] r h = absurd h
  hits_first (name ∷ names) r h =
      ⊎_elim
      (λ f. in_front r (fault_if (p name || q name) name.spot Twice) (hits (λ x. p x || q x) names) (fault_first (p name) (q name) name.spot r f))
      (λ m. in_back r (fault_if (p name || q name) name.spot Twice) (hits (λ x. p x || q x) names) (hits_first names r m))
      (in_either r (fault_if (p name) name.spot Twice) (hits p names) h)

  hits_second : (names : List Ident) (r : Refusal) → In r (hits q names) → In r (hits (λ x. p x || q x) names)
  unfolding In hits
  hits_second [] r h = absurd h
  hits_second (name ∷ names) r h =
      ⊎_elim
      (λ f. in_front r (fault_if (p name || q name) name.spot Twice) (hits (λ x. p x || q x) names) (fault_second (p name) (q name) name.spot r f))
      (λ m. in_back r (fault_if (p name || q name) name.spot Twice) (hits (λ x. p x || q x) names) (hits_second names r m))
      (in_either r (fault_if (q name) name.spot Twice) (hits q names) h)

again_is : (seen : Ident → Bool) (names : List Ident) (r : Refusal) → In r (again seen names) → In r (hits seen names) ⊎ In r (repeats names)
unfolding In hits again
again_is seen [] r h = absurd h
again_is seen (name ∷ names) r h =
    let own : Ident → Bool = λ other. is_named other name in
    ⊎_elim
    (λ f. inl (in_front r (fault_if (seen name) name.spot Twice) (hits seen names) f))
    (λ m. ⊎_elim
    (λ k. ⊎_elim (λ a. inr (in_front r (hits own names) (repeats names) a)) (λ b. inl (in_back r (fault_if (seen name) name.spot Twice) (hits seen names) b)) (hits_either own seen names r k))
    (λ k. inr (in_back r (hits own names) (repeats names) k))
    (again_is (λ other. is_named other name || seen other) names r m))
    (in_either r (fault_if (seen name) name.spot Twice) (again (λ other. is_named other name || seen other) names) h)

hits_again : (seen : Ident → Bool) (names : List Ident) (r : Refusal) → In r (hits seen names) → In r (again seen names)
unfolding In hits again
hits_again seen [] r h = absurd h
hits_again seen (name ∷ names) r h =
    let more : Ident → Bool = λ other. is_named other name || seen other in
    ⊎_elim
    (λ f. in_front r (fault_if (seen name) name.spot Twice) (again more names) f)
    (λ m. in_back r (fault_if (seen name) name.spot Twice) (again more names) (hits_again more names r (hits_second (λ other. is_named other name) seen names r m)))
    (in_either r (fault_if (seen name) name.spot Twice) (hits seen names) h)

repeats_again : (seen : Ident → Bool) (names : List Ident) (r : Refusal) → In r (repeats names) → In r (again seen names)
unfolding In hits again
repeats_again seen [] r h = absurd h
repeats_again seen (name ∷ names) r h =
    let own : Ident → Bool = λ other. is_named other name in
    let more : Ident → Bool = λ other. is_named other name || seen other in
    in_back r (fault_if (seen name) name.spot Twice) (again more names)
    (⊎_elim (λ m. hits_again more names r (hits_first own seen names r m)) (λ m. repeats_again more names r m) (in_either r (hits own names) (repeats names) h))

pub never : Ident → Bool
never name = false

no_hits : (names : List Ident) (r : Refusal) → In r (hits never names) → ⊥
unfolding In hits never
no_hits [] r h = h
no_hits (name ∷ names) r h = no_hits names r h

-- a pass with a set that is empty first notes what stands twice
again_repeats : (held : Option Refusal) (names : List Ident) → noted held (again never names) ≡ noted held (repeats names)
again_repeats held names = same_noted held (again never names) (repeats names) (again_twice never names) (repeats_twice names)
    (λ r h. ⊎_elim (λ k. absurd (no_hits names r k)) (λ k. k) (again_is never names r h)) (λ r h. repeats_again never names r h)

-- ---- the loop

-- what is noted in the end, where this is held, these names were seen and those are left
pub record Notes (names : List Ident) (seen : BTreeSet Spelled) (held : Option Refusal) (goal : Option Refusal) : Type 0 where
  pub noted_is : noted held (again (is_among seen) names) ≡ goal

pub none_noted : (names : List Ident) (seen : BTreeSet Spelled) (held : Option Refusal) → IsEmpty seen → Notes names seen held (noted held (repeats names))
unfolding never
none_noted names seen held empty = record { noted_is = ap (λ (test : Ident → Bool). noted held (again test names)) (λ i name. nothing name i) ∙ again_repeats held names }
  where
    nothing : (name : Ident) → is_among seen name ≡ never name
    nothing name = cc

pub one_noted : {T : Type 0} (f : T → Ident) (items : List T) (i : ℕ) (item : T) (name : Ident) (seen more : BTreeSet Spelled) (was : Bool) (held now goal : Option Refusal) → i < length items → item ≡ get_or items i item → name ≡ f item
    → was ≡ is_among seen name → ((other : Ident) → is_among more other ≡ is_named other name || is_among seen other) → now ≡ noted held (fault_if was name.spot Twice)
    → Notes (map f (drop i items)) seen held goal → Notes (map f (drop (i + 1) items)) more now goal
unfolding again
one_noted f items i item name seen more was held now goal less at named told put step before =
    let rest : List Ident = map f (drop (i + 1) items) in
    let whole : map f (drop i items) ≡ name ∷ rest = ap (map f) (at_drop items i item less at) ∙ ap (λ n. n ∷ rest) (sym named) in
    let left : List Refusal = again (λ other. is_named other name || is_among seen other) rest in
    record {
      noted_is =
          ap (λ (test : Ident → Bool). noted now (again test rest)) (λ j other. put other j)
          ∙ ap (λ o. noted o left) (step ∙ ap (λ b. noted held (fault_if b name.spot Twice)) told)
          ∙ sym (noted_append held (fault_if (is_among seen name) name.spot Twice) left)
          ∙ ap (λ names. noted held (again (is_among seen) names)) (sym whole)
          ∙ before.noted_is;
    }

pub all_noted : {T : Type 0} (f : T → Ident) (items : List T) (i : ℕ) (seen : BTreeSet Spelled) (held goal : Option Refusal) → length items ≤ i → Notes (map f (drop i items)) seen held goal → held ≡ goal
unfolding again
all_noted f items i seen held goal past notes = ap (λ names. noted held (again (is_among seen) names)) (sym (ap (map f) (past_end items i past))) ∙ notes.noted_is
  where
    past_end : {A : Type 0} (xs : List A) (k : ℕ) → length xs ≤ k → drop k xs ≡ []
    past_end [] zero h = refl
    past_end [] (suc k) h = refl
    past_end (x ∷ xs) zero h = absurd (omega (arith, h))
    past_end (x ∷ xs) (suc k) h = past_end xs k (omega (arith, h))

pub ruleset seconds = (none_noted, one_noted, all_noted)

-- ---- the set

-- a set that has a name more
pub put_among : (seen more : BTreeSet Spelled) (name other : Ident) → ((q : Spelled) → contains spelled_cmp more q ≡ cond (eq_by_cmp spelled_cmp (spelled name) q) true (contains spelled_cmp seen q))
    → is_among more other ≡ is_named other name || is_among seen other
put_among seen more name other put = put (spelled other) ∙ ap (λ b. cond b true (is_among seen other)) same ∙ either (is_named other name)
  where
    same : eq_by_cmp spelled_cmp (spelled name) (spelled other) ≡ is_named other name
    same = sym (texts_ties name.name other.name) ∙ nat_list_eq_equiv.symm name.name other.name

    either : (b : Bool) → cond b true (is_among seen other) ≡ b || is_among seen other
    either true = refl
    either false = refl

pub ruleset among = put_among

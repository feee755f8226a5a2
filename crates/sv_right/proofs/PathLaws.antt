-- The atoms of a path on a tape on which its effects stand for changes: where all are met no change is threatened, and the first that isn't met names the
-- first reason of the first change that is.
use Rattle.std.proofs.Common.{◌≡◌, ◌∙◌, ℕ, zero, suc, ◌+◌, ◌<◌, ◌≤◌, Bool, true, false, List, [], ◌∷◌, ◌++◌, Some, None, slice_get, refl, sym, subst, ap, arith, All}
use Rattle.std.specs.Prelude.{◌&&◌, ◌||◌, not, if◌then◌else◌}
use Rattle.std.specs.List.{list_any, flat_map}
use Rattle.std.proofs.lemmas.List.{append-nil}
use Rattle.std.proofs.lemmas.List.Elements.{All-nil, All-cons, All-head, All-tail, All-append}
use Rattle.sv_value.specs.declared.values.Val.{Val}
use Rattle.sv_app.specs.Schema.{Declaration}
use Rattle.sv_effect.specs.RunChanges.{Effect}
use Rattle.sv_linear.specs.Atoms.{Gain, group_atoms, groups, is_never, to_never, atoms, is_wide_change}
use Rattle.sv_linear.specs.Effects.{SymEffect}
use Rattle.sv_linear.specs.Tests.{Test, AtMost, InList, Never, Atom}
use Rattle.sv_threat.specs.First.{IsFirstReason}
use Rattle.sv_wp.specs.Decides.{AllMet, Decide}
use Rattle.sv_wp.specs.Gives.{StandsFor, IsMetOn}
use Rattle.sv_wp.specs.Reads.{IsShortWrite}
use Rattle.sv_wp.proofs.GroupLaws.{mapped, of_groups}
use Rattle.sv_wp.proofs.NarrowLaws.{neither, unless, narrow_exact}
use Rattle.sv_wp.proofs.OnceLaws.{stops, cut_front, cut_back, groups_stop}
use Rattle.sv_wp.proofs.ReadLaws.{Exact}
use Rattle.sv_listing.specs.Listed.{atoms_from, has_never, is_wide_path}

-- ---- cut lists

pub all_cut : (P : Atom → Type 0) (list : List Atom) → All P list → All P (to_never list)
all_cut P [] all = all
all_cut P (a ∷ list) all = by (stops a) (all_cut P list (All-tail P a list all))
  where
    by : (b : Bool) → All P (to_never list) → All P (if b then a ∷ [] else a ∷ to_never list)
    by true later = All-cons P a [] (All-head P a list all) (All-nil P)
    by false later = All-cons P a (to_never list) (All-head P a list all) later

twice : (list : List Atom) → to_never (to_never list) ≡ to_never list
twice [] = refl
twice (a ∷ list) = by (stops a) refl (twice list)
  where
    by : (b : Bool) → stops a ≡ b → to_never (to_never list) ≡ to_never list → to_never (if b then a ∷ [] else a ∷ to_never list) ≡ (if b then a ∷ [] else a ∷ to_never list)
    by true is later = ap (λ b. if b then a ∷ [] else a ∷ []) is
    by false is later = ap (λ b. if b then a ∷ [] else a ∷ to_never (to_never list)) is ∙ ap (λ l. a ∷ l) later

any_cut : (list : List Atom) → list_any stops (to_never list) ≡ list_any stops list
any_cut [] = refl
any_cut (a ∷ list) = by (stops a) refl (any_cut list)
  where
    by : (b : Bool) → stops a ≡ b → list_any stops (to_never list) ≡ list_any stops list → list_any stops (if b then a ∷ [] else a ∷ to_never list) ≡ (stops a || list_any stops list)
    by true is later = ap (λ b. b || false) is ∙ ap (λ b. b || list_any stops list) (sym is)
    by false is later = ap (λ b. stops a || b) later

pub never_met : (schema : List Declaration) (tape : List Val) (t : Test) → is_never t ≡ true → IsMetOn schema tape t → ⊥
never_met schema tape Never e h = h
never_met schema tape (AtMost f m) e h = absurd cc
never_met schema tape (InList symbol number) e h = absurd cc

-- up to and with the first that nothing meets, of a list in front of another
data Front (xs ys : List Atom) : Type 0 where
  Ends : list_any stops xs ≡ true → to_never (xs ++ ys) ≡ xs → Front xs ys
  GoesOn : list_any stops xs ≡ false → to_never (xs ++ ys) ≡ xs ++ to_never ys → Front xs ys

front : (xs ys : List Atom) → to_never xs ≡ xs → Front xs ys
front xs ys own = by (list_any stops xs) refl
  where
    by : (b : Bool) → list_any stops xs ≡ b → Front xs ys
    by true is = Ends is (cut_front xs ys is ∙ own)
    by false is = GoesOn is (cut_back xs ys is ∙ ap (λ zs. zs ++ to_never ys) own)

-- ---- a place in two lists

data Splits (xs ys before after : List Atom) (a : Atom) : Type 0 where
  InFront : (rest : List Atom) → xs ≡ before ++ a ∷ rest → Splits xs ys before after a
  Behind : (more : List Atom) → before ≡ xs ++ more → ys ≡ more ++ a ∷ after → Splits xs ys before after a

splits : (xs ys before after : List Atom) (a : Atom) → xs ++ ys ≡ before ++ a ∷ after → Splits xs ys before after a
splits [] ys before after a e = Behind before refl e
splits (x ∷ xs) ys [] after a e = let same : x ≡ a = cc in InFront xs (ap (λ z. z ∷ xs) same)
splits (x ∷ xs) ys (b ∷ before) after a e =
    let same : x ≡ b = cc in
    let tails : xs ++ ys ≡ before ++ a ∷ after = cc in
    by same (splits xs ys before after a tails)
  where
    by : x ≡ b → Splits xs ys before after a → Splits (x ∷ xs) ys (b ∷ before) after a
    by same (InFront rest is) = InFront rest (λ i. same i ∷ is i)
    by same (Behind more is later) = Behind more (λ i. sym same i ∷ is i) later

nothing_in : (before after : List Atom) (a : Atom) → [] ≡ before ++ a ∷ after → ⊥
nothing_in [] after a e = cc
nothing_in (b ∷ before) after a e = cc

all_front : {A : Type 0} (P : A → Type 0) (xs ys : List A) → All P (xs ++ ys) → All P xs
all_front P [] ys all = All-nil P
all_front P (x ∷ xs) ys all = All-cons P x xs (All-head P x (xs ++ ys) all) (all_front P xs ys (All-tail P x (xs ++ ys) all))

all_back : {A : Type 0} (P : A → Type 0) (xs ys : List A) → All P (xs ++ ys) → All P ys
all_back P [] ys all = all
all_back P (x ∷ xs) ys all = all_back P xs ys (All-tail P x (xs ++ ys) all)

-- ---- atoms in the order of their places

abbrev pub Rising : List Atom → Type 0
Rising [] = Unit {0}
Rising (a ∷ list) = All (λ (b : Atom). a.place ≤ b.place) list × Rising list

pub record RisesFrom (place : ℕ) (list : List Atom) : Type 0 where
  pub rising : Rising list
  pub from : All (λ (a : Atom). place ≤ a.place) list

level : (place : ℕ) (xs ys : List Atom) → All (λ (a : Atom). a.place ≡ place) xs → RisesFrom place ys → RisesFrom place (xs ++ ys)
level place [] ys all later = later
level place (x ∷ xs) ys all later =
    let here : x.place ≡ place = All-head (λ (a : Atom). a.place ≡ place) x xs all in
    let rest : RisesFrom place (xs ++ ys) = level place xs ys (All-tail (λ (a : Atom). a.place ≡ place) x xs all) later in
    record {
      rising = (λ k d less. omega (arith, here, rest.from k d less), rest.rising);
      from = All-cons (λ (a : Atom). place ≤ a.place) x (xs ++ ys) (omega (arith, here)) rest.from;
    }

-- ---- the changes that effects stand for

module _ (schema : List Declaration) (tape : List Val) (told : Gain) where
  pub record IsOn (e : SymEffect) (change : Effect) : Type 0 where
    pub stands : StandsFor tape e change
    pub short : All (λ w. IsShortWrite w.1) change.writes
    pub decides : (place : ℕ) → Decide schema change tape (atoms told schema e place)

  abbrev pub AreOn : List SymEffect → List Effect → Type 0
  AreOn [] [] = Unit {0}
  AreOn [] (c ∷ changes) = ⊥
  AreOn (e ∷ effects) [] = ⊥
  AreOn (e ∷ effects) (c ∷ changes) = IsOn e c × AreOn effects changes

  abbrev up_to : ℕ → List SymEffect → List Atom
  up_to place effects = to_never (atoms_from told schema place effects)

  own_cut : (e : SymEffect) (place : ℕ) → to_never (atoms told schema e place) ≡ atoms told schema e place
  own_cut e place = twice (flat_map (group_atoms place) (groups told schema e))

  front_of : (e : SymEffect) (place : ℕ) (ys : List Atom) → Front (atoms told schema e place) ys
  front_of e place ys = front (atoms told schema e place) ys (own_cut e place)

  placed : (e : SymEffect) (place : ℕ) → All (λ (a : Atom). a.place ≡ place) (atoms told schema e place)
  placed e place = all_cut (λ (a : Atom). a.place ≡ place) (flat_map (group_atoms place) (groups told schema e))
      (of_groups place (λ (a : Atom). a.place ≡ place) (groups told schema e) (λ k d less. mapped place _ (λ (a : Atom). a.place ≡ place) _ (λ j c within. refl)))

  -- the same at each place
  never_at : (e : SymEffect) (place : ℕ) → list_any stops (atoms told schema e place) ≡ has_never told schema e
  never_at e place =
      any_cut (flat_map (group_atoms place) (groups told schema e)) ∙ groups_stop place (groups told schema e)
      ∙ sym (any_cut (flat_map (group_atoms 1) (groups told schema e)) ∙ groups_stop 1 (groups told schema e))

  pub rises : (place : ℕ) (effects : List SymEffect) → RisesFrom place (up_to place effects)
  rises place [] = record { rising = tt; from = All-nil (λ (a : Atom). place ≤ a.place) }
  rises place (e ∷ effects) = by (front_of e place (atoms_from told schema (suc place) effects)) (rises (suc place) effects)
    where
      none : RisesFrom place []
      none = record { rising = tt; from = All-nil (λ (a : Atom). place ≤ a.place) }

      by : Front (atoms told schema e place) (atoms_from told schema (suc place) effects) → RisesFrom (suc place) (up_to (suc place) effects) → RisesFrom place (up_to place (e ∷ effects))
      by (Ends is whole) later = subst (RisesFrom place) (append-nil (atoms told schema e place) ∙ sym whole) (level place (atoms told schema e place) [] (placed e place) none)
      by (GoesOn is whole) later =
          subst (RisesFrom place) (sym whole) (level place (atoms told schema e place) (up_to (suc place) effects) (placed e place)
          (record { rising = later.rising; from = λ k d less. omega (arith, later.from k d less) }))

  abbrev Reads : Atom → Type 0
  Reads a = Exact schema tape a.test

  -- atoms of a path without a wide form are read as they are
  pub reads : (place : ℕ) (effects : List SymEffect) (changes : List Effect) → AreOn effects changes → is_wide_path told schema effects ≡ false → All Reads (up_to place effects)
  reads place [] [] on narrow = All-nil Reads
  reads place [] (c ∷ changes) on narrow = absurd on
  reads place (e ∷ effects) [] on narrow = absurd on
  reads place (e ∷ effects) (c ∷ changes) on narrow = by (front_of e place (atoms_from told schema (suc place) effects)) (reads (suc place) effects changes on.1)
    where
      parts : (is_wide_change told schema e ≡ false) × ((not (has_never told schema e) && is_wide_path told schema effects) ≡ false)
      parts = neither (is_wide_change told schema e) (not (has_never told schema e) && is_wide_path told schema effects) narrow

      own : All Reads (atoms told schema e place)
      own = narrow_exact told schema e place tape c on.0.stands on.0.short parts.0

      by : Front (atoms told schema e place) (atoms_from told schema (suc place) effects) → (is_wide_path told schema effects ≡ false → All Reads (up_to (suc place) effects)) → All Reads (up_to place (e ∷ effects))
      by (Ends is whole) ih = subst (All Reads) (sym whole) own
      by (GoesOn is whole) ih = subst (All Reads) (sym whole) (All-append Reads (atoms told schema e place) (up_to (suc place) effects) own
          (ih (unless (has_never told schema e) (is_wide_path told schema effects) parts.1 (sym (never_at e place) ∙ is))))

  -- ---- the decision

  abbrev pub IsSafe : Effect → Type 0
  IsSafe change = IsFirstReason schema change None

  abbrev Met : Atom → Type 0
  Met a = IsMetOn schema tape a.test

  some_never : (list : List Atom) → list_any stops list ≡ true → AllMet schema tape list → ⊥
  some_never [] any met = absurd cc
  some_never (a ∷ list) any met = by (stops a) refl any (λ later. some_never list later (All-tail Met a list met))
    where
      by : (b : Bool) → stops a ≡ b → (b || list_any stops list) ≡ true → (list_any stops list ≡ true → ⊥) → ⊥
      by true is any ih = never_met schema tape a.test is (All-head Met a list met)
      by false is any ih = ih any

  pub safe : (place : ℕ) (effects : List SymEffect) (changes : List Effect) → AreOn effects changes → AllMet schema tape (up_to place effects) → All IsSafe changes
  safe place [] [] on met = All-nil IsSafe
  safe place [] (c ∷ changes) on met = absurd on
  safe place (e ∷ effects) [] on met = absurd on
  safe place (e ∷ effects) (c ∷ changes) on met = by (front_of e place (atoms_from told schema (suc place) effects)) (safe (suc place) effects changes on.1)
    where
      by : Front (atoms told schema e place) (atoms_from told schema (suc place) effects) → (AllMet schema tape (up_to (suc place) effects) → All IsSafe changes) → All IsSafe (c ∷ changes)
      by (Ends is whole) ih = absurd (some_never (atoms told schema e place) is (subst (AllMet schema tape) whole met))
      by (GoesOn is whole) ih =
          let both : AllMet schema tape (atoms told schema e place ++ up_to (suc place) effects) = subst (AllMet schema tape) whole met in
          All-cons IsSafe c changes ((on.0.decides place).safe (all_front Met (atoms told schema e place) (up_to (suc place) effects) both))
          (ih (all_back Met (atoms told schema e place) (up_to (suc place) effects) both))

  -- the atom is of the place of a change, whose first reason it has; the changes before that one aren't threatened
  pub record IsFirstAt (from : ℕ) (changes : List Effect) (a : Atom) : Type 0 where
    pub number : ℕ
    pub change : Effect
    pub at : slice_get changes number ≡ Some change
    pub place : a.place ≡ from + number
    pub reason : IsFirstReason schema change (Some a.reason)
    pub before : (m : ℕ) (other : Effect) → m < number → slice_get changes m ≡ Some other → IsSafe other

  pub first : (place : ℕ) (effects : List SymEffect) (changes : List Effect) (before after : List Atom) (a : Atom) → AreOn effects changes → up_to place effects ≡ before ++ a ∷ after
      → AllMet schema tape before → (Met a → ⊥) → IsFirstAt place changes a
  first place [] [] before after a on is met fails = absurd (nothing_in before after a is)
  first place [] (c ∷ changes) before after a on is met fails = absurd on
  first place (e ∷ effects) [] before after a on is met fails = absurd on
  first place (e ∷ effects) (c ∷ changes) before after a on is met fails =
      by (front_of e place (atoms_from told schema (suc place) effects)) (λ more later passed. first (suc place) effects changes more after a on.1 later passed fails)
    where
      xs : List Atom
      xs = atoms told schema e place

      here : (rest : List Atom) → xs ≡ before ++ a ∷ rest → IsFirstAt place (c ∷ changes) a
      here rest own =
          let placed_a : a.place ≡ place = All-head (λ (a : Atom). a.place ≡ place) a rest (all_back (λ (a : Atom). a.place ≡ place) before (a ∷ rest) (subst (All (λ (a : Atom). a.place ≡ place)) own (placed e place))) in
          record {
            number = 0;
            change = c;
            at = refl;
            place = omega (arith, placed_a);
            reason = (on.0.decides place).first before rest a own met fails;
            before = λ m other less at. absurd (omega (arith, less));
          }

      there : AllMet schema tape xs → IsFirstAt (suc place) changes a → IsFirstAt place (c ∷ changes) a
      there passed later = record {
        number = suc later.number;
        change = later.change;
        at = later.at;
        place = omega (arith, later.place);
        reason = later.reason;
        before = earlier;
      }
        where
          earlier : (m : ℕ) (other : Effect) → m < suc later.number → slice_get (c ∷ changes) m ≡ Some other → IsSafe other
          earlier zero other less at = let same : c ≡ other = cc in subst IsSafe same ((on.0.decides place).safe passed)
          earlier (suc m) other less at = later.before m other (omega (arith, less)) at

      behind : Splits xs (up_to (suc place) effects) before after a → ((more : List Atom) → up_to (suc place) effects ≡ more ++ a ∷ after → AllMet schema tape more → IsFirstAt (suc place) changes a)
          → IsFirstAt place (c ∷ changes) a
      behind (InFront rest own) ih = here rest own
      behind (Behind more own later) ih =
          let both : AllMet schema tape (xs ++ more) = subst (AllMet schema tape) own met in
          there (all_front Met xs more both) (ih more later (all_back Met xs more both))

      by : Front xs (atoms_from told schema (suc place) effects) → ((more : List Atom) → up_to (suc place) effects ≡ more ++ a ∷ after → AllMet schema tape more → IsFirstAt (suc place) changes a)
          → IsFirstAt place (c ∷ changes) a
      by (Ends stop whole) ih = here after (sym whole ∙ is)
      by (GoesOn on whole) ih = behind (splits xs (up_to (suc place) effects) before after a (sym whole ∙ is)) ih

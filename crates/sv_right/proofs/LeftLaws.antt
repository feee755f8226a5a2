-- What a template leaves to a run decides of the whole list of its path's atoms: whether all are met on the tape, and which is the first that isn't.
use Rattle.std.proofs.Common.{◌≡◌, ◌∙◌, ◌⊎◌, inl, inr, ℕ, zero, suc, ◌<◌, ◌≤◌, true, List, [], ◌∷◌, ◌++◌, map, Option, Some, None, slice_get, refl, sym, subst, ap, arith, All}
use Rattle.std.specs.Option.{option_map}
use Rattle.std.proofs.lemmas.List.{map-append}
use Rattle.std.proofs.lemmas.List.Elements.{All-nil, All-cons, All-head, All-tail}
use Rattle.std.proofs.lemmas.Option.{slice_get-map}
use Rattle.sv_value.specs.declared.values.Val.{Val}
use Rattle.sv_app.specs.Schema.{Declaration}
use Rattle.sv_app.proofs.AcceptedLaws.{all_at}
use Rattle.sv_app.proofs.ListLaws.{IsSomeBy, map_some, map_map}
use Rattle.sv_bounds.specs.declared.systems.System.{System}
use Rattle.sv_linear.specs.declared.left.KeptAtom as source
use Rattle.sv_linear.specs.declared.tests.Atom.{Atom as Coded}
use Rattle.sv_linear.specs.Atoms.{is_never}
use Rattle.sv_linear.specs.Codes.{test_of, atom_of, kept_of, left_of}
use Rattle.sv_linear.specs.Facts.{facts_hold}
use Rattle.sv_linear.specs.Left.{KeptAtom, Left, AreLeft, End, Stop, Keep, Drop, IsLeft}
use Rattle.sv_linear.specs.Tests.{Test, AtMost, InList, Never, Atom, TestHolds}
use Rattle.sv_simplify.specs.Laws.{IsMostOn}
use Rattle.sv_simplify.proofs.RowLaws.{dropped_hold}
use Rattle.sv_label.specs.declared.templates.Template.{Template}
use Rattle.sv_label.specs.Covers.{last_of}
use Rattle.sv_label.specs.Decided.{asked, IsBefore}
use Rattle.sv_wp.specs.Decides.{AllMet}
use Rattle.sv_wp.specs.Gives.{IsMetOn}
use Rattle.sv_wp.proofs.GroupLaws.{met_or}
use Rattle.sv_wp.proofs.ReadLaws.{Exact}
use Rattle.sv_right.proofs.PathLaws.{never_met, Rising}

-- ---- the atoms that are kept, and then the one that nothing meets

abbrev ends_with : Option Atom → List Atom
ends_with None = []
ends_with (Some a) = a ∷ []

abbrev left_to : Left → List Atom
left_to left = map (λ k. k.atom) left.kept ++ ends_with left.never

-- what holds of all atoms holds of these
kept_all : (P : Atom → Type 0) (s : System) (before : ℕ) (list : List Atom) (left : Left) → AreLeft s before list left → All P list → All P (left_to left)
kept_all P s before list left (End _) all = All-nil P
kept_all P s before list left (Stop _ a more e) all = All-cons P a [] (All-head P a more all) (All-nil P)
kept_all P s before list left (Keep _ a more k rest is later) all =
    All-cons P k.atom (left_to rest) (subst P (sym is.same) (All-head P a more all)) (kept_all P s (suc before) more rest later (All-tail P a more all))
kept_all P s before list left (Drop _ a more d rest is later) all = kept_all P s before more rest later (All-tail P a more all)

kept_rise : (s : System) (before : ℕ) (list : List Atom) (left : Left) → AreLeft s before list left → Rising list → Rising (left_to left)
kept_rise s before list left (End _) rising = tt
kept_rise s before list left (Stop _ a more e) rising = (All-nil (λ (b : Atom). a.place ≤ b.place), tt)
kept_rise s before list left (Keep _ a more k rest is later) rising = (
  subst (λ (x : Atom). All (λ (b : Atom). x.place ≤ b.place) (left_to rest)) (sym is.same) (kept_all (λ (b : Atom). a.place ≤ b.place) s (suc before) more rest later rising.0),
  kept_rise s (suc before) more rest later rising.1,
)
kept_rise s before list left (Drop _ a more d rest is later) rising = kept_rise s before more rest later rising.1

rises_to : (list : List Atom) (j m : ℕ) (b a : Atom) → Rising list → j < m → slice_get list j ≡ Some b → slice_get list m ≡ Some a → b.place ≤ a.place
rises_to [] j m b a rising less at_b at_a = absurd cc
rises_to (x ∷ list) zero zero b a rising less at_b at_a = absurd (omega (arith, less))
rises_to (x ∷ list) zero (suc m) b a rising less at_b at_a =
    let same : x ≡ b = cc in subst (λ (y : Atom). y.place ≤ a.place) same (all_at (λ (c : Atom). x.place ≤ c.place) list m a rising.0 at_a)
rises_to (x ∷ list) (suc j) zero b a rising less at_b at_a = absurd (omega (arith, less))
rises_to (x ∷ list) (suc j) (suc m) b a rising less at_b at_a = rises_to list j m b a rising.1 (omega (arith, less)) at_b at_a

-- an atom of a list behind others that are met
pub record StandsBehind (P : Atom → Type 0) (list : List Atom) (a : Atom) : Type 0 where
  pub before : List Atom
  pub after : List Atom
  pub whole : list ≡ before ++ a ∷ after
  pub met : All P before

module _ (P : Atom → Type 0) where
  met_again : (s : System) (before : ℕ) (list : List Atom) (left : Left) → ((a : Atom) → is_never a.test ≡ true → P a → ⊥) → AreLeft s before list left → All (λ d. P d.atom) left.dropped
      → All P (left_to left) → All P list
  met_again s before list left none (End _) dropped met = All-nil P
  met_again s before list left none (Stop _ a more e) dropped met = absurd (none a e (All-head P a [] met))
  met_again s before list left none (Keep _ a more k rest is later) dropped met =
      All-cons P a more (subst P is.same (All-head P k.atom (left_to rest) met)) (met_again s (suc before) more rest none later dropped (All-tail P k.atom (left_to rest) met))
  met_again s before list left none (Drop _ a more d rest is later) dropped met =
      All-cons P a more (subst P is.same (All-head (λ d. P d.atom) d rest.dropped dropped)) (met_again s before more rest none later (All-tail (λ d. P d.atom) d rest.dropped dropped) met)

  one_more : (x : Atom) (list : List Atom) (a : Atom) → P x → StandsBehind P list a → StandsBehind P (x ∷ list) a
  one_more x list a met st = record { before = x ∷ st.before; after = st.after; whole = ap (λ l. x ∷ l) st.whole; met = All-cons P x st.before met st.met }

  stands_behind : (s : System) (before : ℕ) (list : List Atom) (left : Left) (m : ℕ) (a : Atom) → AreLeft s before list left → All (λ d. P d.atom) left.dropped → slice_get (left_to left) m ≡ Some a
      → ((j : ℕ) (b : Atom) → j < m → slice_get (left_to left) j ≡ Some b → P b) → StandsBehind P list a
  stands_behind s before list left m a (End _) dropped at earlier = absurd cc
  stands_behind s before list left zero a (Stop _ x more e) dropped at earlier = let same : x ≡ a = cc in record { before = []; after = more; whole = ap (λ z. z ∷ more) same; met = All-nil P }
  stands_behind s before list left (suc m) a (Stop _ x more e) dropped at earlier = absurd cc
  stands_behind s before list left zero a (Keep _ x more k rest is later) dropped at earlier =
      let same : k.atom ≡ a = cc in record { before = []; after = more; whole = ap (λ z. z ∷ more) (sym is.same ∙ same); met = All-nil P }
  stands_behind s before list left (suc m) a (Keep _ x more k rest is later) dropped at earlier =
      one_more x more a (subst P is.same (earlier 0 k.atom (omega arith) refl))
      (stands_behind s (suc before) more rest m a later dropped at (λ j b less at_b. earlier (suc j) b (omega (arith, less)) at_b))
  stands_behind s before list left m a (Drop _ x more d rest is later) dropped at earlier =
      one_more x more a (subst P is.same (All-head (λ d. P d.atom) d rest.dropped dropped))
      (stands_behind s before more rest m a later (All-tail (λ d. P d.atom) d rest.dropped dropped) at earlier)

-- ---- as the dictionary has them

lasts : (never : Option Coded) → map atom_of (last_of never) ≡ ends_with (option_map atom_of never)
lasts None = refl
lasts (Some a) = refl

asked_are : (t : Template) → map atom_of (asked t) ≡ left_to (left_of t.left)
asked_are t =
    map-append atom_of (map (λ k. k.atom) t.left.kept) (last_of t.left.never)
    ∙ (λ i. (map_map (λ (k : source.KeptAtom). k.atom) atom_of t.left.kept ∙ sym (map_map kept_of (λ (k : KeptAtom). k.atom) t.left.kept)) i ++ lasts t.left.never i)

each_at : {A : Type 0} (P : A → Type 0) (xs : List A) → ((m : ℕ) (x : A) → slice_get xs m ≡ Some x → P x) → All P xs
each_at P [] each = All-nil P
each_at P (x ∷ xs) each = All-cons P x xs (each 0 x refl) (each_at P xs (λ m y at. each (suc m) y at))

module _ (schema : List Declaration) (tape : List Val) (t : Template) where
  abbrev Fails : Coded → Type 0
  Fails a = TestHolds schema tape (test_of a.test) → ⊥

  abbrev Met : Atom → Type 0
  Met a = IsMetOn schema tape a.test

  -- the atoms of a path, of which the template has what is left
  pub record IsLeftOf (list : List Atom) : Type 0 where
    pub left : IsLeft t.facts t.symbols list (left_of t.left)
    pub facts : facts_hold tape t.facts
    pub reads : All (λ (a : Atom). Exact schema tape a.test) list
    pub rising : Rising list

  module _ (list : List Atom) (is : IsLeftOf list) where
    most_met : (test : Test) → IsMostOn tape test → IsMetOn schema tape test
    most_met (AtMost f most) h = h
    most_met (InList symbol number) h = absurd h
    most_met Never h = absurd h

    dropped : All (λ d. Met d.atom) (left_of t.left).dropped
    dropped = λ k d less. most_met _ (dropped_hold t.facts t.symbols list (left_of t.left) tape is.left is.facts k d less)

    code_at : (m : ℕ) (b : Atom) → slice_get (left_to (left_of t.left)) m ≡ Some b → IsSomeBy atom_of (slice_get (asked t) m) b
    code_at m b at = map_some atom_of (slice_get (asked t) m) b (sym (slice_get-map atom_of (asked t) m) ∙ ap (λ l. slice_get l m) (asked_are t) ∙ at)

    kept_reads : All (λ (a : Atom). Exact schema tape a.test) (left_to (left_of t.left))
    kept_reads = kept_all (λ (a : Atom). Exact schema tape a.test) _ 0 list (left_of t.left) is.left is.reads

    -- met, where it can't fail
    met_unless : (m : ℕ) (b : Atom) → slice_get (left_to (left_of t.left)) m ≡ Some b → ((x : Coded) → slice_get (asked t) m ≡ Some x → atom_of x ≡ b → Fails x → ⊥) → Met b
    met_unless m b at cannot = by (met_or schema tape b.test) (code_at m b at)
      where
        by : Met b ⊎ (Met b → ⊥) → IsSomeBy atom_of (slice_get (asked t) m) b → Met b
        by (inl met) code = met
        by (inr unmet) code =
            absurd (cannot code.x code.is code.gives (λ holds. unmet ((all_at (λ (a : Atom). Exact schema tape a.test) (left_to (left_of t.left)) m b kept_reads at).0
            (subst (λ (a : Atom). TestHolds schema tape a.test) code.gives holds))))

    pub all_met : ((m : ℕ) (x : Coded) → slice_get (asked t) m ≡ Some x → Fails x → ⊥) → AllMet schema tape list
    all_met none = met_again Met _ 0 list (left_of t.left) (λ a e. never_met schema tape a.test e) is.left dropped
        (each_at Met (left_to (left_of t.left)) (λ m b at. met_unless m b at (λ x at_x same fails. none m x at_x fails)))

    -- the first that fails
    pub first_unmet : (m : ℕ) (x : Coded) → slice_get (asked t) m ≡ Some x → Fails x → ((j : ℕ) (y : Coded) → slice_get (asked t) j ≡ Some y → Fails y → IsBefore j y m x → ⊥)
        → StandsBehind Met list (atom_of x) × (Met (atom_of x) → ⊥)
    first_unmet m x at fails first = (
      stands_behind Met _ 0 list (left_of t.left) m (atom_of x) is.left dropped here (λ j b less at_b. met_unless j b at_b (λ y at_y same fails_y. first j y at_y fails_y (sooner j b less at_b y same))),
      λ met. fails ((all_at (λ (a : Atom). Exact schema tape a.test) (left_to (left_of t.left)) m (atom_of x) kept_reads here).1 met),
    )
      where
        here : slice_get (left_to (left_of t.left)) m ≡ Some (atom_of x)
        here = sym (ap (λ l. slice_get l m) (asked_are t)) ∙ slice_get-map atom_of (asked t) m ∙ ap (option_map atom_of) at

        before_or : (p q : ℕ) → p ≤ q → (p < q) ⊎ (p ≡ q)
        before_or zero zero le = inr refl
        before_or zero (suc q) le = inl (omega arith)
        before_or (suc p) zero le = absurd (omega (arith, le))
        before_or (suc p) (suc q) le = by (before_or p q (omega (arith, le)))
          where
            by : (p < q) ⊎ (p ≡ q) → (suc p < suc q) ⊎ (suc p ≡ suc q)
            by (inl less) = inl (omega (arith, less))
            by (inr same) = inr (ap (λ n. suc n) same)

        sooner : (j : ℕ) (b : Atom) → j < m → slice_get (left_to (left_of t.left)) j ≡ Some b → (y : Coded) → atom_of y ≡ b → IsBefore j y m x
        sooner j b less at_b y same = by (before_or y.place x.place (subst (λ (c : Atom). c.place ≤ x.place) (sym same)
            (rises_to (left_to (left_of t.left)) j m b (atom_of x) (kept_rise _ 0 list (left_of t.left) is.left is.rising) less at_b here)))
          where
            by : (y.place < x.place) ⊎ (y.place ≡ x.place) → IsBefore j y m x
            by (inl below) = inl below
            by (inr equal) = inr (equal, less)

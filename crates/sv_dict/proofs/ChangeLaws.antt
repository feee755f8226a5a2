-- The atoms of changes, one behind the other, up to the first that nothing meets.
use Rattle.std.proofs.Common.{◌≡◌, ◌∙◌, ◌≤◌, ◌-◌, ℕ, suc, Bool, true, false, List, [], ◌∷◌, ◌++◌, map, length, take, drop, get_or, Option, Some, None, Result, Ok, Err, IfOk, IfErr, refl, sym, ap, subst, arith, All}
use Rattle.std.specs.Prelude.{◌&&◌, ◌||◌, not, if◌then◌else◌}
use Rattle.std.specs.List.{list_any, flat_map}
use Rattle.std.proofs.lemmas.List.{append_assoc, append-nil, map-append}
use Rattle.std.proofs.lemmas.List.Elements.{All-nil, All-append}
use Rattle.sv_app.specs.Schema.{Declaration}
use Rattle.sv_linear.specs.declared.effects.SymEffect.{SymEffect as Coded}
use Rattle.sv_linear.specs.declared.stops.FormStop.{FormStop}
use Rattle.sv_linear.specs.declared.stops.FormStop.TheVariants as causes
use Rattle.sv_linear.specs.declared.tests.Atom.{Atom as CodedAtom}
use Rattle.sv_linear.specs.Atoms.{Gain, groups, group_atoms, atoms, is_never, is_wide_change, to_never}
use Rattle.sv_linear.specs.Codes.{atom_of, effect_of, test_of}
use Rattle.sv_linear.specs.Effects.{SymEffect}
use Rattle.sv_linear.specs.Tests.{Atom}
use Rattle.sv_linear.proofs.SliceLaws.{on_ok, on_err}
use Rattle.sv_wp.specs.Answers.{AreAtoms, IsAnswer}
use Rattle.sv_wp.specs.Listing.{IsShortTest, AreShortAtoms}
use Rattle.sv_wp.proofs.ArmLaws.{later, parts}
use Rattle.sv_wp.proofs.OnceLaws.{stops, cut_front, cut_back, uncut, groups_stop}
use Rattle.sv_listing.specs.Listed.{atoms_from, has_never, is_wide_path}
use Rattle.sv_dict.specs.Standing.{Lists, IsStop}

any_cut : (xs : List Atom) → list_any stops (to_never xs) ≡ list_any stops xs
any_cut [] = refl
any_cut (x ∷ xs) = by (stops x) refl (any_cut xs)
  where
    by : (b : Bool) → stops x ≡ b → list_any stops (to_never xs) ≡ list_any stops xs → list_any stops (if b then x ∷ [] else x ∷ to_never xs) ≡ (b || list_any stops xs)
    by true e ih = ap (λ b. b || false) e
    by false e ih = (λ i. e i || ih i)

cut_twice : (xs : List Atom) → to_never (to_never xs) ≡ to_never xs
cut_twice [] = refl
cut_twice (x ∷ xs) = by (stops x) refl (cut_twice xs)
  where
    by : (b : Bool) → stops x ≡ b → to_never (to_never xs) ≡ to_never xs → to_never (if b then x ∷ [] else x ∷ to_never xs) ≡ (if b then x ∷ [] else x ∷ to_never xs)
    by true e ih = ap (λ b. if b then x ∷ [] else x ∷ []) e
    by false e ih = ap (λ b. if b then x ∷ [] else x ∷ to_never (to_never xs)) e ∙ ap (λ zs. x ∷ zs) ih

module _ (told : Gain) (schema : List Declaration) where
  -- whether nothing meets an atom doesn't depend on the change's place
  never_at : (place : ℕ) (e : SymEffect) → list_any stops (atoms told schema e place) ≡ has_never told schema e
  never_at place e =
      any_cut (flat_map (group_atoms place) (groups told schema e)) ∙ groups_stop place (groups told schema e)
      ∙ sym (any_cut (flat_map (group_atoms 1) (groups told schema e)) ∙ groups_stop 1 (groups told schema e))

  cut_atoms : (place : ℕ) (e : SymEffect) → to_never (atoms told schema e place) ≡ atoms told schema e place
  cut_atoms place e = cut_twice (flat_map (group_atoms place) (groups told schema e))

  pub no_changes : (place : ℕ) (before : List Atom) → Lists told schema place [] before before
  no_changes place before = record { listed = sym (append-nil before); narrow = refl; short = All-nil (λ a. IsShortTest a.test) }

  or_never : (w n v : Bool) → w ≡ false → n ≡ true → (w || (not n && v)) ≡ false
  or_never true n v e f = absurd cc
  or_never false true v e f = refl
  or_never false false v e f = absurd cc

  or_later : (w n v : Bool) → w ≡ false → v ≡ false → (w || (not n && v)) ≡ false
  or_later true n v e f = absurd cc
  or_later false true v e f = refl
  or_later false false v e f = f

  or_first : (w n v : Bool) → w ≡ true → (w || (not n && v)) ≡ true
  or_first true n v e = refl
  or_first false n v e = absurd cc

  or_behind : (w n v : Bool) → n ≡ false → v ≡ true → (w || (not n && v)) ≡ true
  or_behind true n v e f = refl
  or_behind false true v e f = absurd cc
  or_behind false false v e f = f

  pub ended : (place : ℕ) (e : SymEffect) (es : List SymEffect) (before mid after : List Atom) → mid ≡ atoms told schema e place → is_wide_change told schema e ≡ false → AreShortAtoms mid
      → after ≡ before ++ mid → list_any stops mid ≡ true → Lists told schema place (e ∷ es) before after
  ended place e es before mid after are narrow short moved any =
      let never : list_any stops (atoms told schema e place) ≡ true = ap (list_any stops) (sym are) ∙ any in
      let cut : to_never (atoms told schema e place ++ atoms_from told schema (suc place) es) ≡ mid =
      cut_front (atoms told schema e place) (atoms_from told schema (suc place) es) never ∙ cut_atoms place e ∙ sym are in
      record {
        listed = moved ∙ ap (λ l. before ++ l) (sym cut);
        narrow = or_never (is_wide_change told schema e) (has_never told schema e) (is_wide_path told schema es) narrow (sym (never_at place e) ∙ never);
        short = subst AreShortAtoms (sym cut) short;
      }

  pub goes_on : (place : ℕ) (e : SymEffect) (es : List SymEffect) (before mid between after : List Atom) → mid ≡ atoms told schema e place → is_wide_change told schema e ≡ false → AreShortAtoms mid
      → between ≡ before ++ mid → list_any stops mid ≡ false → Lists told schema (suc place) es between after → Lists told schema place (e ∷ es) before after
  goes_on place e es before mid between after are narrow short moved none later =
      let never : list_any stops (atoms told schema e place) ≡ false = ap (list_any stops) (sym are) ∙ none in
      let cut : to_never (atoms told schema e place ++ atoms_from told schema (suc place) es) ≡ mid ++ to_never (atoms_from told schema (suc place) es) =
      cut_back (atoms told schema e place) (atoms_from told schema (suc place) es) never
      ∙ ap (λ l. l ++ to_never (atoms_from told schema (suc place) es)) (uncut (atoms told schema e place) never ∙ sym are) in
      record {
        listed = later.listed ∙ ap (λ l. l ++ to_never (atoms_from told schema (suc place) es)) moved ∙ append_assoc before mid (to_never (atoms_from told schema (suc place) es)) ∙ ap (λ l. before ++ l) (sym cut);
        narrow = or_later (is_wide_change told schema e) (has_never told schema e) (is_wide_path told schema es) narrow later.narrow;
        short = subst AreShortAtoms (sym cut) (All-append (λ a. IsShortTest a.test) mid (to_never (atoms_from told schema (suc place) es)) short later.short);
      }

  pub stops_first : (e : SymEffect) (es : List SymEffect) (stop : FormStop) → (stop ≡ causes.Wide → is_wide_change told schema e ≡ true) → IsStop told schema (e ∷ es) stop
  stops_first e es causes.Wide wide = or_first (is_wide_change told schema e) (has_never told schema e) (is_wide_path told schema es) (wide refl)
  stops_first e es causes.NoMemory wide = tt

  pub stops_later : (place : ℕ) (e : SymEffect) (es : List SymEffect) (mid : List Atom) (stop : FormStop) → mid ≡ atoms told schema e place → list_any stops mid ≡ false → IsStop told schema es stop
      → IsStop told schema (e ∷ es) stop
  stops_later place e es mid causes.Wide are none wide =
      or_behind (is_wide_change told schema e) (has_never told schema e) (is_wide_path told schema es) (sym (never_at place e) ∙ ap (list_any stops) (sym are) ∙ none) wide
  stops_later place e es mid causes.NoMemory are none wide = tt

-- ---- the arms of the code

any_coded : (l : List CodedAtom) → list_any stops (map atom_of l) ≡ list_any (λ a. is_never (test_of a.test)) l
any_coded [] = refl
any_coded (a ∷ l) = ap (λ b. is_never (test_of a.test) || b) (any_coded l)

module _ (told : Gain) (schema : List Declaration) (place : ℕ) (xs : List Coded) (x : Coded) (some : 1 ≤ length xs) (is : x ≡ get_or xs 0 x) where
  whole : map effect_of xs ≡ effect_of x ∷ map effect_of (later xs)
  whole = ap (map effect_of) (parts xs x some is)

  moved : (old mid new : List CodedAtom) → new ≡ old ++ mid → map atom_of new ≡ map atom_of old ++ map atom_of mid
  moved old mid new e = ap (map atom_of) e ∙ map-append atom_of old mid

  pub ended_arm : (old mid new : List CodedAtom) (b : Bool) → AreAtoms told schema (effect_of x) place mid → new ≡ old ++ mid → b ≡ list_any (λ a. is_never (test_of a.test)) mid → b ≡ true
      → Lists told schema place (map effect_of xs) (map atom_of old) (map atom_of new)
  ended_arm old mid new b are e any is =
      subst (λ es. Lists told schema place es (map atom_of old) (map atom_of new)) (sym whole)
      (ended told schema place (effect_of x) (map effect_of (later xs)) (map atom_of old) (map atom_of mid) (map atom_of new) are.atoms_are are.narrow are.short (moved old mid new e) (any_coded mid ∙ sym any ∙ is))

  pub going_arm : (r : Result (Unit {0}) FormStop) (old mid between new : List CodedAtom) (b : Bool) → AreAtoms told schema (effect_of x) place mid → between ≡ old ++ mid
      → b ≡ list_any (λ a. is_never (test_of a.test)) mid → b ≡ false
      → (next : ℕ) → next ≡ suc place → IfOk r (λ _. Lists told schema next (map effect_of (later xs)) (map atom_of between) (map atom_of new))
      → IfOk r (λ _. Lists told schema place (map effect_of xs) (map atom_of old) (map atom_of new))
  going_arm r old mid between new b are e any is next more rest =
      on_ok r (λ _. Lists told schema next (map effect_of (later xs)) (map atom_of between) (map atom_of new)) (λ _. Lists told schema place (map effect_of xs) (map atom_of old) (map atom_of new))
      (λ _ lists. subst (λ es. Lists told schema place es (map atom_of old) (map atom_of new)) (sym whole)
      (goes_on told schema place (effect_of x) (map effect_of (later xs)) (map atom_of old) (map atom_of mid) (map atom_of between) (map atom_of new) are.atoms_are are.narrow are.short (moved old mid between e)
      (any_coded mid ∙ sym any ∙ is) (subst (λ n. Lists told schema n (map effect_of (later xs)) (map atom_of between) (map atom_of new)) more lists))) rest

  pub later_stop_arm : (r : Result (Unit {0}) FormStop) (mid : List CodedAtom) (b : Bool) → AreAtoms told schema (effect_of x) place mid → b ≡ list_any (λ a. is_never (test_of a.test)) mid → b ≡ false
      → IfErr r (IsStop told schema (map effect_of (later xs))) → IfErr r (IsStop told schema (map effect_of xs))
  later_stop_arm r mid b are any is rest =
      on_err r (IsStop told schema (map effect_of (later xs))) (IsStop told schema (map effect_of xs))
      (λ s stop. subst (λ es. IsStop told schema es s) (sym whole)
      (stops_later told schema place (effect_of x) (map effect_of (later xs)) (map atom_of mid) s are.atoms_are (any_coded mid ∙ sym any ∙ is) stop)) rest

  pub stop_arm : (s : FormStop) → IsAnswer told schema (effect_of x) place (Err s) → IsStop told schema (map effect_of xs) s
  stop_arm s answer = subst (λ es. IsStop told schema es s) (sym whole) (by s answer)
    where
      by : (s : FormStop) → IsAnswer told schema (effect_of x) place (Err s) → IsStop told schema (effect_of x ∷ map effect_of (later xs)) s
      by causes.Wide answer = stops_first told schema (effect_of x) (map effect_of (later xs)) causes.Wide (λ _. answer)
      by causes.NoMemory answer = tt

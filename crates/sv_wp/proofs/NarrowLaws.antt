-- The atoms of a change that asks for no wide form are read as they are on the tape of a run.
use Rattle.std.proofs.Common.{◌≡◌, ◌∙◌, ℕ, ◌^◌, Bool, true, false, List, [], ◌∷◌, ◌++◌, map, Option, Some, None, ℤ, pos, refl, sym, subst, arith, All}
use Rattle.std.specs.Prelude.{◌&&◌, ◌||◌, not, if◌then◌else◌}
use Rattle.std.specs.List.{list_any, flat_map}
use Rattle.std.proofs.lemmas.Int.{ints}
use Rattle.std.proofs.lemmas.List.Elements.{All-nil, All-cons, All-head, All-tail}
use Rattle.sv_value.specs.declared.values.Val.{Val}
use Rattle.sv_app.specs.declared.reasons.Reason.{Reason}
use Rattle.sv_app.specs.Schema.{Declaration}
use Rattle.sv_bounds.specs.Differences.{Within}
use Rattle.sv_effect.specs.RunChanges.{Effect}
use Rattle.sv_linear.specs.Atoms.{Gain, Asked, ByCase, asked_tests, is_wide, Group, group_atoms, groups, each_once, same_test, is_never, to_never, atoms, meets_wide, is_wide_change}
use Rattle.sv_linear.specs.Effects.{Number, TextIs, TextSymbol, SymWrite, Delta, Set, SymEffect, linear}
use Rattle.sv_linear.specs.Forms.{Form, value, number, sub, is_word, are_words, is_narrow}
use Rattle.sv_linear.specs.Tests.{Test, InList, Never, Atom}
use Rattle.sv_wp.specs.Gives.{StandsFor, writes_on, write_on}
use Rattle.sv_wp.specs.Listing.{atom_by, ends, asked_of}
use Rattle.sv_wp.specs.Reads.{IsShortWrite}
use Rattle.sv_wp.proofs.KeptLaws.{KeepsAsked, kept_asked}
use Rattle.sv_wp.proofs.OnceLaws.{stops, held_never, none_more, asked_stops, wide_append}
use Rattle.sv_wp.proofs.ReadLaws.{word_within, Exact, exact_tests}

-- ---- truth values

pub neither : (a b : Bool) → (a || b) ≡ false → (a ≡ false) × (b ≡ false)
neither true b e = absurd cc
neither false b e = (refl, e)

pub unless : (a b : Bool) → (not a && b) ≡ false → a ≡ false → b ≡ false
unless true b e h = absurd cc
unless false b e h = e

either : (a b : Bool) → a ≡ false → b ≡ false → (a || b) ≡ false
either true b p q = absurd cc
either false b p q = q

-- ---- what holds up to and with the first that nothing meets

module _ (P : Test → Type 0) where
  abbrev UpTo : List Test → Type 0
  UpTo [] = Unit {0}
  UpTo (t ∷ ts) = P t × (is_never t ≡ false → UpTo ts)

  abbrev AtomsUpTo : List Atom → Type 0
  AtomsUpTo [] = Unit {0}
  AtomsUpTo (a ∷ list) = P a.test × (stops a ≡ false → AtomsUpTo list)

  -- all that is asked in forms that are narrow
  abbrev Narrow : Asked → Type 0
  Narrow q = is_wide q ≡ false → All P (asked_tests q)

  tests_both : (xs ys : List Test) → All P xs → (list_any is_never xs ≡ false → UpTo ys) → UpTo (xs ++ ys)
  tests_both [] ys p q = q refl
  tests_both (x ∷ xs) ys p q = (All-head P x xs p, λ goes. tests_both xs ys (All-tail P x xs p) (λ none. q (either (is_never x) (list_any is_never xs) goes none)))

  atoms_both : (xs ys : List Atom) → AtomsUpTo xs → (list_any stops xs ≡ false → AtomsUpTo ys) → AtomsUpTo (xs ++ ys)
  atoms_both [] ys p q = q refl
  atoms_both (x ∷ xs) ys p q = (p.0, λ goes. atoms_both xs ys (p.1 goes) (λ none. q (either (stops x) (list_any stops xs) goes none)))

  asked_up : (qs : List Asked) → All Narrow qs → meets_wide qs ≡ false → UpTo (flat_map asked_tests qs)
  asked_up [] all narrow = tt
  asked_up (q ∷ qs) all narrow =
      let parts : (is_wide q ≡ false) × ((not (list_any is_never (asked_tests q)) && meets_wide qs) ≡ false) = neither (is_wide q) (not (list_any is_never (asked_tests q)) && meets_wide qs) narrow in
      tests_both (asked_tests q) (flat_map asked_tests qs) (All-head Narrow q qs all parts.0)
      (λ none. asked_up qs (All-tail Narrow q qs all) (unless (list_any is_never (asked_tests q)) (meets_wide qs) parts.1 none))

  once_up : (held ts : List Test) → list_any is_never held ≡ false → UpTo ts → UpTo (each_once held ts)
  once_up held [] none up = tt
  once_up held (t ∷ ts) none up =
      by (list_any (same_test t) held) refl (λ goes. once_up held ts none (up.1 goes)) (λ goes. once_up (held ++ t ∷ []) ts (none_more t held none goes) (up.1 goes))
    where
      by : (b : Bool) → list_any (same_test t) held ≡ b → (is_never t ≡ false → UpTo (each_once held ts)) → (is_never t ≡ false → UpTo (each_once (held ++ t ∷ []) ts))
          → UpTo (if b then each_once held ts else t ∷ each_once (held ++ t ∷ []) ts)
      by true any same more = same (held_never t held none any)
      by false any same more = (up.0, more)

  mapped_up : (place : ℕ) (reason : Reason) (ts : List Test) → UpTo ts → AtomsUpTo (map (atom_by place reason) ts)
  mapped_up place reason [] up = tt
  mapped_up place reason (t ∷ ts) up = (up.0, λ goes. mapped_up place reason ts (up.1 goes))

  groups_up : (place : ℕ) (gs : List Group) → All (λ (g : Group). All Narrow g.asked) gs → meets_wide (asked_of gs) ≡ false → AtomsUpTo (flat_map (group_atoms place) gs)
  groups_up place [] all narrow = tt
  groups_up place (g ∷ gs) all narrow =
      let parts : (meets_wide g.asked ≡ false) × ((not (ends g.asked) && meets_wide (asked_of gs)) ≡ false) =
      neither (meets_wide g.asked) (not (ends g.asked) && meets_wide (asked_of gs)) (sym (wide_append g.asked (asked_of gs)) ∙ narrow) in
      atoms_both (group_atoms place g) (flat_map (group_atoms place) gs)
      (mapped_up place g.reason (each_once [] (flat_map asked_tests g.asked)) (once_up [] (flat_map asked_tests g.asked) refl (asked_up g.asked (All-head (λ (g : Group). All Narrow g.asked) g gs all) parts.0)))
      (λ none. groups_up place gs (All-tail (λ (g : Group). All Narrow g.asked) g gs all)
      (unless (ends g.asked) (meets_wide (asked_of gs)) parts.1 (sym (asked_stops place g.reason [] g.asked refl) ∙ none)))

  cut_up : (list : List Atom) → AtomsUpTo list → All (λ (a : Atom). P a.test) (to_never list)
  cut_up [] up = All-nil (λ (a : Atom). P a.test)
  cut_up (a ∷ list) up = by (stops a) refl (λ goes. cut_up list (up.1 goes))
    where
      by : (b : Bool) → stops a ≡ b → (stops a ≡ false → All (λ (a : Atom). P a.test) (to_never list)) → All (λ (a : Atom). P a.test) (if b then a ∷ [] else a ∷ to_never list)
      by true is later = All-cons (λ (a : Atom). P a.test) a [] up.0 (All-nil (λ (a : Atom). P a.test))
      by false is later = All-cons (λ (a : Atom). P a.test) a (to_never list) up.0 (later is)

-- ---- values on a tape

module _ (schema : List Declaration) (tape : List Val) where
  abbrev IsShort : Form → Type 0
  IsShort f = Within (2 ^ 64) (value f tape)

  abbrev Written : SymWrite → Type 0
  Written (Delta f) = IsShort f
  Written (Set v) = IsShort (linear v)

  zero_short : IsShort (number (pos 0))
  zero_short = record { low = omega (arith, ints); high = omega (arith, ints) }

  first_word : (a b : Bool) → (a && b) ≡ true → a ≡ true
  first_word true b e = refl
  first_word false b e = absurd cc

  negated : (b : Bool) → not b ≡ false → b ≡ true
  negated true e = refl
  negated false e = absurd cc

  narrow_plus : (f : Form) → not (is_narrow f) ≡ false → Within (2 ^ 64) f.plus
  narrow_plus f e =
      let w : Within (2 ^ 63) f.plus = word_within f.plus (first_word (is_word f.plus) (are_words f.terms) (negated (is_narrow f) e)) in
      record { low = omega (arith, ints, w.low); high = omega (arith, ints, w.high) }

  case_read : (f g : Form) (most : Option ℤ) → IsShort f → IsShort g → Narrow (Exact schema tape) (ByCase (record { left = sub f g; most = most }))
  case_read f g None p q narrow = exact_tests schema tape f g None p q (λ m is. absurd (none_some m is))
    where
      none_some : (m : ℤ) → None ≡ Some m → ⊥
      none_some m is = cc
  case_read f g (Some most) p q narrow = exact_tests schema tape f g (Some most) p q (λ m is. narrow_plus (sub f g) narrow)

  reads : KeepsAsked (Narrow (Exact schema tape)) Written IsShort
  reads = record {
    never = λ narrow. All-cons (Exact schema tape) Never [] (λ h. h, λ h. h) (All-nil (Exact schema tape));
    zero_side = zero_short;
    delta = λ f p. p;
    set = λ v p. p;
    at_most = case_read;
    listed = λ symbol number p narrow. All-cons (Exact schema tape) (InList symbol number) [] (λ h. h, λ h. h) (All-nil (Exact schema tape));
  }

  written : (w : SymWrite) → IsShortWrite (write_on tape w) → Written w
  written (Delta f) p = p
  written (Set (Number f)) p = p
  written (Set (TextIs t)) p = zero_short
  written (Set (TextSymbol n)) p = zero_short

  all_written : (ws : List (ℕ × SymWrite)) → All (λ w. IsShortWrite w.1) (writes_on tape ws) → All (λ w. Written w.1) ws
  all_written [] p = All-nil (λ w. Written w.1)
  all_written (w ∷ ws) p =
      All-cons (λ v. Written v.1) w ws (written w.1 (All-head (λ v. IsShortWrite v.1) (w.0, write_on tape w.1) (writes_on tape ws) p))
      (all_written ws (All-tail (λ v. IsShortWrite v.1) (w.0, write_on tape w.1) (writes_on tape ws) p))

pub narrow_exact : (told : Gain) (schema : List Declaration) (e : SymEffect) (place : ℕ) (tape : List Val) (change : Effect)
    → StandsFor tape e change → All (λ w. IsShortWrite w.1) change.writes → is_wide_change told schema e ≡ false
    → All (λ (a : Atom). Exact schema tape a.test) (atoms told schema e place)
narrow_exact told schema e place tape change stands short narrow =
    cut_up (Exact schema tape) _ (groups_up (Exact schema tape) place (groups told schema e)
    (kept_asked (Narrow (Exact schema tape)) (Written schema tape) (IsShort schema tape) (reads schema tape) told schema e
    (all_written schema tape e.writes (subst (All (λ w. IsShortWrite w.1)) (sym stands.writes) short))) narrow)

-- The arms of the calls that list atoms: of a list of parts the first ends what is listed, stops it, or goes on to the others.
use Rattle.std.proofs.Common.{◌≡◌, ◌∙◌, ℕ, zero, suc, ◌-◌, ◌≤◌, Bool, true, false, List, [], ◌∷◌, ◌++◌, length, map, take, drop, get_or, Option, Some, None, Result, IfOk, IfErr, refl, sym, ap, subst, arith}
use Rattle.std.specs.List.{flat_map, list_any}
use Rattle.std.proofs.lemmas.List.{take_all, length-map, length-append}
use Rattle.sv_app.specs.declared.reasons.Reason.{Reason}
use Rattle.sv_linear.specs.declared.stops.FormStop.{FormStop}
use Rattle.sv_linear.specs.declared.tests.Atom.{Atom as Coded}
use Rattle.sv_linear.specs.Atoms.{Asked, ByTest, asked_tests, Group, each_once, is_never, to_never, meets_wide}
use Rattle.sv_linear.specs.Codes.{atom_of, test_of}
use Rattle.sv_linear.specs.Tests.{Test, Atom}
use Rattle.sv_linear.proofs.SliceLaws.{on_ok, on_err}
use Rattle.sv_wp.specs.Listing.{AreShortAtoms, atom_by, asked_of, tests_in, tests_from, IsStopIn, Lists, ListsAsked}
use Rattle.sv_wp.proofs.ListingLaws.{whole_group, lists_ended, lists_on, stops_front, stops_back, asked_ended, asked_on, asked_stop_front, asked_stop_back, none_held, held_behind}
use Rattle.sv_wp.proofs.OnceLaws.{uncut, asked_stops}

-- ---- slices

abbrev pub later : {A : Type 0} → List A → List A
later xs = take (length xs - 1) (drop 1 xs)

pub parts : {A : Type 0} (xs : List A) (x : A) → 1 ≤ length xs → x ≡ get_or xs 0 x → xs ≡ x ∷ later xs
parts [] x some is = absurd (omega (arith, some))
parts (y ∷ xs) x some is = λ i. sym is i ∷ sym (take_all (length (y ∷ xs) - 1) xs (omega arith)) i

pub first_at : {A : Type 0} (xs : List A) (d : A) → 1 ≤ length xs → get_or xs 0 d ≡ get_or xs 0 (get_or xs 0 d)
first_at [] d some = absurd (omega (arith, some))
first_at (x ∷ xs) d some = refl

-- ---- groups of the first, and of those behind it

module _ {A : Type 0} (place : ℕ) (first : A → List Group) (all behind : List A → List Group) (made : (y : A) (ys : List A) → all (y ∷ ys) ≡ first y ++ behind ys) (xs : List A) (x : A) (some : 1 ≤ length xs) (is : x ≡ get_or xs 0 x) where
  whole : all xs ≡ first x ++ behind (later xs)
  whole = ap all (parts xs x some is) ∙ made x (later xs)

  pub ended_arm : (old new : List Atom) (b : Bool) → Lists place (first x) old new b → b ≡ true → Lists place (all xs) old new true
  ended_arm old new b l e = subst (λ gs. Lists place gs old new true) (sym whole) (lists_ended place (first x) (behind (later xs)) old new (subst (Lists place (first x) old new) e l))

  pub going_arm : (r : Result Bool FormStop) (old mid new : List Atom) (b : Bool) → Lists place (first x) old mid b → b ≡ false → IfOk r (λ ended. Lists place (behind (later xs)) mid new ended)
      → IfOk r (λ ended. Lists place (all xs) old new ended)
  going_arm r old mid new b l e rest =
      on_ok r (λ ended. Lists place (behind (later xs)) mid new ended) (λ ended. Lists place (all xs) old new ended)
      (λ ended k. subst (λ gs. Lists place gs old new ended) (sym whole) (lists_on place (first x) (behind (later xs)) old mid new ended (subst (Lists place (first x) old mid) e l) k)) rest

  pub stop_arm : (s : FormStop) → IsStopIn (asked_of (first x)) s → IsStopIn (asked_of (all xs)) s
  stop_arm s stop = subst (λ gs. IsStopIn (asked_of gs) s) (sym whole) (stops_front (first x) (behind (later xs)) s stop)

  pub later_stop_arm : (r : Result Bool FormStop) (old mid : List Atom) (b : Bool) → Lists place (first x) old mid b → b ≡ false → IfErr r (IsStopIn (asked_of (behind (later xs))))
      → IfErr r (IsStopIn (asked_of (all xs)))
  later_stop_arm r old mid b l e rest =
      on_err r (IsStopIn (asked_of (behind (later xs)))) (IsStopIn (asked_of (all xs)))
      (λ s stop. subst (λ gs. IsStopIn (asked_of gs) s) (sym whole) (stops_back place (first x) (behind (later xs)) old mid s (subst (Lists place (first x) old mid) e l) stop)) rest

-- ---- cases of a check

module _ {A : Type 0} (place : ℕ) (reason : Reason) (first : A → List Asked) (held : List Test) (none : list_any is_never held ≡ false) (xs : List A) (x : A) (some : 1 ≤ length xs) (is : x ≡ get_or xs 0 x) where
  whole_asked : flat_map first xs ≡ first x ++ flat_map first (later xs)
  whole_asked = ap (flat_map first) (parts xs x some is)

  pub ended_case : (old new : List Atom) (b : Bool) → ListsAsked place reason held (first x) old new b → b ≡ true → ListsAsked place reason held (flat_map first xs) old new true
  ended_case old new b l e = subst (λ p. ListsAsked place reason held p old new true) (sym whole_asked)
      (asked_ended place reason held (first x) (flat_map first (later xs)) old new none (subst (ListsAsked place reason held (first x) old new) e l))

  pub going_case : (r : Result Bool FormStop) (old mid new : List Atom) (b : Bool) → ListsAsked place reason held (first x) old mid b → b ≡ false
      → IfOk r (λ ended. ListsAsked place reason (held_behind held (first x)) (flat_map first (later xs)) mid new ended) → IfOk r (λ ended. ListsAsked place reason held (flat_map first xs) old new ended)
  going_case r old mid new b l e rest =
      on_ok r (λ ended. ListsAsked place reason (held_behind held (first x)) (flat_map first (later xs)) mid new ended) (λ ended. ListsAsked place reason held (flat_map first xs) old new ended)
      (λ ended k. subst (λ p. ListsAsked place reason held p old new ended) (sym whole_asked)
      (asked_on place reason held (first x) (flat_map first (later xs)) old mid new ended none (subst (ListsAsked place reason held (first x) old mid) e l) k)) rest

  pub stop_case : (s : FormStop) → IsStopIn (first x) s → IsStopIn (flat_map first xs) s
  stop_case s stop = subst (λ p. IsStopIn p s) (sym whole_asked) (asked_stop_front (first x) (flat_map first (later xs)) s stop)

  pub later_stop_case : (r : Result Bool FormStop) (old mid : List Atom) (b : Bool) → ListsAsked place reason held (first x) old mid b → b ≡ false → IfErr r (IsStopIn (flat_map first (later xs)))
      → IfErr r (IsStopIn (flat_map first xs))
  later_stop_case r old mid b l e rest =
      on_err r (IsStopIn (flat_map first (later xs))) (IsStopIn (flat_map first xs))
      (λ s stop. subst (λ p. IsStopIn p s) (sym whole_asked) (asked_stop_back place reason held (first x) (flat_map first (later xs)) old mid s (subst (ListsAsked place reason held (first x) old mid) e l) stop)) rest

-- a test as what was asked for by a case
same_tests : (t : Option Test) → flat_map asked_tests (map ByTest (tests_in t)) ≡ tests_in t
same_tests None = refl
same_tests (Some t) = refl

pub as_case : (place : ℕ) (reason : Reason) (held : List Test) (t : Option Test) (q : List Asked) (old new : List Atom) (b : Bool) → tests_in t ≡ flat_map asked_tests q → meets_wide q ≡ false
    → ListsAsked place reason held (map ByTest (tests_in t)) old new b → ListsAsked place reason held q old new b
as_case place reason held t q old new b same narrow l =
    let tests : flat_map asked_tests (map ByTest (tests_in t)) ≡ flat_map asked_tests q = same_tests t ∙ same in
    record {
      listed = subst (λ ts. new ≡ old ++ to_never (map (atom_by place reason) (each_once held ts))) tests l.listed;
      never = l.never ∙ ap (list_any is_never) tests;
      narrow = narrow;
      short = subst (λ ts. AreShortAtoms (to_never (map (atom_by place reason) (each_once held ts)))) tests l.short;
    }

pub ruleset casing = (as_case)

-- ---- the tests that are held behind a part

tests_coded : (start : ℕ) (xs : List Coded) → tests_from start xs ≡ map (λ (a : Atom). a.test) (drop start (map atom_of xs))
tests_coded zero [] = refl
tests_coded zero (x ∷ xs) = ap (λ ts. test_of x.test ∷ ts) (tests_coded zero xs)
tests_coded (suc start) [] = refl
tests_coded (suc start) (x ∷ xs) = tests_coded start xs

dropped : (start : ℕ) (xs : List Coded) (zs : List Atom) → start ≤ length xs → map (λ (a : Atom). a.test) (drop start (map atom_of xs ++ zs)) ≡ tests_from start xs ++ map (λ (a : Atom). a.test) zs
dropped zero [] zs less = refl
dropped zero (x ∷ xs) zs less = ap (λ ts. test_of x.test ∷ ts) (dropped zero xs zs (omega arith))
dropped (suc start) [] zs less = absurd (omega (arith, less))
dropped (suc start) (x ∷ xs) zs less = dropped start xs zs (omega (arith, less))

tests_back : (place : ℕ) (reason : Reason) (ts : List Test) → map (λ (a : Atom). a.test) (map (atom_by place reason) ts) ≡ ts
tests_back place reason [] = refl
tests_back place reason (t ∷ ts) = ap (λ us. t ∷ us) (tests_back place reason ts)

pub behind_held : (place : ℕ) (reason : Reason) (start : ℕ) (old mid : List Coded) (p : List Asked) → start ≤ length old → list_any is_never (tests_from start old) ≡ false
    → ListsAsked place reason (tests_from start old) p (map atom_of old) (map atom_of mid) false → tests_from start mid ≡ held_behind (tests_from start old) p
behind_held place reason start old mid p less none l =
    let ts = each_once (tests_from start old) (flat_map asked_tests p) in
    let whole : to_never (map (atom_by place reason) ts) ≡ map (atom_by place reason) ts = uncut (map (atom_by place reason) ts) (asked_stops place reason (tests_from start old) p none ∙ sym l.never) in
    tests_coded start mid ∙ ap (λ zs. map (λ (a : Atom). a.test) (drop start zs)) (l.listed ∙ ap (λ zs. map atom_of old ++ zs) whole)
    ∙ dropped start old (map (atom_by place reason) ts) less ∙ ap (λ us. tests_from start old ++ us) (tests_back place reason ts)

pub none_behind : (place : ℕ) (reason : Reason) (start : ℕ) (old mid : List Coded) (p : List Asked) → start ≤ length old → list_any is_never (tests_from start old) ≡ false
    → ListsAsked place reason (tests_from start old) p (map atom_of old) (map atom_of mid) false → list_any is_never (tests_from start mid) ≡ false
none_behind place reason start old mid p less none l =
    ap (list_any is_never) (behind_held place reason start old mid p less none l) ∙ none_held place reason (tests_from start old) p (map atom_of old) (map atom_of mid) none l

pub still_within : (start : ℕ) (old mid : List Coded) (zs : List Atom) → start ≤ length old → map atom_of mid ≡ map atom_of old ++ zs → start ≤ length mid
still_within start old mid zs less same =
    let lengths : length (map atom_of mid) ≡ length (map atom_of old ++ zs) = ap length same in
    omega (arith, less, lengths, length-append (map atom_of old) zs, length-map old atom_of, length-map mid atom_of)

none_over : (n : ℕ) (xs : List Coded) → n ≡ length xs → tests_from n xs ≡ []
none_over zero [] e = refl
none_over zero (x ∷ xs) e = absurd (omega (arith, e))
none_over (suc n) [] e = refl
none_over (suc n) (x ∷ xs) e = none_over n xs (omega (arith, e))

-- a whole check is behind nothing that was listed for it
pub whole_check : (place : ℕ) (reason : Reason) (old : List Coded) (asked : List Asked) (r : Result Bool FormStop) (start : ℕ) (new : List Atom) → start ≡ length old
    → IfOk r (λ ended. ListsAsked place reason (tests_from start old) asked (map atom_of old) new ended) → IfOk r (λ ended. Lists place (record { reason = reason; asked = asked } ∷ []) (map atom_of old) new ended)
whole_check place reason old asked r start new whole l =
    on_ok r (λ ended. ListsAsked place reason (tests_from start old) asked (map atom_of old) new ended) (λ ended. Lists place (record { reason = reason; asked = asked } ∷ []) (map atom_of old) new ended)
    (λ ended k. whole_group place reason asked (map atom_of old) new ended (subst (λ held. ListsAsked place reason held asked (map atom_of old) new ended) nothing k)) l
  where
    nothing : tests_from start old ≡ []
    nothing = none_over start old whole

-- Tests that are listed once, and lists that are cut behind the first test that nothing meets.
use Rattle.std.proofs.Common.{◌≡◌, ◌∙◌, ℕ, Bool, true, false, List, [], ◌∷◌, ◌++◌, map, refl, sym, ap, append_assoc, append-nil}
use Rattle.std.specs.Prelude.{◌&&◌, ◌||◌, not, if◌then◌else◌}
use Rattle.std.specs.List.{list_any, flat_map}
use Rattle.std.proofs.lemmas.Grind.{flat_map-append}
use Rattle.std.proofs.lemmas.List.Folds.{list_any-append}
use Rattle.sv_app.specs.declared.reasons.Reason.{Reason}
use Rattle.sv_linear.specs.Atoms.{Asked, asked_tests, is_wide, Group, group_atoms, each_once, same_test, is_never, to_never, meets_wide}
use Rattle.sv_linear.specs.Tests.{Test, AtMost, InList, Never, Atom}
use Rattle.sv_wp.specs.Listing.{atom_by, ends, asked_of}

abbrev pub stops : Atom → Bool
stops a = is_never a.test

-- ---- cut lists

pub cut_front : (xs ys : List Atom) → list_any stops xs ≡ true → to_never (xs ++ ys) ≡ to_never xs
cut_front [] ys any = absurd cc
cut_front (x ∷ xs) ys any = by (stops x) (cut_front xs ys) any
  where
    by : (b : Bool) → (list_any stops xs ≡ true → to_never (xs ++ ys) ≡ to_never xs) → (b || list_any stops xs) ≡ true
        → (if b then x ∷ [] else x ∷ to_never (xs ++ ys)) ≡ (if b then x ∷ [] else x ∷ to_never xs)
    by true ih any = refl
    by false ih any = ap (λ zs. x ∷ zs) (ih any)

pub cut_back : (xs ys : List Atom) → list_any stops xs ≡ false → to_never (xs ++ ys) ≡ to_never xs ++ to_never ys
cut_back [] ys none = refl
cut_back (x ∷ xs) ys none = by (stops x) (cut_back xs ys) none
  where
    by : (b : Bool) → (list_any stops xs ≡ false → to_never (xs ++ ys) ≡ to_never xs ++ to_never ys) → (b || list_any stops xs) ≡ false
        → (if b then x ∷ [] else x ∷ to_never (xs ++ ys)) ≡ (if b then x ∷ [] else x ∷ to_never xs) ++ to_never ys
    by true ih none = absurd cc
    by false ih none = ap (λ zs. x ∷ zs) (ih none)

pub uncut : (xs : List Atom) → list_any stops xs ≡ false → to_never xs ≡ xs
uncut [] none = refl
uncut (x ∷ xs) none = by (stops x) (uncut xs) none
  where
    by : (b : Bool) → (list_any stops xs ≡ false → to_never xs ≡ xs) → (b || list_any stops xs) ≡ false → (if b then x ∷ [] else x ∷ to_never xs) ≡ x ∷ xs
    by true ih none = absurd cc
    by false ih none = ap (λ zs. x ∷ zs) (ih none)

-- ---- each once

pub once_append : (held xs ys : List Test) → each_once held (xs ++ ys) ≡ each_once held xs ++ each_once (held ++ each_once held xs) ys
once_append held [] ys = ap (λ ts. each_once ts ys) (sym (append-nil held))
once_append held (x ∷ xs) ys = by (list_any (same_test x) held) (once_append held xs ys) (once_append (held ++ x ∷ []) xs ys)
  where
    by : (b : Bool) → each_once held (xs ++ ys) ≡ each_once held xs ++ each_once (held ++ each_once held xs) ys
        → each_once (held ++ x ∷ []) (xs ++ ys) ≡ each_once (held ++ x ∷ []) xs ++ each_once ((held ++ x ∷ []) ++ each_once (held ++ x ∷ []) xs) ys
        → (if b then each_once held (xs ++ ys) else x ∷ each_once (held ++ x ∷ []) (xs ++ ys))
        ≡ (if b then each_once held xs else x ∷ each_once (held ++ x ∷ []) xs) ++ each_once (held ++ (if b then each_once held xs else x ∷ each_once (held ++ x ∷ []) xs)) ys
    by true same other = same
    by false same other =
        ap (λ ts. x ∷ ts) other
        ∙ ap (λ ts. x ∷ (each_once (held ++ x ∷ []) xs ++ each_once ts ys)) (append_assoc held (x ∷ []) (each_once (held ++ x ∷ []) xs))

same_never : (t u : Test) → same_test t u ≡ true → is_never t ≡ is_never u
same_never (AtMost f m) (AtMost g n) same = refl
same_never (AtMost f m) (InList s i) same = absurd cc
same_never (AtMost f m) Never same = absurd cc
same_never (InList s i) (InList t j) same = refl
same_never (InList s i) (AtMost f m) same = absurd cc
same_never (InList s i) Never same = absurd cc
same_never Never Never same = refl
same_never Never (AtMost f m) same = absurd cc
same_never Never (InList s i) same = absurd cc

pub held_never : (t : Test) (held : List Test) → list_any is_never held ≡ false → list_any (same_test t) held ≡ true → is_never t ≡ false
held_never t [] none any = absurd cc
held_never t (u ∷ held) none any = by (same_test t u) refl (is_never u) refl none any (held_never t held)
  where
    by : (s : Bool) → same_test t u ≡ s → (n : Bool) → is_never u ≡ n → (n || list_any is_never held) ≡ false → (s || list_any (same_test t) held) ≡ true
        → (list_any is_never held ≡ false → list_any (same_test t) held ≡ true → is_never t ≡ false) → is_never t ≡ false
    by s is true never none any ih = absurd cc
    by true is false never none any ih = same_never t u is ∙ never
    by false is false never none any ih = ih none any

pub none_more : (t : Test) (held : List Test) → list_any is_never held ≡ false → is_never t ≡ false → list_any is_never (held ++ t ∷ []) ≡ false
none_more t held none one = list_any-append is_never held (t ∷ []) ∙ (λ i. none i || (one i || false))

pub once_never : (held ts : List Test) → list_any is_never held ≡ false → list_any is_never (each_once held ts) ≡ list_any is_never ts
once_never held [] none = refl
once_never held (t ∷ ts) none = by (list_any (same_test t) held) refl (is_never t) refl (once_never held ts none) (λ never. once_never (held ++ t ∷ []) ts (none_more t held none never))
  where
    by : (s : Bool) → list_any (same_test t) held ≡ s → (n : Bool) → is_never t ≡ n → list_any is_never (each_once held ts) ≡ list_any is_never ts
        → (is_never t ≡ false → list_any is_never (each_once (held ++ t ∷ []) ts) ≡ list_any is_never ts)
        → list_any is_never (if s then each_once held ts else t ∷ each_once (held ++ t ∷ []) ts) ≡ (is_never t || list_any is_never ts)
    by true any n never same more = same ∙ ap (λ b. b || list_any is_never ts) (sym (held_never t held none any))
    by false any true never same more = (λ i. never i || list_any is_never (each_once (held ++ t ∷ []) ts)) ∙ (λ i. sym never i || list_any is_never ts)
    by false any false never same more = ap (λ b. is_never t || b) (more never)

pub any_mapped : (place : ℕ) (reason : Reason) (ts : List Test) → list_any stops (map (atom_by place reason) ts) ≡ list_any is_never ts
any_mapped place reason [] = refl
any_mapped place reason (t ∷ ts) = ap (λ b. is_never t || b) (any_mapped place reason ts)

pub asked_stops : (place : ℕ) (reason : Reason) (held : List Test) (asked : List Asked) → list_any is_never held ≡ false
    → list_any stops (map (atom_by place reason) (each_once held (flat_map asked_tests asked))) ≡ ends asked
asked_stops place reason held asked none = any_mapped place reason (each_once held (flat_map asked_tests asked)) ∙ once_never held (flat_map asked_tests asked) none

pub ends_append : (xs ys : List Asked) → ends (xs ++ ys) ≡ (ends xs || ends ys)
ends_append xs ys = ap (list_any is_never) (flat_map-append asked_tests xs ys) ∙ list_any-append is_never (flat_map asked_tests xs) (flat_map asked_tests ys)

pub groups_stop : (place : ℕ) (gs : List Group) → list_any stops (flat_map (group_atoms place) gs) ≡ ends (asked_of gs)
groups_stop place [] = refl
groups_stop place (g ∷ gs) =
    list_any-append stops (group_atoms place g) (flat_map (group_atoms place) gs)
    ∙ (λ i. asked_stops place g.reason [] g.asked refl i || groups_stop place gs i)
    ∙ sym (ends_append g.asked (asked_of gs))

pub asked_append : (gs hs : List Group) → asked_of (gs ++ hs) ≡ asked_of gs ++ asked_of hs
asked_append gs hs = flat_map-append (λ g. g.asked) gs hs

-- ---- wide forms

wide_both : (a n w e v : Bool) → (a || (not n && (w || (not e && v)))) ≡ ((a || (not n && w)) || (not (n || e) && v))
wide_both true n w e v = refl
wide_both false true w e v = refl
wide_both false false true e v = refl
wide_both false false false e v = refl

pub wide_append : (xs ys : List Asked) → meets_wide (xs ++ ys) ≡ (meets_wide xs || (not (ends xs) && meets_wide ys))
wide_append [] ys = refl
wide_append (x ∷ xs) ys =
    ap (λ b. is_wide x || (not (list_any is_never (asked_tests x)) && b)) (wide_append xs ys)
    ∙ wide_both (is_wide x) (list_any is_never (asked_tests x)) (meets_wide xs) (ends xs) (meets_wide ys)
    ∙ ap (λ b. meets_wide (x ∷ xs) || (not b && meets_wide ys)) (sym (list_any-append is_never (asked_tests x) (flat_map asked_tests xs)))

-- What is listed of two parts, one behind the other.
use Rattle.std.proofs.Common.{◌≡◌, ◌∙◌, ℕ, Bool, true, false, List, [], ◌∷◌, ◌++◌, map, refl, sym, ap, subst, append_assoc, append-nil}
use Rattle.std.specs.Prelude.{◌&&◌, ◌||◌, not}
use Rattle.std.specs.List.{list_any, flat_map}
use Rattle.std.proofs.lemmas.Grind.{flat_map-append}
use Rattle.std.proofs.lemmas.List.{map-append}
use Rattle.std.proofs.lemmas.List.Folds.{list_any-append}
use Rattle.std.proofs.lemmas.List.Elements.{All-nil, All-append}
use Rattle.sv_app.specs.declared.reasons.Reason.{Reason}
use Rattle.sv_linear.specs.declared.stops.FormStop.{FormStop}
use Rattle.sv_linear.specs.declared.stops.FormStop.TheVariants.{Wide, NoMemory}
use Rattle.sv_linear.specs.Atoms.{Asked, asked_tests, Group, group_atoms, each_once, is_never, to_never, meets_wide}
use Rattle.sv_linear.specs.Tests.{Test, Atom}
use Rattle.sv_wp.specs.Listing.{IsShortTest, AreShortAtoms, atom_by, ends, asked_of, IsStopIn, IsListed, Lists, ListsAsked}
use Rattle.sv_wp.proofs.OnceLaws.{stops, cut_front, cut_back, once_append, once_never, asked_stops, ends_append, groups_stop, asked_append, wide_append}

-- ---- any two parts

ended_both : (xs ys old new : List Atom) (p q : List Asked) → list_any stops xs ≡ ends p → IsListed xs p old new true → IsListed (xs ++ ys) (p ++ q) old new true
ended_both xs ys old new p q same l =
    let cut : to_never (xs ++ ys) ≡ to_never xs = cut_front xs ys (same ∙ sym l.never) in
    record {
      listed = l.listed ∙ ap (λ zs. old ++ zs) (sym cut);
      never = sym (ends_append p q ∙ (λ i. sym l.never i || ends q));
      narrow = wide_append p q ∙ (λ i. l.narrow i || (not (sym l.never i) && meets_wide q));
      short = subst AreShortAtoms (sym cut) l.short;
    }

going_both : (xs ys old mid new : List Atom) (p q : List Asked) (b : Bool) → list_any stops xs ≡ ends p → IsListed xs p old mid false → IsListed ys q mid new b → IsListed (xs ++ ys) (p ++ q) old new b
going_both xs ys old mid new p q b same l k =
    let cut : to_never (xs ++ ys) ≡ to_never xs ++ to_never ys = cut_back xs ys (same ∙ sym l.never) in
    record {
      listed = k.listed ∙ ap (λ zs. zs ++ to_never ys) l.listed ∙ append_assoc old (to_never xs) (to_never ys) ∙ ap (λ zs. old ++ zs) (sym cut);
      never = k.never ∙ sym (ends_append p q ∙ (λ i. sym l.never i || ends q));
      narrow = wide_append p q ∙ (λ i. l.narrow i || (not (sym l.never i) && meets_wide q)) ∙ k.narrow;
      short = subst AreShortAtoms (sym cut) (All-append (λ a. IsShortTest a.test) (to_never xs) (to_never ys) l.short k.short);
    }

front_stop : (p q : List Asked) (s : FormStop) → IsStopIn p s → IsStopIn (p ++ q) s
front_stop p q Wide wide = wide_append p q ∙ ap (λ b. b || (not (ends p) && meets_wide q)) wide
front_stop p q NoMemory wide = tt

back_stop : (p q : List Asked) (s : FormStop) → ends p ≡ false → meets_wide p ≡ false → IsStopIn q s → IsStopIn (p ++ q) s
back_stop p q Wide on narrow wide = wide_append p q ∙ (λ i. narrow i || (not (on i) && meets_wide q)) ∙ wide
back_stop p q NoMemory on narrow wide = tt

-- ---- groups

pub lists_none : (place : ℕ) (old : List Atom) → Lists place [] old old false
lists_none place old = record { listed = sym (append-nil old); never = refl; narrow = refl; short = All-nil (λ a. IsShortTest a.test) }

joined : (place : ℕ) (gs hs : List Group) (old new : List Atom) (b : Bool)
    → IsListed (flat_map (group_atoms place) gs ++ flat_map (group_atoms place) hs) (asked_of gs ++ asked_of hs) old new b → Lists place (gs ++ hs) old new b
joined place gs hs old new b l = subst (λ (p : List Atom × List Asked). IsListed p.0 p.1 old new b) (λ i. (sym (flat_map-append (group_atoms place) gs hs) i, sym (asked_append gs hs) i)) l

pub lists_ended : (place : ℕ) (gs hs : List Group) (old new : List Atom) → Lists place gs old new true → Lists place (gs ++ hs) old new true
lists_ended place gs hs old new l =
    joined place gs hs old new true (ended_both (flat_map (group_atoms place) gs) (flat_map (group_atoms place) hs) old new (asked_of gs) (asked_of hs) (groups_stop place gs) l)

pub lists_on : (place : ℕ) (gs hs : List Group) (old mid new : List Atom) (b : Bool) → Lists place gs old mid false → Lists place hs mid new b → Lists place (gs ++ hs) old new b
lists_on place gs hs old mid new b l k =
    joined place gs hs old new b (going_both (flat_map (group_atoms place) gs) (flat_map (group_atoms place) hs) old mid new (asked_of gs) (asked_of hs) b (groups_stop place gs) l k)

pub stops_front : (gs hs : List Group) (s : FormStop) → IsStopIn (asked_of gs) s → IsStopIn (asked_of (gs ++ hs)) s
stops_front gs hs s stop = subst (λ p. IsStopIn p s) (sym (asked_append gs hs)) (front_stop (asked_of gs) (asked_of hs) s stop)

pub stops_back : (place : ℕ) (gs hs : List Group) (old mid : List Atom) (s : FormStop) → Lists place gs old mid false → IsStopIn (asked_of hs) s → IsStopIn (asked_of (gs ++ hs)) s
stops_back place gs hs old mid s l stop = subst (λ p. IsStopIn p s) (sym (asked_append gs hs)) (back_stop (asked_of gs) (asked_of hs) s (sym l.never) l.narrow stop)

-- ---- parts of one group

pub asked_none : (place : ℕ) (reason : Reason) (held : List Test) (old : List Atom) → ListsAsked place reason held [] old old false
asked_none place reason held old = record { listed = sym (append-nil old); never = refl; narrow = refl; short = All-nil (λ a. IsShortTest a.test) }

abbrev once : ℕ → Reason → List Test → List Asked → List Atom
once place reason held asked = map (atom_by place reason) (each_once held (flat_map asked_tests asked))

-- the tests that are held behind a part
abbrev pub held_behind : List Test → List Asked → List Test
held_behind held asked = held ++ each_once held (flat_map asked_tests asked)

once_both : (place : ℕ) (reason : Reason) (held : List Test) (p q : List Asked) → once place reason held (p ++ q) ≡ once place reason held p ++ once place reason (held_behind held p) q
once_both place reason held p q =
    ap (λ ts. map (atom_by place reason) (each_once held ts)) (flat_map-append asked_tests p q)
    ∙ ap (map (atom_by place reason)) (once_append held (flat_map asked_tests p) (flat_map asked_tests q))
    ∙ map-append (atom_by place reason) (each_once held (flat_map asked_tests p)) (each_once (held_behind held p) (flat_map asked_tests q))

pub asked_ended : (place : ℕ) (reason : Reason) (held : List Test) (p q : List Asked) (old new : List Atom) → list_any is_never held ≡ false → ListsAsked place reason held p old new true
    → ListsAsked place reason held (p ++ q) old new true
asked_ended place reason held p q old new none l =
    subst (λ zs. IsListed zs (p ++ q) old new true) (sym (once_both place reason held p q))
    (ended_both (once place reason held p) (once place reason (held_behind held p) q) old new p q (asked_stops place reason held p none) l)

pub asked_on : (place : ℕ) (reason : Reason) (held : List Test) (p q : List Asked) (old mid new : List Atom) (b : Bool) → list_any is_never held ≡ false → ListsAsked place reason held p old mid false
    → ListsAsked place reason (held_behind held p) q mid new b → ListsAsked place reason held (p ++ q) old new b
asked_on place reason held p q old mid new b none l k =
    subst (λ zs. IsListed zs (p ++ q) old new b) (sym (once_both place reason held p q))
    (going_both (once place reason held p) (once place reason (held_behind held p) q) old mid new p q b (asked_stops place reason held p none) l k)

pub asked_stop_front : (p q : List Asked) (s : FormStop) → IsStopIn p s → IsStopIn (p ++ q) s
asked_stop_front = front_stop

pub asked_stop_back : (place : ℕ) (reason : Reason) (held : List Test) (p q : List Asked) (old mid : List Atom) (s : FormStop) → ListsAsked place reason held p old mid false → IsStopIn q s → IsStopIn (p ++ q) s
asked_stop_back place reason held p q old mid s l stop = back_stop p q s (sym l.never) l.narrow stop

-- nothing that nothing meets is held behind a part that goes on
pub none_held : (place : ℕ) (reason : Reason) (held : List Test) (p : List Asked) (old mid : List Atom) → list_any is_never held ≡ false → ListsAsked place reason held p old mid false
    → list_any is_never (held_behind held p) ≡ false
none_held place reason held p old mid none l =
    list_any-append is_never held (each_once held (flat_map asked_tests p)) ∙ (λ i. none i || (once_never held (flat_map asked_tests p) none ∙ sym l.never) i)

-- a group from all its parts
pub whole_group : (place : ℕ) (reason : Reason) (asked : List Asked) (old new : List Atom) (b : Bool) → ListsAsked place reason [] asked old new b
    → Lists place (record { reason = reason; asked = asked } ∷ []) old new b
whole_group place reason asked old new b l =
    subst (λ (p : List Atom × List Asked). IsListed p.0 p.1 old new b) (λ i. (sym (append-nil (once place reason [] asked)) i, sym (append-nil asked) i)) l

pub whole_stop : (reason : Reason) (asked : List Asked) (s : FormStop) → IsStopIn asked s → IsStopIn (asked_of (record { reason = reason; asked = asked } ∷ [])) s
whole_stop reason asked s stop = subst (λ p. IsStopIn p s) (sym (append-nil asked)) stop

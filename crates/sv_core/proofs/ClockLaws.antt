-- The greatest time of the operations of a cut, and how it grows by one operation more.
use Rattle.std.proofs.Common.{◌≡◌, inl, inr, ℕ, zero, suc, ◌<◌, ◌≤◌, ◌+◌, List, [], ◌∷◌, ◌++◌, take, Some, slice_get, refl, sym, ap, ◌∙◌, arith}
use Rattle.std.specs.Prelude.{max}
use Rattle.sv_value.specs.Cuts.{more}
use Rattle.sv_effect.specs.declared.ops.Op.{Op}
use Rattle.sv_effect.specs.Cut.{Cut, Medium, held}
use Rattle.sv_effect.specs.TablesOfCut.{Family, all_to}
use Rattle.sv_effect.proofs.Members.{In, Source, source, in_all, Grown, grown_in, in_grown}
use Rattle.sv_core.specs.Clock.{latest_of, latest_in}
use Rattle.sv_core.proofs.ListLaws.{get_taken}
use Rattle.sv_app.proofs.TestLaws.{same_test, other_test}

pub latest_above : (ops : List Op) (op : Op) → In op ops → op.time ≤ latest_of ops
latest_above [] op h = absurd h
latest_above (x ∷ ops) op (inl e) = let same : op.time ≡ x.time = ap (λ y. y.time) e in omega (arith, same)
latest_above (x ∷ ops) op (inr h) = let ih : op.time ≤ latest_of ops = latest_above ops op h in omega (arith, ih)

pub latest_least : (ops : List Op) (n : ℕ) → ((op : Op) → In op ops → op.time ≤ n) → latest_of ops ≤ n
latest_least [] n all = omega arith
latest_least (x ∷ ops) n all =
    let here : x.time ≤ n = all x (inl refl) in
    let ih : latest_of ops ≤ n = latest_least ops n (λ op h. all op (inr h)) in
    omega (arith, here, ih)

pub latest-append : (xs ys : List Op) → latest_of (xs ++ ys) ≡ max (latest_of xs) (latest_of ys)
latest-append [] ys = omega arith
latest-append (x ∷ xs) ys = let ih : latest_of (xs ++ ys) ≡ max (latest_of xs) (latest_of ys) = latest-append xs ys in omega (arith, ih)

latest_grown : (f g : Family Op) (o : ℕ) (op : Op) → Grown f g o (op ∷ []) → o < 9 → latest_of (all_to g 9) ≡ max (latest_of (all_to f 9)) op.time
latest_grown f g o op grown small =
    let all : latest_of (all_to f 9 ++ op ∷ []) ≡ max (latest_of (all_to f 9)) (max op.time 0) = latest-append (all_to f 9) (op ∷ []) in
    let up : latest_of (all_to g 9) ≤ latest_of (all_to f 9 ++ op ∷ []) = latest_least (all_to g 9) (latest_of (all_to f 9 ++ op ∷ [])) (λ x h. latest_above (all_to f 9 ++ op ∷ []) x (grown_in f g o 9 (op ∷ []) x grown h)) in
    let down : latest_of (all_to f 9 ++ op ∷ []) ≤ latest_of (all_to g 9) = latest_least (all_to f 9 ++ op ∷ []) (latest_of (all_to g 9)) (λ x h. latest_above (all_to g 9) x (in_grown f g o 9 (op ∷ []) x grown small h)) in
    omega (arith, all, up, down)

take-more : (ops : List Op) (n : ℕ) (op : Op) → slice_get ops n ≡ Some op → take (suc n) ops ≡ take n ops ++ op ∷ []
take-more [] n op e = absurd cc
take-more (x ∷ ops) zero op e = let same : x ≡ op = cc in ap (λ y. y ∷ []) same
take-more (x ∷ ops) (suc n) op e = ap (λ l. x ∷ l) (take-more ops n op e)

pub held_grown : (m : Medium) (cut : Cut) (o : ℕ) (op : Op) → slice_get (m o) (cut o) ≡ Some op → Grown (held m cut) (held m (more cut o)) o (op ∷ [])
held_grown m cut o op next = record {
  here = (λ i. take (here i) (m o)) ∙ take-more (m o) (cut o) op next;
  others = λ p apart i. take (there p apart i) (m p);
}
  where
    here : more cut o o ≡ suc (cut o)
    here = rw (same_test o o refl) refl

    there : (p : ℕ) → (p ≡ o → ⊥) → more cut o p ≡ cut p
    there p apart = rw (other_test p o apart) refl

-- the greatest time of a cut with the next operation of an origin
pub latest_more : (m : Medium) (cut : Cut) (o : ℕ) (op : Op) → o < 9 → slice_get (m o) (cut o) ≡ Some op → latest_in m (more cut o) ≡ max (latest_in m cut) op.time
latest_more m cut o op small next = latest_grown (held m cut) (held m (more cut o)) o op (held_grown m cut o op next) small

pub get_in : {A : Type 0} (xs : List A) (q : ℕ) (x : A) → slice_get xs q ≡ Some x → In x xs
get_in [] q x e = absurd cc
get_in (y ∷ xs) zero x e = let same : y ≡ x = cc in inl (sym same)
get_in (y ∷ xs) (suc q) x e = inr (get_in xs q x e)

pub in_get : {A : Type 0} (xs : List A) (x : A) → In x xs → (q : ℕ) × (slice_get xs q ≡ Some x)
in_get [] x h = absurd h
in_get (y ∷ xs) x (inl e) = (0, ap (λ z. Some z) (sym e))
in_get (y ∷ xs) x (inr h) = let r : (q : ℕ) × (slice_get xs q ≡ Some x) = in_get xs x h in (suc r.0, r.1)

pub get_untaken : {A : Type 0} (k : ℕ) (xs : List A) (q : ℕ) (x : A) → slice_get (take k xs) q ≡ Some x → slice_get xs q ≡ Some x
get_untaken zero xs q x e = absurd cc
get_untaken (suc k) [] q x e = absurd cc
get_untaken (suc k) (y ∷ xs) zero x e = e
get_untaken (suc k) (y ∷ xs) (suc q) x e = get_untaken k xs q x e

-- each operation that a cut holds is no later than its greatest time
pub latest_held : (m : Medium) (cut : Cut) (o q : ℕ) (op : Op) → o < 9 → q < cut o → slice_get (m o) q ≡ Some op → op.time ≤ latest_in m cut
latest_held m cut o q op small lt get =
    latest_above (all_to (held m cut) 9) op (in_all (held m cut) 9 op (record { origin = o; below = small; is = get_in (held m cut o) q op (get_taken (cut o) (m o) q op lt get) }))

-- a bound of all operations of the medium is one of a cut's
pub latest_below : (m : Medium) (cut : Cut) (n : ℕ) → ((o q : ℕ) (op : Op) → slice_get (m o) q ≡ Some op → op.time ≤ n) → latest_in m cut ≤ n
latest_below m cut n all = latest_least (all_to (held m cut) 9) n from
  where
    from : (op : Op) → In op (all_to (held m cut) 9) → op.time ≤ n
    from op h =
        let s : Source (held m cut) 9 op = source (held m cut) 9 op h in
        let g : (q : ℕ) × (slice_get (held m cut s.origin) q ≡ Some op) = in_get (held m cut s.origin) op s.is in
        all s.origin g.0 op (get_untaken (cut s.origin) (m s.origin) g.0 op g.1)

-- the lists of the sites, one after the other
pub latest_none : (m : Medium) → m 0 ≡ [] → latest_of (all_to m 1) ≡ 0
unfolding all_to
latest_none m none = ap latest_of none

pub latest_next : (m : Medium) (place : ℕ) (before now : ℕ) (ops : List Op) → before ≡ latest_of (all_to m (place + 1)) → ops ≡ m (suc place) → now ≡ max (latest_of ops) before → now ≡ latest_of (all_to m (place + 1 + 1))
unfolding all_to
latest_next m place before now ops was is e =
    let one : place + 1 ≡ suc place = omega arith in
    let two : suc (suc place) ≡ place + 1 + 1 = omega arith in
    let all : latest_of (all_to m (suc place) ++ m (suc place)) ≡ max (latest_of (all_to m (suc place))) (latest_of (m (suc place))) = latest-append (all_to m (suc place)) (m (suc place)) in
    let old : before ≡ latest_of (all_to m (suc place)) = was ∙ ap (λ n. latest_of (all_to m n)) one in
    let here : latest_of ops ≡ latest_of (m (suc place)) = ap latest_of is in
    let last : now ≡ latest_of (all_to m (suc (suc place))) = omega (arith, all, old, here, e) in
    last ∙ ap (λ n. latest_of (all_to m n)) two

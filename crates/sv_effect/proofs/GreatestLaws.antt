-- The greatest stamp of a list: its members alone decide it.
use Rattle.std.proofs.Common.{◌≡◌, ◌⊎◌, inl, inr, if◌then◌else◌, Bool, true, false, List, [], ◌∷◌, ◌++◌, refl, sym, ap, subst, ◌∙◌}
use Rattle.std.specs.declared.cmp.Ordering.{Ordering}
use Rattle.std.specs.declared.cmp.Ordering.TheVariants.{Less, Equal, Greater}
use Rattle.std.specs.Ordering.{ordering_reverse, is_lt, is_gt}
use Rattle.std.proofs.lemmas.Cmp.{upto, tied_itself}
use Rattle.sv_value.specs.declared.stamps.Stamp.{Stamp}
use Rattle.sv_value.specs.Orders.{stamp_cmp}
use Rattle.sv_value.proofs.OrderLaws.{stamp_total, exact_stamps}
use Rattle.sv_effect.specs.StampedTables.{Stamped}
use Rattle.sv_effect.specs.RowChange.{later}
use Rattle.sv_effect.specs.TablesOfCut.{greatest}
use Rattle.sv_effect.proofs.Members.{In}

-- whether the first has a lower stamp
abbrev before : {A : Type 0} → Stamped A → Stamped A → Bool
before a b = is_lt (stamp_cmp a.stamp b.stamp)

lt_back : (r : Ordering) → is_lt (ordering_reverse r) ≡ is_gt r
lt_back Less = refl
lt_back Equal = refl
lt_back Greater = refl

is_behind : (s t : Stamp) → is_lt (stamp_cmp s t) ≡ is_gt (stamp_cmp t s)
is_behind s t = ap is_lt (stamp_total.antisymm s t) ∙ lt_back (stamp_cmp t s)

chain_stamps : (s t u : Stamp) → is_lt (stamp_cmp s t) ≡ false → is_lt (stamp_cmp t u) ≡ false → is_lt (stamp_cmp s u) ≡ false
chain_stamps s t u h k = is_behind s u ∙ upto stamp_total u t s (sym (is_behind t u) ∙ k) (sym (is_behind s t) ∙ h)

chain : {A : Type 0} (a b c : Stamped A) → before a b ≡ false → before b c ≡ false → before a c ≡ false
chain a b c h k = chain_stamps a.stamp b.stamp c.stamp h k

equal_of : (r : Ordering) → is_lt r ≡ false → is_gt r ≡ false → r ≡ Equal
equal_of Less h k = absurd cc
equal_of Equal h k = refl
equal_of Greater h k = absurd cc

pub tie_stamps : (s t : Stamp) → is_lt (stamp_cmp s t) ≡ false → is_lt (stamp_cmp t s) ≡ false → s ≡ t
tie_stamps s t h k = exact_stamps s t (equal_of (stamp_cmp s t) h (sym (is_behind t s) ∙ k))

itself : (s : Stamp) → is_lt (stamp_cmp s s) ≡ false
itself s = ap is_lt (tied_itself stamp_total s)

lt_chain : (r : Ordering) → is_lt r ≡ true → is_gt r ≡ false
lt_chain Less e = refl
lt_chain Equal e = absurd cc
lt_chain Greater e = absurd cc

not_back : (s t : Stamp) → is_lt (stamp_cmp s t) ≡ true → is_lt (stamp_cmp t s) ≡ false
not_back s t h = is_behind t s ∙ lt_chain (stamp_cmp s t) h

later_left : {A : Type 0} (a b : Stamped A) → before (later a b) a ≡ false
later_left {A} a b = split (before a b) refl
  where
    split : (t : Bool) → before a b ≡ t → before (if t then b else a) a ≡ false
    split true e = not_back a.stamp b.stamp e
    split false e = itself a.stamp

later_right : {A : Type 0} (a b : Stamped A) → before (later a b) b ≡ false
later_right {A} a b = split (before a b) refl
  where
    split : (t : Bool) → before a b ≡ t → before (if t then b else a) b ≡ false
    split true e = itself b.stamp
    split false e = e

later_one : {A : Type 0} (a b : Stamped A) → (later a b ≡ a) ⊎ (later a b ≡ b)
later_one {A} a b = split (before a b)
  where
    split : (t : Bool) → ((if t then b else a) ≡ a) ⊎ ((if t then b else a) ≡ b)
    split true = inr refl
    split false = inl refl

above_first : {A : Type 0} (c : Stamped A) (xs : List (Stamped A)) → before (greatest c xs) c ≡ false
above_first c [] = itself c.stamp
above_first c (x ∷ xs) = chain (greatest (later c x) xs) (later c x) c (above_first (later c x) xs) (later_left c x)

above : {A : Type 0} (c : Stamped A) (xs : List (Stamped A)) (x : Stamped A) → In x xs → before (greatest c xs) x ≡ false
above c [] x h = absurd h
above c (y ∷ xs) x (inl e) = subst (λ z. before (greatest (later c y) xs) z ≡ false) (sym e) (chain (greatest (later c y) xs) (later c y) y (above_first (later c y) xs) (later_right c y))
above c (y ∷ xs) x (inr h) = above (later c y) xs x h

pub one_of : {A : Type 0} (c : Stamped A) (xs : List (Stamped A)) → In (greatest c xs) (c ∷ xs)
one_of c [] = inl refl
one_of {A} c (x ∷ xs) = from (one_of (later c x) xs)
  where
    from : In (greatest (later c x) xs) (later c x ∷ xs) → In (greatest (later c x) xs) (c ∷ x ∷ xs)
    from (inl e) = pick (later_one c x)
      where
        pick : (later c x ≡ c) ⊎ (later c x ≡ x) → In (greatest (later c x) xs) (c ∷ x ∷ xs)
        pick (inl a) = inl (e ∙ a)
        pick (inr a) = inr (inl (e ∙ a))
    from (inr h) = inr (inr h)

pub above_all : {A : Type 0} (c : Stamped A) (xs : List (Stamped A)) (x : Stamped A) → In x (c ∷ xs) → before (greatest c xs) x ≡ false
above_all c xs x (inl e) = subst (λ z. before (greatest c xs) z ≡ false) (sym e) (above_first c xs)
above_all c xs x (inr h) = above c xs x h

-- equal stamps are of one member
abbrev pub Alone : {A : Type 0} → List (Stamped A) → Type 0
Alone {A} xs = (a b : Stamped A) → In a xs → In b xs → a.stamp ≡ b.stamp → a ≡ b

-- lists with the same members have one greatest
pub same_greatest : {A : Type 0} (c : Stamped A) (xs ys : List (Stamped A)) → ((x : Stamped A) → In x xs → In x ys) → ((x : Stamped A) → In x ys → In x xs)
    → Alone (c ∷ ys) → greatest c xs ≡ greatest c ys
same_greatest {A} c xs ys to from alone =
    alone (greatest c xs) (greatest c ys) (down (greatest c xs) (one_of c xs)) (one_of c ys)
    (tie_stamps _ _ (above_all c xs (greatest c ys) (up (greatest c ys) (one_of c ys))) (above_all c ys (greatest c xs) (down (greatest c xs) (one_of c xs))))
  where
    up : (x : Stamped A) → In x (c ∷ ys) → In x (c ∷ xs)
    up x (inl e) = inl e
    up x (inr h) = inr (from x h)

    down : (x : Stamped A) → In x (c ∷ xs) → In x (c ∷ ys)
    down x (inl e) = inl e
    down x (inr h) = inr (to x h)

pub greatest_append : {A : Type 0} (c : Stamped A) (xs ys : List (Stamped A)) → greatest c (xs ++ ys) ≡ greatest (greatest c xs) ys
greatest_append c [] ys = refl
greatest_append c (x ∷ xs) ys = greatest_append (later c x) xs ys

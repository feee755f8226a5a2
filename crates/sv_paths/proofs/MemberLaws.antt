-- Paths of a list: which it has, and those with a choice before them.
use Rattle.std.proofs.Common.{◌≡◌, ℕ, zero, suc, ◌<◌, Bool, List, [], ◌∷◌, ◌++◌, map, length, get_or, refl, sym, ap, ◌⊎◌, inl, inr, Contains, arith}
use Rattle.sv_paths.specs.declared.answers.Path.{Path}
use Rattle.sv_paths.specs.Listing.{taking}

abbrev pub In : Path → List Path → Type 0
In p [] = ⊥
In p (x ∷ xs) = (x ≡ p) ⊎ In p xs

pub in_left : (p : Path) (xs ys : List Path) → In p xs → In p (xs ++ ys)
in_left p [] ys i = absurd i
in_left p (x ∷ xs) ys (inl e) = inl e
in_left p (x ∷ xs) ys (inr i) = inr (in_left p xs ys i)

pub in_right : (p : Path) (xs ys : List Path) → In p ys → In p (xs ++ ys)
in_right p [] ys i = i
in_right p (x ∷ xs) ys i = inr (in_right p xs ys i)

pub in_either : (p : Path) (xs ys : List Path) → In p (xs ++ ys) → In p xs ⊎ In p ys
in_either p [] ys i = inr i
in_either p (x ∷ xs) ys (inl e) = inl (inl e)
in_either p (x ∷ xs) ys (inr i) = moved (in_either p xs ys i)
  where
    moved : In p xs ⊎ In p ys → In p (x ∷ xs) ⊎ In p ys
    moved (inl j) = inl (inr j)
    moved (inr j) = inr j

pub in_taking : (choice : Bool) (p : Path) (xs : List Path) → In p xs → In (taking choice p) (map (taking choice) xs)
in_taking choice p [] i = absurd i
in_taking choice p (x ∷ xs) (inl e) = inl (ap (taking choice) e)
in_taking choice p (x ∷ xs) (inr i) = inr (in_taking choice p xs i)

pub record Taken (choice : Bool) (p : Path) (xs : List Path) : Type 0 where
  pub path : Path
  pub is : p ≡ taking choice path
  pub inside : In path xs

pub in_taken : (choice : Bool) (p : Path) (xs : List Path) → In p (map (taking choice) xs) → Taken choice p xs
in_taken choice p [] i = absurd i
in_taken choice p (x ∷ xs) (inl e) = record { path = x; is = sym e; inside = inl refl }
in_taken choice p (x ∷ xs) (inr i) = let t = in_taken choice p xs i in record { path = t.path; is = t.is; inside = inr t.inside }

pub contains_in : (p : Path) (xs : List Path) → Contains xs p → In p xs
contains_in p xs c = at xs c.0 c.1 c.2
  where
    at : (ys : List Path) (k : ℕ) → k < length ys → get_or ys k p ≡ p → In p ys
    at [] k h e = absurd (omega arith)
    at (y ∷ ys) zero h e = inl e
    at (y ∷ ys) (suc k) h e = inr (at ys k (omega arith) e)

pub in_contains : (p : Path) (xs : List Path) → In p xs → Contains xs p
in_contains p [] i = absurd i
in_contains p (x ∷ xs) (inl e) = (0, omega arith, e)
in_contains p (x ∷ xs) (inr i) = let c = in_contains p xs i in let h : c.0 < length xs = c.1 in (suc c.0, omega arith, c.2)

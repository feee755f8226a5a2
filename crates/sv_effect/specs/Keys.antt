-- The keys at which a test holds, from one to the next.
use Rattle.std.specs.Prelude.{◌≡◌, ◌==◌, ◌<◌, ◌≤◌, ℕ, Bool, List, [], ◌∷◌, ◌++◌, length, Option, Some, None, if◌then◌else◌}
use Rattle.std.specs.List.{insert, remove}
use Rattle.std.specs.declared.cmp.Ordering.{Ordering}
use Rattle.std.specs.declared.cmp.Ordering.TheVariants.{Less, Equal, Greater}
use Rattle.sv_value.specs.declared.values.Key.{Key}
use Rattle.sv_value.specs.Orders.{key_cmp}
use Rattle.sv_app.specs.declared.places.Place.{Place}
use Rattle.sv_effect.specs.declared.left.LeftRow.{LeftRow}
pub use Rattle.sv_effect.specs.Agrees.{IsNextBy}
use Rattle.sv_effect.specs.Agrees.{is_present}
use Rattle.sv_effect.specs.Faces.{Face}
use Rattle.sv_effect.specs.Follows.{Follows}
use Rattle.sv_effect.specs.Reads.{ReadValue}

abbrev pub Walks : (Key → Bool) → Option Key → List Key → Type 0
Walks p after [] = IsNextBy p after None
Walks p after (k ∷ ks) = IsNextBy p after (Some k) × Walks p (Some k) ks

-- Keys were walked from one to the next up to the last, and put at the end.
pub record Walked (face_before face_now : Face) (before now : Option (List ReadValue)) (table : ℕ) (after : Option Key) (old new : List Key) : Type 0 where
  pub keys : List Key
  pub grown : new ≡ old ++ keys
  pub ran : Follows face_before face_now before now (λ t. Walks (is_present t table) after keys)

-- keys in order, with one of them and without it
abbrev pub with_by : Ordering → Key → Key → List Key → List Key → List Key
with_by Less j x xs more = j ∷ x ∷ xs
with_by Equal j x xs more = x ∷ xs
with_by Greater j x xs more = x ∷ more

abbrev pub with_key : Key → List Key → List Key
with_key j [] = j ∷ []
with_key j (x ∷ xs) = with_by (key_cmp j x) j x xs (with_key j xs)

abbrev pub without_by : Ordering → Key → List Key → List Key → List Key
without_by Less x xs more = x ∷ xs
without_by Equal x xs more = xs
without_by Greater x xs more = x ∷ more

abbrev pub without_key : Key → List Key → List Key
without_key j [] = []
without_key j (x ∷ xs) = without_by (key_cmp j x) x xs (without_key j xs)

-- A key stands at that place among keys in order: they have it, and are without it where that place is left out.
pub record StandsAt (j : Key) (ks : List Key) (at : ℕ) : Type 0 where
  pub within : at < length ks
  pub with_it : with_key j ks ≡ ks
  pub without_it : without_key j ks ≡ remove ks at

-- A key is missing among keys in order, and would be put at that place.
pub record IsMissingAt (j : Key) (ks : List Key) (at : ℕ) : Type 0 where
  pub within : at ≤ length ks
  pub with_it : with_key j ks ≡ insert ks at j
  pub without_it : without_key j ks ≡ ks

-- the keys of present rows of a table, after a row was written
abbrev pub laid : Place × LeftRow → ℕ → List Key → List Key
laid e table ks = if table == e.0.table then (if e.1.present then with_key e.0.key ks else without_key e.0.key ks) else ks

-- Looking a name up in a list, from the front.
use Rattle.std.proofs.Common.{◌≡◌, ℕ, suc, ◌+◌, ◌<◌, Bool, true, false, List, [], ◌∷◌, length, drop, get_or, refl, sym, ap, ◌∙◌, arith, Option, Some, None, map}
use Rattle.std.proofs.lemmas.List.{drop_more}
use Rattle.std.specs.Option.{option_map}
use Rattle.std.specs.List.{find, list_any}
use Rattle.sv_app.specs.declared.apps.Ident.{Ident}
use Rattle.sv_app.specs.declared.schemas.Table.{Table}
use Rattle.sv_app.specs.Lookups.{is_named, place_of, table_names}
use Rattle.sv_app.specs.Schema.{schema_of}

pub at_drop : {T : Type 0} (xs : List T) (i : ℕ) (x : T) → i < length xs → x ≡ get_or xs i x → drop i xs ≡ x ∷ drop (i + 1) xs
at_drop xs i x h e = drop_more xs i x h ∙ ap (λ y. y ∷ drop (i + 1) xs) (sym e)

-- the place of the first of that name, behind so many
abbrev pub place_behind : {T : Type 0} → (T → Ident) → Ident → List T → ℕ → Option ℕ
place_behind f name xs i = option_map (λ k. i + k) (place_of name (map f (drop i xs)))

later : (i : ℕ) (o : Option ℕ) → option_map (λ k. (i + 1) + k) o ≡ option_map (λ k. i + k) (option_map (λ k. suc k) o)
later i None = refl
later i (Some k) = let e : (i + 1) + k ≡ i + suc k = omega arith in ap (λ n. Some n) e

pub place_found : {T : Type 0} (f : T → Ident) (name : Ident) (xs : List T) (i : ℕ) (x : T) → i < length xs → x ≡ get_or xs i x → is_named (f x) name ≡ true
    → place_behind f name xs i ≡ Some i
place_found f name xs i x h e t = rw (at_drop xs i x h e, t) (let z : i + 0 ≡ i = omega arith in ap (λ n. Some n) z)

pub place_passed : {T : Type 0} (f : T → Ident) (name : Ident) (xs : List T) (i : ℕ) (x : T) → i < length xs → x ≡ get_or xs i x → is_named (f x) name ≡ false
    → place_behind f name xs (i + 1) ≡ place_behind f name xs i
place_passed f name xs i x h e t = rw (at_drop xs i x h e, t) (later i (place_of name (map f (drop (i + 1) xs))))

pub find_found : {T : Type 0} (P : T → Bool) (xs : List T) (i : ℕ) (x : T) → i < length xs → x ≡ get_or xs i x → P x ≡ true → find P (drop i xs) ≡ Some x
find_found P xs i x h e t = rw (at_drop xs i x h e, t) refl

pub find_passed : {T : Type 0} (P : T → Bool) (xs : List T) (i : ℕ) (x : T) → i < length xs → x ≡ get_or xs i x → P x ≡ false → find P (drop (i + 1) xs) ≡ find P (drop i xs)
find_passed P xs i x h e t = rw (at_drop xs i x h e, t) refl

pub find_mapped : {T A : Type 0} (f : T → A) (P : A → Bool) (xs : List T) (i : ℕ) (x : T) → i < length xs → x ≡ get_or xs i x → P (f x) ≡ true → find P (map f (drop i xs)) ≡ Some (f x)
find_mapped f P xs i x h e t = rw (at_drop xs i x h e, t) refl

pub find_mapped_passed : {T A : Type 0} (f : T → A) (P : A → Bool) (xs : List T) (i : ℕ) (x : T) → i < length xs → x ≡ get_or xs i x → P (f x) ≡ false
    → find P (map f (drop (i + 1) xs)) ≡ find P (map f (drop i xs))
find_mapped_passed f P xs i x h e t = rw (at_drop xs i x h e, t) refl

pub ruleset lookups = (place_found, place_passed)

pub ruleset finds = (find_found, find_passed, find_mapped, find_mapped_passed)

-- the names of tables are those that they declare
pub names_declared : (tables : List Table) → table_names (schema_of tables) ≡ map (λ (t : Table). t.name) tables
names_declared [] = refl
names_declared (t ∷ ts) = ap (λ names. t.name ∷ names) (names_declared ts)

pub any_found : {T A : Type 0} (f : T → A) (P : A → Bool) (xs : List T) (i : ℕ) (x : T) → i < length xs → x ≡ get_or xs i x → P (f x) ≡ true → list_any P (map f (drop i xs)) ≡ true
any_found f P xs i x h e t = rw (at_drop xs i x h e, t) refl

pub any_passed : {T A : Type 0} (f : T → A) (P : A → Bool) (xs : List T) (i : ℕ) (x : T) → i < length xs → x ≡ get_or xs i x → P (f x) ≡ false
    → list_any P (map f (drop (i + 1) xs)) ≡ list_any P (map f (drop i xs))
any_passed f P xs i x h e t = rw (at_drop xs i x h e, t) refl

pub ruleset anys = (any_found, any_passed)

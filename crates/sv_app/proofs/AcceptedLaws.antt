-- What is known of the tables of an accepted application.
use Rattle.std.proofs.Common.{◌≡◌, ◌≢◌, ℕ, pos, zero, suc, ◌≤◌, ◌&&◌, ◌||◌, Bool, true, false, List, [], ◌∷◌, ◌++◌, length, Some, slice_get, refl, sym, ap, subst, ◌∙◌}
use Rattle.std.specs.List.{All, flat_map}
use Rattle.std.proofs.lemmas.List.Elements.{All-nil}
use Rattle.std.proofs.lemmas.Option.{slice_get_within, get_or_from_slice_get}
use Rattle.sv_value.specs.declared.spots.Spot.{Spot}
use Rattle.sv_app.specs.declared.refusals.Code.{Code}
use Rattle.sv_app.specs.declared.refusals.Code.TheVariants.{Typing}
use Rattle.sv_app.specs.declared.schemas.Column.{Column}
use Rattle.sv_app.specs.declared.schemas.Merge.{Merge}
use Rattle.sv_app.specs.declared.schemas.Merge.TheVariants.{NumDelta}
use Rattle.sv_app.specs.declared.schemas.Ty.{Ty}
use Rattle.sv_app.specs.declared.schemas.Ty.TheVariants.{Int, Text, Ints}
use Rattle.sv_app.specs.Accepted.{AcceptedSchema}
use Rattle.sv_app.specs.Conditions.{KeepsTable, IsSmallTable}
use Rattle.sv_app.specs.Lookups.{is_key, table_names, column_names}
use Rattle.sv_app.specs.Satisfiable.{checks_of, IsMet, IsSatisfiable, AreSatisfiable}
use Rattle.sv_app.specs.Schema.{Declaration}
use Rattle.sv_app.specs.Typing.{fault_if, is_text, is_numdelta, is_misplaced, is_merged_wrong, repeats, key_faults, column_faults, rule_faults, table_faults}

-- what holds of all holds of the one that stands there
pub all_at : {A : Type 0} (P : A → Type 0) (xs : List A) (n : ℕ) (x : A) → All P xs → slice_get xs n ≡ Some x → P x
all_at P xs n x all at = subst P (get_or_from_slice_get xs n x x at) (all n x (slice_get_within xs n x at))

pub front_none : {A : Type 0} (xs ys : List A) → xs ++ ys ≡ [] → xs ≡ []
front_none [] ys e = refl
front_none (x ∷ xs) ys e = absurd cc

pub back_none : {A : Type 0} (xs ys : List A) → xs ++ ys ≡ [] → ys ≡ []
back_none [] ys e = e
back_none (x ∷ xs) ys e = absurd cc

-- where all lists together are empty, that of each is
pub each_none : {A B : Type 0} (f : A → List B) (xs : List A) (n : ℕ) (x : A) → flat_map f xs ≡ [] → slice_get xs n ≡ Some x → f x ≡ []
each_none f [] n x e at = absurd cc
each_none f (y ∷ xs) zero x e at = let same : y ≡ x = cc in ap f (sym same) ∙ front_none (f y) (flat_map f xs) e
each_none f (y ∷ xs) (suc n) x e at = each_none f xs n x (back_none (f y) (flat_map f xs) e) at

pub no_fault : (b : Bool) (spot : Spot) (code : Code) → fault_if b spot code ≡ [] → b ≡ false
no_fault true spot code e = absurd cc
no_fault false spot code e = refl

pub narrow : (schema : List Declaration) → AcceptedSchema schema → (number : ℕ) (table : Declaration) → slice_get schema number ≡ Some table → length table.columns ≤ 16
narrow schema accepted number table at = (all_at IsSmallTable schema number table accepted.limits.each at).columns

pub no_lists : (schema : List Declaration) → AcceptedSchema schema → (number place : ℕ) (table : Declaration) (column : Column) → slice_get schema number ≡ Some table
    → slice_get table.columns place ≡ Some column → column.ty ≢ Ints
no_lists schema accepted number place table column at at_column =
    all_at (λ c. c.ty ≢ Ints) table.columns place column (all_at KeepsTable schema number table accepted.grammar.each at).columns at_column

-- nothing is wrong with a table
pub table_right : (schema : List Declaration) → AcceptedSchema schema → (number : ℕ) (table : Declaration) → slice_get schema number ≡ Some table → table_faults schema table ≡ []
table_right schema accepted number table at =
    each_none (table_faults schema) schema number table (back_none (repeats (table_names schema)) (flat_map (λ t. table_faults schema t) schema) accepted.typed) at

pub columns_right : (schema : List Declaration) → AcceptedSchema schema → (number : ℕ) (table : Declaration) → slice_get schema number ≡ Some table → column_faults table ≡ []
columns_right schema accepted number table at =
    back_none (key_faults table) (column_faults table)
    (front_none (key_faults table ++ column_faults table) (flat_map (λ inv. rule_faults schema table inv.rule) table.invs) (table_right schema accepted number table at))

-- a column that is merged as a number isn't a text
merged_right : (table : Declaration) (column : Column) (merge : Merge) (ty : Ty) → merge ≡ NumDelta → ty ≢ Ints
    → (is_key table column.name || is_text ty) ≡ false → ty ≡ Int
merged_right table column merge Int is not_list right = refl
merged_right table column merge Text is not_list right = absurd (wrong (is_key table column.name) right)
  where
    wrong : (b : Bool) → (b || true) ≡ false → ⊥
    wrong true e = cc
    wrong false e = cc
merged_right table column merge Ints is not_list right = absurd (not_list refl)

pub counter_is_int : (schema : List Declaration) → AcceptedSchema schema → (number place : ℕ) (table : Declaration) (column : Column) → slice_get schema number ≡ Some table
    → slice_get table.columns place ≡ Some column → column.merge ≡ NumDelta → column.ty ≡ Int
counter_is_int schema accepted number place table column at at_column is =
    merged_right table column column.merge column.ty is (no_lists schema accepted number place table column at at_column)
    (subst (λ merge. is_misplaced table column merge ≡ false) is (no_fault (is_merged_wrong table column) column.name.spot Typing
    (each_none (λ c. fault_if (is_merged_wrong table c) c.name.spot Typing) table.columns place column
    (back_none (repeats (column_names table)) (flat_map (λ c. fault_if (is_merged_wrong table c) c.name.spot Typing) table.columns) (columns_right schema accepted number table at)) at_column)))

-- a table without checks, and one table alone
pub unchecked : (t : Declaration) → checks_of t ≡ [] → IsSatisfiable t
unchecked t none = record { values = λ column. pos 0; met = subst (All (IsMet (λ column. pos 0))) (sym none) (All-nil (IsMet (λ column. pos 0))) }

pub one_satisfiable : (t : Declaration) → IsSatisfiable t → AreSatisfiable (t ∷ [])
one_satisfiable t s zero table at = let same : t ≡ table = cc in subst IsSatisfiable same s
one_satisfiable t s (suc number) table at = absurd cc

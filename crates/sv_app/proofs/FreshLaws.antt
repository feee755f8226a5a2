-- The key of an accepted table that draws its keys is one integer column.
use Rattle.std.proofs.Common.{◌≡◌, ◌∙◌, ℕ, zero, suc, Bool, true, false, List, [], ◌∷◌, ◌++◌, Some, slice_get, refl, sym, ap, subst}
use Rattle.std.specs.Prelude.{◌&&◌, ◌||◌, not}
use Rattle.std.specs.List.{list_any, list_all, find, flat_map}
use Rattle.std.proofs.lemmas.Slice.Eq.{bytes_eq-Decides}
use Rattle.sv_app.specs.declared.apps.Ident.{Ident}
use Rattle.sv_app.specs.declared.refusals.Code.TheVariants.{Twice, Typing}
use Rattle.sv_app.specs.declared.refusals.Refusal.{Refusal}
use Rattle.sv_app.specs.declared.schemas.Column.{Column}
use Rattle.sv_app.specs.declared.schemas.Merge.{Merge}
use Rattle.sv_app.specs.declared.schemas.Merge.TheVariants.{Plain, Lww, NumDelta, Fresh}
use Rattle.sv_app.specs.declared.schemas.Ty.{Ty}
use Rattle.sv_app.specs.declared.schemas.Ty.TheVariants.{Int, Text, Ints}
use Rattle.sv_app.specs.Accepted.{AcceptedSchema}
use Rattle.sv_app.specs.Kinds.{is_drawn, is_fresh, is_annotated}
use Rattle.sv_app.specs.Lookups.{is_named, column_of, is_key, column_names}
use Rattle.sv_app.specs.Schema.{Declaration}
use Rattle.sv_app.specs.Typing.{fault_if, is_int, is_only_key, is_misplaced, is_merged_wrong, repeats, no_key, another_key, no_column}
use Rattle.sv_app.proofs.AcceptedLaws.{front_none, back_none, each_none, no_fault, columns_right}
use Rattle.sv_app.proofs.ListLaws.{Passes, any_passes}
use Rattle.sv_app.proofs.SchemaLaws.{own_first, columns_once, Named, key_right, key_column}

and_front : (a b : Bool) → (a && b) ≡ true → a ≡ true
and_front true b e = refl
and_front false b e = absurd cc

and_back : (a b : Bool) → (a && b) ≡ true → b ≡ true
and_back true b e = e
and_back false b e = absurd cc

pub record DrawnKey (t : Declaration) : Type 0 where
  pub name : Ident
  pub only : t.key ≡ name ∷ []
  pub column : Column
  pub declared : slice_get t.columns name.num ≡ Some column
  pub integer : column.ty ≡ Int

drawn_merge : (merge : Merge) → is_drawn merge ≡ true → merge ≡ Fresh
drawn_merge Plain e = absurd cc
drawn_merge Lww e = absurd cc
drawn_merge NumDelta e = absurd cc
drawn_merge Fresh e = refl

integer_type : (ty : Ty) → is_int ty ≡ true → ty ≡ Int
integer_type Int e = refl
integer_type Text e = absurd cc
integer_type Ints e = absurd cc

not_false : (b : Bool) → not b ≡ false → b ≡ true
not_false true e = refl
not_false false e = absurd cc

same_name : (a b : Ident) → is_named a b ≡ true → a.name ≡ b.name
same_name a b e = (bytes_eq-Decides a.name b.name).0 e

-- a key in which all names are one name has just one
record OnlyName (key : List Ident) (column : Ident) : Type 0 where
  name : Ident
  only : key ≡ name ∷ []
  same : name.name ≡ column.name

only_name : (key : List Ident) (column : Ident) → repeats key ≡ [] → list_any (λ name. is_named name column) key ≡ true
    → list_all (λ name. is_named name column) key ≡ true → OnlyName key column
only_name [] column once some all = absurd cc
only_name (name ∷ []) column once some all = record { name = name; only = refl; same = same_name name column (and_front (is_named name column) true all) }
only_name (name ∷ second ∷ key) column once some all =
    let more : list_all (λ n. is_named n column) (second ∷ key) ≡ true = and_back (is_named name column) (list_all (λ n. is_named n column) (second ∷ key)) all in
    let one : name.name ≡ column.name = same_name name column (and_front (is_named name column) (list_all (λ n. is_named n column) (second ∷ key)) all) in
    let two : second.name ≡ column.name = same_name second column (and_front (is_named second column) (list_all (λ n. is_named n column) key) more) in
    let again : is_named second name ≡ true = (bytes_eq-Decides second.name name.name).1 (two ∙ sym one) in
    let seconds : List Refusal = flat_map (λ later. fault_if (is_named later name) later.spot Twice) (second ∷ key) in
    let apart : is_named second name ≡ false = no_fault (is_named second name) second.spot Twice
    (each_none (λ later. fault_if (is_named later name) later.spot Twice) (second ∷ key) 0 second (front_none seconds (repeats (second ∷ key)) once) refl) in
    absurd (let clash : true ≡ false = sym again ∙ apart in cc)

pub fresh_key : (schema : List Declaration) (accepted : AcceptedSchema schema) (number : ℕ) (t : Declaration) → slice_get schema number ≡ Some t → is_fresh t ≡ true → DrawnKey t
fresh_key schema accepted number t at fresh = record { name = key.name; only = key.only; column = named.column; declared = named.declared; integer = integer }
  where
    found : Passes (λ c. is_drawn c.merge && is_key t c.name) t.columns
    found = any_passes (λ (c : Column). is_drawn c.merge && is_key t c.name) t.columns fresh

    c : Column
    c = found.x

    merge : c.merge ≡ Fresh
    merge = drawn_merge c.merge (and_front (is_drawn c.merge) (is_key t c.name) found.is)

    right : is_misplaced t c c.merge ≡ false
    right = no_fault (is_merged_wrong t c) c.name.spot Typing (each_none (λ x. fault_if (is_merged_wrong t x) x.name.spot Typing) t.columns found.number c
        (back_none (repeats (column_names t)) (flat_map (λ x. fault_if (is_merged_wrong t x) x.name.spot Typing) t.columns) (columns_right schema accepted number t at)) found.at)

    all_three : (is_int c.ty && is_only_key t c.name && is_annotated t.kind) ≡ true
    all_three = not_false (is_int c.ty && is_only_key t c.name && is_annotated t.kind) (subst (λ m. is_misplaced t c m ≡ false) merge right)

    two : (is_int c.ty && is_only_key t c.name) ≡ true
    two = and_front (is_int c.ty && is_only_key t c.name) (is_annotated t.kind) all_three

    only : is_only_key t c.name ≡ true
    only = and_back (is_int c.ty) (is_only_key t c.name) two

    once : repeats t.key ≡ []
    once = back_none (no_key t ++ another_key t t.second_key) (repeats t.key) (front_none (no_key t ++ another_key t t.second_key ++ repeats t.key) (flat_map (λ name. no_column t name) t.key) (key_right schema accepted number t at))

    key : OnlyName t.key c.name
    key = only_name t.key c.name once (and_front (is_key t c.name) (list_all (λ name. is_named name c.name) t.key) only) (and_back (is_key t c.name) (list_all (λ name. is_named name c.name) t.key) only)

    named : Named t key.name
    named = key_column schema accepted number t 0 key.name at (ap (λ l. slice_get l 0) key.only)

    -- the first column of that name is the one that is drawn
    first : column_of t key.name ≡ Some c
    first = ap (λ bytes. find (λ (x : Column). is_named x.name (record c.name { name = bytes })) t.columns) key.same ∙ own_first (λ (x : Column). x.name) t.columns found.number c (columns_once schema accepted number t at) found.at

    same_column : (a b : Column) → Some a ≡ Some b → a ≡ b
    same_column a b e = cc

    integer : named.column.ty ≡ Int
    integer = ap (λ (x : Column). x.ty) (same_column named.column c (sym named.found ∙ first)) ∙ integer_type c.ty (and_front (is_int c.ty) (is_only_key t c.name) two)

-- The columns but the key, by their names and by their numbers.
use Rattle.std.proofs.Common.{◌≡◌, ◌∙◌, ℕ, zero, suc, ◌+◌, ◌==◌, ◌||◌, if◌then◌else◌, Bool, true, false, List, [], ◌∷◌, map, Option, Some, slice_get, refl, sym, ap, subst, arith}
use Rattle.std.specs.Prelude.{not}
use Rattle.std.specs.List.{filter, find, list_any}
use Rattle.std.specs.Option.{unwrap_or, option_map}
use Rattle.std.proofs.lemmas.Option.{slice_get-map}
use Rattle.std.proofs.lemmas.Slice.Eq.{bytes_eq-Decides}
use Rattle.sv_app.specs.declared.apps.Ident.{Ident}
use Rattle.sv_app.specs.declared.schemas.Column.{Column}
use Rattle.sv_app.specs.Accepted.{AcceptedSchema}
use Rattle.sv_app.specs.Lookups.{is_named, column_of, is_key, place_of, column_names}
use Rattle.sv_app.specs.Numbers.{numbered_in}
use Rattle.sv_app.specs.Schema.{Declaration}
use Rattle.sv_app.specs.Symbols.{is_key_column}
use Rattle.sv_app.specs.TxnTyping.{drawn_columns}
use Rattle.sv_app.proofs.ListLaws.{find_some}
use Rattle.sv_app.proofs.SchemaLaws.{own_first, own_place, columns_once, same_at, Named, key_column, key_numbered}
use Rattle.sv_app.proofs.TestLaws.{same_test, test_same}
use Rattle.sv_effect.specs.RunChanges.{outside_key}
use Rattle.sv_trace.proofs.WriteLaws.{AreFrom, from_next, from_here, from_start}

same_column : (a b : Column) → Some a ≡ Some b → a ≡ b
same_column a b e = cc

both_ways : (a b : Bool) → (a ≡ true → b ≡ true) → (b ≡ true → a ≡ true) → a ≡ b
both_ways true true f g = refl
both_ways false false f g = refl
both_ways true false f g = sym (f refl)
both_ways false true f g = g refl

any_same : {A : Type 0} (p q : A → Bool) (xs : List A) → ((place : ℕ) (x : A) → slice_get xs place ≡ Some x → p x ≡ q x) → list_any p xs ≡ list_any q xs
any_same p q [] same = refl
any_same p q (x ∷ xs) same = λ i. same 0 x refl i || any_same p q xs (λ place y at. same (suc place) y at) i

-- a name in a key names the column whose number it has
name_numbers : (schema : List Declaration) (accepted : AcceptedSchema schema) (number : ℕ) (t : Declaration) (c : ℕ) (column : Column) (place : ℕ) (name : Ident)
    → slice_get schema number ≡ Some t → slice_get t.columns c ≡ Some column → slice_get t.key place ≡ Some name → is_named name column.name ≡ (name.num == c)
name_numbers schema accepted number t c column place name at declared at_name = both_ways (is_named name column.name) (name.num == c) numbered named_so
  where
    n : Named t name
    n = key_column schema accepted number t place name at at_name

    own : numbered_in (column_names t) name ≡ name
    own = same_at (numbered_in (column_names t)) t.key place name (key_numbered schema accepted number t at) at_name

    numbered : is_named name column.name ≡ true → (name.num == c) ≡ true
    numbered e =
        let bytes : name.name ≡ column.name.name = (bytes_eq-Decides name.name column.name.name).0 e in
        let here : slice_get (column_names t) c ≡ Some column.name = slice_get-map (λ (x : Column). x.name) t.columns c ∙ ap (λ o. option_name o) declared in
        let there : place_of name (column_names t) ≡ Some c = ap (λ b. place_of (record column.name { name = b }) (column_names t)) bytes ∙ own_place (column_names t) c column.name (columns_once schema accepted number t at) here in
        same_test name.num c (ap (λ (x : Ident). x.num) (sym own) ∙ ap (λ o. unwrap_or o 0) there)
      where
        option_name : Option Column → Option Ident
        option_name o = option_map (λ (x : Column). x.name) o

    named_so : (name.num == c) ≡ true → is_named name column.name ≡ true
    named_so e =
        let same : n.column ≡ column = same_column n.column column (sym n.declared ∙ ap (slice_get t.columns) (test_same name.num c e) ∙ declared) in
        let bytes : n.column.name.name ≡ name.name = (bytes_eq-Decides n.column.name.name name.name).0 (find_some (λ (x : Column). is_named x.name name) t.columns n.column n.found).is in
        (bytes_eq-Decides name.name column.name.name).1 (sym bytes ∙ ap (λ (x : Column). x.name.name) same)

key_agrees : (schema : List Declaration) (accepted : AcceptedSchema schema) (number : ℕ) (t : Declaration) (c : ℕ) (column : Column)
    → slice_get schema number ≡ Some t → slice_get t.columns c ≡ Some column → is_key t column.name ≡ is_key_column t.key c
key_agrees schema accepted number t c column at declared =
    any_same (λ name. is_named name column.name) (λ name. name.num == c) t.key (λ place name at_name. name_numbers schema accepted number t c column place name at declared at_name)

names_from : (schema : List Declaration) (accepted : AcceptedSchema schema) (number : ℕ) (t : Declaration) → slice_get schema number ≡ Some t → (c : ℕ) (columns : List Column) → AreFrom t c columns
    → filter (λ name. not (is_key t name)) (map (λ (k : Column). k.name) columns) ≡ map (λ (x : ℕ × Column). x.1.name) (outside_key t c columns)
names_from schema accepted number t at c [] from = refl
names_from schema accepted number t at c (k ∷ columns) from = by (is_key t k.name) (is_key_column t.key c) (key_agrees schema accepted number t c k at (from_here t c k columns from))
    (names_from schema accepted number t at (suc c) columns (from_next t c k columns from))
  where
    rest : List Ident
    rest = filter (λ name. not (is_key t name)) (map (λ (x : Column). x.name) columns)

    by : (a b : Bool) → a ≡ b → rest ≡ map (λ (x : ℕ × Column). x.1.name) (outside_key t (suc c) columns)
        → (if not a then k.name ∷ rest else rest) ≡ map (λ (x : ℕ × Column). x.1.name) (if b then outside_key t (suc c) columns else (c, k) ∷ outside_key t (suc c) columns)
    by true true e more = more
    by false false e more = ap (λ l. k.name ∷ l) more
    by true false e more = absurd cc
    by false true e more = absurd cc

-- by name and by number they are the same columns
pub drawn_names : (schema : List Declaration) (accepted : AcceptedSchema schema) (number : ℕ) (t : Declaration) → slice_get schema number ≡ Some t
    → drawn_columns t ≡ map (λ (x : ℕ × Column). x.1.name) (outside_key t 0 t.columns)
drawn_names schema accepted number t at = names_from schema accepted number t at 0 t.columns (from_start t)

-- and each is a column of the table
pub outside_at : (t : Declaration) (c : ℕ) (columns : List Column) (j : ℕ) (x : ℕ × Column) → AreFrom t c columns → slice_get (outside_key t c columns) j ≡ Some x → slice_get t.columns x.0 ≡ Some x.1
outside_at t c [] j x from at = absurd cc
outside_at t c (k ∷ columns) j x from at = by (is_key_column t.key c) j at (λ i there. outside_at t (suc c) columns i x (from_next t c k columns from) there)
  where
    by : (b : Bool) (j : ℕ) → slice_get (if b then outside_key t (suc c) columns else (c, k) ∷ outside_key t (suc c) columns) j ≡ Some x
        → ((i : ℕ) → slice_get (outside_key t (suc c) columns) i ≡ Some x → slice_get t.columns x.0 ≡ Some x.1) → slice_get t.columns x.0 ≡ Some x.1
    by true j at more = more j at
    by false (suc j) at more = more j at
    by false zero at more = let same : (c, k) ≡ x = cc in subst (λ (y : ℕ × Column). slice_get t.columns y.0 ≡ Some y.1) same (from_here t c k columns from)

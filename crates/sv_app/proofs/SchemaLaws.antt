-- What the names of an accepted schema mean, by their numbers; the columns that keys name.
use Rattle.std.proofs.Common.{◌≡◌, ◌≢◌, ◌∙◌, ℕ, zero, suc, ◌==◌, ◌||◌, ◌&&◌, Bool, true, false, if◌then◌else◌, List, [], ◌∷◌, ◌++◌, map, Option, Some, None, slice_get, refl, sym, ap, subst}
use Rattle.std.specs.Cmp.Lexicographic.{nat_list_eq_equiv}
use Rattle.std.specs.List.{find, flat_map}
use Rattle.std.specs.Option.{option_map, unwrap_or, is_none}
use Rattle.std.proofs.lemmas.Option.{slice_get-map}
use Rattle.std.proofs.lemmas.Slice.Eq.{bytes_eq-Decides}
use Rattle.sv_app.specs.declared.apps.Ident.{Ident}
use Rattle.sv_app.specs.declared.refusals.Code.TheVariants.{Unknown, Twice, Typing}
use Rattle.sv_app.specs.declared.refusals.Refusal.{Refusal}
use Rattle.sv_app.specs.declared.schemas.Column.{Column}
use Rattle.sv_app.specs.declared.schemas.Merge.TheVariants.{NumDelta}
use Rattle.sv_app.specs.Accepted.{AcceptedSchema}
use Rattle.sv_app.specs.Lookups.{is_named, column_of, table_of, is_key, place_of, table_names, column_names}
use Rattle.sv_app.specs.Numbers.{numbered_in, numbered_table}
use Rattle.sv_app.specs.Schema.{Declaration}
use Rattle.sv_app.specs.Symbols.{is_key_column}
use Rattle.sv_app.specs.Typing.{fault_if, is_text, is_misplaced, is_merged_wrong, no_key, another_key, repeats, no_column, key_faults, column_faults, rule_faults}
use Rattle.sv_app.proofs.AcceptedLaws.{front_none, back_none, each_none, no_fault, table_right, columns_right}
use Rattle.sv_app.proofs.ListLaws.{any_at, find_some}
use Rattle.sv_app.proofs.TestLaws.{or_left, test_same}

-- what a name means, and its place
pub record Placed {A : Type 0} (names : List Ident) (xs : List A) (ident : Ident) (x : A) : Type 0 where
  pub place : ℕ
  pub named : place_of ident names ≡ Some place
  pub at : slice_get xs place ≡ Some x

pub placed : {A : Type 0} (f : A → Ident) (xs : List A) (ident : Ident) (x : A)
    → find (λ a. is_named (f a) ident) xs ≡ Some x → Placed (map f xs) xs ident x
placed f [] ident x e = absurd cc
placed {A} f (y ∷ ys) ident x e = by_test (is_named (f y) ident) refl (λ e. placed f ys ident x e) e
  where
    by_test : (b : Bool) → is_named (f y) ident ≡ b
        → (find (λ a. is_named (f a) ident) ys ≡ Some x → Placed (map f ys) ys ident x)
        → (if b then Some y else find (λ a. is_named (f a) ident) ys) ≡ Some x
        → Placed (map f (y ∷ ys)) (y ∷ ys) ident x
    by_test true t more e = record { place = 0; named = ap (λ b. if b then Some 0 else option_map (λ place. suc place) (place_of ident (map f ys))) t; at = e }
    by_test false t more e = let p = more e in record {
      place = suc p.place;
      named = ap (λ b. if b then Some 0 else option_map (λ place. suc place) (place_of ident (map f ys))) t
          ∙ ap (λ found. option_map (λ place. suc place) found) p.named;
      at = p.at;
    }

-- what is mapped to itself is so at each place
pub same_at : {A : Type 0} (f : A → A) (xs : List A) (n : ℕ) (x : A) → map f xs ≡ xs → slice_get xs n ≡ Some x → f x ≡ x
same_at f [] n x e at = absurd cc
same_at f (y ∷ ys) zero x e at = let same : y ≡ x = cc in let head : f y ≡ y = cc in ap f (sym same) ∙ head ∙ same
same_at f (y ∷ ys) (suc n) x e at = same_at f ys n x (let tail : map f ys ≡ ys = cc in tail) at

-- a numbered name that is found stands at its number
pub named_at : {A : Type 0} (f : A → Ident) (xs : List A) (ident : Ident) (x : A)
    → numbered_in (map f xs) ident ≡ ident → find (λ a. is_named (f a) ident) xs ≡ Some x
    → slice_get xs ident.num ≡ Some x
named_at f xs ident x own e =
    let p = placed f xs ident x e in
    let num : p.place ≡ ident.num = ap (λ found. unwrap_or found 0) (sym p.named) ∙ ap (λ (y : Ident). y.num) own in
    subst (λ n. slice_get xs n ≡ Some x) num p.at

pub table_named : (schema : List Declaration) (ident : Ident) (t : Declaration)
    → numbered_in (table_names schema) ident ≡ ident → table_of schema ident ≡ Some t
    → slice_get schema ident.num ≡ Some t
table_named schema ident t own e = named_at (λ (d : Declaration). d.name) schema ident t own e

pub column_named : (t : Declaration) (ident : Ident) (k : Column) → numbered_in (column_names t) ident ≡ ident
    → column_of t ident ≡ Some k → slice_get t.columns ident.num ≡ Some k
column_named t ident k own e = named_at (λ (c : Column). c.name) t.columns ident k own e

-- where no name stands twice each is the first of its name
pub own_first : {A : Type 0} (f : A → Ident) (xs : List A) (n : ℕ) (x : A) → repeats (map f xs) ≡ []
    → slice_get xs n ≡ Some x → find (λ a. is_named (f a) (f x)) xs ≡ Some x
own_first f [] n x e at = absurd cc
own_first f (y ∷ ys) zero x e at =
    let same : y ≡ x = cc in
    let itself : is_named (f y) (f x) ≡ true = subst (λ z. is_named (f y) (f z) ≡ true) same (nat_list_eq_equiv.refl (f y).name) in
    rw itself (ap (λ z. Some z) same)
own_first f (y ∷ ys) (suc n) x e at =
    let names : List Ident = map f ys in
    let seconds : List Refusal = flat_map (λ later. fault_if (is_named later (f y)) later.spot Twice) names in
    let here : slice_get names n ≡ Some (f x) = slice_get-map f ys n ∙ ap (λ o. option_map f o) at in
    let apart : is_named (f x) (f y) ≡ false = no_fault (is_named (f x) (f y)) (f x).spot Twice (each_none (λ later. fault_if (is_named later (f y)) later.spot Twice) names n (f x) (front_none seconds (repeats names) e) here) in
    let other : is_named (f y) (f x) ≡ false = nat_list_eq_equiv.symm (f y).name (f x).name ∙ apart in
    rw other (own_first f ys n x (back_none seconds (repeats names) e) at)

-- and its number is its place
pub own_place : (names : List Ident) (n : ℕ) (x : Ident) → repeats names ≡ [] → slice_get names n ≡ Some x
    → place_of x names ≡ Some n
own_place [] n x e at = absurd cc
own_place (y ∷ ys) zero x e at =
    let same : y ≡ x = cc in
    let itself : is_named y x ≡ true = subst (λ z. is_named y z ≡ true) same (nat_list_eq_equiv.refl y.name) in
    rw itself refl
own_place (y ∷ ys) (suc n) x e at =
    let seconds : List Refusal = flat_map (λ later. fault_if (is_named later y) later.spot Twice) ys in
    let apart : is_named x y ≡ false = no_fault (is_named x y) x.spot Twice (each_none (λ later. fault_if (is_named later y) later.spot Twice) ys n x (front_none seconds (repeats ys) e) at) in
    let other : is_named y x ≡ false = nat_list_eq_equiv.symm y.name x.name ∙ apart in
    let rest : place_of x ys ≡ Some n = own_place ys n x (back_none seconds (repeats ys) e) at in
    rw (other, rest) refl

pub columns_once : (schema : List Declaration) → AcceptedSchema schema → (number : ℕ) (t : Declaration)
    → slice_get schema number ≡ Some t → repeats (column_names t) ≡ []
columns_once schema accepted number t at = front_none (repeats (column_names t)) _ (columns_right schema accepted number t at)

-- the column that a name of a table means
pub record Named (t : Declaration) (name : Ident) : Type 0 where
  pub column : Column
  pub found : column_of t name ≡ Some column
  pub declared : slice_get t.columns name.num ≡ Some column

pub named : (t : Declaration) (name : Ident) → numbered_in (column_names t) name ≡ name → no_column t name ≡ []
    → Named t name
named t name own right = by (column_of t name) refl (no_fault (is_none (column_of t name)) name.spot Unknown right)
  where
    by : (o : Option Column) → column_of t name ≡ o → is_none o ≡ false → Named t name
    by None e some = absurd cc
    by (Some column) e some = record { column = column; found = e; declared = column_named t name column own e }

same_column : (a b : Column) → Some a ≡ Some b → a ≡ b
same_column a b e = cc

-- a name of a key with a number
record KeyName (key : List Ident) (c : ℕ) : Type 0 where
  place : ℕ
  name : Ident
  at : slice_get key place ≡ Some name
  number : name.num ≡ c

key_name_at : (key : List Ident) (c : ℕ) → is_key_column key c ≡ true → KeyName key c
key_name_at [] c is = absurd cc
key_name_at (name ∷ key) c is = by (name.num == c) refl is (key_name_at key c)
  where
    by : (b : Bool) → (name.num == c) ≡ b → (b || is_key_column key c) ≡ true
        → (is_key_column key c ≡ true → KeyName key c) → KeyName (name ∷ key) c
    by true same is ih = record { place = 0; name = name; at = refl; number = test_same name.num c same }
    by false same is ih = let later : KeyName key c = ih is in record { place = suc later.place; name = later.name; at = later.at; number = later.number }

module _ (schema : List Declaration) (accepted : AcceptedSchema schema) where
  pub key_right : (number : ℕ) (t : Declaration) → slice_get schema number ≡ Some t → key_faults t ≡ []
  key_right number t at = front_none (key_faults t) (column_faults t)
      (front_none (key_faults t ++ column_faults t) (flat_map (λ inv. rule_faults schema t inv.rule) t.invs) (table_right schema accepted number t at))

  pub names_right : (number : ℕ) (t : Declaration) → slice_get schema number ≡ Some t
      → flat_map (λ name. no_column t name) t.key ≡ []
  names_right number t at = back_none (no_key t ++ another_key t t.second_key ++ repeats t.key) (flat_map (λ name. no_column t name) t.key) (key_right number t at)

  pub key_numbered : (number : ℕ) (t : Declaration) → slice_get schema number ≡ Some t
      → map (numbered_in (column_names t)) t.key ≡ t.key
  key_numbered number t at = ap (λ (d : Declaration). d.key) (same_at (numbered_table schema) schema number t accepted.names at)

  -- a name of the key has the number of its column
  pub key_column : (number : ℕ) (t : Declaration) (place : ℕ) (name : Ident) → slice_get schema number ≡ Some t
      → slice_get t.key place ≡ Some name → Named t name
  key_column number t place name at at_name = named t name (same_at (numbered_in (column_names t)) t.key place name (key_numbered number t at) at_name)
      (each_none (λ n. no_column t n) t.key place name (names_right number t at) at_name)

  -- a key column is no counter
  pub key_plain : (number : ℕ) (t : Declaration) (c : ℕ) (column : Column) → slice_get schema number ≡ Some t
      → slice_get t.columns c ≡ Some column → is_key_column t.key c ≡ true → column.merge ≢ NumDelta
  key_plain number t c column at declared inside is =
      let both : true ≡ false = sym key_name ∙ or_left (is_key t column.name) (is_text column.ty) (subst (λ merge. is_misplaced t column merge ≡ false) is right_column) in cc
    where
      k : KeyName t.key c
      k = key_name_at t.key c inside

      n : Named t k.name
      n = key_column number t k.place k.name at k.at

      same : n.column ≡ column
      same = same_column n.column column (sym n.declared ∙ ap (slice_get t.columns) k.number ∙ declared)

      bytes : n.column.name.name ≡ k.name.name
      bytes = (bytes_eq-Decides n.column.name.name k.name.name).0 (find_some (λ (x : Column). is_named x.name k.name) t.columns n.column n.found).is

      key_name : is_key t column.name ≡ true
      key_name = any_at (λ name. is_named name column.name) t.key k.place k.name k.at ((bytes_eq-Decides k.name.name column.name.name).1 (sym bytes ∙ ap (λ (x : Column). x.name.name) same))

      right_column : is_merged_wrong t column ≡ false
      right_column = no_fault (is_merged_wrong t column) column.name.spot Typing (each_none (λ x. fault_if (is_merged_wrong t x) x.name.spot Typing) t.columns c column
          (back_none (repeats (column_names t)) (flat_map (λ x. fault_if (is_merged_wrong t x) x.name.spot Typing) t.columns) (columns_right schema accepted number t at)) declared)

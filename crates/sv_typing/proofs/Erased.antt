-- Names without their numbers: all that is looked at in a schema before the names are numbered is told by names and places.
use Rattle.std.proofs.Common.{◌≡◌, ℕ, suc, Bool, true, false, List, [], ◌∷◌, ◌++◌, length, refl, sym, ap, ◌∙◌, map, Option, Some, None}
use Rattle.std.specs.Prelude.{if◌then◌else◌, ◌&&◌, ◌||◌, not, ◌==◌, nat_lt, slice_get}
use Rattle.std.specs.List.{find, list_any, list_all, flat_map}
use Rattle.std.specs.Option.{option_map, is_none}
use Rattle.std.proofs.lemmas.List.{length-map}
use Rattle.std.proofs.lemmas.Option.{slice_get-map}
use Rattle.sv_app.specs.declared.apps.Ident.{Ident}
use Rattle.sv_app.specs.declared.refusals.Code.TheVariants.{Unknown, Twice, Typing}
use Rattle.sv_app.specs.declared.schemas.Check.{Check}
use Rattle.sv_app.specs.declared.schemas.Column.{Column}
use Rattle.sv_app.specs.declared.schemas.Merge.{Merge}
use Rattle.sv_app.specs.declared.schemas.Merge.TheVariants.{Plain, Lww, NumDelta, Fresh}
use Rattle.sv_app.specs.Firsts.{is_same_place}
use Rattle.sv_app.specs.Kinds.{is_annotated}
use Rattle.sv_app.specs.Lookups.{is_named, column_of, table_of, is_key, holds_of, place_of, table_names, column_names}
use Rattle.sv_app.specs.References.{referred, refers}
use Rattle.sv_app.specs.Schema.{Rule, Bound, OneOf, Different, Refers, Invariant, Declaration}
use Rattle.sv_app.specs.Typing.{fault_if, repeats, faults, table_faults, key_faults, column_faults, rule_faults, no_column, at_column, another_key, side_faults, second_side, shape_faults, check_faults, differs, referring_faults, referred_faults, target_faults, is_numdelta, is_text, is_int, is_only_key, is_misplaced, is_merged_wrong}
use Rattle.sv_app.proofs.ListLaws.{map_map}
use Rattle.sv_gains.proofs.FlatLaws.{flat_mapped}

abbrev pub bare : Ident → Ident
bare name = record { name = name.name; spot = name.spot; num = 0 }

abbrev pub bare_column : Column → Column
bare_column c = record { name = bare c.name; ty = c.ty; merge = c.merge }

abbrev pub bare_check : Check → Check
bare_check check = record { hi = option_map bare check.hi; lo = option_map bare check.lo; most = check.most; spot = check.spot }

abbrev pub bare_rule : Rule → Rule
bare_rule (Bound check) = Bound (bare_check check)
bare_rule (OneOf name texts) = OneOf (bare name) texts
bare_rule (Different name) = Different (bare name)
bare_rule (Refers name table target) = Refers (bare name) (bare table) (bare target)

abbrev pub bare_invariant : Invariant → Invariant
bare_invariant inv = record { number = inv.number; rule = bare_rule inv.rule; spot = inv.spot }

abbrev pub bare_table : Declaration → Declaration
bare_table t = record {
  name = bare t.name;
  kind = t.kind;
  columns = map bare_column t.columns;
  key = map bare t.key;
  second_key = option_map bare t.second_key;
  invs = map bare_invariant t.invs;
}

abbrev pub bare_schema : List Declaration → List Declaration
bare_schema schema = map bare_table schema

-- lists and options that are mapped
pub find_map : {A B : Type 0} (f : A → B) (p : B → Bool) (xs : List A) → find p (map f xs) ≡ option_map f (find (λ x. p (f x)) xs)
find_map f p [] = refl
find_map f p (x ∷ xs) = either (p (f x)) (find_map f p xs) where
  either : (b : Bool) → find p (map f xs) ≡ option_map f (find (λ y. p (f y)) xs)
      → (if b then Some (f x) else find p (map f xs)) ≡ option_map f (if b then Some x else find (λ y. p (f y)) xs)
  either true ih = refl
  either false ih = ih

pub any_map : {A B : Type 0} (f : A → B) (p : B → Bool) (xs : List A) → list_any p (map f xs) ≡ list_any (λ x. p (f x)) xs
any_map f p [] = refl
any_map f p (x ∷ xs) = ap (λ b. p (f x) || b) (any_map f p xs)

pub holds_map : {A B : Type 0} (f : A → B) (o : Option A) (test : B → Bool) → holds_of (option_map f o) test ≡ holds_of o (λ x. test (f x))
holds_map f None test = refl
holds_map f (Some x) test = refl

pub none_map : {A B : Type 0} (f : A → B) (o : Option A) → is_none (option_map f o) ≡ is_none o
none_map f None = refl
none_map f (Some x) = refl

-- lookups
pub column_bare : (t : Declaration) (name : Ident) → column_of (bare_table t) name ≡ option_map bare_column (column_of t name)
column_bare t name = find_map bare_column (λ c. is_named c.name name) t.columns

pub table_bare : (schema : List Declaration) (name : Ident) → table_of (bare_schema schema) name ≡ option_map bare_table (table_of schema name)
table_bare schema name = find_map bare_table (λ t. is_named t.name name) schema

pub key_bare : (t : Declaration) (name : Ident) → is_key (bare_table t) name ≡ is_key t name
key_bare t name = any_map bare (λ other. is_named other name) t.key

pub place_bare : (name : Ident) (names : List Ident) → place_of (bare name) (map bare names) ≡ place_of name names
place_bare name [] = refl
place_bare name (x ∷ xs) = ap (λ o. if is_named x name then Some 0 else option_map (λ place. suc place) o) (place_bare name xs)

pub tables_bare : (schema : List Declaration) → table_names (bare_schema schema) ≡ map bare (table_names schema)
tables_bare schema = map_map bare_table (λ (t : Declaration). t.name) schema ∙ sym (map_map (λ (t : Declaration). t.name) bare schema)

pub columns_bare : (t : Declaration) → column_names (bare_table t) ≡ map bare (column_names t)
columns_bare t = map_map bare_column (λ (c : Column). c.name) t.columns ∙ sym (map_map (λ (c : Column). c.name) bare t.columns)

-- what is wrong
pub repeats_bare : (names : List Ident) → repeats (map bare names) ≡ repeats names
repeats_bare [] = refl
repeats_bare (x ∷ xs) =
    ap (λ l. l ++ repeats (map bare xs)) (flat_mapped bare (λ later. fault_if (is_named later x) later.spot Twice) xs)
    ∙ ap (λ l. flat_map (λ later. fault_if (is_named later x) later.spot Twice) xs ++ l) (repeats_bare xs)

pub no_column_bare : (t : Declaration) (name : Ident) → no_column (bare_table t) (bare name) ≡ no_column t name
no_column_bare t name = simp (column_bare, none_map) refl

pub at_column_bare : (t : Declaration) (name : Ident) (test : Column → Bool) → at_column (bare_table t) (bare name) test ≡ at_column t name (λ c. test (bare_column c))
at_column_bare t name test = simp (column_bare, holds_map) refl

another_bare : (t : Declaration) (o : Option Ident) → another_key (bare_table t) (option_map bare o) ≡ another_key t o
another_bare t None = refl
another_bare t (Some name) = simp (no_column_bare) refl

pub flat_bare : {A B : Type 0} (f : A → A) (g h : A → List B) (xs : List A) → ((x : A) → g (f x) ≡ h x) → flat_map g (map f xs) ≡ flat_map h xs
flat_bare f g h [] same = refl
flat_bare f g h (x ∷ xs) same = (λ i. same x i ++ flat_bare f g h xs same i)

keys_bare : (t : Declaration) → key_faults (bare_table t) ≡ key_faults t
keys_bare t = simp (another_bare, repeats_bare, length-map, flat_bare bare (λ name. no_column (bare_table t) name) (λ name. no_column t name) t.key (no_column_bare t)) refl

all_map : {A B : Type 0} (f : A → B) (p : B → Bool) (xs : List A) → list_all p (map f xs) ≡ list_all (λ x. p (f x)) xs
all_map f p [] = refl
all_map f p (x ∷ xs) = ap (λ b. p (f x) && b) (all_map f p xs)

only_bare : (t : Declaration) (name : Ident) → is_only_key (bare_table t) (bare name) ≡ is_only_key t name
only_bare t name = (λ i. key_bare t name i && all_map bare (λ other. is_named other name) t.key i)

misplaced_bare : (t : Declaration) (c : Column) (merge : Merge) → is_misplaced (bare_table t) (bare_column c) merge ≡ is_misplaced t c merge
misplaced_bare t c Plain = refl
misplaced_bare t c Lww = key_bare t c.name
misplaced_bare t c NumDelta = ap (λ b. b || is_text c.ty) (key_bare t c.name)
misplaced_bare t c Fresh = ap (λ b. not (is_int c.ty && b && is_annotated t.kind)) (only_bare t c.name)

merged_bare : (t : Declaration) (c : Column) → is_merged_wrong (bare_table t) (bare_column c) ≡ is_merged_wrong t c
merged_bare t c = misplaced_bare t c c.merge

columns_wrong_bare : (t : Declaration) → column_faults (bare_table t) ≡ column_faults t
columns_wrong_bare t =
    let names : repeats (column_names (bare_table t)) ≡ repeats (column_names t) = ap repeats (columns_bare t) ∙ repeats_bare (column_names t) in
    let merges : flat_map (λ c. fault_if (is_merged_wrong (bare_table t) c) c.name.spot Typing) (map bare_column t.columns) ≡ flat_map (λ c. fault_if (is_merged_wrong t c) c.name.spot Typing) t.columns =
    flat_bare bare_column (λ c. fault_if (is_merged_wrong (bare_table t) c) c.name.spot Typing) (λ c. fault_if (is_merged_wrong t c) c.name.spot Typing) t.columns
    (λ c. ap (λ b. fault_if b c.name.spot Typing) (merged_bare t c)) in
    (λ i. names i ++ merges i)

side_bare : (t : Declaration) (side : Option Ident) → side_faults (bare_table t) (option_map bare side) ≡ side_faults t side
side_bare t None = refl
side_bare t (Some name) = simp (no_column_bare, at_column_bare, key_bare) refl

second_bare : (check : Check) (hi lo : Ident) → (second_side (bare_check check) (bare hi) (bare lo)).spot ≡ (second_side check hi lo).spot
second_bare check hi lo = either (is_same_place hi.spot check.spot) where
  either : (b : Bool) → (if b then bare lo else bare hi).spot ≡ (if b then lo else hi).spot
  either true = refl
  either false = refl

shape_bare : (check : Check) (hi lo : Option Ident) → shape_faults (bare_check check) (option_map bare hi) (option_map bare lo) ≡ shape_faults check hi lo
shape_bare check None None = refl
shape_bare check None (Some lo) = refl
shape_bare check (Some hi) None = refl
shape_bare check (Some hi) (Some lo) = ap (λ s. fault_if (is_named hi lo) s Typing) (second_bare check hi lo)

check_bare : (t : Declaration) (check : Check) → check_faults (bare_table t) (bare_check check) ≡ check_faults t check
check_bare t check = (λ i. shape_bare check check.hi check.lo i ++ side_bare t check.hi i ++ side_bare t check.lo i)

differs_bare : (t other : Declaration) (name target : Ident) → differs (bare_table t) (bare name) (bare_table other) (bare target) ≡ differs t name other target
differs_bare t other name target = simp (column_bare, holds_map) refl

-- what holds of the table that is meant
pub meant_bare : (schema : List Declaration) (name : Ident) (p q : Declaration → Bool) → ((t : Declaration) → p (bare_table t) ≡ q t)
    → holds_of (table_of (bare_schema schema) (bare name)) p ≡ holds_of (table_of schema name) q
meant_bare schema name p q same =
    ap (λ o. holds_of o p) (table_bare schema name) ∙ holds_map bare_table (table_of schema name) p ∙ (λ i. holds_of (table_of schema name) (λ t. same t i))

pub no_table_bare : (schema : List Declaration) (name : Ident) → is_none (table_of (bare_schema schema) (bare name)) ≡ is_none (table_of schema name)
no_table_bare schema name = ap is_none (table_bare schema name) ∙ none_map bare_table (table_of schema name)

pub no_column_in : (t : Declaration) (name : Ident) → is_none (column_of (bare_table t) (bare name)) ≡ is_none (column_of t name)
no_column_in t name = simp (column_bare, none_map) refl

beside_bare : (t : Declaration) (name : Ident) → holds_of (column_of (bare_table t) (bare name)) (λ _. not (is_key (bare_table t) (bare name))) ≡ holds_of (column_of t name) (λ _. not (is_key t name))
beside_bare t name = simp (column_bare, holds_map, key_bare) refl

referring_bare : (schema : List Declaration) (t : Declaration) (name table target : Ident)
    → referring_faults (bare_schema schema) (bare_table t) (bare name) (bare table) (bare target) ≡ referring_faults schema t name table target
referring_bare schema t name table target =
    let apart = meant_bare schema table (λ other. differs (bare_table t) (bare name) other (bare target)) (λ other. differs t name other target) (λ other. differs_bare t other name target) in
    (λ i. no_column_bare t name i ++ at_column_bare t name (λ c. is_numdelta c.merge) i ++ fault_if (apart i) name.spot Typing)

referred_bare : (schema : List Declaration) (table : Ident) → referred_faults (bare_schema schema) (bare table) ≡ referred_faults schema table
referred_bare schema table =
    let long = meant_bare schema table (λ other. nat_lt 1 (length other.key)) (λ other. nat_lt 1 (length other.key)) (λ other. ap (λ n. nat_lt 1 n) (length-map other.key bare)) in
    (λ i. fault_if (no_table_bare schema table i) table.spot Unknown ++ fault_if (long i) table.spot Typing)

target_bare : (schema : List Declaration) (table target : Ident) → target_faults (bare_schema schema) (bare table) (bare target) ≡ target_faults schema table target
target_bare schema table target =
    let missing = meant_bare schema table (λ other. is_none (column_of other (bare target))) (λ other. is_none (column_of other target)) (λ other. no_column_in other target) in
    let beside = meant_bare schema table (λ other. holds_of (column_of other (bare target)) (λ _. not (is_key other (bare target)))) (λ other. holds_of (column_of other target) (λ _. not (is_key other target)))
    (λ other. beside_bare other target) in
    (λ i. fault_if (missing i) target.spot Unknown ++ fault_if (beside i) target.spot Typing)

rule_bare : (schema : List Declaration) (t : Declaration) (rule : Rule) → rule_faults (bare_schema schema) (bare_table t) (bare_rule rule) ≡ rule_faults schema t rule
rule_bare schema t (Bound check) = check_bare t check
rule_bare schema t (OneOf name texts) = simp (no_column_bare, at_column_bare, key_bare) refl
rule_bare schema t (Different name) = simp (no_column_bare, at_column_bare, key_bare) refl
rule_bare schema t (Refers name table target) = (λ i. referring_bare schema t name table target i ++ referred_bare schema table i ++ target_bare schema table target i)

table_wrong_bare : (schema : List Declaration) (t : Declaration) → table_faults (bare_schema schema) (bare_table t) ≡ table_faults schema t
table_wrong_bare schema t =
    let rules = flat_bare bare_invariant (λ inv. rule_faults (bare_schema schema) (bare_table t) inv.rule) (λ inv. rule_faults schema t inv.rule) t.invs (λ inv. rule_bare schema t inv.rule) in
    (λ i. keys_bare t i ++ columns_wrong_bare t i ++ rules i)

-- the same is wrong, whatever the numbers are
pub faults_bare : (schema : List Declaration) → faults (bare_schema schema) ≡ faults schema
faults_bare schema =
    let names : repeats (table_names (bare_schema schema)) ≡ repeats (table_names schema) = ap repeats (tables_bare schema) ∙ repeats_bare (table_names schema) in
    let tables = flat_bare bare_table (λ t. table_faults (bare_schema schema) t) (λ t. table_faults schema t) schema (table_wrong_bare schema) in
    (λ i. names i ++ tables i)

-- references lead the same way
referred_to_bare : (schema : List Declaration) (rule : Rule) → referred (bare_schema schema) (bare_rule rule) ≡ referred schema rule
referred_to_bare schema (Bound check) = refl
referred_to_bare schema (OneOf name texts) = refl
referred_to_bare schema (Different name) = refl
referred_to_bare schema (Refers name table target) = ap (place_of (bare table)) (tables_bare schema) ∙ place_bare table (table_names schema)

any_bare : {A : Type 0} (f : A → A) (p q : A → Bool) (xs : List A) → ((x : A) → p (f x) ≡ q x) → list_any p (map f xs) ≡ list_any q xs
any_bare f p q xs same = any_map f p xs ∙ (λ i. list_any (λ x. same x i) xs)

pub refers_bare : (schema : List Declaration) (a b : ℕ) → refers (bare_schema schema) a b ≡ refers schema a b
refers_bare schema a b =
    let inner : (t : Declaration) → list_any (λ inv. holds_of (referred (bare_schema schema) inv.rule) (λ place. place == b)) (map bare_invariant t.invs) ≡ list_any (λ inv. holds_of (referred schema inv.rule) (λ place. place == b)) t.invs =
    λ t. any_bare bare_invariant (λ inv. holds_of (referred (bare_schema schema) inv.rule) (λ place. place == b)) (λ inv. holds_of (referred schema inv.rule) (λ place. place == b)) t.invs
    (λ inv. ap (λ o. holds_of o (λ place. place == b)) (referred_to_bare schema inv.rule)) in
    let test : Declaration → Bool = λ t. list_any (λ inv. holds_of (referred (bare_schema schema) inv.rule) (λ place. place == b)) t.invs in
    ap (λ o. holds_of o test) (slice_get-map bare_table schema a) ∙ holds_map bare_table (slice_get schema a) test ∙ (λ i. holds_of (slice_get schema a) (λ t. inner t i))

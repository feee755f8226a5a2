-- What is wrong with the names and types of a schema: each rule says where it is broken, and all that is found is one list.
use Rattle.std.specs.Prelude.{Bool, true, false, List, [], ◌∷◌, ◌++◌, length, Option, Some, None, ◌==◌, ◌&&◌, ◌||◌, not, nat_lt, if◌then◌else◌}
use Rattle.std.specs.List.{flat_map, list_all}
use Rattle.std.specs.Option.{is_none}
use Rattle.sv_value.specs.declared.spots.Spot.{Spot}
use Rattle.sv_app.specs.declared.apps.Ident.{Ident}
use Rattle.sv_app.specs.declared.refusals.Code.{Code}
use Rattle.sv_app.specs.declared.refusals.Code.TheVariants.{Unknown, Twice, Typing}
use Rattle.sv_app.specs.declared.refusals.Refusal.{Refusal}
use Rattle.sv_app.specs.declared.schemas.Check.{Check}
use Rattle.sv_app.specs.declared.schemas.Column.{Column}
use Rattle.sv_app.specs.declared.schemas.Merge.{Merge}
use Rattle.sv_app.specs.declared.schemas.Merge.TheVariants.{Plain, Lww, NumDelta, Fresh}
use Rattle.sv_app.specs.declared.schemas.Ty.{Ty}
use Rattle.sv_app.specs.declared.schemas.Ty.TheVariants.{Int, Text, Ints}
use Rattle.sv_app.specs.Firsts.{is_same_place}
use Rattle.sv_app.specs.Kinds.{is_annotated}
use Rattle.sv_app.specs.Lookups.{is_named, column_of, table_of, is_key, holds_of, table_names, column_names}
use Rattle.sv_app.specs.Schema.{Rule, Bound, OneOf, Different, Refers, Declaration}

abbrev pub fault_if : Bool → Spot → Code → List Refusal
fault_if holds spot code = if holds then record { spot = spot; code = code } ∷ [] else []

abbrev pub is_text : Ty → Bool
is_text Text = true
is_text Int = false
is_text Ints = false

abbrev pub is_int : Ty → Bool
is_int Int = true
is_int Text = false
is_int Ints = false

abbrev pub is_same_type : Ty → Ty → Bool
is_same_type Int ty = is_int ty
is_same_type Text ty = is_text ty
is_same_type Ints ty = not (is_int ty) && not (is_text ty)

abbrev pub is_numdelta : Merge → Bool
is_numdelta NumDelta = true
is_numdelta Plain = false
is_numdelta Lww = false
is_numdelta Fresh = false

-- each later one of these that has the name of an earlier one, at its name
abbrev pub repeats : List Ident → List Refusal
repeats [] = []
repeats (name ∷ names) = flat_map (λ later. fault_if (is_named later name) later.spot Twice) names ++ repeats names

-- a name that is no column of the table, at the name
abbrev pub no_column : Declaration → Ident → List Refusal
no_column t name = fault_if (is_none (column_of t name)) name.spot Unknown

-- a column of which the test holds, at the name by which it is meant
abbrev pub at_column : Declaration → Ident → (Column → Bool) → List Refusal
at_column t name test = fault_if (holds_of (column_of t name) test) name.spot Typing

-- a table without a primary key, at its name
abbrev pub no_key : Declaration → List Refusal
no_key t = fault_if (length t.key == 0) t.name.spot Typing

-- a second primary key, at its first name, which may be no column besides
abbrev pub another_key : Declaration → Option Ident → List Refusal
another_key t None = []
another_key t (Some name) = fault_if true name.spot Twice ++ no_column t name

-- a column named twice in a key, at the second; a name in a key that is no column
abbrev pub key_faults : Declaration → List Refusal
key_faults t = no_key t ++ another_key t t.second_key ++ repeats t.key ++ flat_map (λ name. no_column t name) t.key

-- the key names this column and no other
abbrev pub is_only_key : Declaration → Ident → Bool
is_only_key t column = is_key t column && list_all (λ name. is_named name column) t.key

-- LWW or NUMDELTA on a key column, NUMDELTA on a text column, and FRESH on a column that isn't an integer, isn't the only one of the key, or is
-- in an unannotated table, at the column's name
abbrev pub is_misplaced : Declaration → Column → Merge → Bool
is_misplaced t c Plain = false
is_misplaced t c Lww = is_key t c.name
is_misplaced t c NumDelta = is_key t c.name || is_text c.ty
is_misplaced t c Fresh = not (is_int c.ty && is_only_key t c.name && is_annotated t.kind)

abbrev pub is_merged_wrong : Declaration → Column → Bool
is_merged_wrong t c = is_misplaced t c c.merge

-- a second column of the same name, at its name
abbrev pub column_faults : Declaration → List Refusal
column_faults t = repeats (column_names t) ++ flat_map (λ c. fault_if (is_merged_wrong t c) c.name.spot Typing) t.columns

-- a check on a text or key column, at that name
abbrev pub side_faults : Declaration → Option Ident → List Refusal
side_faults t None = []
side_faults t (Some name) = no_column t name ++ at_column t name (λ c. is_text c.ty || is_key t name)

-- the side of a check that was written second, of two columns
abbrev pub second_side : Check → Ident → Ident → Ident
second_side check hi lo = if is_same_place hi.spot check.spot then lo else hi

-- a check with no column, at its first side; a check with one column on both sides, at the second
abbrev pub shape_faults : Check → Option Ident → Option Ident → List Refusal
shape_faults check None None = fault_if true check.spot Typing
shape_faults check None (Some lo) = []
shape_faults check (Some hi) None = []
shape_faults check (Some hi) (Some lo) = fault_if (is_named hi lo) (second_side check hi lo).spot Typing

abbrev pub check_faults : Declaration → Check → List Refusal
check_faults t check = shape_faults check check.hi check.lo ++ side_faults t check.hi ++ side_faults t check.lo

-- a list on a column that isn't a text or is a key column
abbrev pub list_faults : Declaration → Ident → List Refusal
list_faults t name = no_column t name ++ at_column t name (λ c. not (is_text c.ty) || is_key t name)

-- unique on a key or NUMDELTA column
abbrev pub unique_faults : Declaration → Ident → List Refusal
unique_faults t name = no_column t name ++ at_column t name (λ c. is_numdelta c.merge || is_key t name)

-- the two columns of a reference are of different types
abbrev pub differs : Declaration → Ident → Declaration → Ident → Bool
differs t name other target = holds_of (column_of t name) (λ c. holds_of (column_of other target) (λ d. not (is_same_type c.ty d.ty)))

-- a reference from a NUMDELTA column, or between different types, at the column
abbrev pub referring_faults : List Declaration → Declaration → Ident → Ident → Ident → List Refusal
referring_faults schema t name table target =
    no_column t name ++ at_column t name (λ c. is_numdelta c.merge)
    ++ fault_if (holds_of (table_of schema table) (λ other. differs t name other target)) name.spot Typing

-- a reference to a name that is no table, or to a table whose key has two columns, at the table's name
abbrev pub referred_faults : List Declaration → Ident → List Refusal
referred_faults schema table =
    fault_if (is_none (table_of schema table)) table.spot Unknown
    ++ fault_if (holds_of (table_of schema table) (λ other. nat_lt 1 (length other.key))) table.spot Typing

-- a reference to a name that is no column of that table, or isn't its key, at the target
abbrev pub target_faults : List Declaration → Ident → Ident → List Refusal
target_faults schema table target =
    fault_if (holds_of (table_of schema table) (λ other. is_none (column_of other target))) target.spot Unknown
    ++ fault_if (holds_of (table_of schema table) (λ other. holds_of (column_of other target) (λ _. not (is_key other target)))) target.spot Typing

abbrev pub rule_faults : List Declaration → Declaration → Rule → List Refusal
rule_faults schema t (Bound check) = check_faults t check
rule_faults schema t (OneOf name texts) = list_faults t name
rule_faults schema t (Different name) = unique_faults t name
rule_faults schema t (Refers name table target) = referring_faults schema t name table target ++ referred_faults schema table ++ target_faults schema table target

abbrev pub table_faults : List Declaration → Declaration → List Refusal
table_faults schema t = key_faults t ++ column_faults t ++ flat_map (λ inv. rule_faults schema t inv.rule) t.invs

-- all that is wrong: a second table of the same name, at its name, and what is wrong in each table
abbrev pub faults : List Declaration → List Refusal
faults schema = repeats (table_names schema) ++ flat_map (λ t. table_faults schema t) schema

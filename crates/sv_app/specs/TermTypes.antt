-- The types of expressions. Arithmetic is an integer, whatever its operands are; a name that stands for no value has no type.
use Rattle.std.specs.Prelude.{Bool, List, Option, Some, None, not}
use Rattle.std.specs.Option.{option_map, option_and_then}
use Rattle.sv_value.specs.declared.spots.Spot.{Spot}
use Rattle.sv_app.specs.declared.apps.Ident.{Ident}
use Rattle.sv_app.specs.declared.names.Meaning.{Meaning}
use Rattle.sv_app.specs.declared.names.Meaning.TheVariants.{Parameter, Variable as Local, Row, Constant}
use Rattle.sv_app.specs.declared.schemas.Ty.{Ty}
use Rattle.sv_app.specs.declared.schemas.Ty.TheVariants.{Int, Text, Ints}
use Rattle.sv_app.specs.Lookups.{column_of, table_of, holds_of}
use Rattle.sv_app.specs.Schema.{Declaration}
use Rattle.sv_app.specs.Scopes.{Scope, meaning_of}
use Rattle.sv_app.specs.Trees.{Term, Number, Words, Variable, Field, Old, Minus, Sum, Difference, Product}
use Rattle.sv_app.specs.Typing.{is_same_type}

-- a list is no value
abbrev pub value_type : Ty → Option Ty
value_type Int = Some Int
value_type Text = Some Text
value_type Ints = None

abbrev pub type_meant : Option Meaning → Option Ty
type_meant None = None
type_meant (Some (Parameter ty)) = value_type ty
type_meant (Some (Local ty)) = ty
type_meant (Some (Row table)) = None
type_meant (Some Constant) = Some Int

abbrev pub column_type : List Declaration → Ident → Ident → Option Ty
column_type schema table column = option_and_then (λ t. option_map (λ c. c.ty) (column_of t column)) (table_of schema table)

abbrev pub field_type : List Declaration → Option Meaning → Ident → Option Ty
field_type schema None column = None
field_type schema (Some (Parameter ty)) column = None
field_type schema (Some (Local ty)) column = None
field_type schema (Some (Row table)) column = column_type schema table column
field_type schema (Some Constant) column = None

abbrev pub old_type : List Declaration → Option Ident → Ident → Option Ty
old_type schema None column = None
old_type schema (Some table) column = column_type schema table column

abbrev pub type_of : Scope → Term → Option Ty
type_of at (Number n s) = Some Int
type_of at (Words t s) = Some Text
type_of at (Variable x s) = type_meant (meaning_of at x)
type_of at (Field r c s) = field_type at.schema (meaning_of at r) c
type_of at (Old c s) = old_type at.schema at.updated c
type_of at (Minus a s) = Some Int
type_of at (Sum a b s) = Some Int
type_of at (Difference a b s) = Some Int
type_of at (Product a b s) = Some Int

-- the place of the first token
abbrev pub spot_of : Term → Spot
spot_of (Number n s) = s
spot_of (Words t s) = s
spot_of (Variable x s) = s
spot_of (Field r c s) = s
spot_of (Old c s) = s
spot_of (Minus a s) = s
spot_of (Sum a b s) = s
spot_of (Difference a b s) = s
spot_of (Product a b s) = s

-- both have a type, and it isn't the same
abbrev pub are_apart : Option Ty → Option Ty → Bool
are_apart a b = holds_of a (λ t. holds_of b (λ u. not (is_same_type t u)))

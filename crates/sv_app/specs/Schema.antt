-- Tables as they are declared, with lists in place of what they are kept in.
use Rattle.std.specs.Prelude.{ℕ, List, Option, map}
use Rattle.sv_value.specs.declared.spots.Spot.{Spot}
use Rattle.sv_app.specs.declared.apps.Ident.{Ident}
use Rattle.sv_app.specs.declared.schemas.Check.{Check}
use Rattle.sv_app.specs.declared.schemas.Column.{Column}
use Rattle.sv_app.specs.declared.schemas.Inv.{Inv}
use Rattle.sv_app.specs.declared.schemas.InvBody.{InvBody}
use Rattle.sv_app.specs.declared.schemas.InvBody.TheVariants as bodies
use Rattle.sv_app.specs.declared.schemas.Kind.{Kind}
use Rattle.sv_app.specs.declared.schemas.Table.{Table}

-- what an invariant demands: a check, a text of a list, different values, or a column that is the key of a table
pub data Rule : Type 0 where
  Bound : Check → Rule
  OneOf : Ident → List (List ℕ) → Rule
  Different : Ident → Rule
  Refers : Ident → Ident → Ident → Rule

pub record Invariant : Type 0 where
  pub number : ℕ
  pub rule : Rule
  pub spot : Spot

pub record Declaration : Type 0 where
  pub name : Ident
  pub kind : Kind
  pub columns : List Column
  pub key : List Ident
  pub second_key : Option Ident
  pub invs : List Invariant

abbrev pub rule_of : InvBody → Rule
rule_of (bodies.Check check) = Bound check
rule_of (bodies.List col texts) = OneOf col texts.items
rule_of (bodies.Unique col) = Different col
rule_of (bodies.Refers col table target) = Refers col table target

abbrev pub invariant_of : Inv → Invariant
invariant_of inv = record { number = inv.number; rule = rule_of inv.body; spot = inv.spot }

abbrev pub declaration_of : Table → Declaration
declaration_of table = record {
  name = table.name;
  kind = table.kind;
  columns = table.columns.items;
  key = table.key.items;
  second_key = table.second_key;
  invs = map invariant_of table.invs.items;
}

abbrev pub schema_of : List Table → List Declaration
schema_of tables = map declaration_of tables

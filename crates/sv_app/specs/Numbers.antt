-- The numbers of names: a name's number is the place of the first table, or of the first column of its table, that has it.
use Rattle.std.specs.Prelude.{List, [], Option, Some, None, map}
use Rattle.std.specs.Option.{unwrap_or, option_map}
use Rattle.sv_app.specs.declared.apps.Ident.{Ident}
use Rattle.sv_app.specs.declared.schemas.Check.{Check}
use Rattle.sv_app.specs.declared.schemas.Column.{Column}
use Rattle.sv_app.specs.Lookups.{place_of, table_of, table_names, column_names}
use Rattle.sv_app.specs.Schema.{Rule, Bound, OneOf, Different, Refers, Invariant, Declaration}

-- the name with its number among these
abbrev pub numbered_in : List Ident → Ident → Ident
numbered_in names name = record { name = name.name; spot = name.spot; num = unwrap_or (place_of name names) 0 }

-- the names of the columns of the table that is meant
abbrev pub columns_meant : Option Declaration → List Ident
columns_meant None = []
columns_meant (Some t) = column_names t

abbrev pub numbered_column : Declaration → Column → Column
numbered_column t c = record { name = numbered_in (column_names t) c.name; ty = c.ty; merge = c.merge }

abbrev pub numbered_check : Declaration → Check → Check
numbered_check t check = record {
  hi = option_map (numbered_in (column_names t)) check.hi;
  lo = option_map (numbered_in (column_names t)) check.lo;
  most = check.most;
  spot = check.spot;
}

abbrev pub numbered_rule : List Declaration → Declaration → Rule → Rule
numbered_rule schema t (Bound check) = Bound (numbered_check t check)
numbered_rule schema t (OneOf name texts) = OneOf (numbered_in (column_names t) name) texts
numbered_rule schema t (Different name) = Different (numbered_in (column_names t) name)
numbered_rule schema t (Refers name table target) =
    Refers (numbered_in (column_names t) name) (numbered_in (table_names schema) table) (numbered_in (columns_meant (table_of schema table)) target)

abbrev pub numbered_invariant : List Declaration → Declaration → Invariant → Invariant
numbered_invariant schema t inv = record { number = inv.number; rule = numbered_rule schema t inv.rule; spot = inv.spot }

abbrev pub numbered_table : List Declaration → Declaration → Declaration
numbered_table schema t = record {
  name = numbered_in (table_names schema) t.name;
  kind = t.kind;
  columns = map (numbered_column t) t.columns;
  key = map (numbered_in (column_names t)) t.key;
  second_key = option_map (numbered_in (column_names t)) t.second_key;
  invs = map (numbered_invariant schema t) t.invs;
}

abbrev pub numbered : List Declaration → List Declaration
numbered schema = map (numbered_table schema) schema

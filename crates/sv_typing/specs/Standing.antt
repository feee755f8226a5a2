-- What stands around an expression, and the names that have numbers, in terms of declarations.
use Rattle.std.specs.Prelude.{◌≤◌, List, length, map, Option, Some, None}
use Rattle.sv_app.specs.declared.names.Known.{Known}
use Rattle.sv_app.specs.declared.schemas.Table.{Table}
use Rattle.sv_app.specs.Conditions.{KeepsLimits}
use Rattle.sv_app.specs.Schema.{schema_of}
use Rattle.sv_app.specs.Scopes as scopes
use Rattle.sv_app.specs.TxnNumbers as numbers
use Rattle.sv_typing.specs.declared.fills.Naming.{Naming}
use Rattle.sv_typing.specs.declared.scopes.Scope.{Scope}

abbrev pub scope_of : Scope → scopes.Scope
scope_of at = record { schema = schema_of at.tables.now; known = at.known.now; updated = at.updated }

-- outside the expressions behind `set`
abbrev pub in_block : List Table → List Known → scopes.Scope
in_block tables known = record { schema = schema_of tables; known = known; updated = None }

-- a name more, if there is one
abbrev pub knowing : scopes.Scope → Option Known → scopes.Scope
knowing at None = at
knowing at (Some known) = scopes.knowing at known.name known.meaning

abbrev pub naming_of : Naming → numbers.Naming
naming_of by = record { schema = schema_of by.tables.now; names = by.names.now; updated = map (λ c. c.name) by.updated.now }

-- the numbers of the names are small
pub record IsSmall (by : numbers.Naming) : Type 0 where
  pub schema : KeepsLimits by.schema
  pub names : length by.names ≤ 144
  pub updated : length by.updated ≤ 16

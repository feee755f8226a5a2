-- What stands around an expression: the tables, the names that may be used there, the latest first, and, behind `set`, the table whose row is updated.
use Rattle.std.specs.Prelude.{List, ◌∷◌, Option, Some, None, map, reverse}
use Rattle.std.specs.List.{find}
use Rattle.std.specs.Option.{option_map}
use Rattle.sv_app.specs.declared.apps.Ident.{Ident}
use Rattle.sv_app.specs.declared.names.Known.{Known}
use Rattle.sv_app.specs.declared.names.Meaning.{Meaning}
use Rattle.sv_app.specs.declared.names.Meaning.TheVariants.{Parameter}
use Rattle.sv_app.specs.declared.schemas.Ty.{Ty}
use Rattle.sv_app.specs.Lookups.{is_named}
use Rattle.sv_app.specs.Schema.{Declaration}

pub record Scope : Type 0 where
  pub schema : List Declaration
  pub known : List Known
  pub updated : Option Ident

-- what the name stands for: of its declarations that may be used the latest, which is the innermost
abbrev pub meaning_of : Scope → Ident → Option Meaning
meaning_of at name = option_map (λ k. k.meaning) (find (λ k. is_named k.name name) at.known)

-- a name more
abbrev pub knowing : Scope → Ident → Meaning → Scope
knowing at name meaning = record { schema = at.schema; known = record { name = name; meaning = meaning } ∷ at.known; updated = at.updated }

-- behind `set`, in an update of that table
abbrev pub updating : Scope → Ident → Scope
updating at table = record { schema = at.schema; known = at.known; updated = Some table }

-- at the first statement of a transaction its parameters may be used
abbrev pub parameter : Ident × Ty → Known
parameter p = record { name = p.0; meaning = Parameter p.1 }

abbrev pub opening : List Declaration → List (Ident × Ty) → Scope
opening schema params = record { schema = schema; known = reverse (map parameter params); updated = None }

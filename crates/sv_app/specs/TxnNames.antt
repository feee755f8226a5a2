-- The names that a transaction declares, in the order of the text: its parameters first.
use Rattle.std.specs.Prelude.{List, [], ◌∷◌, ◌++◌, map, Some, None}
use Rattle.std.specs.List.{flat_map}
use Rattle.sv_app.specs.declared.apps.Ident.{Ident}
use Rattle.sv_app.specs.declared.names.Declared.{Declared}
use Rattle.sv_app.specs.declared.schemas.Ty.{Ty}
use Rattle.sv_app.specs.Statements.{block_statements}
use Rattle.sv_app.specs.Trees.{Command, Declare, Assign, Fetch, Choose, ForRows, ForEach, Insert, Fresh, Update, Remove, Abort, Reply, Transaction}

abbrev pub plain_name : Ident → Declared
plain_name name = record { name = name; table = None }

abbrev pub row_name : Ident → Ident → Declared
row_name name table = record { name = name; table = Some table }

-- the name that a statement declares, if it does
abbrev pub declared_by : Command → List Declared
declared_by (Declare x e) = plain_name x ∷ []
declared_by (Assign x e) = []
declared_by (Fetch r t k) = row_name r t ∷ []
declared_by (Choose c ys ns) = []
declared_by (ForRows r t c body) = row_name r t ∷ []
declared_by (ForEach x l body) = plain_name x ∷ []
declared_by (Insert t vs) = []
declared_by (Fresh x t vs) = plain_name x ∷ []
declared_by (Update t k ss) = []
declared_by (Remove t k) = []
declared_by (Abort n) = []
declared_by (Reply e) = []

abbrev pub declares : Transaction → List Declared
declares txn = map (λ (p : Ident × Ty). plain_name p.0) txn.params ++ flat_map declared_by (block_statements txn.body)

abbrev pub names_of : Transaction → List Ident
names_of txn = map (λ (d : Declared). d.name) (declares txn)

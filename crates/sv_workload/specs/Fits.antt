-- Rows fit their tables, and calls their transactions: one value for each column or parameter, of its type.
use Rattle.std.specs.Prelude.{List, Option}
use Rattle.std.specs.List.{find}
use Rattle.sv_app.specs.declared.apps.Ident.{Ident}
pub use Rattle.sv_app.specs.Fitting.{ArgFits, ArgsFit}
use Rattle.sv_app.specs.Lookups.{is_named}
use Rattle.sv_app.specs.Schema.{Declaration}
use Rattle.sv_app.specs.Trees.{Transaction}
use Rattle.sv_effect.specs.Initial.{ValuesFit}
use Rattle.sv_workload.specs.declared.written.Row.{Row}
use Rattle.sv_workload.specs.declared.written.Call.{Call}

abbrev pub RowFits : Declaration → Row → Type 0
RowFits table r = ValuesFit table.columns r.values

abbrev pub CallFits : Transaction → Call → Type 0
CallFits txn c = ArgsFit txn.params c.args

abbrev pub txn_of : List Transaction → Ident → Option Transaction
txn_of txns ident = find (λ txn. is_named txn.name ident) txns

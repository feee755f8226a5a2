use Rattle.std.proofs.Common.{◌≡◌, drop, map}
use Rattle.sv_app.specs.Schema.{declaration_of}
use Rattle.sv_app.specs.Trees.{terms_of}
use Rattle.sv_app.specs.TxnTyping.{each_type_faults}
use Rattle.sv_typing.specs.Noted.{noted}
use Rattle.sv_typing.specs.Standing.{scope_of}
use Rattle.sv_typing.proofs.values.note_types.Given as goal

abbrev pub invariant-loop-number : goal.invariant-loop-number
invariant-loop-number g l =
    noted l.first.held (each_type_faults (scope_of l.at) (declaration_of l.table) l.place (map g.T.Named.ident (drop l.number l.columns)) (terms_of (drop l.number l.exprs)))
    ≡ noted l.initial.first.held (each_type_faults (scope_of l.at) (declaration_of l.table) l.place (map g.T.Named.ident l.columns) (terms_of l.exprs))

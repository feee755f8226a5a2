use Rattle.std.proofs.Common.{◌≡◌, take}
use Rattle.sv_app.specs.Trees.{terms_of}
use Rattle.sv_app.specs.TxnTyping.{all_term_faults}
use Rattle.sv_typing.specs.Noted.{noted}
use Rattle.sv_typing.specs.Standing.{scope_of}
use Rattle.sv_typing.proofs.values.note_terms.Given as goal

abbrev pub invariant-loop-expr : goal.invariant-loop-expr
invariant-loop-expr l = l.first.held ≡ noted l.initial.first.held (all_term_faults (scope_of l.at) (terms_of (take l.expr-index l.exprs)))

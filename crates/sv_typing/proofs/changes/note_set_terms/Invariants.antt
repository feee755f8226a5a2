use Rattle.std.proofs.Common.{◌≡◌, take}
use Rattle.std.specs.List.{flat_map}
use Rattle.sv_app.specs.declared.apps.Ident.{Ident}
use Rattle.sv_app.specs.Trees.{Term, sets_of}
use Rattle.sv_app.specs.TxnTyping.{term_faults}
use Rattle.sv_typing.specs.Noted.{noted}
use Rattle.sv_typing.specs.Standing.{scope_of}
use Rattle.sv_typing.proofs.changes.note_set_terms.Given as goal

abbrev pub invariant-loop-expr : goal.invariant-loop-expr
invariant-loop-expr l = l.first.held ≡ noted l.initial.first.held (flat_map (λ (s : Ident × Term). term_faults (scope_of l.at) s.1) (sets_of (take l.expr-index l.sets)))

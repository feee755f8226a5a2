use Rattle.std.proofs.Common.{◌≡◌, take}
use Rattle.sv_app.specs.Trees.{terms_of}
use Rattle.sv_app.specs.TxnNumbers.{numbered_terms}
use Rattle.sv_typing.specs.Standing.{naming_of}
use Rattle.sv_typing.proofs.fills.fill_exprs.Given as goal

abbrev pub invariant-loop-expr : goal.invariant-loop-expr
invariant-loop-expr l = terms_of l.copies.items ≡ numbered_terms (naming_of l.by) (terms_of (take l.expr-index l.exprs))

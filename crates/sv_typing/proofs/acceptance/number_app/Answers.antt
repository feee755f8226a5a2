use Rattle.std.proofs.Common.{List, sym, subst}
use Rattle.sv_app.specs.Accepted.{AcceptedApp}
use Rattle.sv_app.specs.Schema.{Declaration, schema_of}
use Rattle.sv_app.specs.Trees.{Transaction, transactions_of}
use Rattle.sv_typing.proofs.AcceptanceLaws.{accepted_app}
use Rattle.sv_typing.proofs.acceptance.number_app.Goals as goal

pub returns-clause-application : goal.returns-clause-application
returns-clause-application c =
    subst (λ (p : List Declaration × List Transaction). AcceptedApp p.0 p.1) (λ i. (sym c.in_ok-numbered_tables.ensures i, sym c.in_ok-numbered_txns.ensures i))
    (accepted_app (schema_of c.args.tables.now) (transactions_of c.args.txns.now) c.requires.grammar c.requires.limits c.requires.invariants c.requires.txn_grammar c.requires.txn_limits c.requires.accepted)

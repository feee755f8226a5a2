use Rattle.std.proofs.Common.{sym, ◌∙◌}
use Rattle.sv_app.specs.Acceptance.{ByTyping}
use Rattle.sv_app.specs.Schema.{schema_of}
use Rattle.sv_app.specs.Trees.{transactions_of}
use Rattle.sv_app.specs.TxnTyping.{all_faults}
use Rattle.sv_typing.proofs.FirstLaws.{noted_is_first, noted_is_none}
use Rattle.sv_typing.proofs.acceptance.first_refusal.Goals as goal

pub returns-in-Some : goal.returns-in-Some
returns-in-Some c =
    ByTyping (noted_is_first (all_faults (schema_of c.args.tables.now) (transactions_of c.args.txns.now)) c.in-Some.refusal (sym c.in_ok-fault.ensures ∙ c.in-Some.is))

pub returns-in_ok-later-in-None : goal.returns-in_ok-later-in-None
returns-in_ok-later-in-None c =
    c.in_ok-later-in-None.ensures (transactions_of c.args.txns.now)
    (noted_is_none (all_faults (schema_of c.args.tables.now) (transactions_of c.args.txns.now)) (sym c.in_ok-fault.ensures ∙ c.in-None.is))

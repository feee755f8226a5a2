use Rattle.std.proofs.Common.{◌≡◌, ◌∙◌, length, Err, sym, ap, subst}
use Rattle.sv_app.specs.declared.refusals.Stop.TheVariants.{Refused}
use Rattle.sv_app.specs.Schema.{schema_of}
use Rattle.sv_app.specs.Trees.{transactions_of}
use Rattle.sv_workload.specs.Documents.{AreParts}
use Rattle.sv_workload.specs.Stops.{InitKept, LastKept, LastStops}
use Rattle.sv_workload.proofs.DocumentLaws.{bare_read, bare_all, no_answer, ok_map, ok_at, last_answer, stopped, refused}
use Rattle.sv_workload.proofs.LastPartLaws.{last_read, last_all, last_stopped, last_refused}
use Rattle.sv_workload.proofs.reading.read_whole.Goals as goal

kept_none : (c : goal.After-bare_parts) → InitKept (schema_of c.args.app.now.tables.items) c.args.tokens.now c.in-Ok.init 0
kept_none c = subst (λ n. InitKept (schema_of c.args.app.now.tables.items) c.args.tokens.now c.in-Ok.init n) c.if-left-eq0.true c.in-Ok.ensures.kept

pub returns-then-left-eq0-clause-read : goal.returns-then-left-eq0-clause-read
returns-then-left-eq0-clause-read c = subst (λ p. AreParts (schema_of c.args.app.now.tables.items) (transactions_of c.args.app.now.txns.items) c.args.tokens.now p) (sym c.bare_parts.ensures) (bare_read (schema_of c.args.app.now.tables.items) (transactions_of c.args.app.now.txns.items) c.args.tokens.now c.in-Ok.init (kept_none c))

pub returns-then-left-eq0-clause-all : goal.returns-then-left-eq0-clause-all
returns-then-left-eq0-clause-all c parts are = c.bare_parts.ensures ∙ bare_all (schema_of c.args.app.now.tables.items) (transactions_of c.args.app.now.txns.items) c.args.tokens.now c.in-Ok.init (kept_none c) parts are

pub returns-else-left-eq0-clause-read : goal.returns-else-left-eq0-clause-read
returns-else-left-eq0-clause-read c = ok_map c.read_last.result (λ parts f. last_read (schema_of c.args.app.now.tables.items) (transactions_of c.args.app.now.txns.items) c.args.tokens.now c.in-Ok.init c.in-Ok.left c.in-Ok.ensures.kept parts
    (subst (λ l. LastKept (schema_of c.args.app.now.tables.items) (transactions_of c.args.app.now.txns.items) c.in-Ok.init l parts) c.behind.ensures f)) c.read_last.ensures.read

pub returns-else-left-eq0-clause-all : goal.returns-else-left-eq0-clause-all
returns-else-left-eq0-clause-all c parts are = last_answer c.read_last.result parts
    (λ found e. last_all (schema_of c.args.app.now.tables.items) (transactions_of c.args.app.now.txns.items) c.args.tokens.now c.in-Ok.init c.in-Ok.left c.in-Ok.ensures.kept found (subst (λ l. LastKept (schema_of c.args.app.now.tables.items) (transactions_of c.args.app.now.txns.items) c.in-Ok.init l found) c.behind.ensures (ok_at (λ parts. LastKept (schema_of c.args.app.now.tables.items) (transactions_of c.args.app.now.txns.items) c.in-Ok.init c.behind.result.now parts) c.read_last.result found c.read_last.ensures.read e)) parts are)
    (λ refusal e. last_stopped (schema_of c.args.app.now.tables.items) (transactions_of c.args.app.now.txns.items) c.args.tokens.now c.in-Ok.init c.in-Ok.left c.in-Ok.ensures.kept c.if-left-eq0.false c.args.end refusal
    (subst (λ l. LastStops (schema_of c.args.app.now.tables.items) (transactions_of c.args.app.now.txns.items) (length c.in-Ok.init) l c.args.end refusal) c.behind.ensures (c.read_last.ensures.refused refusal e)) parts are)

pub returns-else-left-eq0-clause-refused : goal.returns-else-left-eq0-clause-refused
returns-else-left-eq0-clause-refused c refusal e = last_refused (schema_of c.args.app.now.tables.items) (transactions_of c.args.app.now.txns.items) c.args.tokens.now c.in-Ok.init c.in-Ok.left c.in-Ok.ensures.kept c.if-left-eq0.false c.args.end refusal
    (subst (λ l. LastStops (schema_of c.args.app.now.tables.items) (transactions_of c.args.app.now.txns.items) (length c.in-Ok.init) l c.args.end refusal) c.behind.ensures (c.read_last.ensures.refused refusal e))

pub returns-in-Err-clause-all : goal.returns-in-Err-clause-all
returns-in-Err-clause-all c parts are = no_answer c.in-Err.stop parts (λ refusal e.
    stopped (schema_of c.args.app.now.tables.items) (transactions_of c.args.app.now.txns.items) c.args.tokens.now c.args.end refusal (c.read_init.ensures.refused refusal (c.in-Err.is ∙ ap Err e)) parts are)

pub returns-in-Err-clause-refused : goal.returns-in-Err-clause-refused
returns-in-Err-clause-refused c refusal e =
    let stop : c.in-Err.stop ≡ Refused refusal = cc in
    refused (schema_of c.args.app.now.tables.items) (transactions_of c.args.app.now.txns.items) c.args.tokens.now c.args.end refusal
    (c.read_init.ensures.refused refusal (c.in-Err.is ∙ ap Err stop))

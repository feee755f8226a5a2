use Rattle.std.proofs.Common.{◌≡◌, ◌∙◌, All, length, ◌≤◌, Err, sym, ap, subst}
use Rattle.sv_app.specs.declared.refusals.Stop.TheVariants.{Refused}
use Rattle.sv_app.specs.Schema.{schema_of}
use Rattle.sv_effect.specs.Initial.{InitFits, AreDistinct}
use Rattle.sv_reader.specs.Places.{refusal_of}
use Rattle.sv_workload.specs.Stops.{IsBad, ByFault, ByRow}
use Rattle.sv_workload.proofs.KeptLaws.{kept, rows_fit, rows_distinct, rows_few}
use Rattle.sv_workload.proofs.checked.read_init.Goals as goal

pub check_rows-requires-clause-fits : goal.check_rows-requires-clause-fits
check_rows-requires-clause-fits c = subst (λ l. All (InitFits (schema_of c.args.app.now.tables.items)) l) (sym c.items.ensures)
    (rows_fit (schema_of c.args.app.now.tables.items) c.args.tokens.now c.in-Ok.rows c.in-Ok.left c.requires.accepted.tables c.in-Ok.ensures.read)

pub check_rows-requires-clause-distinct : goal.check_rows-requires-clause-distinct
check_rows-requires-clause-distinct c = subst (λ l. AreDistinct l) (sym c.items.ensures)
    (rows_distinct (schema_of c.args.app.now.tables.items) c.args.tokens.now c.in-Ok.rows c.in-Ok.left c.in-Ok.ensures.read)

pub check_rows-requires-clause-few : goal.check_rows-requires-clause-few
check_rows-requires-clause-few c = subst (λ l. length l ≤ 4096) (sym c.items.ensures)
    (rows_few (schema_of c.args.app.now.tables.items) c.args.tokens.now c.in-Ok.rows c.in-Ok.left c.in-Ok.ensures.read)

pub returns-in-Err-clause-refused : goal.returns-in-Err-clause-refused
returns-in-Err-clause-refused c refusal e =
    let k = kept (schema_of c.args.app.now.tables.items) c.args.tokens.now c.in-Ok.rows c.in-Ok.left c.in-Ok.ensures.read in
    let stop : c.in-Err.stop ≡ Refused refusal = cc in
    ByRow c.in-Ok.rows k.rest k.is
    (subst (λ l. IsBad (schema_of c.args.app.now.tables.items) l refusal) c.items.ensures (c.check_rows.ensures.bad refusal (c.in-Err.is ∙ ap Err stop)))

pub returns-in-Err-Faulty-clause-refused : goal.returns-in-Err-Faulty-clause-refused
returns-in-Err-Faulty-clause-refused c refusal e =
    let same : c.refusal_of.result ≡ refusal = cc in
    ByFault c.in-Err-Faulty.fault (c.in-Err-Faulty.ensures.fault c.in-Err-Faulty.fault (ap Err c.in-Err-Faulty.field-0-is)) (sym same ∙ c.refusal_of.ensures ∙ ap (refusal_of c.args.tokens.now c.args.end) c.in-Err-Faulty.fault-is)

pub returns-in-Ok-check_rows-clause-few : goal.returns-in-Ok-check_rows-clause-few
returns-in-Ok-check_rows-clause-few c = rows_few (schema_of c.args.app.now.tables.items) c.args.tokens.now c.in-Ok.rows c.in-Ok.left c.in-Ok.ensures.read

use Rattle.std.proofs.Common.{◌∙◌, sym, ap}
use Rattle.sv_app.specs.Schema.{schema_of}
use Rattle.sv_app.specs.Trees.{transactions_of}
use Rattle.sv_workload.specs.Stops.{last_from}
use Rattle.sv_workload.proofs.reading.read_last.Goals as goal

pub returns-in-Ok-clause-read : goal.returns-in-Ok-clause-read
returns-in-Ok-clause-read c = record {
  given = c.in-Ok.given;
  work = c.in-Ok.work;
  rest = c.last.new.reader.rest.now;
  read = ap (λ n. last_from (schema_of c.args.app.now.tables.items) (transactions_of c.args.app.now.txns.items) n c.args.tokens.now) (sym c.len.ensures) ∙ c.in-Ok.ensures.read;
  made = c.set_parts.ensures;
}

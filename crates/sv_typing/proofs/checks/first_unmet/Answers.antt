use Rattle.std.proofs.Common.{refl, arith}
use Rattle.sv_app.specs.Schema.{declaration_of, schema_of}
use Rattle.std.proofs.lemmas.List.{length-map}
use Rattle.sv_typing.proofs.UnmetLaws.{table_at, all_met, cycle_found}
use Rattle.sv_typing.proofs.checks.first_unmet.Goals as goal

pub returns-in-Some : goal.returns-in-Some
returns-in-Some c = record {
  number = c.loop-number.number;
  table = declaration_of c.index-tables-number.result;
  stands = table_at c.args.tables.now c.loop-number.number c.index-tables-number.result (omega (arith, c.loop-number-test.true)) c.index-tables-number.is;
  cycle = c.in-Some.cycle;
  closed = cycle_found (declaration_of c.index-tables-number.result) c.in_ok-cycle.field-0 c.in-Some.cycle c.in_ok-cycle.ensures c.in-Some.is;
  first = c.loop-number.invariant;
  is = refl;
}

pub returns : goal.returns
returns c = all_met (schema_of c.args.tables.now) c.loop-number.number (omega (arith, c.loop-number-test.false, length-map c.args.tables.now declaration_of)) c.loop-number.invariant

use Rattle.std.proofs.Common.{◌≡◌, ◌∙◌, Err, drop, sym, ap, subst, arith}
use Rattle.sv_app.specs.Schema.{schema_of}
use Rattle.sv_reader.specs.Reading.{IsLeft}
use Rattle.sv_schema_reader.specs.Reading.{schema_at}
use Rattle.sv_reader.specs.Places.{refusal_of}
use Rattle.sv_schema_reader.specs.Refused.{IsRefused}
use Rattle.sv_reader.proofs.CutLaws.{whole_drop}
use Rattle.sv_schema_reader.proofs.GrammarLaws.{grammar_of, numbers_of}
use Rattle.sv_schema_reader.proofs.LimitLaws.{limits_of}
use Rattle.sv_schema_reader.proofs.FoundLaws.{FoundAt, found_at, refused_none, refused}
use Rattle.sv_schema_reader.proofs.reading.read_schema.Goals as goal

found_here : (c : goal.In-Ok) → FoundAt c.args.tokens.now c.args.at (schema_of c.in-Ok.tables.items) c.in-Ok.left
found_here c = found_at c.args.tokens.now c.args.at (schema_of c.in-Ok.tables.items) c.in-Ok.left c.requires
    (subst (λ l. IsLeft (schema_at l) (schema_of c.in-Ok.tables.items) c.in-Ok.left) (whole_drop c.args.tokens.now c.args.at) c.in-Ok.ensures.read)

fault_here : (c : goal.After-refusal_of) → schema_at (drop c.args.at c.args.tokens.now) ≡ Err c.in-Err-Faulty.fault
fault_here c = ap schema_at (sym (whole_drop c.args.tokens.now c.args.at)) ∙ c.in-Err-Faulty.ensures.fault c.in-Err-Faulty.fault (ap Err c.in-Err-Faulty.field-0-is)

pub overflow_sub-result : goal.overflow_sub-result
overflow_sub-result c = (found_here c).fits

pub returns-in-Ok-clause-place : goal.returns-in-Ok-clause-place
returns-in-Ok-clause-place c = ((found_here c).behind, omega arith)

pub returns-in-Ok-clause-read : goal.returns-in-Ok-clause-read
returns-in-Ok-clause-read c = (found_here c).is

pub returns-in-Ok-clause-grammar : goal.returns-in-Ok-clause-grammar
returns-in-Ok-clause-grammar c = grammar_of _ _ (schema_of c.in-Ok.tables.items) (found_here c).is

pub returns-in-Ok-clause-limits : goal.returns-in-Ok-clause-limits
returns-in-Ok-clause-limits c = limits_of _ _ (schema_of c.in-Ok.tables.items) (found_here c).is

pub returns-in-Ok-clause-invariants : goal.returns-in-Ok-clause-invariants
returns-in-Ok-clause-invariants c = numbers_of _ _ (schema_of c.in-Ok.tables.items) (found_here c).is

pub returns-in-Ok-clause-all : goal.returns-in-Ok-clause-all
returns-in-Ok-clause-all c = (found_here c).all

pub returns-in-Err-Faulty-clause-all : goal.returns-in-Err-Faulty-clause-all
returns-in-Err-Faulty-clause-all c front rest ts whole written small ends =
    refused_none (drop c.args.at c.args.tokens.now) front rest ts c.in-Err-Faulty.fault (fault_here c) whole written small ends

pub returns-in-Err-Faulty-clause-refused : goal.returns-in-Err-Faulty-clause-refused
returns-in-Err-Faulty-clause-refused c refusal e =
    let is : c.refusal_of.result ≡ refusal = cc in
    subst (λ r. IsRefused (drop c.args.at c.args.tokens.now) c.args.end r)
    (ap (λ l. refusal_of l c.args.end c.in-Err-Faulty.fault) (sym (whole_drop c.args.tokens.now c.args.at)) ∙ sym c.refusal_of.ensures ∙ is)
    (refused (drop c.args.at c.args.tokens.now) c.args.end c.in-Err-Faulty.fault (fault_here c))

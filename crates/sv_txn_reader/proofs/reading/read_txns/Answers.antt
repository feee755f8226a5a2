use Rattle.std.proofs.Common.{◌≡◌, ◌∙◌, ◌-◌, Err, length, drop, sym, ap, subst, arith}
use Rattle.sv_app.specs.Trees.{transactions_of}
use Rattle.sv_reader.specs.Places.{refusal_of}
use Rattle.sv_reader.proofs.CutLaws.{whole_drop}
use Rattle.sv_reader.specs.Reading.{IsLeft}
use Rattle.sv_txn_reader.specs.Reading.{txns_at}
use Rattle.sv_txn_reader.specs.Refused.{IsRefused}
use Rattle.sv_txn_reader.proofs.FoundLaws.{FoundAt, found_at, refused, refused_none}
use Rattle.sv_txn_reader.proofs.KeptLaws.{read_grammar, read_limits}
use Rattle.sv_txn_reader.proofs.reading.read_txns.Goals as goal

found_here : (c : goal.In-Ok) → FoundAt c.args.tokens.now c.args.at (transactions_of c.in-Ok.txns.items) c.in-Ok.left
found_here c = found_at c.args.tokens.now c.args.at (transactions_of c.in-Ok.txns.items) c.in-Ok.left c.requires
    (subst (λ l. IsLeft (txns_at l) (transactions_of c.in-Ok.txns.items) c.in-Ok.left) (whole_drop c.args.tokens.now c.args.at) c.in-Ok.ensures.read)

fault_here : (c : goal.After-refusal_of) → txns_at (drop c.args.at c.args.tokens.now) ≡ Err c.in-Err-Faulty.fault
fault_here c = ap txns_at (sym (whole_drop c.args.tokens.now c.args.at)) ∙ c.in-Err-Faulty.ensures.fault c.in-Err-Faulty.fault (ap Err c.in-Err-Faulty.field-0-is)

pub overflow_sub-result : goal.overflow_sub-result
overflow_sub-result c = (found_here c).fits

pub returns-in-Ok-clause-place : goal.returns-in-Ok-clause-place
returns-in-Ok-clause-place c = ((found_here c).behind, omega arith)

pub returns-in-Ok-clause-read : goal.returns-in-Ok-clause-read
returns-in-Ok-clause-read c = (found_here c).is

pub returns-in-Ok-clause-grammar : goal.returns-in-Ok-clause-grammar
returns-in-Ok-clause-grammar c = read_grammar (transactions_of c.in-Ok.txns.items) _ _ (found_here c).is

pub returns-in-Ok-clause-limits : goal.returns-in-Ok-clause-limits
returns-in-Ok-clause-limits c = read_limits (transactions_of c.in-Ok.txns.items) _ _ (found_here c).is

pub returns-in-Ok-clause-all : goal.returns-in-Ok-clause-all
returns-in-Ok-clause-all c = (found_here c).all

pub returns-in-Err-Faulty-clause-all : goal.returns-in-Err-Faulty-clause-all
returns-in-Err-Faulty-clause-all c ts rest are = refused_none (drop c.args.at c.args.tokens.now) ts rest c.in-Err-Faulty.fault (fault_here c) are

pub returns-in-Err-Faulty-clause-refused : goal.returns-in-Err-Faulty-clause-refused
returns-in-Err-Faulty-clause-refused c refusal e =
    let is : c.refusal_of.result ≡ refusal = cc in
    subst (λ r. IsRefused (drop c.args.at c.args.tokens.now) c.args.end r)
    (ap (λ l. refusal_of l c.args.end c.in-Err-Faulty.fault) (sym (whole_drop c.args.tokens.now c.args.at)) ∙ sym c.refusal_of.ensures ∙ is)
    (refused (drop c.args.at c.args.tokens.now) c.args.end c.in-Err-Faulty.fault (fault_here c))

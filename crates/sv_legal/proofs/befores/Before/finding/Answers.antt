use Rattle.std.proofs.Common.{sym, subst}
use Rattle.std.specs.Prelude.{IfOk}
use Rattle.sv_legal.specs.Before.{doc_of, past_of}
use Rattle.sv_legal.specs.Findings.{IsFinding}
use Rattle.sv_legal.proofs.befores.Before.finding.Goals as goal

pub returns-in-Answer : goal.returns-in-Answer
returns-in-Answer c = subst (λ e. IfOk c.answer.result (IsFinding (doc_of c.args.self.now) (past_of c.args.self.now) e)) (sym c.in-Answer.is) c.answer.ensures

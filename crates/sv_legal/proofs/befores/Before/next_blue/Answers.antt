use Rattle.std.proofs.Common.{ap, ◌∙◌, arith, length}
use Rattle.std.specs.Prelude.{map}
use Rattle.sv_legal.specs.Before.{doc_of, past_of}
use Rattle.sv_legal.proofs.ToldLaws.{told_long}
use Rattle.sv_legal.proofs.befores.Before.next_blue.Goals as goal

pub overflow_cast-seq : goal.overflow_cast-seq
overflow_cast-seq c = omega (arith, ap length (c.list_of.ensures ∙ c.requires.are c.number.result), told_long (doc_of c.args.self.now) (past_of c.args.self.now) (map (λ ops. ops.items) c.args.self.now.published.now) c.requires c.number.result)

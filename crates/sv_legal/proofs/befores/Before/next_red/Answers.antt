use Rattle.std.proofs.Common.{ap, ◌∙◌, arith, length}
use Rattle.std.specs.Prelude.{map}
use Rattle.sv_legal.specs.Before.{doc_of, past_of}
use Rattle.sv_legal.proofs.ToldLaws.{told_long}
use Rattle.sv_legal.proofs.befores.Before.next_red.Goals as goal

pub overflow_cast-slot : goal.overflow_cast-slot
overflow_cast-slot c = omega (arith, ap length (c.list_of.ensures ∙ c.requires.are 0), told_long (doc_of c.args.self.now) (past_of c.args.self.now) (map (λ ops. ops.items) c.args.self.now.published.now) c.requires 0)

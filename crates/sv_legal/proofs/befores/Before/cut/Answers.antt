use Rattle.std.specs.Prelude.{map}
use Rattle.sv_legal.specs.Before.{doc_of, past_of}
use Rattle.sv_legal.proofs.ToldLaws.{told_fits}
use Rattle.sv_legal.proofs.befores.Before.cut.Goals as goal

pub cut_of-requires : goal.cut_of-requires
cut_of-requires c = told_fits (doc_of c.args.self.now) (past_of c.args.self.now) (map (λ ops. ops.items) c.args.self.now.published.now) c.requires c.args.site

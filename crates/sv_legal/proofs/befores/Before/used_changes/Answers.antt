use Rattle.std.proofs.Common.{◌≡◌, ◌+◌, ◌≤◌, length, sym, ap, ◌∙◌, arith}
use Rattle.std.specs.Prelude.{map}
use Rattle.sv_legal.specs.Before.{doc_of, past_of}
use Rattle.sv_legal.proofs.ToldLaws.{changes_are, changes_short}
use Rattle.sv_legal.proofs.befores.Before.used_changes.Goals as goal

pub all_changes-requires : goal.all_changes-requires
all_changes-requires c = changes_short (doc_of c.args.self.now) (past_of c.args.self.now) (map (λ ops. ops.items) c.args.self.now.published.now) c.requires

pub overflow_cast-result : goal.overflow_cast-result
overflow_cast-result c = omega (arith, c.all_changes.ensures, changes_short (doc_of c.args.self.now) (past_of c.args.self.now) (map (λ ops. ops.items) c.args.self.now.published.now) c.requires)

pub returns : goal.returns
returns c = c.all_changes.ensures ∙ changes_are (doc_of c.args.self.now) (past_of c.args.self.now) (map (λ ops. ops.items) c.args.self.now.published.now) c.requires

use Rattle.std.proofs.Common.{◌+◌, ◌∙◌, arith}
use Rattle.std.specs.Prelude.{map}
use Rattle.sv_legal.specs.Before.{doc_of, past_of}
use Rattle.sv_legal.proofs.ToldLaws.{rows_are, rows_short, used_rows}
use Rattle.sv_legal.proofs.befores.Before.used_rows.Goals as goal

pub all_inserts-requires : goal.all_inserts-requires
all_inserts-requires c = rows_short (doc_of c.args.self.now) (past_of c.args.self.now) (map (λ ops. ops.items) c.args.self.now.published.now) c.requires

pub overflow_add-result : goal.overflow_add-result
overflow_add-result c = omega (arith, c.len.ensures, c.all_inserts.ensures, used_rows (doc_of c.args.self.now) (past_of c.args.self.now) (map (λ ops. ops.items) c.args.self.now.published.now) c.requires)

pub overflow_cast-result : goal.overflow_cast-result
overflow_cast-result c = omega (arith, c.len.ensures, c.all_inserts.ensures, used_rows (doc_of c.args.self.now) (past_of c.args.self.now) (map (λ ops. ops.items) c.args.self.now.published.now) c.requires, c.requires.lawful.sound.rows)

pub returns : goal.returns
returns c = λ i. c.len.ensures i + (c.all_inserts.ensures ∙ rows_are (doc_of c.args.self.now) (past_of c.args.self.now) (map (λ ops. ops.items) c.args.self.now.published.now) c.requires) i

use Rattle.std.proofs.Common.{◌≡◌, length, ◌∙◌, arith, rules}
use Rattle.std.specs.Prelude.{map}
use Rattle.sv_value.specs.Cuts.{counts}
use Rattle.sv_core.specs.Clock.{latest_in}
use Rattle.sv_core.specs.History.{cut_of, published}
use Rattle.sv_legal.specs.Before.{doc_of, past_of}
use Rattle.sv_legal.proofs.FindingLaws.{op_is}
use Rattle.sv_legal.proofs.ToldLaws.{latest_is, latest_short}
use Rattle.sv_legal.proofs.befores.Before.op.Goals as goal

pub overflow_add-result : goal.overflow_add-result
overflow_add-result c =
    let latest : c.latest_in.result ≡ latest_in (published (doc_of c.args.self.now) (past_of c.args.self.now)) (cut_of (past_of c.args.self.now) c.args.asked.now.site) =
    c.latest_in.ensures ∙ latest_is (doc_of c.args.self.now) (past_of c.args.self.now) (map (λ ops. ops.items) c.args.self.now.published.now) c.args.asked.now.site (counts c.cut-now.result) c.requires.told c.cut-now.ensures in
    omega (arith, latest, latest_short (doc_of c.args.self.now) (past_of c.args.self.now) c.args.asked.now.site c.requires.told.lawful)

pub returns : goal.returns
returns c =
    let latest : c.latest_in.result ≡ latest_in (published (doc_of c.args.self.now) (past_of c.args.self.now)) (cut_of (past_of c.args.self.now) c.args.asked.now.site) =
    c.latest_in.ensures ∙ latest_is (doc_of c.args.self.now) (past_of c.args.self.now) (map (λ ops. ops.items) c.args.self.now.published.now) c.args.asked.now.site (counts c.cut-now.result) c.requires.told c.cut-now.ensures in
    let long : length c.cut_at-deps.result.blue ≡ 8 = search rules in
    op_is (doc_of c.args.self.now) (past_of c.args.self.now) c.args.asked.now.session c.args.asked.now.index c.args.asked.now.request.now c.args.asked.now.site c.args.asked.now.at c.latest_in.result c.cut_at-deps.result c.args.p
    c.requires.prepared c.requires.some latest long c.cut_at-deps.ensures

use Rattle.std.proofs.Common.{◌≡◌, ◌&&◌, ◌∙◌, rules}
use Rattle.std.specs.Prelude.{count_by}
use Rattle.sv_core.specs.History.{is_answer, is_of}
use Rattle.sv_legal.proofs.PastLaws.{count_reverse}
use Rattle.sv_legal.proofs.counts.answered.Goals as goal

pub returns : goal.returns
returns c =
    let counted : c.count.result ≡ count_by (λ e. is_answer e && is_of c.args.session e) c.args.history.now = search rules in
    counted ∙ count_reverse (λ e. is_answer e && is_of c.args.session e) c.args.history.now

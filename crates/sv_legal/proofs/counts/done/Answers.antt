use Rattle.std.proofs.Common.{◌≡◌, ◌∙◌, rules}
use Rattle.std.specs.Prelude.{count_by}
use Rattle.sv_core.specs.History.{is_of}
use Rattle.sv_legal.proofs.PastLaws.{done_reverse}
use Rattle.sv_legal.proofs.counts.done.Goals as goal

pub returns : goal.returns
returns c =
    let counted : c.count.result ≡ count_by (is_of c.args.session) c.args.history.now = search rules in
    counted ∙ done_reverse c.args.session c.args.history.now

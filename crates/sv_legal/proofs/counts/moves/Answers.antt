use Rattle.std.proofs.Common.{◌≡◌, ◌∙◌, rules}
use Rattle.std.specs.Prelude.{count_by}
use Rattle.sv_core.specs.History.{is_move}
use Rattle.sv_legal.proofs.PastLaws.{count_reverse}
use Rattle.sv_legal.proofs.counts.moves.Goals as goal

pub returns : goal.returns
returns c =
    let counted : c.count.result ≡ count_by is_move c.args.history.now = search rules in
    counted ∙ count_reverse is_move c.args.history.now

use Rattle.std.proofs.Common.{◌+◌}
use Rattle.sv_legal.proofs.PastLaws.{before_fits}
use Rattle.sv_legal.proofs.counts.seen_of.Goals as goal

pub cut_of-requires : goal.cut_of-requires
cut_of-requires c = λ o. before_fits c.args.history.now (c.loop-place.place + 1) c.in-Some.site o c.requires

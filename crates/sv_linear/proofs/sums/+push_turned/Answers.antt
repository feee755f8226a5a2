use Rattle.std.proofs.Common.{rules}
use Rattle.sv_linear.proofs.OrderLaws.{later_slice}
use Rattle.sv_linear.proofs.sums.+push_turned.Goals as goal

pub push_turned-requires : goal.push_turned-requires
push_turned-requires t c = (search rules, later_slice c.args.terms.now c.in-len1-up.len_at_least c.requires)

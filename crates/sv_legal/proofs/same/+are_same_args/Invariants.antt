use Rattle.std.proofs.Common.{length}
use Rattle.sv_legal.proofs.same.+are_same_args.Given as goal

abbrev pub decreases-are_same_args : goal.decreases-are_same_args
decreases-are_same_args l = length l.args.now

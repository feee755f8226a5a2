use Rattle.std.proofs.Common.{length}
use Rattle.sv_calls.proofs.fitting.+check_args.Given as goal

abbrev pub decreases-check_args : goal.decreases-check_args
decreases-check_args l = length l.params.now

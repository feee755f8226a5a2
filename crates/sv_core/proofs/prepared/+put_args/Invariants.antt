use Rattle.std.proofs.Common.{length}
use Rattle.sv_core.proofs.prepared.+put_args.Given as goal

abbrev pub decreases-put_args : goal.decreases-put_args
decreases-put_args l = length l.args.now

use Rattle.std.proofs.Common.{length}
use Rattle.sv_interp.proofs.needs.+add_rules.Given as goal

abbrev pub decreases-add_rules : goal.decreases-add_rules
decreases-add_rules l = length l.invs.now

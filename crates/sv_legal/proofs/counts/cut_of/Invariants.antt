use Rattle.std.proofs.Common.{◌≡◌, ℕ, take, reverse}
use Rattle.sv_value.specs.Cuts.{counts}
use Rattle.sv_core.specs.History.{cut_of}
use Rattle.sv_legal.proofs.counts.cut_of.Given as goal

abbrev pub invariant-loop-entry : goal.invariant-loop-entry
invariant-loop-entry l = (o : ℕ) → counts l.cut o ≡ cut_of (reverse (take l.entry-index l.history)) l.site o

use Rattle.std.proofs.Common.{◌≡◌, ℕ, take, reverse}
use Rattle.sv_value.specs.Cuts.{counts}
use Rattle.sv_core.specs.History.{seen_of}
use Rattle.sv_legal.proofs.counts.seen_of.Given as goal

abbrev pub invariant-loop-place : goal.invariant-loop-place
invariant-loop-place l = (o : ℕ) → counts l.seen o ≡ seen_of (reverse (take l.place l.history)) l.session o

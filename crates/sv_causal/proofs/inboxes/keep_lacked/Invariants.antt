use Rattle.std.proofs.Common.{◌≡◌}
use Rattle.circular_buffer.specs.Buffer.{buffer}
use Rattle.sv_value.specs.Cuts.{counts}
use Rattle.sv_causal.specs.Inboxes.{lacks}
use Rattle.sv_causal.proofs.PassLaws.{passed}
use Rattle.sv_causal.proofs.inboxes.keep_lacked.Given as goal

abbrev pub invariant-loop : goal.invariant-loop
invariant-loop l = record { items : l.packets ≡ buffer (passed (lacks (counts l.cut)) l.initial.packets.items l.counter) l.initial.packets.capacity }

use Rattle.std.proofs.Common.{◌≡◌}
use Rattle.circular_buffer.specs.Buffer.{buffer}
use Rattle.sv_causal.proofs.PassLaws.{turned}
use Rattle.sv_causal.proofs.inboxes.turn.Given as goal

abbrev pub invariant-loop : goal.invariant-loop
invariant-loop l = record { items : l.packets ≡ buffer (turned l.initial.packets.items l.counter) l.initial.packets.capacity }

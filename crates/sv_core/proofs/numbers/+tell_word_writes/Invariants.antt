use Rattle.std.proofs.Common.{length}
use Rattle.sv_core.proofs.numbers.+tell_word_writes.Given as goal

abbrev pub decreases-tell_word_writes : goal.decreases-tell_word_writes
decreases-tell_word_writes l = length l.writes.now

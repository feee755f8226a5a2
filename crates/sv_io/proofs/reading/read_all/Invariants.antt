use Rattle.std.proofs.Common.{◌≤◌, ◌+◌, ◌-◌, vec_len}
use Rattle.std.specs.Io.KnownBytes.{Consumes}
use Rattle.sv_io.specs.Flows.{most_bytes}
use Rattle.sv_io.proofs.reading.read_all.Given as goal

abbrev pub invariant-loop-piece : goal.invariant-loop-piece
invariant-loop-piece g l = record {
  consumed : Consumes (g.S.Source.left l.initial.input) (g.S.Source.left l.input) l.bytes.items;
  later : g.S.Source.faults l.initial.input ≤ g.S.Source.faults l.input;
  few : vec_len l.bytes ≤ most_bytes + 1;
}

abbrev pub decreases-loop-piece : goal.decreases-loop-piece
decreases-loop-piece g l = most_bytes + 1 - vec_len l.bytes

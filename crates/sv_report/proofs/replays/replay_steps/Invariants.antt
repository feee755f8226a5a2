use Rattle.std.proofs.Common.{◌≡◌, length}
use Rattle.std.specs.Vec.Iter.{into_iter_items, into_iter_len}
use Rattle.sv_report.specs.Steps.{StandsBefore}
use Rattle.sv_report.proofs.replays.replay_steps.Given as goal

abbrev pub invariant-loop-step : goal.invariant-loop-step
invariant-loop-step l = record {
  next : (goal.iterator-loop-step).can_next l.step-iterator;
  finite : (goal.iterator-loop-step).is_finite l.step-iterator;
  long : into_iter_len l.step-iterator ≡ length (into_iter_items l.step-iterator);
  stands : StandsBefore l.initial.out.items l.initial.w (into_iter_items l.initial.step-iterator) l.out.items l.w (into_iter_items l.step-iterator);
}

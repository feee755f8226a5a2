use Rattle.std.proofs.Common.{◌≡◌, ◌≤◌, take}
use Rattle.sv_workload.specs.LastRefused.{total}
use Rattle.sv_workload.specs.PartsFit.{step_moves}
use Rattle.sv_tool.proofs.replays.moves_in.Given as goal

abbrev pub invariant-loop-step : goal.invariant-loop-step
invariant-loop-step l = record {
  counted : l.count ≡ total step_moves (take l.step-index l.steps);
  few : l.count ≤ l.step-index;
}

use Rattle.std.proofs.Common.{◌*◌, ◌+◌, drop, None}
use Rattle.sv_app.specs.Trees.{command_of, block_of}
use Rattle.sv_app.specs.Weights.{command_weight, block_weight}
use Rattle.sv_interp.specs.Keeping.{Turns, Keeps}
use Rattle.sv_interp.specs.Machine.{setting_of, Reaches}
use Rattle.sv_interp.specs.Turning.{turn_in}
use Rattle.sv_interp.proofs.runs.+run.Given as goal

abbrev pub decreases-run_all : goal.decreases-run_all
decreases-run_all g l = block_weight (block_of l.stmts.now) * 8

abbrev pub decreases-run_one : goal.decreases-run_one
decreases-run_one g l = command_weight (command_of l.stmt.now) * 8

abbrev pub decreases-run_inside : goal.decreases-run_inside
decreases-run_inside g l = block_weight (block_of l.body.now) * 8 + 1

abbrev pub decreases-run_turn : goal.decreases-run_turn
decreases-run_turn g l = block_weight (block_of l.body.now) * 8 + 2

abbrev pub decreases-run_turns : goal.decreases-run_turns
decreases-run_turns g l = block_weight (block_of l.body.now) * 8 + 3

abbrev pub decreases-run_loop : goal.decreases-run_loop
decreases-run_loop g l = block_weight (block_of l.body.now) * 8 + 4

abbrev pub invariant-run_turns-loop-turn : goal.invariant-run_turns-loop-turn
invariant-run_turns-loop-turn g l = record {
  ran : Reaches l.all (drop l.turn-index l.all) (turn_in (setting_of l.setting) (block_of l.body)) (g.R.Rows.face l.fn.rows) (g.R.Rows.face l.rows) (g.R.Rows.noted l.fn.rows) (g.R.Rows.noted l.rows) l.fn.state l.state;
  kept : Keeps (g.R.Rows.is_of l.fn.rows) (setting_of l.setting) (Turns l.all (block_of l.body)) l.fn.state None l.state;
  stays : g.R.Rows.stays l.fn.rows l.rows;
}

use Rattle.std.proofs.Common.{◌≡◌, true, false, refl, subst, rules}
use Rattle.std.specs.Option.{option_map}
use Rattle.std.specs.Prelude.{IfSome}
use Rattle.sv_app.specs.Trees.{command_of, block_of, test_of}
use Rattle.sv_app.specs.Units.{unit_of}
use Rattle.sv_interp.specs.declared.states.State.{State}
use Rattle.sv_interp.specs.Machine.{setting_of}
use Rattle.sv_interp.specs.Turning.{turn_in, AreRowTurns}
use Rattle.sv_interp.proofs.TurnLaws.{rows_run, each_runs}
use Rattle.sv_interp.proofs.RunLaws.{quiet_command, turns_step, turns_stop}
use Rattle.sv_interp.proofs.KeepLaws.{keeps_then, keeps_declare, keeps_assign, keeps_reply, keeps_yes, keeps_no, keeps_turn, turns_more, keeps_for, keeps_each}
use Rattle.sv_interp.proofs.runs.+run.Goals as goal

pub run_one-returns-in_ok-end-in-Let-clause-ran : goal.run_one-returns-in_ok-end-in-Let-clause-ran
run_one-returns-in_ok-end-in-Let-clause-ran g t c = quiet_command _ _ _ _ _ _ _ _ _ _ c.in-Let.ensures refl refl c.in_ok-end-in-Let.ensures

pub run_one-returns-in_ok-end-in-Assign-clause-ran : goal.run_one-returns-in_ok-end-in-Assign-clause-ran
run_one-returns-in_ok-end-in-Assign-clause-ran g t c = quiet_command _ _ _ _ _ _ _ _ _ _ c.in-Assign.ensures refl refl c.in_ok-end-in-Assign.ensures

pub run_one-returns-in_ok-end-in-Reply-clause-ran : goal.run_one-returns-in_ok-end-in-Reply-clause-ran
run_one-returns-in_ok-end-in-Reply-clause-ran g t c = quiet_command _ _ _ _ _ _ _ _ _ _ c.in-Reply.ensures refl refl c.in_ok-end-in-Reply.ensures

pub run_one-returns-in_ok-end-in-Let-clause-kept : goal.run_one-returns-in_ok-end-in-Let-clause-kept
run_one-returns-in_ok-end-in-Let-clause-kept g t c = keeps_declare _ _ _ _ _ _ _ _ c.in-Let.ensures c.in_ok-end-in-Let.ensures

pub run_one-returns-in_ok-end-in-Assign-clause-kept : goal.run_one-returns-in_ok-end-in-Assign-clause-kept
run_one-returns-in_ok-end-in-Assign-clause-kept g t c = keeps_assign _ _ _ _ _ _ _ _ c.in-Assign.ensures c.in_ok-end-in-Assign.ensures

pub run_one-returns-in_ok-end-in-Reply-clause-kept : goal.run_one-returns-in_ok-end-in-Reply-clause-kept
run_one-returns-in_ok-end-in-Reply-clause-kept g t c = keeps_reply _ _ _ _ _ _ _ c.in-Reply.ensures c.in_ok-end-in-Reply.ensures

pub run_all-returns-in_ok-end-in-None-2-clause-kept : goal.run_all-returns-in_ok-end-in-None-2-clause-kept
run_all-returns-in_ok-end-in-None-2-clause-kept g t c =
    keeps_then _ _ (setting_of c.args.setting.now) (block_of c.args.stmts.now) (command_of c.in-Some.first.now) (block_of c.in-Some.rest.now) c.args.state.now c.run_one.new.state c.run_all.new.state
    c.in_ok-run_one-in-Some.field-0 c.in_ok-end-in-None-2.end c.in-Some.ensures c.in_ok-run_one-in-Some.ensures.kept c.in-None-2.is
    (λ schema. g.met.R.Rows.stays_laws.same_app _ _ schema c.in_ok-run_one-in-Some.ensures.asked.stays) c.in_ok-end-in-None-2.ensures.kept

pub run_turns-returns-in-Some-clause-ran : goal.run_turns-returns-in-Some-clause-ran
run_turns-returns-in-Some-clause-ran g t c =
    turns_stop c.args.all.now (turn_in (setting_of c.args.setting.now) (block_of c.args.body.now)) c.loop-turn.turn-index _ c.turn-item.result _ _ _ _ _ _
    c.args.state.now c.loop-turn.state c.run_turn.new.state c.in_ok-run_turn.field-0 c.in-Some.end
    c.loop-turn.invariant.ran c.loop-turn-test.true c.turn-item.is c.in_ok-run_turn.ensures.ran c.in-Some.is

pub run_turns-loop-turn-preserved : goal.run_turns-loop-turn-preserved
run_turns-loop-turn-preserved g t c = record {
  ran = turns_step c.args.all.now (turn_in (setting_of c.args.setting.now) (block_of c.args.body.now)) c.loop-turn.turn-index _ c.turn-item.result _ _ _ _ _ _
      c.args.state.now c.loop-turn.state c.run_turn.new.state c.in_ok-run_turn.field-0
      c.loop-turn.invariant.ran c.loop-turn-test.true c.turn-item.is c.in_ok-run_turn.ensures.ran c.in-None.is;
  kept = turns_more _ _ (setting_of c.args.setting.now) c.args.all.now (block_of c.args.body.now) c.loop-turn.turn-index _ c.turn-item.result c.args.state.now c.loop-turn.state c.run_turn.new.state c.in_ok-run_turn.field-0
      c.loop-turn.invariant.kept c.loop-turn-test.true c.turn-item.is (λ schema. g.met.R.Rows.stays_laws.same_app _ _ schema c.loop-turn.invariant.stays) c.in_ok-run_turn.ensures.kept c.in-None.is;
  stays = g.met.R.Rows.stays_laws.both _ _ _ c.loop-turn.invariant.stays c.in_ok-run_turn.ensures.asked.stays;
}

pub run_turn-returns-in_ok-end-in-Some-clause-kept : goal.run_turn-returns-in_ok-end-in-Some-clause-kept
run_turn-returns-in_ok-end-in-Some-clause-kept g t c =
    keeps_turn _ _ (setting_of c.args.setting.now) c.args.turn.now (block_of c.args.body.now) c.args.state.now c.begin_turn.new.state c.run_inside.new.state c.in_ok-begin_turn.field-0 c.in-Some.outer c.in_ok-end-in-Some.end
    c.in_ok-begin_turn.ensures.begun c.in-Some.is (λ schema. g.met.R.Rows.stays_laws.same_app _ _ schema c.in_ok-begin_turn.ensures.asked.stays) c.in_ok-end-in-Some.ensures.kept

pub run_one-returns-in_ok-end-in-Some-clause-kept : goal.run_one-returns-in_ok-end-in-Some-clause-kept
run_one-returns-in_ok-end-in-Some-clause-kept g t c =
    let here : c.in-Some.holds ≡ true = search rules in
    let u : State = record c.args.state.now { scope = c.truth.new.scope } in
    keeps_yes _ (setting_of c.args.setting.now) (command_of c.args.stmt.now) (test_of c.in-If.cond.now) (block_of c.in-If.yes.now) (block_of c.in-If.no.now) c.args.state.now u c.run_all.new.state c.in_ok-truth-in-If.field-0 c.in-Some.holds c.in_ok-end-in-Some.end
    c.in-If.ensures c.in_ok-truth-in-If.ensures c.in-Some.is here refl c.in_ok-end-in-Some.ensures.kept

pub run_one-returns-in_ok-end-in-Some-2-clause-kept : goal.run_one-returns-in_ok-end-in-Some-2-clause-kept
run_one-returns-in_ok-end-in-Some-2-clause-kept g t c =
    let here : c.in-Some.holds ≡ false = search rules in
    let u : State = record c.args.state.now { scope = c.truth.new.scope } in
    keeps_no _ (setting_of c.args.setting.now) (command_of c.args.stmt.now) (test_of c.in-If.cond.now) (block_of c.in-If.yes.now) (block_of c.in-If.no.now) c.args.state.now u c.run_all-else-holds.new.state c.in_ok-truth-in-If.field-0 c.in-Some.holds c.in_ok-end-in-Some-2.end
    c.in-If.ensures c.in_ok-truth-in-If.ensures c.in-Some.is here refl c.in_ok-end-in-Some-2.ensures.kept

pub run_one-returns-in_ok-end-in-Some-2-2-clause-ran : goal.run_one-returns-in_ok-end-in-Some-2-2-clause-ran
run_one-returns-in_ok-end-in-Some-2-2-clause-ran g t c =
    let same : c.items.result.now ≡ c.in-Some-2.turns = search rules in
    rows_run (setting_of c.args.setting.now) (command_of c.args.stmt.now) c.in-Rows.row c.in-Rows.table (option_map test_of c.in-Rows.cond.now) (block_of c.in-Rows.body.now) _ _ _ _ _ _
    c.args.state.now c.deref.result.now _ c.in_ok-row_turns-in-Rows.field-0 c.in-Some-2.turns c.items.result.now c.in_ok-end-in-Some-2-2.end c.run_loop.new.state
    c.in-Rows.ensures c.in_ok-row_turns-in-Rows.ensures.followed c.deref.ensures.value c.in_ok-scratch-in-Rows.ensures c.in-Some-2.is same c.in_ok-end-in-Some-2-2.ensures.ran

pub run_one-returns-in_ok-end-in-Some-2-2-clause-kept : goal.run_one-returns-in_ok-end-in-Some-2-2-clause-kept
run_one-returns-in_ok-end-in-Some-2-2-clause-kept g t c =
    let same : c.items.result.now ≡ c.in-Some-2.turns = search rules in
    let unit = unit_of (setting_of c.args.setting.now).loops c.in-Rows.row.num in
    let kind : AreRowTurns unit c.in-Rows.row.num c.in-Rows.table.num c.in-Some-2.turns =
    subst (λ q. IfSome q (AreRowTurns unit c.in-Rows.row.num c.in-Rows.table.num)) c.in-Some-2.is c.in_ok-row_turns-in-Rows.ensures.kind in
    keeps_for _ _ (setting_of c.args.setting.now) (command_of c.args.stmt.now) c.in-Rows.row c.in-Rows.table (option_map test_of c.in-Rows.cond.now) (block_of c.in-Rows.body.now) c.in-Some-2.turns c.items.result.now c.args.state.now c.run_loop.new.state c.in_ok-end-in-Some-2-2.end
    c.in-Rows.ensures kind same (λ schema. g.met.R.Rows.stays_laws.same_app _ _ schema c.in_ok-row_turns-in-Rows.ensures.asked.stays) c.in_ok-end-in-Some-2-2.ensures.kept

pub run_one-returns-in_ok-end-in-Each-clause-ran : goal.run_one-returns-in_ok-end-in-Each-clause-ran
run_one-returns-in_ok-end-in-Each-clause-ran g t c =
    let same : c.items-in-Each.result.now ≡ c.in_ok-turns-in-Each.turns = search rules in
    each_runs (setting_of c.args.setting.now) (command_of c.args.stmt.now) c.in-Each.var c.in-Each.list (block_of c.in-Each.body.now) _ _ _ _
    c.args.state.now c.in_ok-turns-in-Each.turns c.items-in-Each.result.now c.in_ok-end-in-Each.end c.run_loop-in-Each.new.state
    c.in-Each.ensures c.in_ok-turns-in-Each.ensures same c.in_ok-end-in-Each.ensures.ran

pub run_one-returns-in_ok-end-in-Each-clause-kept : goal.run_one-returns-in_ok-end-in-Each-clause-kept
run_one-returns-in_ok-end-in-Each-clause-kept g t c =
    let same : c.items-in-Each.result.now ≡ c.in_ok-turns-in-Each.turns = search rules in
    keeps_each _ (setting_of c.args.setting.now) (command_of c.args.stmt.now) c.in-Each.var c.in-Each.list (block_of c.in-Each.body.now) c.in_ok-turns-in-Each.turns c.items-in-Each.result.now c.args.state.now c.run_loop-in-Each.new.state c.in_ok-end-in-Each.end
    c.in-Each.ensures c.in_ok-turns-in-Each.ensures same c.in_ok-end-in-Each.ensures.kept

use Rattle.sv_app.specs.Schema.{schema_of}
use Rattle.sv_app.specs.Trees.{block_of}
use Rattle.sv_effect.specs.Run.{ran_of}
use Rattle.sv_interp.proofs.ResultLaws.{whole_fits, ended_fits, empty_after}
use Rattle.sv_interp.proofs.TxnLaws.{made_whole, made_ended}
use Rattle.sv_interp.proofs.txns.run_body.Goals as goal

pub returns-in-Some-clause-followed : goal.returns-in-Some-clause-followed
returns-in-Some-clause-followed g c =
    made_ended (schema_of c.args.setting.now.tables.now) c.args.setting.now.loops.now (block_of c.args.body.now) c.args.setting.now.args.now c.args.setting.now.first _ _ _ _ c.in_ok-state.state c.in_ok-outcome.field-0 c.run_all.new.state c.in-Some.outcome (ran_of c.ended-ran.result)
    c.requires.loops c.in_ok-state.ensures c.in_ok-outcome.ensures.ran c.in-Some.is c.ended-ran.ensures.result

pub returns-in_ok-ran-in-None-clause-followed : goal.returns-in_ok-ran-in-None-clause-followed
returns-in_ok-ran-in-None-clause-followed g c =
    made_whole (schema_of c.args.setting.now.tables.now) c.args.setting.now.loops.now (block_of c.args.body.now) c.args.setting.now.args.now c.args.setting.now.first _ _ _ _ c.in_ok-state.state c.in_ok-outcome.field-0 c.run_all.new.state (ran_of c.in_ok-ran-in-None.ran)
    c.requires.loops c.in_ok-state.ensures c.in_ok-outcome.ensures.ran c.in-None.is c.in_ok-ran-in-None.ensures.result

pub returns-in-Some-clause-fits : goal.returns-in-Some-clause-fits
returns-in-Some-clause-fits g c = λ f of is. ended_fits c.in-Some.outcome c.ended-ran.result c.ended-ran.ensures.result f

pub returns-in_ok-ran-in-None-clause-fits : goal.returns-in_ok-ran-in-None-clause-fits
returns-in_ok-ran-in-None-clause-fits g c =
    whole_fits _ (schema_of c.args.setting.now.tables.now) c.args.setting.now.loops.now (block_of c.args.body.now) c.args.setting.now.args.now c.args.setting.now.first c.in_ok-state.state c.run_all.new.state c.in_ok-outcome.field-0 c.in_ok-ran-in-None.ran
    c.requires.loops c.in_ok-state.ensures c.in_ok-outcome.ensures.kept c.in-None.is c.in_ok-ran-in-None.ensures.result

pub returns-in-Some-clause-empty : goal.returns-in-Some-clause-empty
returns-in-Some-clause-empty g c = empty_after c.ended-ran.result.outcome c.ended-ran.result c.ended-ran.ensures.empty

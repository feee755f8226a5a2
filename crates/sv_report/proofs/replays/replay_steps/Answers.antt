use Rattle.std.proofs.Common.{rules, sym, ◌∙◌}
use Rattle.std.specs.Vec.Iter.{into_iter_items}
use Rattle.sv_report.proofs.StepLaws.{ends, next_can}
use Rattle.sv_report.proofs.replays.replay_steps.Goals as goal

pub make_step-requires-clause-can : goal.make_step-requires-clause-can
make_step-requires-clause-can c =
    next_can _ _ _ _ _ (into_iter_items c.loop-step.step-iterator) (into_iter_items c.next.new.self) c.in-Some.step (search rules) c.loop-step.invariant.stands

pub returns : goal.returns
returns c = ends _ _ _ _ _ c.args.steps (into_iter_items c.loop-step.step-iterator) (sym c.loop-step.invariant.long ∙ c.in-None.ensures.steps.0) (search rules) c.loop-step.invariant.stands

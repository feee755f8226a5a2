use Rattle.std.proofs.Common.{rules}
use Rattle.sv_legal_trials.proofs.TrialLaws.{sound_behind}
use Rattle.sv_legal_trials.proofs.histories.world.Goals as goal

pub returns : goal.returns
returns c = sound_behind c.in_ok-doc.field-0.doc c.new-2.result.items c.replay_steps.new.out.items c.in_ok-world.world c.replay_steps.new.w c.in_ok-doc.steps (search rules) c.in_ok-doc.ensures.sound (search rules)

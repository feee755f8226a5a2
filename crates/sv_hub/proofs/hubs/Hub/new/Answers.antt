use Rattle.sv_hub.proofs.StepLaws.{start_keeps}
use Rattle.sv_hub.proofs.hubs.Hub.new.Goals as goal

pub new-requires : goal.new-requires
new-requires g c = start_keeps _ _ c.args.value c.of-start.ensures c.in_ok-slots.ensures

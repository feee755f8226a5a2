use Rattle.sv_core.proofs.FetchLaws.{fetched_known}
use Rattle.sv_core.proofs.world.World.fetch.Goals as goal

pub returns-clause-known : goal.returns-clause-known
returns-clause-known c = fetched_known _ c.args.ask.now _ _ _ c.fetch.ensures

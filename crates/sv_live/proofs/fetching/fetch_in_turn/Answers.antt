use Rattle.std.proofs.Common.{rules}
use Rattle.sv_live.proofs.FetchLaws.{fetched_there}
use Rattle.sv_live.proofs.fetching.fetch_in_turn.Goals as goal

pub returns-clause-fetched : goal.returns-clause-fetched
returns-clause-fetched g c =
    fetched_there c.value-2.result.now.medium c.args.hub.now.name c.leave.result.seen c.args.site c.fetch.result c.args.ask.now c.args.sheet.now c.fetch.new.sheet (search rules) (search rules)
    c.fetch.ensures.fetched

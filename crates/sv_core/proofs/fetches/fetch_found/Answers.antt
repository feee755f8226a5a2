use Rattle.sv_core.proofs.FetchLaws.{adds_found}
use Rattle.sv_core.proofs.fetches.fetch_found.Goals as goal

pub returns-clause-adds : goal.returns-clause-adds
returns-clause-adds g c = adds_found _ c.args.table c.args.key.now _ _ _ _ _ c.fetch_unknown-row.ensures.adds c.fetch_unknown.ensures.adds

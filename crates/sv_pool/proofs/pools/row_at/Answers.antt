use Rattle.sv_pool.proofs.IndexLaws.{given_at, read_kept}
use Rattle.sv_pool.proofs.pools.row_at.Goals as goal

pub at-requires : goal.at-requires
at-requires c = given_at c.args.index.now c.args.rows.now.values c.args.at _ c.requires.given c.requires.within

pub returns : goal.returns
returns c = read_kept c.args.index.now c.args.rows.now.values c.args.at _ c.at.result.now c.requires.given c.requires.within c.at.ensures

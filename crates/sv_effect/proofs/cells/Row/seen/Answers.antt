use Rattle.sv_effect.specs.StampedTables.{row_of}
use Rattle.sv_effect.proofs.SourceLaws.{told_fits}
use Rattle.sv_effect.proofs.cells.Row.seen.Goals as goal

pub returns-clause-fits : goal.returns-clause-fits
returns-clause-fits c = λ schema place accepted of.
    told_fits schema place (row_of c.args.self.now) c.values_of.result.items c.values_of.ensures.values c.values_of.ensures.words accepted of

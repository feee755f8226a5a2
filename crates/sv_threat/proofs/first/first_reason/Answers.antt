use Rattle.std.proofs.Common.{◌∙◌}
use Rattle.sv_gains.specs.Gains.{noted_in}
use Rattle.sv_threat.proofs.FirstLaws.{table_fits, reason_first}
use Rattle.sv_threat.proofs.first.first_reason.Goals as goal

pub returns : goal.returns
returns c =
    reason_first c.args.app.now.tables.items c.args.e.now (noted_in c.args.gains.now) c.index-table.result.now c.is_plain_change.result c.first_among.result c.requires.accepted c.requires.fits c.requires.told
    (table_fits c.args.app.now.tables.items c.args.e.now c.requires.fits) c.index-table.ensures c.is_plain_change.ensures c.if-is_plain_change.false c.first_among.ensures

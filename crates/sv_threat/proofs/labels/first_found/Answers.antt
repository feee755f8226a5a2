use Rattle.std.proofs.Common.{arith}
use Rattle.sv_threat.proofs.LabelLaws.{all_seen}
use Rattle.sv_threat.proofs.labels.first_found.Goals as goal

pub returns : goal.returns
returns c = all_seen c.args.app.now.tables.items c.args.effects.now c.loop-table.table c.loop-table.first c.requires.fits (omega (arith, c.loop-table-test.false, c.len-table-end.ensures)) c.loop-table.invariant

use Rattle.sv_typing.proofs.AcceptanceLaws.{table_small}
use Rattle.sv_typing.proofs.numbers.number_all.Goals as goal

pub number_whole-requires-clause-few : goal.number_whole-requires-clause-few
number_whole-requires-clause-few c = table_small c.args.tables.now c.loop-table.table-index c.table-item.result c.loop-table-test.true c.table-item.is c.requires.each

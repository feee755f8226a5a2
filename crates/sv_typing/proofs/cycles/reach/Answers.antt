use Rattle.std.proofs.Common.{arith}
use Rattle.sv_typing.proofs.CycleLaws.{outside_set}
use Rattle.sv_typing.proofs.cycles.reach.Goals as goal

pub loop-table-smaller : goal.loop-table-smaller
loop-table-smaller c = outside_set c.loop-table.reached c.in-Some.table (omega (arith, c.loop-table.array_long, c.in-Some.ensures.within, c.requires.few)) c.in-Some.ensures.outside

use Rattle.std.proofs.Common.{◌≡◌, ◌*◌, ◌+◌, length, map}
use Rattle.sv_app.specs.Trees.{command_of}
use Rattle.sv_reader.specs.Reading.{turns_at}
use Rattle.sv_reader.specs.Reading.{keep}
use Rattle.sv_txn_reader.specs.Reading.{goes_on, statement_step, block_at}
use Rattle.sv_txn_reader.proofs.blocks.+blocks.Given as goal

abbrev pub invariant-inside-loop-alloc : goal.invariant-inside-loop-alloc
invariant-inside-loop-alloc l = turns_at goes_on (statement_step (block_at l.room) l.looped) keep (map command_of l.stmts.items, l.counts) l.reader.rest.now
    ≡ turns_at goes_on (statement_step (block_at l.room) l.looped) keep (map command_of l.initial.stmts.items, l.initial.counts) l.initial.reader.rest.now

abbrev pub decreases-inside-loop-alloc : goal.decreases-inside-loop-alloc
decreases-inside-loop-alloc l = length l.reader.rest.now

abbrev pub decreases-block : goal.decreases-block
decreases-block l = 8 * l.room + 1

abbrev pub decreases-else_block : goal.decreases-else_block
decreases-else_block l = 8 * l.room + 2

abbrev pub decreases-if_statement : goal.decreases-if_statement
decreases-if_statement l = 8 * l.room + 3

abbrev pub decreases-for_rows : goal.decreases-for_rows
decreases-for_rows l = 8 * l.room + 3

abbrev pub decreases-for_each : goal.decreases-for_each
decreases-for_each l = 8 * l.room + 3

abbrev pub decreases-counted_for : goal.decreases-counted_for
decreases-counted_for l = 8 * l.room + 4

abbrev pub decreases-counted_each : goal.decreases-counted_each
decreases-counted_each l = 8 * l.room + 4

abbrev pub decreases-statement : goal.decreases-statement
decreases-statement l = 8 * l.room + 5

abbrev pub decreases-add_statement : goal.decreases-add_statement
decreases-add_statement l = 8 * l.room + 6

abbrev pub decreases-inside : goal.decreases-inside
decreases-inside l = 8 * l.room + 7

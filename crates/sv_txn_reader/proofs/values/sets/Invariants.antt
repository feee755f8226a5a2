use Rattle.std.proofs.Common.{◌≡◌, length}
use Rattle.sv_app.specs.Trees.{sets_of}
use Rattle.sv_lex.specs.declared.marks.Mark.TheVariants as marks
use Rattle.sv_lex.specs.declared.tokens.TokenKind.TheVariants.{Mark}
use Rattle.sv_reader.specs.Reading.{is_next, turns_at}
use Rattle.sv_reader.specs.Reading.{keep}
use Rattle.sv_txn_reader.specs.Reading.{item_turn, set_at}
use Rattle.sv_txn_reader.proofs.values.sets.Given as goal

abbrev pub invariant-loop-alloc : goal.invariant-loop-alloc
invariant-loop-alloc l = turns_at (is_next (Mark marks.Comma)) (item_turn set_at) keep (sets_of l.sets.items) l.reader.rest.now ≡ turns_at (is_next (Mark marks.Comma)) (item_turn set_at) keep (sets_of l.initial.sets.items) l.initial.reader.rest.now

abbrev pub decreases-loop-alloc : goal.decreases-loop-alloc
decreases-loop-alloc l = length l.reader.rest.now

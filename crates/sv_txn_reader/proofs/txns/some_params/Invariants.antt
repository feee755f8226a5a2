use Rattle.std.proofs.Common.{◌≡◌, length}
use Rattle.sv_lex.specs.declared.marks.Mark.TheVariants as marks
use Rattle.sv_lex.specs.declared.tokens.TokenKind.TheVariants.{Mark}
use Rattle.sv_reader.specs.Reading.{is_next, turns_at}
use Rattle.sv_reader.specs.Reading.{keep}
use Rattle.sv_txn_reader.specs.Reading.{item_turn, param_at}
use Rattle.sv_txn_reader.proofs.txns.some_params.Given as goal

abbrev pub invariant-loop-reader : goal.invariant-loop-reader
invariant-loop-reader l = turns_at (is_next (Mark marks.Comma)) (item_turn param_at) keep l.params.items l.reader.rest.now ≡ turns_at (is_next (Mark marks.Comma)) (item_turn param_at) keep l.initial.params.items l.initial.reader.rest.now

abbrev pub decreases-loop-reader : goal.decreases-loop-reader
decreases-loop-reader l = length l.reader.rest.now

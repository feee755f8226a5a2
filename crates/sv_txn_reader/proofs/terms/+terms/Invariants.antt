use Rattle.std.proofs.Common.{◌≡◌, ◌≤◌, ◌*◌, ◌+◌, length}
use Rattle.sv_app.specs.Trees.{term_of}
use Rattle.sv_lex.specs.declared.marks.Mark.TheVariants as marks
use Rattle.sv_lex.specs.declared.tokens.TokenKind.TheVariants.{Mark}
use Rattle.sv_reader.specs.Reading.{is_next, turns_at}
use Rattle.sv_reader.specs.Reading.{keep}
use Rattle.sv_txn_reader.specs.Reading.{product_turn, sum_turn, is_sign, factor_below, products_below}
use Rattle.sv_txn_reader.proofs.terms.+terms.Given as goal

abbrev pub invariant-products-loop-alloc : goal.invariant-products-loop-alloc
invariant-products-loop-alloc l = record {
  turns : turns_at (is_next (Mark marks.Star)) (product_turn l.room (factor_below l.room)) keep (term_of l.left.expr, l.left.extra) l.reader.rest.now
      ≡ turns_at (is_next (Mark marks.Star)) (product_turn l.room (factor_below l.room)) keep (term_of l.initial.left.expr, l.initial.left.extra) l.initial.reader.rest.now;
  few : l.left.extra ≤ l.room;
}

abbrev pub decreases-products-loop-alloc : goal.decreases-products-loop-alloc
decreases-products-loop-alloc l = length l.reader.rest.now

abbrev pub invariant-sums-loop-alloc : goal.invariant-sums-loop-alloc
invariant-sums-loop-alloc l = record {
  turns : turns_at is_sign (sum_turn l.room (products_below l.room)) keep (term_of l.left.expr, l.left.extra) l.reader.rest.now
      ≡ turns_at is_sign (sum_turn l.room (products_below l.room)) keep (term_of l.initial.left.expr, l.initial.left.extra) l.initial.reader.rest.now;
  few : l.left.extra ≤ l.room;
}

abbrev pub decreases-sums-loop-alloc : goal.decreases-sums-loop-alloc
decreases-sums-loop-alloc l = length l.reader.rest.now

abbrev pub decreases-signed : goal.decreases-signed
decreases-signed l = 8 * l.room + 1

abbrev pub decreases-group : goal.decreases-group
decreases-group l = 8 * l.room + 1

abbrev pub decreases-factor : goal.decreases-factor
decreases-factor l = 8 * l.room + 2

abbrev pub decreases-multiplied : goal.decreases-multiplied
decreases-multiplied l = 8 * l.room + 3

abbrev pub decreases-products : goal.decreases-products
decreases-products l = 8 * l.room + 4

abbrev pub decreases-joined : goal.decreases-joined
decreases-joined l = 8 * l.room + 5

abbrev pub decreases-added : goal.decreases-added
decreases-added l = 8 * l.room + 6

abbrev pub decreases-sums : goal.decreases-sums
decreases-sums l = 8 * l.room + 7

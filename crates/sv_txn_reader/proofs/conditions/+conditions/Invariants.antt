use Rattle.std.proofs.Common.{◌≡◌, ◌≤◌, ◌*◌, ◌+◌, length, codes}
use Rattle.sv_app.specs.Trees.{test_of}
use Rattle.sv_lex.specs.declared.tokens.TokenKind.TheVariants.{Name}
use Rattle.sv_reader.specs.Reading.{is_next, turns_at}
use Rattle.sv_reader.specs.Reading.{keep}
use Rattle.sv_txn_reader.specs.Reading.{and_turn, or_turn, literal_below, conjunctions_below}
use Rattle.sv_txn_reader.proofs.conditions.+conditions.Given as goal

abbrev pub invariant-conjunctions-loop-alloc : goal.invariant-conjunctions-loop-alloc
invariant-conjunctions-loop-alloc l = record {
  turns : turns_at (is_next (Name (codes "and"))) (and_turn l.room (literal_below l.room)) keep (test_of l.left.cond, l.left.extra) l.reader.rest.now
      ≡ turns_at (is_next (Name (codes "and"))) (and_turn l.room (literal_below l.room)) keep (test_of l.initial.left.cond, l.initial.left.extra) l.initial.reader.rest.now;
  few : l.left.extra ≤ l.room;
}

abbrev pub decreases-conjunctions-loop-alloc : goal.decreases-conjunctions-loop-alloc
decreases-conjunctions-loop-alloc l = length l.reader.rest.now

abbrev pub invariant-disjunctions-loop-alloc : goal.invariant-disjunctions-loop-alloc
invariant-disjunctions-loop-alloc l = record {
  turns : turns_at (is_next (Name (codes "or"))) (or_turn l.room (conjunctions_below l.room)) keep (test_of l.left.cond, l.left.extra) l.reader.rest.now
      ≡ turns_at (is_next (Name (codes "or"))) (or_turn l.room (conjunctions_below l.room)) keep (test_of l.initial.left.cond, l.initial.left.extra) l.initial.reader.rest.now;
  few : l.left.extra ≤ l.room;
}

abbrev pub decreases-disjunctions-loop-alloc : goal.decreases-disjunctions-loop-alloc
decreases-disjunctions-loop-alloc l = length l.reader.rest.now

abbrev pub decreases-negated : goal.decreases-negated
decreases-negated l = 8 * l.room + 1

abbrev pub decreases-bracketed : goal.decreases-bracketed
decreases-bracketed l = 8 * l.room + 1

abbrev pub decreases-literal : goal.decreases-literal
decreases-literal l = 8 * l.room + 2

abbrev pub decreases-conjoined : goal.decreases-conjoined
decreases-conjoined l = 8 * l.room + 3

abbrev pub decreases-conjunctions : goal.decreases-conjunctions
decreases-conjunctions l = 8 * l.room + 4

abbrev pub decreases-disjoined : goal.decreases-disjoined
decreases-disjoined l = 8 * l.room + 5

abbrev pub decreases-disjunctions : goal.decreases-disjunctions
decreases-disjunctions l = 8 * l.room + 6

use Rattle.std.proofs.Common.{take, ◌+◌, sym, subst, ◌∙◌}
use Rattle.sv_check.proofs.FirstLaws.{HasSeen, fresh_seen, known_seen}
use Rattle.sv_check.proofs.clashes.least_clash.Goals as goal
use Rattle.sv_check.proofs.clashes.least_clash.Goals.{in-Some, in-None+in_ok-note_first-in-None}

pub loop-key-preserved : goal.loop-key-preserved
loop-key-preserved c = elim c.match-first_key.branch [
  | in-Some w ↦
      subst (λ m. HasSeen (take (c.loop-key.key-index + 1) c.args.pairs.now) m c.match-first_key.found) (sym w.firsts-is)
      (known_seen c.args.pairs.now c.loop-key.key-index c.loop-key-item.result c.in_order-value.result c.loop-key.firsts w.in-Some.first c.first_key.result c.loop-key.found c.match-first_key.found
      c.loop-key-test.true c.loop-key-item.is c.loop-key.invariant c.in_order-value.ensures c.first_key.ensures w.in-Some.is (w.found-is ∙ w.with_both-found.ensures))
  | in-None+in_ok-note_first-in-None w ↦
      subst (λ m. HasSeen (take (c.loop-key.key-index + 1) c.args.pairs.now) m c.match-first_key.found) (sym w.firsts-is)
      (subst (λ f. HasSeen (take (c.loop-key.key-index + 1) c.args.pairs.now) w.note_first.new.firsts f) (sym w.found-is)
      (fresh_seen c.args.pairs.now c.loop-key.key-index c.loop-key-item.result c.in_order-value.result c.loop-key.firsts w.note_first.new.firsts c.first_key.result c.loop-key.found
      c.loop-key-test.true c.loop-key-item.is c.loop-key.invariant c.in_order-value.ensures c.first_key.ensures w.in-None.is w.in_ok-note_first-in-None.ensures))
]

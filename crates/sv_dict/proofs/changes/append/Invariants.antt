use Rattle.std.proofs.Common.{◌≡◌, ◌++◌, length}
use Rattle.std.specs.Vec.Iter.{into_iter_items, into_iter_len}
use Rattle.sv_dict.proofs.changes.append.Given as goal

abbrev pub invariant-loop-atom : goal.invariant-loop-atom
invariant-loop-atom l = record {
  next : (goal.iterator-loop-atom).can_next l.atom-iterator;
  finite : (goal.iterator-loop-atom).is_finite l.atom-iterator;
  long : into_iter_len l.atom-iterator ≡ length (into_iter_items l.atom-iterator);
  moved : l.initial.atoms ++ into_iter_items l.initial.atom-iterator ≡ l.atoms ++ into_iter_items l.atom-iterator;
}

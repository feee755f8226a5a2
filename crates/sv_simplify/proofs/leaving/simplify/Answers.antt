use Rattle.std.proofs.Common.{rules, ◌∙◌, sym}
use Rattle.std.proofs.lemmas.List.{nil_from_length}
use Rattle.std.specs.Vec.Iter.{into_iter_items}
use Rattle.sv_simplify.proofs.LeaveLaws.{stands_first, stands_over, stands_next, stands_stop, stands_last}
use Rattle.sv_simplify.proofs.leaving.simplify.Goals as goal

pub returns-then-is_never : goal.returns-then-is_never
returns-then-is_never c =
    stands_stop _ _ (into_iter_items c.into_iter-atom-iterator.result) c.args.atoms (into_iter_items c.loop-atom.atom-iterator) (into_iter_items c.next.new.self) c.loop-atom.left c.ended.result c.in-Some.atom
    (search rules) (search rules) (search rules) (search rules) c.loop-atom.invariant.stands

pub judge-requires-clause-test : goal.judge-requires-clause-test
judge-requires-clause-test c =
    stands_over _ _ (into_iter_items c.into_iter-atom-iterator.result) (into_iter_items c.loop-atom.atom-iterator) (into_iter_items c.next.new.self) c.loop-atom.left c.in-Some.atom c.in_ok-system.system
    (search rules) (search rules) c.loop-atom.invariant.stands

pub loop-atom-init : goal.loop-atom-init
loop-atom-init c = search (rules, stands_first)

pub loop-atom-preserved : goal.loop-atom-preserved
loop-atom-preserved c = record {
  next = search rules;
  finite = search rules;
  long = search rules;
  stands = stands_next _ _ (into_iter_items c.into_iter-atom-iterator.result) (into_iter_items c.loop-atom.atom-iterator) (into_iter_items c.next.new.self) c.loop-atom.left c.in_ok-left.left c.in-Some.atom c.in_ok-system.system c.in_ok-found.found
      (search rules) (search rules) (search rules) (search rules) (search rules) c.loop-atom.invariant.stands;
}

pub returns : goal.returns
returns c =
    stands_last _ _ (into_iter_items c.into_iter-atom-iterator.result) c.args.atoms (into_iter_items c.loop-atom.atom-iterator) c.loop-atom.left
    (search rules) (nil_from_length _ (sym c.loop-atom.invariant.long ∙ search rules)) c.loop-atom.invariant.stands

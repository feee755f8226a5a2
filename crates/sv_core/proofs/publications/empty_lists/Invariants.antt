use Rattle.sv_core.specs.Publications.{AreSlots}
use Rattle.sv_core.proofs.publications.empty_lists.Given as goal

abbrev pub invariant-loop : goal.invariant-loop
invariant-loop l = AreSlots l.counter l.room l.lists.items

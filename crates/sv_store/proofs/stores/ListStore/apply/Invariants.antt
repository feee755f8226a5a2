use Rattle.sv_store.proofs.TakeLaws.{Changing}
use Rattle.sv_store.proofs.stores.ListStore.apply.Given as goal

abbrev pub invariant-loop-place : goal.invariant-loop-place
invariant-loop-place l = Changing l.app.tables.items l.op l.initial.self l.place l.self

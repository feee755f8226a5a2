use Rattle.std.proofs.Common.{sym, ap, ◌∙◌}
use Rattle.std.specs.Prelude.{map}
use Rattle.std.specs.FinMap.{entries}
use Rattle.sv_store.specs.Stored.{entry_of}
use Rattle.sv_store.proofs.RowLaws.{entries-tables_in}
use Rattle.sv_store.proofs.stores.ListStore.kept.Goals as goal

pub returns : goal.returns
returns c = ap (map entry_of) c.deref.ensures.value ∙ sym (entries-tables_in c.self.inside.kept.items c.self.invariant.rising) ∙ ap (λ s. entries s.tables) c.self.view_is

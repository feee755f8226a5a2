use Rattle.std.proofs.Common.{drop}
use Rattle.sv_app.specs.Schema.{schema_of}
use Rattle.sv_core.proofs.ApplyLaws.{AreLeft}
use Rattle.sv_core.proofs.applying.apply_each.Given as goal

abbrev pub invariant-loop-op : goal.invariant-loop-op
invariant-loop-op g l =
    AreLeft (schema_of l.app.tables.items) l.fn.ops (drop l.op-index l.ops) (g.S.RowStore.stamped l.fn.store) (g.S.RowStore.stamped l.store) (g.S.RowStore.room l.fn.store) (g.S.RowStore.room l.store)
    × g.S.Rows.is_of l.store (schema_of l.app.tables.items)

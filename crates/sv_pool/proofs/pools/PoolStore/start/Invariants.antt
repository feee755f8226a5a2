use Rattle.sv_app.specs.Schema.{schema_of}
use Rattle.sv_store.proofs.InitLaws.{Started}
use Rattle.sv_pool.proofs.pools.PoolStore.start.Given as goal

abbrev pub invariant-loop-row : goal.invariant-loop-row
invariant-loop-row l = Started (schema_of l.app.tables.items) l.init l.room l.row-index l.store

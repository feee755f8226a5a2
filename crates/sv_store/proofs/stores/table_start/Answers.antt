use Rattle.std.proofs.Common.{nat_lt, rules}
use Rattle.std.proofs.lemmas.List.Sorted.{IsPartitionPoint-from_clause}
use Rattle.sv_store.proofs.NextLaws.{tables_part, start_table}
use Rattle.sv_store.proofs.stores.table_start.Goals as goal

-- the closure compares a row's table
pub returns : goal.returns
returns c =
    start_table c.args.kept.now c.args.table c.partition_point.result c.partition_point.ensures.bound
    (IsPartitionPoint-from_clause (λ row. nat_lt row.place.table c.args.table) _ _ c.partition_point.ensures.partitioned (tables_part c.args.kept.now c.args.table c.requires) (λ a r q k. search rules))

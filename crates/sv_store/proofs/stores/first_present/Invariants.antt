use Rattle.std.proofs.Common.{◌≡◌, drop}
use Rattle.sv_store.specs.Rest.{first_present}
use Rattle.sv_store.proofs.stores.first_present.Given as goal

abbrev pub invariant-loop-row : goal.invariant-loop-row
invariant-loop-row l = first_present l.table (drop l.row-index l.kept) ≡ first_present l.table l.kept

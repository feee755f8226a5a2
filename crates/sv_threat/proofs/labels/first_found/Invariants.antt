use Rattle.std.proofs.Common.{map}
use Rattle.sv_app.specs.Schema.{schema_of}
use Rattle.sv_effect.specs.RunChanges.{effect_of}
use Rattle.sv_threat.specs.First.{IsFirstOf, IsSeen}
use Rattle.sv_threat.proofs.labels.first_found.Given as goal

abbrev pub invariant-loop-table : goal.invariant-loop-table
invariant-loop-table l = IsFirstOf (IsSeen l.table 0) (schema_of l.app.tables.items) (map effect_of l.effects) l.first

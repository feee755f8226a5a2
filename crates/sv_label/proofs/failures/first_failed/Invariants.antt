use Rattle.std.proofs.Common.{map, take}
use Rattle.sv_app.specs.Schema.{schema_of}
use Rattle.sv_label.specs.Failures.{IsFirstOf}
use Rattle.sv_label.proofs.failures.first_failed.Given as goal

abbrev pub invariant-loop-kept : goal.invariant-loop-kept
invariant-loop-kept l = IsFirstOf (schema_of l.app.tables.items) l.tape (map (λ k. k.atom) (take l.kept-index l.template.left.kept)) l.held

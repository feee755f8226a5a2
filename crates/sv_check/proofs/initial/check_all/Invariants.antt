use Rattle.std.proofs.Common.{◌≡◌}
use Rattle.std.specs.BTreeSet.{contains}
use Rattle.sv_app.specs.Schema.{schema_of}
use Rattle.sv_check.specs.declared.initial.Held.{Held}
use Rattle.sv_check.specs.Tests.{held_cmp}
use Rattle.sv_check.proofs.AnswerLaws.{Passed}
use Rattle.sv_check.proofs.FailLaws.{held_before}
use Rattle.sv_check.proofs.initial.check_all.Given as goal

abbrev pub invariant-loop-place : goal.invariant-loop-place
invariant-loop-place l = record {
  held : (h : Held) → contains held_cmp l.earlier h ≡ held_before (schema_of l.app.tables.items) l.init l.place h;
  passed : Passed (schema_of l.app.tables.items) l.init l.place;
}

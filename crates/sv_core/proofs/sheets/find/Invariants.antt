use Rattle.std.proofs.Common.{◌≤◌, length}
use Rattle.sv_core.specs.Sheets.{AreOthers}
use Rattle.sv_core.proofs.sheets.find.Given as goal

abbrev pub invariant-loop-place : goal.invariant-loop-place
invariant-loop-place l = AreOthers l.reads l.ask l.from l.place × (l.to ≤ length l.reads)

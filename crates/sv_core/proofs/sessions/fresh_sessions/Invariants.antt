use Rattle.std.proofs.Common.{◌-◌}
use Rattle.sv_core.specs.Document.{document_of}
use Rattle.sv_core.specs.MediumState.{AreFreshSessions}
use Rattle.sv_core.proofs.sessions.fresh_sessions.Given as goal

abbrev pub invariant-loop-number : goal.invariant-loop-number
invariant-loop-number l = AreFreshSessions (document_of l.doc) (l.number - 1) l.sessions.items

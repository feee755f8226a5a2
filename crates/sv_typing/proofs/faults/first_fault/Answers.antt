use Rattle.std.proofs.Common.{refl}
use Rattle.sv_typing.proofs.LookupLaws.{names_declared}
use Rattle.sv_typing.proofs.NotedLaws.{noted_append}
use Rattle.sv_typing.proofs.faults.first_fault.Goals as goal

pub returns : goal.returns
returns c = simp (noted_append, c.in_ok-note_txns.ensures, c.note_tables.ensures, c.note_repeats.ensures, c.none-first.ensures, names_declared c.args.tables.now) refl

use Rattle.sv_trace.proofs.EntryLaws.{changes_have_entries}
use Rattle.sv_trace.proofs.laws.changes_have_entries.Goals as goal

pub returns : goal.returns
returns c = changes_have_entries

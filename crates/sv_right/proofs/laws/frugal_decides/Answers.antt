use Rattle.sv_effect.specs.Run.{run}
use Rattle.sv_right.proofs.DecideLaws.{decides_for}
use Rattle.sv_right.proofs.laws.frugal_decides.Goals as goal

pub returns : goal.returns
returns c = λ schema txns groups accepted frugal request txn first t declared fits rows words. decides_for schema txns groups frugal request.txn txn (run schema txns request first t) (record {
  accepted = accepted.tables;
  declared = declared;
  shaped = c.runs_are_shaped.ensures schema txns request txn first t accepted declared fits rows;
  entries = c.changes_have_entries.ensures schema txns request txn first t accepted declared;
  words = words;
  tells = λ n instance body facts effects symbols at unit executed.
      c.shapes_tell.ensures schema txns request txn first t n instance body facts effects symbols accepted declared fits rows at unit executed;
})

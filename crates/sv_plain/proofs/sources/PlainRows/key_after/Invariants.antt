use Rattle.sv_app.specs.Schema.{schema_of}
use Rattle.sv_effect.specs.TablesOfCut.{row_at}
use Rattle.sv_plain.specs.Behind.{held_by}
use Rattle.sv_plain.proofs.RowsLaws.{BestSoFar}
use Rattle.sv_plain.proofs.sources.PlainRows.key_after.Given as goal

abbrev pub invariant-loop-place : goal.invariant-loop-place
invariant-loop-place l =
    BestSoFar (λ p. (row_at (schema_of l.self.app.now.tables.items) l.self.init.now (held_by l.self) p).mark.value) l.table l.after l.place-items l.place-index l.best

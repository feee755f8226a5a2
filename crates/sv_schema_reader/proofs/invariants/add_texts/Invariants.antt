use Rattle.std.proofs.Common.{◌≡◌, length}
use Rattle.sv_reader.specs.Reading.{others_at}
use Rattle.sv_schema_reader.specs.Reading.{text_step}
use Rattle.sv_schema_reader.proofs.invariants.add_texts.Given as goal

abbrev pub invariant-loop-reader : goal.invariant-loop-reader
invariant-loop-reader l = others_at text_step l.texts.items l.reader.rest.now ≡ others_at text_step l.initial.texts.items l.initial.reader.rest.now

abbrev pub decreases-loop-reader : goal.decreases-loop-reader
decreases-loop-reader l = length l.reader.rest.now

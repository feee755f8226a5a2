use Rattle.std.proofs.Common.{refl, sym}
use Rattle.sv_typing.proofs.NotedLaws.{noted_append, map_same}
use Rattle.sv_typing.proofs.columns.note_keys.Goals as goal

pub returns : goal.returns
returns c = simp (noted_append, c.note_unknown_keys.ensures, c.note_repeats.ensures, c.note_another_key.ensures, c.note_if.ensures, c.is_empty.ensures, sym c.deref.ensures.len, c.deref.ensures.value, map_same) refl

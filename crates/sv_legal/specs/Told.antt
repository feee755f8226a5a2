-- What the lists of published operations are to a history: the history is a legal one of a sound document, and these are the lists that it published, that of the
-- reds first.
use Rattle.std.specs.Prelude.{◌≡◌, ℕ, List, length}
use Rattle.sv_effect.specs.declared.ops.Op.{Op}
use Rattle.sv_core.specs.Document.{Document}
use Rattle.sv_core.specs.History.{History, published}
use Rattle.sv_core.specs.Laws.{IsLawful}
use Rattle.sv_plain.specs.Held.{medium_of}

pub record Told (doc : Document) (h : History) (lists : List (List Op)) : Type 0 where
  pub lawful : IsLawful doc h
  pub nine : length lists ≡ 9
  pub are : (o : ℕ) → medium_of lists o ≡ published doc h o

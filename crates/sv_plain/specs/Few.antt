-- At most 65,536 changes stand in the published lists.
use Rattle.std.specs.Prelude.{ℕ, ◌≤◌, List, length}
use Rattle.sv_effect.specs.declared.ops.Op.{Op}
use Rattle.sv_effect.specs.TablesOfCut.{all_to, changes_by}
use Rattle.sv_plain.specs.Held.{medium_of}

pub record FewChanges (lists : List (List Op)) : Type 0 where
  pub few : length (changes_by (all_to (medium_of lists) 9)) ≤ 65536

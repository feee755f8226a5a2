-- What was gathered of a family of lists of changes: the list of the reds, and all lists one behind the other.
use Rattle.std.specs.Prelude.{◌≡◌, map}
use Rattle.sv_effect.specs.Applied.{Change}
use Rattle.sv_effect.specs.TablesOfCut.{Family, all_to}
use Rattle.sv_plain.specs.declared.changes.Gathered.{Gathered}
use Rattle.sv_plain.specs.Held.{change_of}

pub record Gathers (cs : Family Change) (gathered : Gathered) : Type 0 where
  pub reds : map change_of gathered.reds.items ≡ cs 0
  pub all : map change_of gathered.all.items ≡ all_to cs 9

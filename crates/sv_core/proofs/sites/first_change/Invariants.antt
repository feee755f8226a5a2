use Rattle.std.proofs.Common.{map, take}
use Rattle.sv_effect.specs.Agrees.{Agrees}
use Rattle.sv_effect.specs.BareTables.{bare}
use Rattle.sv_effect.specs.Reads.{read_of}
use Rattle.sv_core.proofs.sites.first_change.Given as goal

abbrev pub invariant-loop-place : goal.invariant-loop-place
invariant-loop-place l = Agrees (bare l.rows.tables) (take l.place (map read_of l.reads))

use Rattle.std.proofs.Common.{◌≡◌}
use Rattle.std.specs.Prelude.{map}
use Rattle.sv_core.specs.Room.{changes_in}
use Rattle.sv_core.proofs.SumLaws.{sum_below}
use Rattle.sv_plain.specs.Held.{medium_of}
use Rattle.sv_legal.proofs.lists.all_changes.Given as goal

abbrev pub invariant-loop-origin : goal.invariant-loop-origin
invariant-loop-origin l = l.count ≡ sum_below (λ o. changes_in (medium_of (map (λ ops. ops.items) l.lists) o)) l.origin

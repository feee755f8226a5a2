use Rattle.std.proofs.Common.{◌≡◌, ◌+◌}
use Rattle.std.specs.Prelude.{map}
use Rattle.sv_value.specs.Cuts.{counts}
use Rattle.sv_effect.specs.Cut.{held}
use Rattle.sv_effect.specs.TablesOfCut.{all_to}
use Rattle.sv_core.specs.Clock.{latest_of}
use Rattle.sv_plain.specs.Held.{medium_of}
use Rattle.sv_legal.proofs.lists.latest_in.Given as goal

abbrev pub invariant-loop-site : goal.invariant-loop-site
invariant-loop-site l = l.latest ≡ latest_of (all_to (held (medium_of (map (λ ops. ops.items) l.lists)) (counts l.cut)) (l.site + 1))

use Rattle.std.proofs.Common.{◌≡◌, ◌+◌, ◌++◌}
use Rattle.std.specs.Prelude.{map}
use Rattle.sv_value.specs.Cuts.{counts}
use Rattle.sv_effect.specs.Cut.{held}
use Rattle.sv_effect.specs.TablesOfCut.{all_to, init_place, named_by}
use Rattle.sv_plain.specs.Held.{medium_of}
use Rattle.sv_plain.proofs.rows.places_of.Given as goal

abbrev pub invariant-loop-site : goal.invariant-loop-site
invariant-loop-site l =
    l.places.items ≡ map init_place l.init ++ all_to (λ o. named_by (held (medium_of (map (λ ops. ops.items) l.published)) (counts l.cut) o)) (l.site + 1)

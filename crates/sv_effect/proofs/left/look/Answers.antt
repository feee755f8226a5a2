use Rattle.std.proofs.Common.{◌∙◌, Some, ap}
use Rattle.std.specs.FinMap.{get}
use Rattle.sv_effect.specs.Overlays.{left_row, hides, lent}
use Rattle.sv_effect.specs.Reads.{seen_of}
use Rattle.sv_effect.proofs.OverlayLaws.{found_left, found_told}
use Rattle.sv_effect.proofs.left.look.Goals as goal

pub returns-in_ok-copy-in-Some-clause-fits : goal.returns-in_ok-copy-in-Some-clause-fits
returns-in_ok-copy-in-Some-clause-fits g c =
    found_left _ c.args.left.now c.args.place.now (left_row c.in-Some.row.now) (Some c.in_ok-copy-in-Some.copy)
    (λ t. c.left_at.ensures t ∙ ap (λ o. hides (lent o) (get t c.args.place.now)) c.in-Some.is) (ap (λ r. Some r) c.in_ok-copy-in-Some.ensures)

pub returns-in_ok-row-in-None-clause-fits : goal.returns-in_ok-row-in-None-clause-fits
returns-in_ok-row-in-None-clause-fits g c =
    found_told _ c.args.left.now c.args.place.now (seen_of c.in_ok-seen-in-None.seen) c.in_ok-row-in-None.row
    (λ t. c.left_at.ensures t ∙ ap (λ o. hides (lent o) (get t c.args.place.now)) c.in-None.is)
    c.in_ok-row-in-None.ensures c.in_ok-seen-in-None.ensures.fits

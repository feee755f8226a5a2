use Rattle.std.proofs.Common.{◌≡◌, ◌+◌, suc, sym, ap, ◌∙◌, arith}
use Rattle.std.specs.Prelude.{map, max, take}
use Rattle.sv_value.specs.Cuts.{counts}
use Rattle.sv_effect.specs.Cut.{held}
use Rattle.sv_core.specs.Clock.{latest_of}
use Rattle.sv_core.proofs.ClockLaws.{latest_next}
use Rattle.sv_plain.specs.Held.{medium_of}
use Rattle.sv_plain.proofs.HeldLaws.{first_list}
use Rattle.sv_legal.proofs.lists.latest_in.Goals as goal

pub loop-site-init : goal.loop-site-init
loop-site-init c =
    c.latest_of-latest.ensures ∙ ap latest_of (c.held.ensures ∙ sym (first_list (held (medium_of (map (λ ops. ops.items) c.args.lists.now)) (counts c.args.cut.now))))

pub loop-site-preserved : goal.loop-site-preserved
loop-site-preserved c =
    let next : c.loop-site.site + 1 ≡ suc c.loop-site.site = omega arith in
    latest_next (held (medium_of (map (λ ops. ops.items) c.args.lists.now)) (counts c.args.cut.now)) c.loop-site.site c.loop-site.latest c.max-latest.result c.held-in-loop-site.result.now
    c.loop-site.invariant
    (c.held-in-loop-site.ensures ∙ ap (λ s. take (counts c.args.cut.now (suc c.loop-site.site)) (medium_of (map (λ ops. ops.items) c.args.lists.now) s)) next)
    (c.max-latest.ensures ∙ ap (λ n. max n c.loop-site.latest) c.latest_of.ensures)

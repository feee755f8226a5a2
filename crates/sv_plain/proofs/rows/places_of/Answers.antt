use Rattle.std.proofs.Common.{refl}
use Rattle.std.specs.Prelude.{map}
use Rattle.sv_value.specs.Cuts.{counts}
use Rattle.sv_effect.specs.TablesOfCut.{init_place}
use Rattle.sv_plain.specs.Held.{medium_of}
use Rattle.sv_plain.proofs.RowsLaws.{named_start, named_more}
use Rattle.sv_plain.proofs.rows.places_of.Goals as goal

pub loop-site-init : goal.loop-site-init
loop-site-init c =
    named_start (medium_of (map (λ ops. ops.items) c.args.published.now)) (counts c.args.cut.now) (map init_place c.args.init.now) _ _ _ c.held.result.now
    c.new-places.ensures.items c.in_ok-put_init.ensures c.held.ensures c.in_ok-put_named.ensures

pub loop-site-preserved : goal.loop-site-preserved
loop-site-preserved c =
    named_more (medium_of (map (λ ops. ops.items) c.args.published.now)) (counts c.args.cut.now) c.loop-site.site (map init_place c.args.init.now) c.loop-site.places.items _ c.held-in-loop-site.result.now _
    c.loop-site.invariant refl c.held-in-loop-site.ensures c.in_ok-put_named-2.ensures

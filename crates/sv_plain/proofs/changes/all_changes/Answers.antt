use Rattle.std.proofs.Common.{◌+◌, refl, sym, ◌∙◌, arith}
use Rattle.std.specs.Prelude.{map}
use Rattle.sv_value.specs.Cuts.{counts}
use Rattle.sv_effect.specs.Cut.{held}
use Rattle.sv_effect.specs.TablesOfCut.{changes_at}
use Rattle.sv_plain.specs.Held.{medium_of, change_of}
use Rattle.sv_plain.proofs.HeldLaws.{first_list, list_more, held_short, all_short}
use Rattle.sv_plain.proofs.changes.all_changes.Goals as goal

pub loop-site-init : goal.loop-site-init
loop-site-init c =
    c.in_ok-changes.ensures ∙ sym (first_list (changes_at c.args.place.now (held (medium_of (map (λ ops. ops.items) c.args.published.now)) (counts c.args.cut.now))))

pub put_changes-requires : goal.put_changes-requires
put_changes-requires c =
    held_short _ _ _ c.held.ensures (all_short _ (c.loop-site.site + 1) (omega (arith, c.loop-site-test.true)) c.requires)

pub loop-site-preserved : goal.loop-site-preserved
loop-site-preserved c =
    list_more (medium_of (map (λ ops. ops.items) c.args.published.now)) (counts c.args.cut.now) c.args.place.now c.loop-site.site (map change_of c.loop-site.changes.items)
    (map change_of c.put_changes.new.changes.items) c.held.result.now _ c.loop-site.invariant refl c.held.ensures c.in_ok-put_changes.ensures

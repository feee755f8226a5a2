use Rattle.std.proofs.Common.{map, take, ap, ◌∙◌, ◌∷◌, [], ◌++◌}
use Rattle.std.specs.List.{list_any}
use Rattle.std.specs.Ordering.{eq_by_cmp}
use Rattle.sv_app.specs.Tables.{place_cmp}
use Rattle.sv_app.proofs.PlaceLaws.{place_total}
use Rattle.sv_effect.specs.TablesOfCut.{init_place}
use Rattle.sv_check.proofs.SetLaws.{one_more, map_more}
use Rattle.sv_check.proofs.initial.places_of.Goals as goal

pub loop-row-preserved : goal.loop-row-preserved
loop-row-preserved c = λ place.
    one_more place_cmp place_total c.loop-row.places c.insert.new.self (init_place c.row-item.result) place (map init_place (take c.loop-row.row-index c.args.init.now))
    (c.in_ok-insert.ensures.updates.0 place) (c.loop-row.invariant place)
    ∙ ap (λ row. list_any (eq_by_cmp place_cmp place) (map init_place (take c.loop-row.row-index c.args.init.now) ++ init_place row ∷ [])) c.row-item.is
    ∙ ap (list_any (eq_by_cmp place_cmp place)) (map_more init_place c.args.init.now c.loop-row.row-index c.row-item.result c.loop-row-test.true)

use Rattle.std.proofs.Common.{◌≡◌, ◌∙◌, subst}
use Rattle.std.specs.List.{list_any}
use Rattle.sv_app.specs.declared.places.Place.{Place}
use Rattle.sv_effect.specs.TablesOfCut.{init_place, is_place}
use Rattle.sv_workload.proofs.so_far.RowsSoFar.has_place_of.Goals as goal

pub returns : goal.returns
returns c =
    subst (λ (place : Place). c.contains.result ≡ list_any (λ other. is_place (init_place other) place) c.args.self.now.rows) c.place_of.ensures
    (c.contains.ensures ∙ c.args.self.now.stand c.place_of.result)

use Rattle.std.proofs.Common.{◌≡◌, ◌∙◌, ◌==◌, ap, arith, length, map, take}
use Rattle.std.specs.List.{filter}
use Rattle.sv_effect.specs.RunChanges.{Effect, effect_of}
use Rattle.sv_threat.proofs.LabelLaws.{map_take}
use Rattle.sv_threat.proofs.labels.place_of.Goals as goal

pub returns : goal.returns
returns c =
    let count : c.count_of.result ≡ length (filter (λ (other : Effect). other.instance == c.args.instance) (take c.args.number (map effect_of c.args.effects.now))) =
    c.count_of.ensures.is ∙ ap (λ es. length (filter (λ (other : Effect). other.instance == c.args.instance) es)) (map_take c.args.effects.now c.args.number) in
    omega (arith, count)

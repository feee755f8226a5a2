use Rattle.std.proofs.Common.{◌∙◌, ap, map}
use Rattle.sv_app.specs.Schema.{schema_of, invariant_of}
use Rattle.sv_effect.specs.RunChanges.{effect_of}
use Rattle.sv_gains.specs.Gains.{noted_in}
use Rattle.sv_threat.specs.Tests.{threatens, first_number}
use Rattle.sv_threat.proofs.FirstLaws.{found_first, found_later}
use Rattle.sv_threat.proofs.first.+first_of_all.Goals as goal

pub returns-in-Some : goal.returns-in-Some
returns-in-Some g c =
    let test = threatens c.args.way (schema_of c.args.app.now.tables.items) (noted_in c.args.gains.now) (effect_of c.args.e.now) in
    found_first test c.args.tables.now c.table-item.result c.first_in.result c.in-Some.number c.in-len1-up.len_at_least c.table-item.is
    (c.first_in.ensures ∙ ap (λ invs. first_number test (map invariant_of invs)) c.as_slice.ensures.value) c.in-Some.is

pub returns-in-None : goal.returns-in-None
returns-in-None g c =
    let test = threatens c.args.way (schema_of c.args.app.now.tables.items) (noted_in c.args.gains.now) (effect_of c.args.e.now) in
    found_later test c.args.tables.now c.table-item.result c.first_in.result c.first_of_all.result c.in-len1-up.len_at_least c.table-item.is
    (c.first_in.ensures ∙ ap (λ invs. first_number test (map invariant_of invs)) c.as_slice.ensures.value) c.in-None.is c.first_of_all.ensures

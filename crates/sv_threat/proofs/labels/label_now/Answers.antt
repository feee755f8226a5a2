use Rattle.std.proofs.Common.{map, subst, sym}
use Rattle.sv_app.specs.Schema.{schema_of}
use Rattle.sv_effect.specs.RunChanges.{effect_of}
use Rattle.sv_threat.specs.First.{IsFirstOf, AreAll}
use Rattle.sv_threat.proofs.LabelLaws.{is_red}
use Rattle.sv_threat.proofs.labels.label_now.Goals as goal

pub returns-in-Some : goal.returns-in-Some
returns-in-Some c =
    is_red (schema_of c.args.app.now.tables.items) (map effect_of c.args.effects.now) c.in-Some.found c.place_of.result
    (subst (IsFirstOf AreAll (schema_of c.args.app.now.tables.items) (map effect_of c.args.effects.now)) c.in-Some.is c.in_ok-first_found.ensures) c.place_of.ensures

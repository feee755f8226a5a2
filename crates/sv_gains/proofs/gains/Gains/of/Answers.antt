use Rattle.std.proofs.Common.{◌∙◌}
use Rattle.sv_app.specs.Schema.{declaration_of}
use Rattle.sv_gains.proofs.GainLaws.{system_right, all_told}
use Rattle.sv_gains.proofs.gains.Gains.of.Goals as goal

pub gains_of-requires-clause-system : goal.gains_of-requires-clause-system
gains_of-requires-clause-system c =
    system_right c.in_ok-system.system (declaration_of c.args.table.now) c.in_ok-system.ensures.system c.in_ok-system.ensures.vars c.in_ok-system.ensures.rows c.in_ok-system.ensures.within c.requires.satisfiable

pub returns : goal.returns
returns c =
    all_told (declaration_of c.args.table.now) c.in_ok-system.system c.in_ok-gains.gains c.in_ok-system.ensures.rows
    (c.in_ok-gains.ensures.sides ∙ c.items.ensures ∙ c.in_ok-asked.ensures.asked) c.in_ok-gains.ensures.right

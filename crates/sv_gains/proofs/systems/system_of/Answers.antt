use Rattle.sv_app.specs.Schema.{declaration_of}
use Rattle.sv_gains.proofs.RowLaws.{system_is}
use Rattle.sv_gains.proofs.systems.system_of.Goals as goal

pub returns-clause-system : goal.returns-clause-system
returns-clause-system c = system_is (declaration_of c.args.table.now) c.in_ok-rows.rows c.requires c.in_ok-rows.ensures.rows c.in_ok-rows.ensures.within

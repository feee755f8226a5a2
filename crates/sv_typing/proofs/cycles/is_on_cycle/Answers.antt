use Rattle.std.proofs.Common.{◌≡◌, true}
use Rattle.sv_app.specs.Schema.{schema_of}
use Rattle.sv_typing.specs.Reached.{is_in}
use Rattle.sv_typing.proofs.CycleLaws.{leads_in}
use Rattle.sv_typing.proofs.cycles.is_on_cycle.Goals as goal

pub returns-clause-free : goal.returns-clause-free
returns-clause-free c = λ out cyclic.
    let held : is_in c.reach-reached.result c.args.table ≡ true = leads_in (schema_of c.args.tables.now) c.reach-reached.result c.args.table c.args.table cyclic c.reach-reached.ensures.closed in
    cc

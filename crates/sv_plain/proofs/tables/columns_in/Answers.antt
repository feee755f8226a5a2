use Rattle.sv_plain.proofs.QueryLaws.{no_columns}
use Rattle.sv_plain.proofs.tables.columns_in.Goals as goal

pub returns-in-None : goal.returns-in-None
returns-in-None c = no_columns c.args.app.now.tables.items c.deref.result.now c.args.place.now c.deref.ensures.value c.in-None.ensures.lookup.3

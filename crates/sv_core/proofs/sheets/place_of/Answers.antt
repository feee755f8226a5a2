use Rattle.sv_core.proofs.SheetLaws.{answered_or}
use Rattle.sv_core.proofs.sheets.place_of.Goals as goal

pub returns-in-None : goal.returns-in-None
returns-in-None c = answered_or c.args.reads.now c.args.ask.now c.args.next c.find-in-None.result c.in-None.ensures c.find-in-None.ensures

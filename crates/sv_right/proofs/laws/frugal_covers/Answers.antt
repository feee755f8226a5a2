use Rattle.sv_right.proofs.CoverLaws.{frugal_covers}
use Rattle.sv_right.proofs.laws.frugal_covers.Goals as goal

pub returns : goal.returns
returns c = frugal_covers c.routes_are_paths.ensures c.symbols_are_typed.ensures

use Rattle.std.proofs.Common.{ap, sym}
use Rattle.sv_core.proofs.SheetLaws.{answered_known}
use Rattle.sv_core.proofs.sheets.Sheet.is_known.Goals as goal

pub returns-in-Some : goal.returns-in-Some
returns-in-Some c = sym (answered_known _ _ _ _ _ c.as_slice.ensures.value (ap (λ s. s.known) c.self.view_is) c.in-Some.ensures)

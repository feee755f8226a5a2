use Rattle.std.proofs.Common.{Some, sym, ap, subst, ◌∙◌}
use Rattle.std.specs.FinMap.{get}
use Rattle.sv_effect.specs.StampedTables.{row_of}
use Rattle.sv_store.specs.Stored.{IsAt, IsGapFor}
use Rattle.sv_store.proofs.RowLaws.{get-tables_in, get-tables_gap, read_row}
use Rattle.sv_store.proofs.stores.ListStore.get.Goals as goal

pub returns-in-Ok-clause-value : goal.returns-in-Ok-clause-value
returns-in-Ok-clause-value c =
    let at : IsAt c.self.inside.kept.items c.args.place.now c.in-Ok.at = subst (λ rows. IsAt rows c.args.place.now c.in-Ok.at) c.deref.ensures.value c.in-Ok.ensures.found in
    ap (λ kept. Some (row_of kept.row)) (read_row c.self.inside.kept.items c.in-Ok.at at.row c.index.result.now at.stands c.index.ensures)
    ∙ sym (get-tables_in c.self.inside.kept.items c.args.place.now c.in-Ok.at at.row c.self.invariant.rising at.stands at.is)
    ∙ ap (λ s. get s.tables c.args.place.now) c.self.view_is

pub returns-in-Ok-clause-there : goal.returns-in-Ok-clause-there
returns-in-Ok-clause-there c =
    let at : IsAt c.self.inside.kept.items c.args.place.now c.in-Ok.at = subst (λ rows. IsAt rows c.args.place.now c.in-Ok.at) c.deref.ensures.value c.in-Ok.ensures.found in
    ap (λ kept. kept.place) (read_row c.self.inside.kept.items c.in-Ok.at at.row c.index.result.now at.stands c.index.ensures) ∙ at.is

pub returns-in-Err-clause-value : goal.returns-in-Err-clause-value
returns-in-Err-clause-value c =
    let gap : IsGapFor c.self.inside.kept.items c.args.place.now c.in-Err.field-0 = subst (λ rows. IsGapFor rows c.args.place.now c.in-Err.field-0) c.deref.ensures.value c.in-Err.ensures.absent in
    sym (get-tables_gap c.self.inside.kept.items c.args.place.now c.in-Err.field-0 gap) ∙ ap (λ s. get s.tables c.args.place.now) c.self.view_is

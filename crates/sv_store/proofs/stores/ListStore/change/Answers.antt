use Rattle.std.proofs.Common.{◌≡◌, ◌<◌, ◌≤◌, refl, sym, subst, ◌∙◌, length, set, arith}
use Rattle.std.specs.Prelude.{vec_len}
use Rattle.std.specs.Vec.{vec_capacity}
use Rattle.sv_app.specs.Schema.{declaration_of}
use Rattle.sv_effect.specs.StampedTables.{row_of}
use Rattle.sv_effect.specs.RowChange.{changed, is_annotated, zero_row}
use Rattle.sv_effect.specs.Applied.{place_of}
use Rattle.sv_effect.specs.Fits.{CellsFit, CountsFit}
use Rattle.sv_store.specs.Stored.{stored_in, Keeps, IsAt, IsGapFor}
use Rattle.sv_store.specs.Standing.{standing}
use Rattle.sv_store.proofs.StoreLaws.{fits_in, keeps_insert, space_set, space_insert}
use Rattle.sv_store.proofs.ChangeLaws.{kept_standing, new_standing, changed_set, keeps_changed, changed_insert}
use Rattle.sv_store.proofs.stores.ListStore.change.Goals as goal

pub apply_row-requires-clause-row : goal.apply_row-requires-clause-row
apply_row-requires-clause-row c =
    let at : IsAt c.self.inside.kept.items (place_of c.args.effect.now) c.in-Ok.at = subst (λ rows. IsAt rows (place_of c.args.effect.now) c.in-Ok.at) c.deref.ensures.value c.in-Ok.ensures.found in
    let is : standing (declaration_of c.args.table.now) c.args.effect.now c.args.self.now.tables ≡ row_of c.index_mut.result.now.row =
    kept_standing c.self.inside.kept.items (vec_capacity c.self.inside.kept) c.args.self.now (declaration_of c.args.table.now) c.args.effect.now c.in-Ok.at c.index_mut.result.now c.self.view_is c.self.invariant at c.index_mut.ensures.value in
    subst (λ r. CellsFit (declaration_of c.args.table.now).columns r.cells) is c.requires.row

pub apply_row-requires-clause-counts : goal.apply_row-requires-clause-counts
apply_row-requires-clause-counts c =
    let at : IsAt c.self.inside.kept.items (place_of c.args.effect.now) c.in-Ok.at = subst (λ rows. IsAt rows (place_of c.args.effect.now) c.in-Ok.at) c.deref.ensures.value c.in-Ok.ensures.found in
    let is : standing (declaration_of c.args.table.now) c.args.effect.now c.args.self.now.tables ≡ row_of c.index_mut.result.now.row =
    kept_standing c.self.inside.kept.items (vec_capacity c.self.inside.kept) c.args.self.now (declaration_of c.args.table.now) c.args.effect.now c.in-Ok.at c.index_mut.result.now c.self.view_is c.self.invariant at c.index_mut.ensures.value in
    subst (λ r. CountsFit (changed (is_annotated c.args.table.now.kind) c.args.stamp c.args.effect.now r).cells) is c.requires.counts

pub invariant_of-self : goal.invariant_of-self
invariant_of-self c =
    let at : IsAt c.self.inside.kept.items (place_of c.args.effect.now) c.in-Ok.at = subst (λ rows. IsAt rows (place_of c.args.effect.now) c.in-Ok.at) c.deref.ensures.value c.in-Ok.ensures.found in
    keeps_changed c.self.inside.kept.items (vec_capacity c.self.inside.kept) c.in-Ok.at c.index_mut.result.now (record { place = c.index_mut.result.now.place; row = c.apply_row.new.row }) (place_of c.args.effect.now) c.self.invariant at c.index_mut.ensures.value refl

pub returns-in-Ok-clause-made : goal.returns-in-Ok-clause-made
returns-in-Ok-clause-made c =
    let at : IsAt c.self.inside.kept.items (place_of c.args.effect.now) c.in-Ok.at = subst (λ rows. IsAt rows (place_of c.args.effect.now) c.in-Ok.at) c.deref.ensures.value c.in-Ok.ensures.found in
    changed_set c.self.inside.kept.items (vec_capacity c.self.inside.kept) c.args.self.now (declaration_of c.args.table.now) c.args.stamp c.args.effect.now c.in-Ok.at c.index_mut.result.now (record { place = c.index_mut.result.now.place; row = c.apply_row.new.row }) c.self.view_is c.self.invariant at c.index_mut.ensures.value refl c.apply_row.ensures.changed

pub new_row-row-requires-clause-row : goal.new_row-row-requires-clause-row
new_row-row-requires-clause-row c =
    let gap : IsGapFor c.self.inside.kept.items (place_of c.args.effect.now) c.in-Err.at = subst (λ rows. IsGapFor rows (place_of c.args.effect.now) c.in-Err.at) c.deref.ensures.value c.in-Err.ensures.absent in
    let is : standing (declaration_of c.args.table.now) c.args.effect.now c.args.self.now.tables ≡ zero_row (declaration_of c.args.table.now) c.args.effect.now.key =
    new_standing c.self.inside.kept.items (vec_capacity c.self.inside.kept) c.args.self.now (declaration_of c.args.table.now) c.args.effect.now c.in-Err.at c.self.view_is gap in
    subst (λ r. CellsFit (declaration_of c.args.table.now).columns r.cells) is c.requires.row

pub new_row-row-requires-clause-counts : goal.new_row-row-requires-clause-counts
new_row-row-requires-clause-counts c =
    let gap : IsGapFor c.self.inside.kept.items (place_of c.args.effect.now) c.in-Err.at = subst (λ rows. IsGapFor rows (place_of c.args.effect.now) c.in-Err.at) c.deref.ensures.value c.in-Err.ensures.absent in
    let is : standing (declaration_of c.args.table.now) c.args.effect.now c.args.self.now.tables ≡ zero_row (declaration_of c.args.table.now) c.args.effect.now.key =
    new_standing c.self.inside.kept.items (vec_capacity c.self.inside.kept) c.args.self.now (declaration_of c.args.table.now) c.args.effect.now c.in-Err.at c.self.view_is gap in
    subst (λ r. CountsFit (changed (is_annotated c.args.table.now.kind) c.args.stamp c.args.effect.now r).cells) is c.requires.counts

pub invariant_of-self-in-Ok-insert : goal.invariant_of-self-in-Ok-insert
invariant_of-self-in-Ok-insert c =
    let gap : IsGapFor c.self.inside.kept.items (place_of c.args.effect.now) c.in-Err.at = subst (λ rows. IsGapFor rows (place_of c.args.effect.now) c.in-Err.at) c.deref.ensures.value c.in-Err.ensures.absent in
    let fits : length c.self.inside.kept.items < vec_capacity c.self.inside.kept =
    fits_in c.self.inside.kept.items (vec_capacity c.self.inside.kept) c.args.self.now (place_of c.args.effect.now) c.in-Err.at c.self.view_is gap c.requires.room in
    let lt : vec_len c.self.inside.kept < vec_capacity c.self.inside.kept = omega (arith, fits, c.self.inside.kept.ok.0) in
    let cap : vec_capacity c.insert.new.self ≡ vec_capacity c.self.inside.kept = (c.in-Ok-insert.ensures.in_place lt).1.0 in
    subst (Keeps c.insert.new.self.items) (sym cap)
    (subst (λ rows. Keeps rows (vec_capacity c.self.inside.kept)) (sym c.in-Ok-insert.ensures.items) (keeps_insert c.self.inside.kept.items (vec_capacity c.self.inside.kept) c.in-Err.at (record { place = place_of c.args.effect.now; row = c.new_row-row.result }) c.self.invariant gap))

pub returns-in-Ok-insert-clause-made : goal.returns-in-Ok-insert-clause-made
returns-in-Ok-insert-clause-made c =
    let gap : IsGapFor c.self.inside.kept.items (place_of c.args.effect.now) c.in-Err.at = subst (λ rows. IsGapFor rows (place_of c.args.effect.now) c.in-Err.at) c.deref.ensures.value c.in-Err.ensures.absent in
    let fits : length c.self.inside.kept.items < vec_capacity c.self.inside.kept =
    fits_in c.self.inside.kept.items (vec_capacity c.self.inside.kept) c.args.self.now (place_of c.args.effect.now) c.in-Err.at c.self.view_is gap c.requires.room in
    let lt : vec_len c.self.inside.kept < vec_capacity c.self.inside.kept = omega (arith, fits, c.self.inside.kept.ok.0) in
    let cap : vec_capacity c.insert.new.self ≡ vec_capacity c.self.inside.kept = (c.in-Ok-insert.ensures.in_place lt).1.0 in
    (λ i. stored_in (c.in-Ok-insert.ensures.items i) (cap i))
    ∙ changed_insert c.self.inside.kept.items (vec_capacity c.self.inside.kept) c.args.self.now (declaration_of c.args.table.now) c.args.stamp c.args.effect.now c.in-Err.at (record { place = place_of c.args.effect.now; row = c.new_row-row.result }) c.self.view_is gap refl c.new_row-row.ensures

pub unreachable-requires : goal.unreachable-requires
unreachable-requires c =
    let gap : IsGapFor c.self.inside.kept.items (place_of c.args.effect.now) c.in-Err.at = subst (λ rows. IsGapFor rows (place_of c.args.effect.now) c.in-Err.at) c.deref.ensures.value c.in-Err.ensures.absent in
    let fits : length c.self.inside.kept.items < vec_capacity c.self.inside.kept =
    fits_in c.self.inside.kept.items (vec_capacity c.self.inside.kept) c.args.self.now (place_of c.args.effect.now) c.in-Err.at c.self.view_is gap c.requires.room in
    omega (arith, fits, c.self.inside.kept.ok.0, c.in-Err-insert.ensures.full)

pub returns-in-Ok-clause-room : goal.returns-in-Ok-clause-room
returns-in-Ok-clause-room c =
    let at : IsAt c.self.inside.kept.items (place_of c.args.effect.now) c.in-Ok.at = subst (λ rows. IsAt rows (place_of c.args.effect.now) c.in-Ok.at) c.deref.ensures.value c.in-Ok.ensures.found in
    let kept : Keeps (set c.self.inside.kept.items c.in-Ok.at (record { place = c.index_mut.result.now.place; row = c.apply_row.new.row })) (vec_capacity c.self.inside.kept) =
    keeps_changed c.self.inside.kept.items (vec_capacity c.self.inside.kept) c.in-Ok.at c.index_mut.result.now (record { place = c.index_mut.result.now.place; row = c.apply_row.new.row }) (place_of c.args.effect.now) c.self.invariant at c.index_mut.ensures.value refl in
    let le : length c.self.inside.kept.items ≤ vec_capacity c.self.inside.kept = omega (arith, c.self.inside.kept.ok.0, c.self.inside.kept.ok.1) in
    space_set c.self.inside.kept.items (vec_capacity c.self.inside.kept) c.args.self.now c.in-Ok.at (record { place = c.index_mut.result.now.place; row = c.apply_row.new.row }) c.self.view_is c.self.invariant.rising le kept.rising

pub returns-in-Ok-insert-clause-room : goal.returns-in-Ok-insert-clause-room
returns-in-Ok-insert-clause-room c =
    let gap : IsGapFor c.self.inside.kept.items (place_of c.args.effect.now) c.in-Err.at = subst (λ rows. IsGapFor rows (place_of c.args.effect.now) c.in-Err.at) c.deref.ensures.value c.in-Err.ensures.absent in
    let fits : length c.self.inside.kept.items < vec_capacity c.self.inside.kept =
    fits_in c.self.inside.kept.items (vec_capacity c.self.inside.kept) c.args.self.now (place_of c.args.effect.now) c.in-Err.at c.self.view_is gap c.requires.room in
    let lt : vec_len c.self.inside.kept < vec_capacity c.self.inside.kept = omega (arith, fits, c.self.inside.kept.ok.0) in
    let cap : vec_capacity c.insert.new.self ≡ vec_capacity c.self.inside.kept = (c.in-Ok-insert.ensures.in_place lt).1.0 in
    let kept : Keeps c.insert.new.self.items (vec_capacity c.self.inside.kept) =
    subst (λ rows. Keeps rows (vec_capacity c.self.inside.kept)) (sym c.in-Ok-insert.ensures.items) (keeps_insert c.self.inside.kept.items (vec_capacity c.self.inside.kept) c.in-Err.at (record { place = place_of c.args.effect.now; row = c.new_row-row.result }) c.self.invariant gap) in
    space_insert c.self.inside.kept.items c.insert.new.self.items (vec_capacity c.self.inside.kept) (vec_capacity c.insert.new.self) c.args.self.now c.in-Err.at (record { place = place_of c.args.effect.now; row = c.new_row-row.result }) c.self.view_is c.self.invariant.rising fits
    c.in-Ok-insert.ensures.items cap gap.within kept.rising

use Rattle.std.proofs.Common.{refl, ap, sym, subst, ◌∙◌, arith}
use Rattle.std.specs.Vec.{vec_capacity}
use Rattle.sv_app.specs.Schema.{declaration_of}
use Rattle.sv_effect.specs.RowChange.{changed, is_annotated}
use Rattle.sv_effect.specs.Applied.{place_of}
use Rattle.sv_effect.specs.Fits.{CellsFit, CountsFit}
use Rattle.sv_store.specs.Stored.{with_row}
use Rattle.sv_pool.proofs.PoolLaws.{found_in, gap_in, slot_given, slot_place, gap_within, pool_spare, pool_filled, pool_standing, pool_new_standing, changed_kept, holds_set, pool_set, kept_by, holds_kept, pool_kept, space_kept}
use Rattle.sv_pool.proofs.pools.PoolStore.change.Goals as goal

pub at_mut-requires : goal.at_mut-requires
at_mut-requires c =
    let found = found_in c.deref.ensures.value c.in-Ok.ensures.found in
    slot_given c.self.invariant found

pub apply_row-requires-clause-row : goal.apply_row-requires-clause-row
apply_row-requires-clause-row c =
    let found = found_in c.deref.ensures.value c.in-Ok.ensures.found in
    let is = pool_standing (declaration_of c.args.table.now) c.args.effect.now c.self.view_is c.self.invariant found c.at_mut.ensures.value in
    subst (λ r. CellsFit (declaration_of c.args.table.now).columns r.cells) is c.requires.row

pub apply_row-requires-clause-counts : goal.apply_row-requires-clause-counts
apply_row-requires-clause-counts c =
    let found = found_in c.deref.ensures.value c.in-Ok.ensures.found in
    let is = pool_standing (declaration_of c.args.table.now) c.args.effect.now c.self.view_is c.self.invariant found c.at_mut.ensures.value in
    subst (λ r. CountsFit (changed (is_annotated c.args.table.now.kind) c.args.stamp c.args.effect.now r).cells) is c.requires.counts

pub invariant_of-self : goal.invariant_of-self
invariant_of-self c =
    let found = found_in c.deref.ensures.value c.in-Ok.ensures.found in
    holds_set (record { place = c.at_mut.result.now.place; row = c.apply_row.new.row }) c.self.invariant found (slot_place found c.at_mut.ensures.value)

pub new_row-row-requires-clause-row : goal.new_row-row-requires-clause-row
new_row-row-requires-clause-row c =
    let gap = gap_in c.self.inside.rows.values c.deref.ensures.value c.in-Err.ensures.absent in
    let none = pool_new_standing c.self.inside.index.items c.self.inside.rows (declaration_of c.args.table.now) c.args.effect.now c.self.view_is gap in
    subst (λ r. CellsFit (declaration_of c.args.table.now).columns r.cells) none c.requires.row

pub new_row-row-requires-clause-counts : goal.new_row-row-requires-clause-counts
new_row-row-requires-clause-counts c =
    let gap = gap_in c.self.inside.rows.values c.deref.ensures.value c.in-Err.ensures.absent in
    let none = pool_new_standing c.self.inside.index.items c.self.inside.rows (declaration_of c.args.table.now) c.args.effect.now c.self.view_is gap in
    subst (λ r. CountsFit (changed (is_annotated c.args.table.now.kind) c.args.stamp c.args.effect.now r).cells) none c.requires.counts

pub keep-requires-clause-within : goal.keep-requires-clause-within
keep-requires-clause-within c =
    let gap = gap_in c.self.inside.rows.values c.deref.ensures.value c.in-Err.ensures.absent in
    gap_within c.self.invariant gap

pub keep-requires-clause-space : goal.keep-requires-clause-space
keep-requires-clause-space c =
    let gap = gap_in c.self.inside.rows.values c.deref.ensures.value c.in-Err.ensures.absent in
    omega (arith, c.self.invariant.space, pool_spare c.self.inside.index.items c.self.inside.rows c.self.view_is gap c.requires.room)

pub keep-requires-clause-spare : goal.keep-requires-clause-spare
keep-requires-clause-spare c =
    let gap = gap_in c.self.inside.rows.values c.deref.ensures.value c.in-Err.ensures.absent in
    pool_spare c.self.inside.index.items c.self.inside.rows c.self.view_is gap c.requires.room

pub invariant_of-self-in-Err : goal.invariant_of-self-in-Err
invariant_of-self-in-Err c =
    let gap = gap_in c.self.inside.rows.values c.deref.ensures.value c.in-Err.ensures.absent in
    let kept =
    kept_by c.self.inside.index.items c.self.inside.rows (vec_capacity c.self.inside.index) c.in-Err.at
    (record { place = place_of c.args.effect.now; row = c.new_row-row.result })
    c.keep.ensures.index c.keep.ensures.values c.keep.ensures.spare c.keep.ensures.capacity in
    holds_kept c.self.invariant gap kept

pub returns-in-Ok-clause-made : goal.returns-in-Ok-clause-made
returns-in-Ok-clause-made c =
    let found = found_in c.deref.ensures.value c.in-Ok.ensures.found in
    let is = pool_standing (declaration_of c.args.table.now) c.args.effect.now c.self.view_is c.self.invariant found c.at_mut.ensures.value in
    pool_set (record { place = c.at_mut.result.now.place; row = c.apply_row.new.row }) c.self.view_is c.self.invariant found
    (slot_place found c.at_mut.ensures.value)
    ∙ ap (with_row c.args.self.now (place_of c.args.effect.now))
    (changed_kept c.args.self.now (declaration_of c.args.table.now) c.args.stamp c.args.effect.now is c.apply_row.ensures.changed)

pub returns-in-Ok-clause-room : goal.returns-in-Ok-clause-room
returns-in-Ok-clause-room c =
    let found = found_in c.deref.ensures.value c.in-Ok.ensures.found in
    pool_filled refl
    (holds_set (record { place = c.at_mut.result.now.place; row = c.apply_row.new.row }) c.self.invariant found (slot_place found c.at_mut.ensures.value))
    ∙ sym (pool_filled c.self.view_is c.self.invariant)

pub returns-in-Err-clause-made : goal.returns-in-Err-clause-made
returns-in-Err-clause-made c =
    let gap = gap_in c.self.inside.rows.values c.deref.ensures.value c.in-Err.ensures.absent in
    let none = pool_new_standing c.self.inside.index.items c.self.inside.rows (declaration_of c.args.table.now) c.args.effect.now c.self.view_is gap in
    let kept =
    kept_by c.self.inside.index.items c.self.inside.rows (vec_capacity c.self.inside.index) c.in-Err.at
    (record { place = place_of c.args.effect.now; row = c.new_row-row.result })
    c.keep.ensures.index c.keep.ensures.values c.keep.ensures.spare c.keep.ensures.capacity in
    pool_kept c.self.view_is c.self.invariant gap kept
    ∙ ap (with_row c.args.self.now (place_of c.args.effect.now))
    (changed_kept c.args.self.now (declaration_of c.args.table.now) c.args.stamp c.args.effect.now none c.new_row-row.ensures)

pub returns-in-Err-clause-room : goal.returns-in-Err-clause-room
returns-in-Err-clause-room c =
    let gap = gap_in c.self.inside.rows.values c.deref.ensures.value c.in-Err.ensures.absent in
    let kept =
    kept_by c.self.inside.index.items c.self.inside.rows (vec_capacity c.self.inside.index) c.in-Err.at
    (record { place = place_of c.args.effect.now; row = c.new_row-row.result })
    c.keep.ensures.index c.keep.ensures.values c.keep.ensures.spare c.keep.ensures.capacity in
    space_kept c.self.view_is c.self.invariant gap kept

use Rattle.std.proofs.Common.{◌≡◌, ◌<◌, refl, sym, subst, ◌∙◌, length, arith}
use Rattle.std.specs.Prelude.{vec_len}
use Rattle.std.specs.Vec.{vec_capacity}
use Rattle.sv_store.specs.Stored.{stored_in, Keeps, IsAt, IsGapFor}
use Rattle.sv_store.proofs.StoreLaws.{stored_set, stored_insert, fits_in, keeps_set, keeps_insert}
use Rattle.sv_store.proofs.stores.ListStore.put.Goals as goal

pub invariant_of-self : goal.invariant_of-self
invariant_of-self c =
    let at : IsAt c.self.inside.kept.items c.args.row.place c.in-Ok.at = subst (λ rows. IsAt rows c.args.row.place c.in-Ok.at) c.deref.ensures.value c.in-Ok.ensures.found in
    keeps_set c.self.inside.kept.items (vec_capacity c.self.inside.kept) c.in-Ok.at c.args.row c.args.row.place c.self.invariant at refl

pub returns-in-Ok : goal.returns-in-Ok
returns-in-Ok c =
    let at : IsAt c.self.inside.kept.items c.args.row.place c.in-Ok.at = subst (λ rows. IsAt rows c.args.row.place c.in-Ok.at) c.deref.ensures.value c.in-Ok.ensures.found in
    stored_set c.self.inside.kept.items (vec_capacity c.self.inside.kept) c.args.self.now c.in-Ok.at c.args.row c.args.row.place c.self.view_is c.self.invariant.rising at refl

pub invariant_of-self-in-Ok-insert : goal.invariant_of-self-in-Ok-insert
invariant_of-self-in-Ok-insert c =
    let gap : IsGapFor c.self.inside.kept.items c.args.row.place c.in-Err.at = subst (λ rows. IsGapFor rows c.args.row.place c.in-Err.at) c.deref.ensures.value c.in-Err.ensures.absent in
    let fits : length c.self.inside.kept.items < vec_capacity c.self.inside.kept =
    fits_in c.self.inside.kept.items (vec_capacity c.self.inside.kept) c.args.self.now c.args.row.place c.in-Err.at c.self.view_is gap c.requires in
    let lt : vec_len c.self.inside.kept < vec_capacity c.self.inside.kept = omega (arith, fits, c.self.inside.kept.ok.0) in
    let cap : vec_capacity c.insert.new.self ≡ vec_capacity c.self.inside.kept = (c.in-Ok-insert.ensures.in_place lt).1.0 in
    subst (Keeps c.insert.new.self.items) (sym cap)
    (subst (λ rows. Keeps rows (vec_capacity c.self.inside.kept)) (sym c.in-Ok-insert.ensures.items)
    (keeps_insert c.self.inside.kept.items (vec_capacity c.self.inside.kept) c.in-Err.at c.args.row c.self.invariant gap))

pub returns-in-Ok-insert : goal.returns-in-Ok-insert
returns-in-Ok-insert c =
    let gap : IsGapFor c.self.inside.kept.items c.args.row.place c.in-Err.at = subst (λ rows. IsGapFor rows c.args.row.place c.in-Err.at) c.deref.ensures.value c.in-Err.ensures.absent in
    let fits : length c.self.inside.kept.items < vec_capacity c.self.inside.kept =
    fits_in c.self.inside.kept.items (vec_capacity c.self.inside.kept) c.args.self.now c.args.row.place c.in-Err.at c.self.view_is gap c.requires in
    let lt : vec_len c.self.inside.kept < vec_capacity c.self.inside.kept = omega (arith, fits, c.self.inside.kept.ok.0) in
    let cap : vec_capacity c.insert.new.self ≡ vec_capacity c.self.inside.kept = (c.in-Ok-insert.ensures.in_place lt).1.0 in
    (λ i. stored_in (c.in-Ok-insert.ensures.items i) (cap i))
    ∙ stored_insert c.self.inside.kept.items (vec_capacity c.self.inside.kept) c.args.self.now c.in-Err.at c.args.row c.self.view_is gap

pub unreachable-requires : goal.unreachable-requires
unreachable-requires c =
    let gap : IsGapFor c.self.inside.kept.items c.args.row.place c.in-Err.at = subst (λ rows. IsGapFor rows c.args.row.place c.in-Err.at) c.deref.ensures.value c.in-Err.ensures.absent in
    let fits : length c.self.inside.kept.items < vec_capacity c.self.inside.kept =
    fits_in c.self.inside.kept.items (vec_capacity c.self.inside.kept) c.args.self.now c.args.row.place c.in-Err.at c.self.view_is gap c.requires in
    omega (arith, fits, c.self.inside.kept.ok.0, c.in-Err-insert.ensures.full)

use Rattle.std.proofs.Common.{arith}
use Rattle.sv_store.proofs.TakeLaws.{IsRead, change_read, read_bound, read_needs, read_made}
use Rattle.sv_store.proofs.stores.ListStore.apply.Goals as goal

pub index-requires : goal.index-requires
index-requires c =
    let read : IsRead c.args.op.now c.loop-place.place c.effect-item.result =
    change_read _ c.args.op.now c.loop-place.place c.effect-item.result c.items-effect-items.ensures c.loop-place-test.true c.effect-item.is in
    omega (arith, read_bound read c.loop-place.invariant, c.args.app.now.tables.ok.0)

pub change-requires-clause-few : goal.change-requires-clause-few
change-requires-clause-few c =
    let read : IsRead c.args.op.now c.loop-place.place c.effect-item.result =
    change_read _ c.args.op.now c.loop-place.place c.effect-item.result c.items-effect-items.ensures c.loop-place-test.true c.effect-item.is in
    (read_needs c.index.result.now _ read c.index.ensures c.number.ensures.value c.loop-place.invariant).few

pub change-requires-clause-change : goal.change-requires-clause-change
change-requires-clause-change c =
    let read : IsRead c.args.op.now c.loop-place.place c.effect-item.result =
    change_read _ c.args.op.now c.loop-place.place c.effect-item.result c.items-effect-items.ensures c.loop-place-test.true c.effect-item.is in
    (read_needs c.index.result.now _ read c.index.ensures c.number.ensures.value c.loop-place.invariant).change

pub change-requires-clause-row : goal.change-requires-clause-row
change-requires-clause-row c =
    let read : IsRead c.args.op.now c.loop-place.place c.effect-item.result =
    change_read _ c.args.op.now c.loop-place.place c.effect-item.result c.items-effect-items.ensures c.loop-place-test.true c.effect-item.is in
    (read_needs c.index.result.now _ read c.index.ensures c.number.ensures.value c.loop-place.invariant).row

pub change-requires-clause-counts : goal.change-requires-clause-counts
change-requires-clause-counts c =
    let read : IsRead c.args.op.now c.loop-place.place c.effect-item.result =
    change_read _ c.args.op.now c.loop-place.place c.effect-item.result c.items-effect-items.ensures c.loop-place-test.true c.effect-item.is in
    (read_needs c.index.result.now _ read c.index.ensures c.number.ensures.value c.loop-place.invariant).counts

pub change-requires-clause-room : goal.change-requires-clause-room
change-requires-clause-room c =
    let read : IsRead c.args.op.now c.loop-place.place c.effect-item.result =
    change_read _ c.args.op.now c.loop-place.place c.effect-item.result c.items-effect-items.ensures c.loop-place-test.true c.effect-item.is in
    (read_needs c.index.result.now _ read c.index.ensures c.number.ensures.value c.loop-place.invariant).room

pub loop-place-preserved : goal.loop-place-preserved
loop-place-preserved c =
    let read : IsRead c.args.op.now c.loop-place.place c.effect-item.result =
    change_read _ c.args.op.now c.loop-place.place c.effect-item.result c.items-effect-items.ensures c.loop-place-test.true c.effect-item.is in
    read_made c.index.result.now _ read c.index.ensures c.number.ensures.value c.change.ensures.made c.change.ensures.room c.loop-place.invariant

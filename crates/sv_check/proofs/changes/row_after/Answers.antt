use Rattle.std.proofs.Common.{rules, ◌≡◌, ◌≤◌, ◌+◌, length, arith}
use Rattle.sv_app.specs.Schema.{schema_of}
use Rattle.sv_effect.specs.RunChanges.{with_writes}
use Rattle.sv_effect.specs.Room.{AreWordWrites}
use Rattle.sv_effect.proofs.RoomLaws.{room_few}
use Rattle.sv_check.proofs.BoundLaws.{row_bounded}
use Rattle.sv_check.proofs.changes.row_after.Goals as goal

pub make_writes-requires : goal.make_writes-requires
make_writes-requires c =
    let few : length c.as_slice.result.now ≤ 16 = search rules in
    let is : c.into_vec-values.result.items ≡ c.in_ok-values.field-0.values = search rules in
    room_few (length c.as_slice.result.now) 16 c.in_ok-values.field-0.values c.into_vec-values.result.items few is (c.in_ok-values.ensures.bounded 16 (omega arith) c.requires.bounded).room

pub returns-clause-bounded : goal.returns-clause-bounded
returns-clause-bounded c = λ writes le h.
    let few : length c.args.effect.now.writes.items ≤ 16 = search rules in
    let words : AreWordWrites c.args.effect.now.writes.items = search rules in
    let is : c.from_vec.result ≡ with_writes c.args.effect.now.writes.items c.in_ok-values.field-0.values = search rules in
    row_bounded (schema_of c.args.app.now.tables.items) c.args.effect.now writes c.in_ok-values.field-0.values c.from_vec.result c.requires.fits few words is
    (c.in_ok-values.ensures.bounded (16 + writes) (omega (arith, le)) h)

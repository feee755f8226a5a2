use Rattle.std.proofs.Common.{◌≡◌, ◌+◌, ◌-◌, length, sym, ap, subst, ◌∙◌, arith}
use Rattle.std.specs.Vec.{vec_capacity}
use Rattle.sv_app.specs.Schema.{schema_of}
use Rattle.sv_effect.specs.RowsFit.{TablesAreOf}
use Rattle.sv_store.specs.Stored.{tables_in}
use Rattle.sv_store.proofs.InitLaws.{init_none, none_are_of, Starts, IsRead, read_bound, read_ready, read_room, read_kept}
use Rattle.sv_store.proofs.stores.ListStore.start.Goals as goal

pub loop-row-init : goal.loop-row-init
loop-row-init c =
    let left : ((vec_capacity c.in_ok-with_capacity.field-0 - length c.in_ok-with_capacity.field-0.items) + 0) ≡ (length c.args.init.now + c.args.room) =
    omega (arith, c.in_ok-with_capacity.ensures.exact, ap length c.in_ok-with_capacity.ensures.items) in
    record {
      tables = ap tables_in c.in_ok-with_capacity.ensures.items ∙ init_none (schema_of c.args.app.now.tables.items);
      left = left;
      of =
          subst (TablesAreOf (schema_of c.args.app.now.tables.items)) (sym (ap tables_in c.in_ok-with_capacity.ensures.items))
          (none_are_of (schema_of c.args.app.now.tables.items) c.requires.accepted);
    }

pub index-requires : goal.index-requires
index-requires c =
    let starts : Starts c.args.app.now.tables.items c.args.init.now =
    record { accepted = c.requires.accepted; fits = c.requires.fits; distinct = c.requires.distinct } in
    let read : IsRead c.args.init.now c.loop-row.row-index c.row-item.result = record { within = c.loop-row-test.true; is = c.row-item.is } in
    omega (arith, read_bound starts read, c.args.app.now.tables.ok.0)

pub init_row-requires-clause-few : goal.init_row-requires-clause-few
init_row-requires-clause-few c =
    let starts : Starts c.args.app.now.tables.items c.args.init.now =
    record { accepted = c.requires.accepted; fits = c.requires.fits; distinct = c.requires.distinct } in
    let read : IsRead c.args.init.now c.loop-row.row-index c.row-item.result = record { within = c.loop-row-test.true; is = c.row-item.is } in
    (read_ready c.index.result.now starts read c.index.ensures).few

pub init_row-requires-clause-full : goal.init_row-requires-clause-full
init_row-requires-clause-full c =
    let starts : Starts c.args.app.now.tables.items c.args.init.now =
    record { accepted = c.requires.accepted; fits = c.requires.fits; distinct = c.requires.distinct } in
    let read : IsRead c.args.init.now c.loop-row.row-index c.row-item.result = record { within = c.loop-row-test.true; is = c.row-item.is } in
    (read_ready c.index.result.now starts read c.index.ensures).full

pub put-requires : goal.put-requires
put-requires c =
    let starts : Starts c.args.app.now.tables.items c.args.init.now =
    record { accepted = c.requires.accepted; fits = c.requires.fits; distinct = c.requires.distinct } in
    let read : IsRead c.args.init.now c.loop-row.row-index c.row-item.result = record { within = c.loop-row-test.true; is = c.row-item.is } in
    read_room _ starts read c.loop-row.invariant c.init_row.ensures.place

pub loop-row-preserved : goal.loop-row-preserved
loop-row-preserved c =
    let starts : Starts c.args.app.now.tables.items c.args.init.now =
    record { accepted = c.requires.accepted; fits = c.requires.fits; distinct = c.requires.distinct } in
    let read : IsRead c.args.init.now c.loop-row.row-index c.row-item.result = record { within = c.loop-row-test.true; is = c.row-item.is } in
    read_kept c.index.result.now starts read c.index.ensures c.loop-row.invariant
    c.init_row.ensures.place c.init_row.ensures.row c.init_row.ensures.counts c.put.ensures

use Rattle.std.proofs.Common.{refl, ap}
use Rattle.sv_app.specs.Schema.{schema_of}
use Rattle.sv_check.proofs.BrokenLaws.{says_unbound, says_referring}
use Rattle.sv_check.proofs.ReferLaws.{refers_word}
use Rattle.sv_check.proofs.broken.row_breaks.Goals as goal

pub key_by-requires : goal.key_by-requires
key_by-requires g c =
    refers_word (schema_of c.args.app.now.tables.items) c.requires.accepted c.args.place.now c.args.inv.now c.in-Refers.col c.in-Refers.table c.in-Refers.target c.args.row.now c.value_of-in-Refers.result
    c.requires.declared c.in-Refers.is c.requires.bounded c.value_of-in-Refers.ensures

pub returns-then-not-binds-clause-followed : goal.returns-then-not-binds-clause-followed
returns-then-not-binds-clause-followed g c =
    says_unbound _ _ _ _ (schema_of c.args.app.now.tables.items) c.args.left.now c.args.place.now c.args.row.now c.args.inv.now.body c.in-Refers.col c.in-Refers.table c.in-Refers.target c.binds.result
    refl refl c.in-Refers.is c.binds.ensures c.if-not-binds.true

pub returns-in_ok-found-in-Refers-clause-followed : goal.returns-in_ok-found-in-Refers-clause-followed
returns-in_ok-found-in-Refers-clause-followed g c =
    says_referring _ _ _ _ (schema_of c.args.app.now.tables.items) c.args.left.now c.args.place.now (record { table = c.in-Refers.table.num; key = c.key_by.result }) c.args.row.now c.args.inv.now
    c.in-Refers.col c.in-Refers.table c.in-Refers.target c.value_of-in-Refers.result c.binds.result c.in_ok-found-in-Refers.found c.is_left-sure.result
    c.requires.declared c.in-Refers.is c.binds.ensures c.if-not-binds.false c.is_left-sure.ensures c.value_of-in-Refers.ensures
    (ap (λ k. record { table = c.in-Refers.table.num; key = k }) c.key_by.ensures)
    c.in_ok-found-in-Refers.ensures.followed

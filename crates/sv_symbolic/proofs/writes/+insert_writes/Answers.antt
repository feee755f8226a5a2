use Rattle.std.proofs.Common.{◌-◌, ◌+◌, length, take, drop, rules}
use Rattle.sv_app.specs.Schema.{declaration_of}
use Rattle.sv_symbolic.specs.States.{syms_of}
use Rattle.sv_symbolic.proofs.ToldLaws.{told_inserts, first_and_later}
use Rattle.sv_symbolic.proofs.writes.+insert_writes.Goals as goal

pub returns-in_ok-all-in-len1-up-clause-told : goal.returns-in_ok-all-in-len1-up-clause-told
returns-in_ok-all-in-len1-up-clause-told t c =
    let rest = take (length c.args.columns.now - 1) (drop 1 c.args.columns.now) in
    told_inserts (declaration_of c.args.table.now) (syms_of c.args.vals.now) c.args.number (c.args.number + 1) c.first-item.result rest c.args.columns.now c.args.state.now _ _ _ c.is_grow_only-grows.result _ _ _
    (first_and_later c.args.columns.now c.first-item.result c.in-len1-up.len_at_least c.first-item.is) (search rules) (search rules) (search rules) (search rules) (search rules)
    c.in_ok-write-in-len1-up.ensures.told c.in_ok-writes-in-len1-up.ensures.told

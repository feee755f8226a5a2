use Rattle.std.proofs.Common.{◌-◌, length, take, drop, ap, rules}
use Rattle.sv_app.specs.Trees.{term_of, sets_of}
use Rattle.sv_symbolic.specs.States.{names_for, schema_for}
use Rattle.sv_symbolic.proofs.ToldLaws.{told_sets, first_and_later}
use Rattle.sv_symbolic.proofs.writes.+set_writes.Goals as goal

pub returns-in_ok-all-in-len1-up-clause-told : goal.returns-in_ok-all-in-len1-up-clause-told
returns-in_ok-all-in-len1-up-clause-told t c =
    let rest = take (length c.args.sets.now - 1) (drop 1 c.args.sets.now) in
    told_sets (schema_for c.args.setting.now) (names_for c.args.setting.now) c.args.table (sets_of c.args.sets.now) (c.first-item.result.0, term_of c.first-item.result.1) (sets_of rest)
    c.args.state.now _ _ _ _ _ _ _ c.merge_in-merge.result
    (ap sets_of (first_and_later c.args.sets.now c.first-item.result c.in-len1-up.len_at_least c.first-item.is)) (search rules) (search rules)
    c.in_ok-val-in-len1-up.ensures.told c.in_ok-write-in-len1-up.ensures.told c.in_ok-writes-in-len1-up.ensures.told

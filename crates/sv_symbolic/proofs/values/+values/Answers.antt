use Rattle.std.proofs.Common.{◌-◌, length, take, drop, ap, rules}
use Rattle.sv_app.specs.Trees.{term_of, terms_of}
use Rattle.sv_symbolic.specs.States.{names_for, schema_for}
use Rattle.sv_symbolic.proofs.ToldLaws.{told_terms, first_and_later}
use Rattle.sv_symbolic.proofs.values.+values.Goals as goal

pub returns-in_ok-all-in-len1-up-clause-told : goal.returns-in_ok-all-in-len1-up-clause-told
returns-in_ok-all-in-len1-up-clause-told t c =
    let rest = take (length c.args.exprs.now - 1) (drop 1 c.args.exprs.now) in
    told_terms (schema_for c.args.setting.now) (names_for c.args.setting.now) (terms_of c.args.exprs.now) (term_of c.expr-item.result) (terms_of rest)
    c.args.state.now _ _ _ _ _ (ap terms_of (first_and_later c.args.exprs.now c.expr-item.result c.in-len1-up.len_at_least c.expr-item.is)) (search rules)
    c.in_ok-val-in-len1-up.ensures.told c.in_ok-vals-in-len1-up.ensures.told

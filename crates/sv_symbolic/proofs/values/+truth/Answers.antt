use Rattle.std.proofs.Common.{rules}
use Rattle.sv_app.specs.Trees.{term_of, test_of}
use Rattle.sv_symbolic.specs.States.{names_for, schema_for}
use Rattle.sv_symbolic.proofs.ToldLaws.{told_compare, told_both, told_either}
use Rattle.sv_symbolic.proofs.values.+truth.Goals as goal

pub returns-in_ok-holds-in-Cmp-clause-told : goal.returns-in_ok-holds-in-Cmp-clause-told
returns-in_ok-holds-in-Cmp-clause-told t c =
    told_compare (schema_for c.args.setting.now) (names_for c.args.setting.now) (test_of c.args.cond.now) (term_of c.in-Cmp.left) (term_of c.in-Cmp.right) c.in-Cmp.rel c.args.state.now c.value.new.state c.value-in-Cmp.new.state c.choose.new.self _ _ _ (search rules)
    c.in_ok-first-in-Cmp.ensures.told c.in_ok-second-in-Cmp.ensures.told c.in_ok-holds-in-Cmp.ensures.told

pub returns-in_ok-second-in-And-clause-told : goal.returns-in_ok-second-in-And-clause-told
returns-in_ok-second-in-And-clause-told t c =
    told_both (schema_for c.args.setting.now) (names_for c.args.setting.now) (test_of c.args.cond.now) (test_of c.deref-in-And.result.now) (test_of c.deref-in-And-2.result.now) c.args.state.now c.truth-in-And.new.state c.truth-in-And-2.new.state c.in_ok-first-in-And.first c.in_ok-second-in-And.second c.and.result (search rules) c.and.ensures
    c.in_ok-first-in-And.ensures.told c.in_ok-second-in-And.ensures.told

pub returns-in_ok-second-in-Or-clause-told : goal.returns-in_ok-second-in-Or-clause-told
returns-in_ok-second-in-Or-clause-told t c =
    told_either (schema_for c.args.setting.now) (names_for c.args.setting.now) (test_of c.args.cond.now) (test_of c.deref-in-Or.result.now) (test_of c.deref-in-Or-2.result.now) c.args.state.now c.truth-in-Or.new.state c.truth-in-Or-2.new.state c.in_ok-first-in-Or.first c.in_ok-second-in-Or.second c.or.result (search rules) c.or.ensures
    c.in_ok-first-in-Or.ensures.told c.in_ok-second-in-Or.ensures.told

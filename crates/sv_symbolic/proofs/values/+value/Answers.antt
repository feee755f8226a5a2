use Rattle.std.proofs.Common.{rules}
use Rattle.sv_app.specs.Trees.{term_of}
use Rattle.sv_symbolic.specs.States.{names_for, schema_for}
use Rattle.sv_symbolic.proofs.ToldLaws.{told_sum, told_difference, told_product, factors_are}
use Rattle.sv_symbolic.proofs.values.+value.Goals as goal

pub returns-in_ok-sum-in-Add-clause-told : goal.returns-in_ok-sum-in-Add-clause-told
returns-in_ok-sum-in-Add-clause-told t c =
    told_sum (schema_for c.args.setting.now) (names_for c.args.setting.now) c.args.table (term_of c.args.expr.now) (term_of c.deref-in-Add.result.now) (term_of c.deref-in-Add-2.result.now) c.in-Add.field-2 c.args.state.now c.value-in-Add.new.state c.value-in-Add-2.new.state c.sum.new.self _ _ _ (search rules)
    c.in_ok-first-in-Add.ensures.told c.in_ok-second-in-Add.ensures.told c.in_ok-sum-in-Add.ensures.told

pub returns-in_ok-form-in-Sub-clause-told : goal.returns-in_ok-form-in-Sub-clause-told
returns-in_ok-form-in-Sub-clause-told t c =
    told_difference (schema_for c.args.setting.now) (names_for c.args.setting.now) c.args.table (term_of c.args.expr.now) (term_of c.deref-in-Sub.result.now) (term_of c.deref-in-Sub-2.result.now) c.in-Sub.field-2 c.args.state.now c.value-in-Sub.new.state c.value-in-Sub-2.new.state c.difference.new.self _ _ _ (search rules)
    c.in_ok-first-in-Sub.ensures.told c.in_ok-second-in-Sub.ensures.told c.in_ok-form-in-Sub.ensures.told

pub returns-in_ok-product-in-Mul-clause-told : goal.returns-in_ok-product-in-Mul-clause-told
returns-in_ok-product-in-Mul-clause-told t c =
    told_product (schema_for c.args.setting.now) (names_for c.args.setting.now) c.args.table (term_of c.args.expr.now) (term_of c.deref-in-Mul.result.now) (term_of c.deref-in-Mul-2.result.now) c.in-Mul.field-2 c.args.state.now c.value-in-Mul.new.state c.value-in-Mul-2.new.state c.product.new.self _ _ _ (search rules)
    c.in_ok-first-in-Mul.ensures.told c.in_ok-second-in-Mul.ensures.told (factors_are c.is_factor.result c.is_factor-in-Mul.result _ _ _ _ _ _ _ (search rules) (search rules) c.in_ok-product-in-Mul.ensures.told)

use Rattle.std.proofs.Common.{rules}
use Rattle.sv_app.specs.Trees.{terms_of}
use Rattle.sv_linear.specs.Codes.{sym_of}
use Rattle.sv_symbolic.specs.States.{names_for, schema_for, syms_of}
use Rattle.sv_symbolic.proofs.ToldLaws.{told_fresh}
use Rattle.sv_symbolic.proofs.statements.walk_fresh.Goals as goal

pub returns-clause-told : goal.returns-clause-told
returns-clause-told c =
    told_fresh (schema_for c.args.setting.now) (names_for c.args.setting.now) c.args.var c.args.table (terms_of c.args.exprs.now) c.args.state.now c.values.new.state c.draw_symbol.new.self c.put_fresh.new.state c.set_form.new.self (syms_of c.in_ok-vals.vals) (syms_of c.items.result.now) (sym_of c.in_ok-key.key) (search rules)
    c.in_ok-vals.ensures.told c.in_ok-key.ensures.told c.in_ok-put_fresh.ensures.put c.in_ok-put_fresh.ensures.same c.in_ok-set_form.ensures.set c.in_ok-set_form.ensures.same

use Rattle.std.proofs.Common.{rules}
use Rattle.sv_app.specs.Trees.{terms_of, sets_of}
use Rattle.sv_linear.specs.Codes.{writes_of}
use Rattle.sv_symbolic.specs.States.{names_for, schema_for, syms_of}
use Rattle.sv_symbolic.proofs.ToldLaws.{told_updated}
use Rattle.sv_symbolic.proofs.statements.walk_update.Goals as goal

pub returns-clause-told : goal.returns-clause-told
returns-clause-told c =
    told_updated (schema_for c.args.setting.now) (names_for c.args.setting.now) c.args.table (terms_of c.args.key.now) (sets_of c.args.sets.now) c.args.state.now c.values.new.state c.forget.new.self c.set_writes.new.state c.forget-2.new.self c.put_update.new.state (syms_of c.in_ok-values.field-0) (writes_of c.in_ok-writes.writes) (writes_of c.items.result.now) (search rules)
    c.in_ok-values.ensures.told c.forget.ensures.forgotten c.forget.ensures.same c.in_ok-writes.ensures.told c.forget-2.ensures.forgotten c.forget-2.ensures.same c.in_ok-put_update.ensures.put c.in_ok-put_update.ensures.same

use Rattle.sv_app.specs.Schema.{Invariant, declaration_of, schema_of, invariant_of}
use Rattle.sv_app.specs.Typing.{rule_faults}
use Rattle.sv_typing.proofs.NotedLaws.{noted_mapped}
use Rattle.sv_typing.proofs.faults.note_rules.Goals as goal

pub loop-inv-preserved : goal.loop-inv-preserved
loop-inv-preserved c =
    noted_mapped invariant_of (λ (inv : Invariant). rule_faults (schema_of c.args.tables.now) (declaration_of c.args.table.now) inv.rule) c.args.table.now.invs.items
    c.loop-inv.inv-index c.inv-item.result c.args.first.now.held c.loop-inv.first.held c.note_rule.new.first.held
    (rw c.deref-inv-items.ensures.value at c.loop-inv-test.true) (rw c.deref-inv-items.ensures.value at c.inv-item.is) c.loop-inv.invariant c.note_rule.ensures

use Rattle.std.proofs.Common.{◌∙◌, ◌+◌, map, subst, sym}
use Rattle.sv_app.specs.Schema.{schema_of}
use Rattle.sv_effect.specs.RunChanges.{effect_of}
use Rattle.sv_threat.specs.First.{IsFirstOf, IsSeen}
use Rattle.sv_threat.proofs.LabelLaws.{fits_at, change_seen, other_seen}
use Rattle.sv_threat.proofs.labels.first_of_table.Goals.{then-e-table, else-e-table}
use Rattle.sv_threat.proofs.labels.first_of_table.Goals as goal

pub found_at-requires-clause-fits : goal.found_at-requires-clause-fits
found_at-requires-clause-fits c =
    fits_at (schema_of c.args.app.now.tables.items) c.args.effects.now c.loop-number.number c.index-effects-number.result c.loop-number-test.true c.index-effects-number.is c.requires.fits

pub loop-number-preserved : goal.loop-number-preserved
loop-number-preserved c = elim c.if-e-table.branch [
  | then-e-table w ↦
      change_seen (schema_of c.args.app.now.tables.items) c.args.effects.now c.args.table c.loop-number.number c.index-effects-number.result c.loop-number.first w.found_at.result c.if-e-table.first
      c.loop-number-test.true c.index-effects-number.is w.if-e-table.true c.loop-number.invariant w.found_at.ensures (w.first-is ∙ w.sooner-first.ensures)
  | else-e-table w ↦
      subst (IsFirstOf (IsSeen c.args.table (c.loop-number.number + 1)) (schema_of c.args.app.now.tables.items) (map effect_of c.args.effects.now)) (sym w.first-is)
      (other_seen (schema_of c.args.app.now.tables.items) c.args.effects.now c.args.table c.loop-number.number c.index-effects-number.result c.loop-number.first c.loop-number-test.true c.index-effects-number.is
      w.if-e-table.false c.loop-number.invariant)
]

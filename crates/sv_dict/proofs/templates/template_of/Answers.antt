use Rattle.std.proofs.Common.{rules, sym, subst}
use Rattle.sv_paths.specs.Numbered.{part_of}
use Rattle.sv_symbolic.specs.Executes.{effects_of}
use Rattle.sv_dict.specs.Refused.{IsExcess}
use Rattle.sv_dict.specs.Standing.{schema_in, told_in, txns_in}
use Rattle.sv_dict.proofs.ExcessLaws.{shape_excess, form_excess, atoms_named}
use Rattle.sv_dict.proofs.templates.template_of.Goals as goal

pub simplify-requires-clause-atoms : goal.simplify-requires-clause-atoms
simplify-requires-clause-atoms c = atoms_named (told_in c.args.setting.now) (schema_in c.args.setting.now) c.args.path.now.choices c.in-Ok.shape _ c.in-Ok.ensures.closed c.in-Ok-atoms_of.ensures.listed

pub returns-in-Err-clause-excess : goal.returns-in-Err-clause-excess
returns-in-Err-clause-excess c =
    subst (IsExcess (schema_in c.args.setting.now) (txns_in c.args.setting.now) c.args.unit.now.txn) (sym c.by_shape.ensures)
    (shape_excess (schema_in c.args.setting.now) (txns_in c.args.setting.now) (part_of c.args.unit.now) c.requires.path.unit c.args.path.now.choices c.in-Err.stop c.in-Err.ensures.stops)

pub returns-in-Err-atoms_of-clause-excess : goal.returns-in-Err-atoms_of-clause-excess
returns-in-Err-atoms_of-clause-excess c =
    subst (IsExcess (schema_in c.args.setting.now) (txns_in c.args.setting.now) c.args.unit.now.txn) (sym c.by_form.ensures)
    (form_excess (schema_in c.args.setting.now) (txns_in c.args.setting.now) (part_of c.args.unit.now) c.requires.path.unit c.args.path.now.choices c.in-Ok.shape.facts (effects_of c.in-Ok.shape) c.in-Ok.shape.symbols
    (told_in c.args.setting.now) c.in-Err-atoms_of.stop c.in-Ok.ensures.shape c.requires.ready.right c.in-Err-atoms_of.ensures.stops)

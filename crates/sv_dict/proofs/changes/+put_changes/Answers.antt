use Rattle.std.proofs.Common.{rules, refl, sym, ◌∙◌}
use Rattle.sv_dict.specs.Standing.{schema_in, told_in}
use Rattle.sv_dict.proofs.ChangeLaws.{ended_arm, going_arm, later_stop_arm}
use Rattle.sv_dict.proofs.changes.+put_changes.Goals as goal

pub returns-then-ended-clause-listed : goal.returns-then-ended-clause-listed
returns-then-ended-clause-listed t c =
    ended_arm (told_in c.args.setting.now) (schema_in c.args.setting.now) c.args.place c.args.changes.now c.first-item.result c.in-len1-up.len_at_least c.first-item.is
    c.args.atoms.now c.in-Ok.listed c.append.new.atoms c.has_never-ended.result c.in-Ok.ensures (search rules) (search rules) c.if-ended.true

pub returns-in-Some-clause-listed : goal.returns-in-Some-clause-listed
returns-in-Some-clause-listed t c =
    going_arm (told_in c.args.setting.now) (schema_in c.args.setting.now) c.args.place c.args.changes.now c.first-item.result c.in-len1-up.len_at_least c.first-item.is
    c.put_changes.result c.args.atoms.now c.in-Ok.listed c.append.new.atoms c.put_changes.new.atoms c.has_never-ended.result c.in-Ok.ensures (search rules) (search rules) c.if-ended.false
    c.in-Some.next (search rules) c.put_changes.ensures.listed

pub returns-in-Some-clause-stops : goal.returns-in-Some-clause-stops
returns-in-Some-clause-stops t c =
    later_stop_arm (told_in c.args.setting.now) (schema_in c.args.setting.now) c.args.place c.args.changes.now c.first-item.result c.in-len1-up.len_at_least c.first-item.is
    c.put_changes.result c.in-Ok.listed c.has_never-ended.result c.in-Ok.ensures (search rules) c.if-ended.false c.put_changes.ensures.stops

use Rattle.std.proofs.Common.{◌∙◌, sym}
use Rattle.sv_workload.proofs.SettingLaws.{bounded_read}
use Rattle.sv_workload.proofs.settings.next_setting.Goals as goal

pub returns-in-None-clause-bounded : goal.returns-in-None-clause-bounded
returns-in-None-clause-bounded c = bounded_read c.args.rows c.args.given.now c.args.reader.now.rest.now c.setting.result c.setting.new.reader.rest.now (sym c.setting_mark.ensures ∙ c.in-None.is) c.setting.ensures

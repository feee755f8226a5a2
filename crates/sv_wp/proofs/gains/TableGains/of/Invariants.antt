use Rattle.std.proofs.Common.{◌≡◌, length, take}
use Rattle.sv_app.specs.Schema.{schema_of}
use Rattle.sv_wp.specs.Told.{TellsGreatest, told_by}
use Rattle.sv_wp.proofs.gains.TableGains.of.Given as goal

abbrev pub invariant-loop-table : goal.invariant-loop-table
invariant-loop-table l = (length l.tables.items ≡ l.table-index) × TellsGreatest (schema_of (take l.table-index l.app.tables.items)) (told_by l.tables.items)

use Rattle.std.proofs.Common.{map}
use Rattle.sv_app.specs.Schema.{schema_of}
use Rattle.sv_linear.specs.Codes.{atom_of, effect_of}
use Rattle.sv_wp.proofs.CaseOrder.{check_group}
use Rattle.sv_wp.proofs.listing.put_group.Goals as goal

pub returns-then-subject-table-clause-listed : goal.returns-then-subject-table-clause-listed
returns-then-subject-table-clause-listed g c =
    check_group c.args.subject.now.place c.reason_by-reason.result (g.G.GainTeller.told c.args.subject.now.gains.now) (schema_of c.args.subject.now.tables.now) (effect_of c.args.subject.now.e.now) c.args.table
    c.args.question c.args.inv.now c.in-Check-body.check c.args.atoms.now (map atom_of c.put_cases.new.atoms) c.put_cases.result c.len.result
    c.in-Check.is c.in-Check-body.is c.if-subject-table.true c.reason_by-reason.ensures c.len.ensures c.put_cases.ensures.listed

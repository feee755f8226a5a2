use Rattle.std.proofs.Common.{rules}
use Rattle.std.specs.Option.{option_copied, option_map}
use Rattle.sv_linear.specs.Codes.{effect_of, write_of}
use Rattle.sv_wp.proofs.CaseOrder.{stop_of_case}
use Rattle.sv_wp.proofs.cases.case_test.Goals as goal

pub returns-in-Err-clause-wide : goal.returns-in-Err-clause-wide
returns-in-Err-clause-wide g c =
    stop_of_case (g.G.GainTeller.told c.args.gains.now c.args.e.now.table) (effect_of c.args.e.now) c.args.check.now c.args.case (option_map write_of (option_copied c.write_at-hi.result)) (option_map write_of (option_copied c.write_at-lo.result)) c.is_asked.result c.most_of.result c.in-Some.most c.in-Err.stop
    (search rules) (search rules) (search rules) (search rules) (search rules) (search rules) c.in-Err.ensures.wide

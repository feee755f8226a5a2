use Rattle.std.proofs.Common.{rules, sym, subst}
use Rattle.sv_dict.specs.Refused.{IsRefusal}
use Rattle.sv_dict.specs.Standing.{schema_in, txns_in}
use Rattle.sv_dict.proofs.ListingLaws.{starts, refused_at, fitting}
use Rattle.sv_dict.proofs.compiling.with_all.Goals as goal

pub loop-number-init : goal.loop-number-init
loop-number-init c = starts c.args.setting.now c.new-counted.result c.new-counted.ensures.dict c.new-counted.ensures.atoms

pub returns-in-Err-clause-refused : goal.returns-in-Err-clause-refused
returns-in-Err-clause-refused c =
    subst (IsRefusal (schema_in c.args.setting.now) (txns_in c.args.setting.now)) (sym c.stop_at.ensures)
    (refused_at c.routes_are_paths.ensures c.args.setting.now c.loop-number.number c.index-txn.result.now c.loop-number.counted c.in-Err.excess (search rules) c.index-txn.ensures c.loop-number.invariant
    c.in-Err.ensures.excess)

pub returns-clause-fits : goal.returns-clause-fits
returns-clause-fits c = fitting c.routes_are_paths.ensures c.args.setting.now c.loop-number.number c.loop-number.counted (search rules) c.loop-number.invariant

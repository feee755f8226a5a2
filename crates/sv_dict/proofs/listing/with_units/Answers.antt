use Rattle.std.proofs.Common.{rules}
use Rattle.sv_dict.specs.Standing.{schema_in, txns_in}
use Rattle.sv_dict.proofs.ListingLaws.{unit_here, unit_has, unit_next, unit_excess, all_units}
use Rattle.sv_dict.proofs.listing.with_units.Goals as goal

pub with_unit-requires-clause-unit : goal.with_unit-requires-clause-unit
with_unit-requires-clause-unit c =
    (unit_here (txns_in c.args.setting.now) c.args.number c.args.units.now c.loop-at.at c.index-units-at.result c.requires.units (search rules) c.index-units-at.is).is

pub with_unit-requires-clause-has : goal.with_unit-requires-clause-has
with_unit-requires-clause-has c =
    unit_has c.args.setting.now c.args.number c.loop-at.at c.index-units-at.result c.loop-at.counted
    (unit_here (txns_in c.args.setting.now) c.args.number c.args.units.now c.loop-at.at c.index-units-at.result c.requires.units (search rules) c.index-units-at.is) c.loop-at.invariant

pub returns-in-Err-clause-excess : goal.returns-in-Err-clause-excess
returns-in-Err-clause-excess c =
    unit_excess c.args.setting.now c.args.number c.loop-at.at c.index-units-at.result c.in-Err.excess
    (unit_here (txns_in c.args.setting.now) c.args.number c.args.units.now c.loop-at.at c.index-units-at.result c.requires.units (search rules) c.index-units-at.is) c.in-Err.ensures.excess

pub loop-at-preserved : goal.loop-at-preserved
loop-at-preserved c =
    unit_next c.args.setting.now c.args.number c.loop-at.at _ c.index-units-at.result c.in-Ok.more
    (unit_here (txns_in c.args.setting.now) c.args.number c.args.units.now c.loop-at.at c.index-units-at.result c.requires.units (search rules) c.index-units-at.is) (search rules) c.in-Ok.ensures.has

pub returns-clause-has : goal.returns-clause-has
returns-clause-has c = all_units c.args.setting.now c.args.number c.args.units.now c.loop-at.at c.loop-at.counted c.requires.within c.requires.units (search rules) c.loop-at.invariant

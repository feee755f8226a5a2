use Rattle.std.proofs.Common.{rules, suc, sym, subst}
use Rattle.sv_linear.proofs.SliceLaws.{on_ok}
use Rattle.sv_paths.specs.Numbered.{part_of}
use Rattle.sv_dict.specs.Refused.{IsExcess}
use Rattle.sv_dict.specs.Standing.{schema_in, txns_in, parts_before, HasPaths, HasUnits}
use Rattle.sv_dict.proofs.ExcessLaws.{paths_excess}
use Rattle.sv_dict.proofs.ListingLaws.{unit_opens, unit_closes}
use Rattle.sv_dict.proofs.listing.with_unit.Goals as goal

pub with_paths-requires-clause-has : goal.with_paths-requires-clause-has
with_paths-requires-clause-has c = unit_opens c.args.setting.now (part_of c.args.unit.now) c.args.counted c.requires.has

pub returns-in-Err-clause-excess : goal.returns-in-Err-clause-excess
returns-in-Err-clause-excess c =
    subst (IsExcess (schema_in c.args.setting.now) (txns_in c.args.setting.now) c.args.unit.now.txn) (sym c.by_paths.ensures)
    (paths_excess (schema_in c.args.setting.now) (txns_in c.args.setting.now) (part_of c.args.unit.now) c.requires.unit c.in-Err.stop c.in-Err.ensures.stops)

pub returns-in-Ok-clause-has : goal.returns-in-Ok-clause-has
returns-in-Ok-clause-has c =
    on_ok c.with_paths.result (HasPaths c.args.setting.now (part_of c.args.unit.now) c.deref.result.now)
    (HasUnits c.args.setting.now (parts_before (txns_in c.args.setting.now) c.args.unit.now.txn (suc c.args.unit.now.number)))
    (λ now has. unit_closes c.args.setting.now (part_of c.args.unit.now) c.deref.result.now c.in-Ok.all.items now (search rules) has c.requires.unit c.in-Ok.ensures.all c.in-Ok.ensures.fits) c.with_paths.ensures.has

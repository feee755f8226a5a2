use Rattle.std.proofs.Common.{rules}
use Rattle.sv_paths.specs.Numbered.{part_of}
use Rattle.sv_dict.specs.Standing.{schema_in, txns_in}
use Rattle.sv_dict.proofs.ListingLaws.{aborts_here, template_here}
use Rattle.sv_dict.proofs.listing.with_path.Goals as goal

pub returns-then-path-clause-has : goal.returns-then-path-clause-has
returns-then-path-clause-has c =
    aborts_here c.args.setting.now (part_of c.args.unit.now) c.args.paths.now c.args.at c.index-paths-at.result c.args.counted c.requires.within c.index-paths-at.is c.if-path.true c.requires.has

pub with_template-requires-clause-template : goal.with_template-requires-clause-template
with_template-requires-clause-template c =
    template_here (schema_in c.args.setting.now) (txns_in c.args.setting.now) (part_of c.args.unit.now) c.args.paths.now c.args.at c.index-paths-at.result c.in-Ok.template c.requires.paths c.requires.within
    c.index-paths-at.is c.if-path.false c.in-Ok.ensures.template

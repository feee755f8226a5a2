use Rattle.std.specs.Prelude.{map}
use Rattle.sv_value.specs.Cuts.{counts}
use Rattle.sv_plain.proofs.HeldLaws.{few_gathered}
use Rattle.sv_plain.proofs.tables.gather.Goals as goal

pub returns-clause-few : goal.returns-clause-few
returns-clause-few c = few_gathered (map (λ ops. ops.items) c.args.published.now) (counts c.args.cut.now) c.args.place.now c.in_ok-all.all.items c.requires c.in_ok-all.ensures

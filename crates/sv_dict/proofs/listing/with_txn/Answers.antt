use Rattle.sv_dict.specs.Standing.{schema_in, txns_in}
use Rattle.sv_dict.proofs.ListingLaws.{few_bodies}
use Rattle.sv_dict.proofs.listing.with_txn.Goals as goal

pub units-requires : goal.units-requires
units-requires c = record { few = few_bodies (schema_in c.args.setting.now) (txns_in c.args.setting.now) c.args.number c.requires.ready.accepted }

use Rattle.sv_app.specs.Trees.{transaction_of}
use Rattle.sv_typing.proofs.FillLaws.{few_names}
use Rattle.sv_typing.proofs.txn_numbers.few_names.Goals as goal

pub returns-clause-few : goal.returns-clause-few
returns-clause-few c = few_names (transaction_of c.args.txn.now) c.in_ok-names.names.items c.requires c.in_ok-names.ensures

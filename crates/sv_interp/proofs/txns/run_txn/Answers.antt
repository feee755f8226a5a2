use Rattle.std.proofs.Common.{◌≡◌, ◌≤ℤ◌, pos, w64, refl, sym, ap, subst, rules}
use Rattle.std.proofs.lemmas.Int.{to_z-of_z}
use Rattle.sv_app.specs.Schema.{schema_of}
use Rattle.sv_app.specs.Trees.{block_of, transactions_of}
use Rattle.sv_app.specs.Units.{loop_variables}
use Rattle.sv_interp.specs.Results.{request_of}
use Rattle.sv_interp.proofs.LimitLaws.{accepted_narrow, accepted_few}
use Rattle.sv_interp.proofs.ResultLaws.{body_fits}
use Rattle.sv_interp.proofs.txns.run_txn.Goals as goal

pub returns-clause-fits : goal.returns-clause-fits
returns-clause-fits g c = record {
  fits = λ transaction run is. body_fits _ (schema_of c.args.app.now.tables.items) (transactions_of c.args.app.now.txns.items) (request_of c.args.txn c.args.args.now) transaction (schema_of c.deref.result.now) (block_of c.body_of-body.result.now) c.args.args.now _ c.in_ok-ran.ran
      run (ap schema_of c.deref.ensures.value) c.body_of-body.ensures refl c.in_ok-ran.ensures.fits is;
}

pub invariant_of-setting : goal.invariant_of-setting
invariant_of-setting g c =
    let loops : c.as_slice.result.now ≡ loop_variables (block_of c.body_of-body.result.now) = search rules in
    record {
      narrow = accepted_narrow (schema_of c.args.app.now.tables.items) (schema_of c.deref.result.now) (transactions_of c.args.app.now.txns.items) c.requires.accepted (ap schema_of c.deref.ensures.value);
      few = accepted_few (schema_of c.args.app.now.tables.items) (transactions_of c.args.app.now.txns.items) c.args.txn (block_of c.body_of-body.result.now) c.as_slice.result.now c.requires.accepted c.body_of-body.ensures loops;
      room = subst (λ n. n ≤ℤ pos 9223372036854775743) (sym (to_z-of_z w64 c.args.first c.ranges.first)) c.requires.first;
    }

use Rattle.std.proofs.Common.{◌≡◌, suc, length, arith, sym, subst}
use Rattle.sv_app.specs.Schema.{schema_of}
use Rattle.sv_effect.specs.Fits.{FitsSchema}
use Rattle.sv_check.proofs.BoundLaws.{left_less, fits_at}
use Rattle.sv_check.proofs.ChangeLaws.{one_made}
use Rattle.sv_check.proofs.changes.rows_after.Goals as goal

pub loop-effect-preserved : goal.loop-effect-preserved
loop-effect-preserved g c = record {
  made = one_made _ _ _ _ _ _ (schema_of c.args.app.now.tables.items) c.args.effects.now c.loop-effect.effect-index c.effect-item.result c.loop-effect.left.items c.change.new.left.items
      c.loop-effect-test.true c.effect-item.is c.loop-effect.invariant.made c.in_ok-change.ensures.followed;
  bounded = c.in_ok-change.ensures.bounded;
  many = let more : length c.change.new.left.items ≡ suc (length c.loop-effect.left.items) = c.in_ok-change.ensures.more in omega (arith, more, c.loop-effect.invariant.many);
  stays = g.met.R.Rows.stays_laws.both _ _ _ c.loop-effect.invariant.stays c.in_ok-change.ensures.asked.stays;
}

pub change-requires-clause-fits : goal.change-requires-clause-fits
change-requires-clause-fits g c =
    subst (FitsSchema (schema_of c.args.app.now.tables.items)) (sym c.effect-item.is) (fits_at (schema_of c.args.app.now.tables.items) c.args.effects.now c.loop-effect.effect-index c.effect-item.result c.loop-effect-test.true c.requires.fits)

pub change-requires-clause-few : goal.change-requires-clause-few
change-requires-clause-few g c = omega (arith, c.loop-effect.invariant.many, c.loop-effect-test.true, c.requires.few)

pub returns-clause-bounded : goal.returns-clause-bounded
returns-clause-bounded g c = left_less (schema_of c.args.app.now.tables.items) 0 _ c.loop-effect.left.items (omega arith) c.loop-effect.invariant.bounded

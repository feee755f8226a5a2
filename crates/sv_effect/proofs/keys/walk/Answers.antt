use Rattle.std.proofs.Common.{None}
use Rattle.sv_effect.proofs.KeyLaws.{walk_goes, walk_ends}
use Rattle.sv_effect.proofs.keys.walk.Goals as goal

pub loop-key-preserved : goal.loop-key-preserved
loop-key-preserved g c = record {
  walked = walk_goes _ _ _ _ _ _ c.args.table None c.loop-key.after c.in_ok-key.field-0 c.in-Some.key c.args.keys.now c.loop-key.keys c.put_key.new.keys
      c.loop-key.invariant.walked c.in_ok-key.ensures.followed c.in-Some.is c.in_ok-put_key-in-Some.ensures;
  stays = g.met.R.Rows.stays_laws.both _ _ _ c.loop-key.invariant.stays c.in_ok-key.ensures.asked.stays;
}

pub returns-in-None-clause-walked : goal.returns-in-None-clause-walked
returns-in-None-clause-walked g c =
    walk_ends _ _ _ _ _ _ c.args.table None c.loop-key.after c.in_ok-key.field-0 c.args.keys.now c.loop-key.keys c.loop-key.invariant.walked c.in_ok-key.ensures.followed c.in-None.is

use Rattle.std.proofs.Common.{◌≡◌, arith}
use Rattle.sv_bounds.specs.Rounds.{lists}
use Rattle.sv_bounds.specs.Settling.{last_of}
use Rattle.sv_bounds.proofs.SettleLaws.{last_is, old_near, grown}
use Rattle.sv_bounds.proofs.settling.settle.Goals as goal

pub next_round-requires-clause-values : goal.next_round-requires-clause-values
next_round-requires-clause-values c =
    old_near c.args.rows.now c.args.start.items c.last-old.result.now c.loop.rounds.items c.loop.counter c.loop.x c.requires.rows c.loop.invariant
    (omega (arith, c.loop-test.true, c.len-vars.ensures)) c.requires.few
    (last_is c.loop.rounds.items c.deref.result.now c.last-old.result.now c.last-old.ensures c.deref.ensures.value)

pub loop-preserved : goal.loop-preserved
loop-preserved c =
    let old : c.last-old.result.now ≡ last_of (lists c.loop.rounds.items) = last_is c.loop.rounds.items c.deref.result.now c.last-old.result.now c.last-old.ensures c.deref.ensures.value in
    grown c.args.rows.now c.args.start.items c.last-old.result.now c.deref-in-loop.result.now c.loop.rounds.items c.push-in-Some.new.self.items c.in_ok-new.new c.loop.counter c.loop.x c.in-Some.fell c.loop.invariant
    old c.in_ok-new.ensures c.deref-in-loop.ensures.value c.in-Some.ensures.0 c.in-Some.ensures.1 c.in_ok-push-in-Some.ensures.items

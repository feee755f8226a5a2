use Rattle.std.proofs.Common.{rules, arith, refl, sym, ap, ◌∙◌}
use Rattle.sv_value.specs.Cuts.{counts}
use Rattle.sv_causal.specs.Inboxes.{lacks}
use Rattle.sv_causal.proofs.PassLaws.{keep_none, keep_next, leave_next, keep_never, keep_done}
use Rattle.sv_causal.proofs.inboxes.keep_lacked.Goals as goal
use Rattle.sv_causal.proofs.inboxes.keep_lacked.Goals.{in-Some+then-is_lacked, in-Some+else-is_lacked, in_default}

pub loop-init : goal.loop-init
loop-init c = record { items = keep_none (lacks (counts c.args.cut.now)) c.args.packets.now }

pub loop-preserved : goal.loop-preserved
loop-preserved c =
    let start = c.args.packets.now in
    let test = lacks (counts c.args.cut.now) in
    elim c.match-pop_front.branch [
      | in-Some+then-is_lacked w ↦ record {
        items =
            w.packets-is
            ∙ keep_next test start c.loop.packets c.pop_front.new.self w.push_back.new.self c.loop.counter c.pop_front.result w.in-Some.packet w.is_lacked.result
            (omega (arith, c.len-many.ensures.len, c.len-many.ensures.within.0)) (omega (arith, c.loop-test.true, c.len-many.ensures.len))
            c.loop.invariant.items c.pop_front.ensures.value c.pop_front.ensures.items w.in-Some.is w.is_lacked.ensures w.if-is_lacked.true w.push_back.ensures.items;
      }
      | in-Some+else-is_lacked w ↦ record {
        items =
            w.packets-is
            ∙ leave_next test start c.loop.packets c.pop_front.new.self c.loop.counter c.pop_front.result w.in-Some.packet w.is_lacked.result
            (omega (arith, c.loop-test.true, c.len-many.ensures.len))
            c.loop.invariant.items c.pop_front.ensures.value c.pop_front.ensures.items w.in-Some.is w.is_lacked.ensures w.if-is_lacked.false;
      }
      | in_default w ↦ absurd (keep_never test start c.loop.packets c.loop.counter c.pop_front.result (omega (arith, c.loop-test.true, c.len-many.ensures.len)) c.loop.invariant.items c.pop_front.ensures.value w.in_default.is)
    ]

pub returns : goal.returns
returns c = keep_done (lacks (counts c.args.cut.now)) c.args.packets.now c.loop.packets c.loop.counter (omega (arith, c.loop-test.false, c.len-many.ensures.len)) c.loop.invariant.items

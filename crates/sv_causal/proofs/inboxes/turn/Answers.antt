use Rattle.std.proofs.Common.{rules, arith, refl, sym, ap, ◌∙◌}
use Rattle.circular_buffer.specs.Buffer.{buffer}
use Rattle.sv_causal.proofs.PassLaws.{turned, turn_none, turn_next, turn_never}
use Rattle.sv_causal.proofs.inboxes.turn.Goals as goal
use Rattle.sv_causal.proofs.inboxes.turn.Goals.{in-Some, in_default}

pub loop-init : goal.loop-init
loop-init c = record { items = turn_none c.args.packets.now }

pub loop-preserved : goal.loop-preserved
loop-preserved c =
    let start = c.args.packets.now in
    elim c.match-pop_front.branch [
      | in-Some w ↦ record {
        items =
            w.packets-is
            ∙ turn_next start c.loop.packets c.pop_front.new.self w.push_back.new.self c.loop.counter c.pop_front.result w.in-Some.packet c.requires.within (omega (arith, c.loop-test.true, c.requires.times))
            c.loop.invariant.items c.pop_front.ensures.value c.pop_front.ensures.items w.in-Some.is w.push_back.ensures.items;
      }
      | in_default w ↦ absurd (turn_never start c.loop.packets c.loop.counter c.pop_front.result (omega (arith, c.loop-test.true, c.requires.times)) c.loop.invariant.items c.pop_front.ensures.value w.in_default.is)
    ]

pub returns : goal.returns
returns c = c.loop.invariant.items ∙ ap (λ i. buffer (turned c.args.packets.now.items i) c.args.packets.now.capacity) (omega (arith, c.loop.auto.counter-end, c.loop-test.false))

use Rattle.std.proofs.Common.{rules, ◌≡◌, ◌+◌, vec_len, ◌∙◌}
use Rattle.sv_app.specs.Trees.{block_of}
use Rattle.sv_paths.proofs.UnitLaws.{numbered_next}
use Rattle.sv_paths.proofs.bodies.numbered.Goals as goal

pub loop-body-preserved : goal.loop-body-preserved
loop-body-preserved c =
    let long : vec_len c.push.new.self ≡ c.loop-body.body-index + 1 = search rules in
    let number : c.len-number.result ≡ c.loop-body.body-index = c.len-number.ensures ∙ c.loop-body.invariant.1 in (
      numbered_next c.args.txn c.loop-body.body-index c.loop-body.units.items c.push.new.self.items _ c.args.bodies.now c.body-item.result c.in_ok-push.ensures.items
          (λ i. record { txn = c.args.txn; number = number i; body = block_of c.body-item.result.now }) c.body-item.is c.loop-body-test.true c.loop-body.invariant.0,
      long,
    )

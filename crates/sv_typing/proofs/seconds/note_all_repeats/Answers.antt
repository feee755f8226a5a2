use Rattle.std.proofs.Common.{◌≤◌, arith, length, map}
use Rattle.sv_app.specs.Typing.{repeats}
use Rattle.sv_typing.specs.Noted.{noted}
use Rattle.sv_typing.proofs.SecondLaws.{none_noted, one_noted, all_noted}
use Rattle.sv_typing.proofs.seconds.note_all_repeats.Goals as goal

pub loop-item-init : goal.loop-item-init
loop-item-init g c = none_noted (map g.T.Named.ident c.args.items.now) c.new-seen.result c.args.first.now.held c.new-seen.ensures.empty

pub loop-item-preserved : goal.loop-item-preserved
loop-item-preserved g c =
    one_noted g.T.Named.ident c.args.items.now c.loop-item.item-index c.item-item.result c.ident-name.result c.loop-item.seen c.put.new.seen c.in_ok-again.again c.loop-item.first.held c.note_if.new.self.held
    (noted c.args.first.now.held (repeats (map g.T.Named.ident c.args.items.now))) (omega (arith, c.loop-item-test.true)) c.item-item.is c.ident-name.ensures c.in_ok-again.ensures.was c.in_ok-again.ensures.is c.note_if.ensures c.loop-item.invariant

pub returns : goal.returns
returns g c =
    let past : length c.args.items.now ≤ c.loop-item.item-index = omega (arith, c.loop-item-test.false) in
    all_noted g.T.Named.ident c.args.items.now c.loop-item.item-index c.loop-item.seen c.loop-item.first.held (noted c.args.first.now.held (repeats (map g.T.Named.ident c.args.items.now))) past c.loop-item.invariant

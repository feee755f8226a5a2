use Rattle.std.proofs.Common.{◌≡◌, ◌+◌, ◌≤◌, sym, ap, ◌∙◌, arith}
use Rattle.std.specs.Prelude.{map}
use Rattle.sv_effect.specs.TablesOfCut.{all_to}
use Rattle.sv_core.specs.Room.{inserts_in}
use Rattle.sv_core.proofs.SumLaws.{all_sum, inserts_add_up, sum_below}
use Rattle.sv_plain.specs.Held.{medium_of}
use Rattle.sv_legal.proofs.PublishedLaws.{sum_more, sum_none, sum_within}
use Rattle.sv_legal.proofs.lists.all_inserts.Goals as goal

pub loop-origin-init : goal.loop-origin-init
loop-origin-init c = sum_none inserts_in (medium_of (map (λ ops. ops.items) c.args.lists.now))

pub inserts_in-count-requires : goal.inserts_in-count-requires
inserts_in-count-requires c =
    let m = medium_of (map (λ ops. ops.items) c.args.lists.now) in
    let within : c.loop-origin.count + inserts_in c.list_of.result.now ≤ inserts_in (all_to m 9) =
    sum_within inserts_in m c.loop-origin.origin c.loop-origin.count (inserts_in c.list_of.result.now) (inserts_in (all_to m 9)) (omega (arith, c.loop-origin-test.true)) c.loop-origin.invariant
    (ap inserts_in c.list_of.ensures) (all_sum inserts_in inserts_add_up m 9) in
    omega (arith, within, c.requires)

pub overflow_add-count : goal.overflow_add-count
overflow_add-count c =
    let m = medium_of (map (λ ops. ops.items) c.args.lists.now) in
    let within : c.loop-origin.count + c.inserts_in-count.result ≤ inserts_in (all_to m 9) =
    sum_within inserts_in m c.loop-origin.origin c.loop-origin.count c.inserts_in-count.result (inserts_in (all_to m 9)) (omega (arith, c.loop-origin-test.true)) c.loop-origin.invariant
    (c.inserts_in-count.ensures ∙ ap inserts_in c.list_of.ensures) (all_sum inserts_in inserts_add_up m 9) in
    omega (arith, within, c.requires)

pub loop-origin-preserved : goal.loop-origin-preserved
loop-origin-preserved c =
    sum_more inserts_in (medium_of (map (λ ops. ops.items) c.args.lists.now)) c.loop-origin.origin c.loop-origin.count c.inserts_in-count.result c.loop-origin.invariant
    (c.inserts_in-count.ensures ∙ ap inserts_in c.list_of.ensures)

pub returns : goal.returns
returns c =
    let m = medium_of (map (λ ops. ops.items) c.args.lists.now) in
    let all : c.loop-origin.origin ≡ 9 = omega (arith, c.loop-origin-test.false, c.loop-origin.auto.origin-end) in
    c.loop-origin.invariant ∙ ap (sum_below (λ o. inserts_in (m o))) all ∙ sym (all_sum inserts_in inserts_add_up m 9)

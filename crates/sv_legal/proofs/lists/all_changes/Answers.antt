use Rattle.std.proofs.Common.{◌≡◌, ◌+◌, ◌≤◌, sym, ap, ◌∙◌, arith}
use Rattle.std.specs.Prelude.{map}
use Rattle.sv_effect.specs.TablesOfCut.{all_to}
use Rattle.sv_core.specs.Room.{changes_in}
use Rattle.sv_core.proofs.SumLaws.{all_sum, changes_add_up, sum_below}
use Rattle.sv_plain.specs.Held.{medium_of}
use Rattle.sv_legal.proofs.PublishedLaws.{sum_more, sum_none, sum_within}
use Rattle.sv_legal.proofs.lists.all_changes.Goals as goal

pub loop-origin-init : goal.loop-origin-init
loop-origin-init c = sum_none changes_in (medium_of (map (λ ops. ops.items) c.args.lists.now))

pub changes_in-count-requires : goal.changes_in-count-requires
changes_in-count-requires c =
    let m = medium_of (map (λ ops. ops.items) c.args.lists.now) in
    let within : c.loop-origin.count + changes_in c.list_of.result.now ≤ changes_in (all_to m 9) =
    sum_within changes_in m c.loop-origin.origin c.loop-origin.count (changes_in c.list_of.result.now) (changes_in (all_to m 9)) (omega (arith, c.loop-origin-test.true)) c.loop-origin.invariant
    (ap changes_in c.list_of.ensures) (all_sum changes_in changes_add_up m 9) in
    omega (arith, within, c.requires)

pub overflow_add-count : goal.overflow_add-count
overflow_add-count c =
    let m = medium_of (map (λ ops. ops.items) c.args.lists.now) in
    let within : c.loop-origin.count + c.changes_in-count.result ≤ changes_in (all_to m 9) =
    sum_within changes_in m c.loop-origin.origin c.loop-origin.count c.changes_in-count.result (changes_in (all_to m 9)) (omega (arith, c.loop-origin-test.true)) c.loop-origin.invariant
    (c.changes_in-count.ensures ∙ ap changes_in c.list_of.ensures) (all_sum changes_in changes_add_up m 9) in
    omega (arith, within, c.requires)

pub loop-origin-preserved : goal.loop-origin-preserved
loop-origin-preserved c =
    sum_more changes_in (medium_of (map (λ ops. ops.items) c.args.lists.now)) c.loop-origin.origin c.loop-origin.count c.changes_in-count.result c.loop-origin.invariant
    (c.changes_in-count.ensures ∙ ap changes_in c.list_of.ensures)

pub returns : goal.returns
returns c =
    let m = medium_of (map (λ ops. ops.items) c.args.lists.now) in
    let all : c.loop-origin.origin ≡ 9 = omega (arith, c.loop-origin-test.false, c.loop-origin.auto.origin-end) in
    c.loop-origin.invariant ∙ ap (sum_below (λ o. changes_in (m o))) all ∙ sym (all_sum changes_in changes_add_up m 9)

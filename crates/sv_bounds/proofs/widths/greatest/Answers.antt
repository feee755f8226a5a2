use Rattle.std.proofs.Common.{◌-◌, ◌^◌, length, ℤ, pos, ◌<ℤ◌, ◌≤ℤ◌, to_z, of_z, sym, subst, arith}
use Rattle.std.specs.Int.{w128}
use Rattle.std.proofs.lemmas.Int.{ints}
use Rattle.sv_bounds.specs.declared.systems.Widest.TheVariants.{Most, Unbounded}
use Rattle.sv_bounds.specs.Differences.{Within, IsCycle, IsUnbounded}
use Rattle.sv_bounds.specs.Answers.{IsMost}
use Rattle.sv_bounds.specs.Rounds.{value, lists}
use Rattle.sv_bounds.specs.Walks.{Descends}
use Rattle.sv_bounds.proofs.ChainLaws.{no_cycle}
use Rattle.sv_bounds.proofs.AnswerLaws.{settled_cycle}
use Rattle.sv_bounds.proofs.GreatestLaws.{IsReach, reach_of, descends_same, reach_within, reach_unbounded, greatest_most, widest_exact}
use Rattle.sv_bounds.proofs.widths.greatest.Goals as goal

pub unreachable-requires : goal.unreachable-requires
unreachable-requires c =
    let cycle : IsCycle c.args.s.now.rows c.in-Cyclic.field-0.items =
    settled_cycle c.args.s.now.rows c.items-rows.result.now c.in_ok-start.start.items c.in_ok-settle.field-0 c.in-Cyclic.field-0 c.in_ok-settle.ensures c.in-Cyclic.is c.items-rows.ensures in
    no_cycle c.args.s.now.rows c.requires.solvable.0 c.in-Cyclic.field-0.items c.requires.solvable.1 cycle

pub returns-then-value-ge-MIDDLE : goal.returns-then-value-ge-MIDDLE
returns-then-value-ge-MIDDLE c =
    let reach : IsReach c.args.s.now c.args.y (lists c.in-Stable.rounds.items) c.last-cells.result.now =
    reach_of c.args.s.now c.args.y c.items-rows.result.now c.in_ok-start.start.items c.in_ok-settle.field-0 c.in-Stable.rounds c.deref.result.now c.last-cells.result.now c.requires.system c.requires.y
    c.in_ok-start.ensures c.in_ok-settle.ensures c.in-Stable.is c.items-rows.ensures c.last-cells.ensures c.deref.ensures.value in
    let w : Within (2 ^ 101) (value c.last-cells.result.now c.args.x) = reach_within c.args.s.now c.args.y (lists c.in-Stable.rounds.items) c.last-cells.result.now reach c.args.x in
    let high : pos (2 ^ 99) ≤ℤ value c.last-cells.result.now c.args.x = omega (arith, ints, w.low, w.high, c.if-value-ge-MIDDLE.true) in
    let far : IsUnbounded c.args.s.now.rows c.args.x c.args.y = reach_unbounded c.args.s.now c.args.y (lists c.in-Stable.rounds.items) c.last-cells.result.now c.args.x reach c.requires.solvable high in
    record { widest = far; exact = widest_exact c.args.s.now c.args.x c.args.y Unbounded far }

pub shifted-requires-clause-values : goal.shifted-requires-clause-values
shifted-requires-clause-values c =
    let reach : IsReach c.args.s.now c.args.y (lists c.in-Stable.rounds.items) c.last-cells.result.now =
    reach_of c.args.s.now c.args.y c.items-rows.result.now c.in_ok-start.start.items c.in_ok-settle.field-0 c.in-Stable.rounds c.deref.result.now c.last-cells.result.now c.requires.system c.requires.y
    c.in_ok-start.ensures c.in_ok-settle.ensures c.in-Stable.is c.items-rows.ensures c.last-cells.ensures c.deref.ensures.value in
    reach_within c.args.s.now c.args.y (lists c.in-Stable.rounds.items) c.last-cells.result.now reach

pub returns : goal.returns
returns c =
    let reach : IsReach c.args.s.now c.args.y (lists c.in-Stable.rounds.items) c.last-cells.result.now =
    reach_of c.args.s.now c.args.y c.items-rows.result.now c.in_ok-start.start.items c.in_ok-settle.field-0 c.in-Stable.rounds c.deref.result.now c.last-cells.result.now c.requires.system c.requires.y
    c.in_ok-start.ensures c.in_ok-settle.ensures c.in-Stable.is c.items-rows.ensures c.last-cells.ensures c.deref.ensures.value in
    let w : Within (2 ^ 101) (value c.last-cells.result.now c.args.x) = reach_within c.args.s.now c.args.y (lists c.in-Stable.rounds.items) c.last-cells.result.now reach c.args.x in
    let low : value c.last-cells.result.now c.args.x <ℤ pos (2 ^ 99) = omega (arith, ints, w.low, w.high, c.if-value-ge-MIDDLE.false) in
    let down : Descends c.args.s.now.rows c.args.s.now.vars (lists c.in-Stable.rounds.items) (length (lists c.in-Stable.rounds.items) - 1) c.args.x c.in_ok-chain-in-Stable.chain.items =
    descends_same c.args.s.now.rows c.items-rows.result.now c.args.s.now.vars c.in-Stable.rounds.items c.deref-in-Stable.result.now c.args.x c.in_ok-chain-in-Stable.chain.items
    c.in_ok-chain-in-Stable.ensures c.items-rows.ensures c.deref-in-Stable.ensures.value in
    let most : ℤ = to_z w128 (of_z w128 (value c.last-cells.result.now c.args.x)) in
    let found : IsMost c.args.s.now c.args.x c.args.y most c.in_ok-at-in-Stable.at.items c.in_ok-chain-in-Stable.chain.items =
    greatest_most c.args.s.now c.args.x c.args.y (lists c.in-Stable.rounds.items) c.last-cells.result.now c.in_ok-at-in-Stable.at.items c.in_ok-chain-in-Stable.chain.items most
    reach c.requires.solvable down c.in_ok-at-in-Stable.ensures c.requires.x low (omega (arith, ints, w.low, w.high)) in
    let is : IsMost c.args.s.now c.args.x c.args.y most c.from_vec.result c.from_vec-in-Stable.result =
    subst (λ values. IsMost c.args.s.now c.args.x c.args.y most values c.from_vec-in-Stable.result) (sym c.from_vec.ensures)
    (subst (IsMost c.args.s.now c.args.x c.args.y most c.in_ok-at-in-Stable.at.items) (sym c.from_vec-in-Stable.ensures) found) in
    record { widest = is; exact = widest_exact c.args.s.now c.args.x c.args.y (Most most c.from_vec.result c.from_vec-in-Stable.result) is }

use Rattle.std.proofs.Common.{rules, ◌≡◌, ◌<◌, ◌≤◌, length, drop, get_or, Some, None, ap, subst, sym, ◌∙◌, arith}
use Rattle.sv_bounds.specs.declared.rounds.Cell.{Cell}
use Rattle.sv_bounds.specs.Differences.{IsCycle}
use Rattle.sv_bounds.specs.Rounds.{lists}
use Rattle.sv_bounds.specs.Walks.{IsMark}
use Rattle.sv_bounds.proofs.SettleLaws.{lists_length}
use Rattle.sv_bounds.proofs.WalkLaws.{walk_closes, walk_goes_on, walk_row, walk_on}
use Rattle.sv_bounds.proofs.walks.cycle.Goals as goal

pub behind-requires : goal.behind-requires
behind-requires c =
    let marked : get_or c.down.seen.items c.down.x None ≡ Some c.in-Some.passed = cc in
    let mark : IsMark c.args.rows.now (lists c.args.rounds.now) c.down.r c.down.chain.items c.down.x c.down.x c.in-Some.passed = c.down.invariant.marks c.down.x c.in-Some.passed marked in
    omega (arith, mark.behind, ap length c.deref-in-Some.ensures.value)

pub returns-in-Some : goal.returns-in-Some
returns-in-Some c =
    let marked : get_or c.down.seen.items c.down.x None ≡ Some c.in-Some.passed = cc in
    let cycle : IsCycle c.args.rows.now (drop c.in-Some.passed c.down.chain.items) =
    walk_closes c.args.rows.now c.args.vars (lists c.args.rounds.now) c.down.r c.down.seen.items c.down.chain.items c.down.x c.in-Some.passed c.down.invariant marked in
    let rest : c.in_ok-rest-in-Some.rest.items ≡ drop c.in-Some.passed c.down.chain.items = c.in_ok-rest-in-Some.ensures ∙ ap (drop c.in-Some.passed) c.deref-in-Some.ensures.value in
    subst (IsCycle c.args.rows.now) (sym rest) cycle

pub cell_at-by-requires-clause-x : goal.cell_at-by-requires-clause-x
cell_at-by-requires-clause-x c =
    let inside : c.down.r < length (lists c.args.rounds.now) = omega (arith, lists_length c.args.rounds.now, c.requires.count, c.down.invariant.down) in
    omega (arith, c.requires.rounds.long c.down.r inside, c.down.invariant.inside)

pub bounds-rows-by : goal.bounds-rows-by
bounds-rows-by c =
    let free : get_or c.down.seen.items c.down.x None ≡ None = cc in
    walk_row c.args.rows.now c.args.vars (lists c.args.rounds.now) c.down.r c.down.seen.items c.down.chain.items c.down.x c.cell_at-by.result.by c.requires.rounds
    (lists_length c.args.rounds.now ∙ c.requires.count) c.down.invariant free (ap (λ (k : Cell). k.by) c.cell_at-by.ensures)

pub overflow_sub-r : goal.overflow_sub-r
overflow_sub-r c =
    let free : get_or c.down.seen.items c.down.x None ≡ None = cc in
    walk_goes_on c.args.rows.now c.args.vars (lists c.args.rounds.now) c.down.r c.down.seen.items c.down.chain.items c.down.x c.down.invariant free

pub down-smaller : goal.down-smaller
down-smaller c =
    let free : get_or c.down.seen.items c.down.x None ≡ None = cc in
    let some : 1 ≤ c.down.r = walk_goes_on c.args.rows.now c.args.vars (lists c.args.rounds.now) c.down.r c.down.seen.items c.down.chain.items c.down.x c.down.invariant free in
    omega (arith, some)

pub down-preserved : goal.down-preserved
down-preserved c =
    let free : get_or c.down.seen.items c.down.x None ≡ None = cc in
    walk_on c.args.rows.now c.args.vars (lists c.args.rounds.now) c.down.r c.down.seen.items c.down.chain.items c.down.x c.requires.rows c.requires.rounds
    (lists_length c.args.rounds.now ∙ c.requires.count) c.down.invariant free c.cell_at-by.result.by c.len.result c.push.new.self.items
    (ap (λ (k : Cell). k.by) c.cell_at-by.ensures) (search rules) c.in_ok-push.ensures.items

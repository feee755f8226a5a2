use Rattle.std.proofs.Common.{◌≡◌, ◌≤◌, length, sym, subst, arith}
use Rattle.sv_bounds.specs.declared.systems.Answer.TheVariants.{Values, Cycle}
use Rattle.sv_bounds.specs.Differences.{IsCycle}
use Rattle.sv_bounds.specs.Answers.{IsSolution}
use Rattle.sv_bounds.specs.Rounds.{lists}
use Rattle.sv_bounds.specs.Settling.{last_of, IsStableFrom}
use Rattle.sv_bounds.proofs.SettleLaws.{last_is}
use Rattle.sv_bounds.proofs.AnswerLaws.{rows_over, settled_stable, settled_cycle, stable_near, solved, answer_decides}
use Rattle.sv_bounds.proofs.answers.solve.Goals as goal

pub shifted-requires-clause-values : goal.shifted-requires-clause-values
shifted-requires-clause-values c =
    let stable : IsStableFrom c.args.s.now.rows c.in_ok-start.start.items (lists c.in-Stable.rounds.items) =
    settled_stable c.args.s.now.rows c.items-rows.result.now c.in_ok-start.start.items c.in_ok-rounds.field-0 c.in-Stable.rounds c.in_ok-rounds.ensures c.in-Stable.is c.items-rows.ensures in
    let last : c.last.result.now ≡ last_of (lists c.in-Stable.rounds.items) = last_is c.in-Stable.rounds.items c.deref.result.now c.last.result.now c.last.ensures c.deref.ensures.value in
    let few : length c.in_ok-start.start.items ≤ 65 = omega (arith, c.in_ok-start.ensures.long, c.requires.few) in
    stable_near c.args.s.now.rows c.in_ok-start.start.items (lists c.in-Stable.rounds.items)
    (rows_over c.args.s.now c.in_ok-start.start.items c.requires c.in_ok-start.ensures.long) stable few c.last.result.now last

pub returns-in_ok-values-in-Stable : goal.returns-in_ok-values-in-Stable
returns-in_ok-values-in-Stable c =
    let stable : IsStableFrom c.args.s.now.rows c.in_ok-start.start.items (lists c.in-Stable.rounds.items) =
    settled_stable c.args.s.now.rows c.items-rows.result.now c.in_ok-start.start.items c.in_ok-rounds.field-0 c.in-Stable.rounds c.in_ok-rounds.ensures c.in-Stable.is c.items-rows.ensures in
    let last : c.last.result.now ≡ last_of (lists c.in-Stable.rounds.items) = last_is c.in-Stable.rounds.items c.deref.result.now c.last.result.now c.last.ensures c.deref.ensures.value in
    let held : IsSolution c.args.s.now c.in_ok-values-in-Stable.values.items =
    solved c.args.s.now c.in_ok-start.start.items c.last.result.now (lists c.in-Stable.rounds.items) c.in_ok-values-in-Stable.values.items c.requires c.in_ok-start.ensures.long stable last
    c.in_ok-values-in-Stable.ensures in
    let solution : IsSolution c.args.s.now c.from_vec.result = subst (IsSolution c.args.s.now) (sym c.from_vec.ensures) held in
    record { answer = solution; decided = answer_decides c.args.s.now (Values c.from_vec.result) solution }

pub returns-in-Cyclic : goal.returns-in-Cyclic
returns-in-Cyclic c =
    let held : IsCycle c.args.s.now.rows c.in-Cyclic.chain.items =
    settled_cycle c.args.s.now.rows c.items-rows.result.now c.in_ok-start.start.items c.in_ok-rounds.field-0 c.in-Cyclic.chain c.in_ok-rounds.ensures c.in-Cyclic.is c.items-rows.ensures in
    let cycle : IsCycle c.args.s.now.rows c.from_vec-in-Cyclic.result = subst (IsCycle c.args.s.now.rows) (sym c.from_vec-in-Cyclic.ensures) held in
    record { answer = cycle; decided = answer_decides c.args.s.now (Cycle c.from_vec-in-Cyclic.result) cycle }

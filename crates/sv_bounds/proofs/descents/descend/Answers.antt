use Rattle.std.proofs.Common.{◌≡◌, ◌+◌, ◌-◌, length, ◌≤ℤ◌, ap, arith}
use Rattle.std.proofs.lemmas.Int.{ints}
use Rattle.sv_bounds.specs.declared.rounds.Cell.{Cell}
use Rattle.sv_bounds.specs.Rounds.{cell_of, value, IsLowered, Fell, lists, round_at}
use Rattle.sv_bounds.proofs.SettleLaws.{lists_length}
use Rattle.sv_bounds.proofs.FallLaws.{lowered_at}
use Rattle.sv_bounds.proofs.DescentLaws.{descent_stay, descent_row}
use Rattle.sv_bounds.proofs.descents.descend.Goals as goal

pub returns-then-cell-cell_at : goal.returns-then-cell-cell_at
returns-then-cell-cell_at c = λ from d.
    let above : c.cell_at-cell.result.value ≡ value (round_at (lists c.args.rounds.now) (c.args.r + 1)) c.args.x = ap (λ (k : Cell). k.value) c.cell_at-cell.ensures in
    let here : c.cell_at.result.value ≡ value (round_at (lists c.args.rounds.now) c.args.r) c.args.x = ap (λ (k : Cell). k.value) c.cell_at.ensures in
    let fell : Fell (round_at (lists c.args.rounds.now) c.args.r) (round_at (lists c.args.rounds.now) (c.args.r + 1)) c.args.x = omega (arith, ints, above, here, c.if-cell-cell_at.true) in
    let low : IsLowered c.args.rows.now (round_at (lists c.args.rounds.now) c.args.r) c.args.x (cell_of (round_at (lists c.args.rounds.now) (c.args.r + 1)) c.args.x) =
    lowered_at c.args.rows.now c.args.vars (lists c.args.rounds.now) c.requires.rounds c.args.r c.args.x (omega (arith, c.requires.r, lists_length c.args.rounds.now)) c.requires.x fell in
    descent_row c.args.rows.now c.args.vars (lists c.args.rounds.now) (length c.args.rounds.now - 1) from c.args.r c.args.chain.now.items c.args.x c.requires.rows d low
    c.cell_at-cell.result.by c.push.new.self.items (ap (λ (k : Cell). k.by) c.cell_at-cell.ensures) c.in_ok-push.ensures.items

pub returns : goal.returns
returns c = λ from d.
    let above : c.cell_at-cell.result.value ≡ value (round_at (lists c.args.rounds.now) (c.args.r + 1)) c.args.x = ap (λ (k : Cell). k.value) c.cell_at-cell.ensures in
    let here : c.cell_at.result.value ≡ value (round_at (lists c.args.rounds.now) c.args.r) c.args.x = ap (λ (k : Cell). k.value) c.cell_at.ensures in
    let stays : value (round_at (lists c.args.rounds.now) c.args.r) c.args.x ≤ℤ value (round_at (lists c.args.rounds.now) (c.args.r + 1)) c.args.x = omega (arith, ints, above, here, c.if-cell-cell_at.false) in
    descent_stay c.args.rows.now c.args.vars (lists c.args.rounds.now) (length c.args.rounds.now - 1) from c.args.r c.args.chain.now.items c.args.x c.requires.rounds
    (omega (arith, c.requires.r, lists_length c.args.rounds.now)) d stays

use Rattle.std.proofs.Common.{◌-ℤ◌, ◌≤ℤ◌, arith}
use Rattle.std.proofs.lemmas.Int.{ints}
use Rattle.sv_bounds.proofs.laws.widths_exclude.Goals as goal

pub returns : goal.returns
returns c = λ rows x y most bound more.
    let v = more most in
    let le : (v.0 x -ℤ v.0 y) ≤ℤ most = bound v.0 v.1 in
    omega (arith, ints, le, v.2)

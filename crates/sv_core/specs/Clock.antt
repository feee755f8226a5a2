-- The greatest time of operations, by which the next operation that is made on them gets a greater one.
use Rattle.std.specs.Prelude.{ℕ, max, List, [], ◌∷◌}
use Rattle.sv_effect.specs.declared.ops.Op.{Op}
use Rattle.sv_effect.specs.Cut.{Cut, Medium, held}
use Rattle.sv_effect.specs.TablesOfCut.{all_to}

-- the greatest time of these operations; zero where there are none
abbrev pub latest_of : List Op → ℕ
latest_of [] = 0
latest_of (op ∷ ops) = max op.time (latest_of ops)

-- the greatest time in a cut
abbrev pub latest_in : Medium → Cut → ℕ
latest_in m cut = latest_of (all_to (held m cut) 9)

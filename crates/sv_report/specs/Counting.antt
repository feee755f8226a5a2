-- What the code of `compile` asks of what is left of a path: how many atoms it has of a kind, and whether a dropped one stands in front.
use Rattle.std.specs.Prelude.{ℕ, ◌==◌, Bool, false, List, [], ◌∷◌}
use Rattle.sv_linear.specs.Left.{Dropped, Left}
use Rattle.sv_report.specs.declared.compiles.Counted.{Counted}
use Rattle.sv_report.specs.declared.compiles.Counted.TheVariants as counts
use Rattle.sv_report.specs.CompileText.{kept_in, dropped_in, nevers_in}

abbrev pub counting : Counted → Left → ℕ
counting counts.Kept = kept_in
counting counts.Dropped = dropped_in
counting counts.Never = nevers_in

-- the first of these stands behind so many kept ones
abbrev pub is_here : ℕ → List Dropped → Bool
is_here n [] = false
is_here n (d ∷ ds) = d.after == n

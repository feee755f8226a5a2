-- Rows and tests whose numbers were looked at are over the symbols of a path.
use Rattle.std.proofs.Common.{ℕ, ℤ, ◌≤◌, ◌^◌, List, pos, neg_ℤ}
use Rattle.std.specs.Prelude.{◌<ℤ◌}
use Rattle.sv_bounds.specs.declared.systems.Diff.{Diff}
use Rattle.sv_linear.specs.Named.{IsFact, IsBounded, TermsName}

pub is_fact : (n : ℕ) (row : Diff) → row.x ≤ n → row.y ≤ n → neg_ℤ (pos (2 ^ 70)) <ℤ row.most → row.most <ℤ pos (2 ^ 70) → IsFact n row
is_fact n row x y low high = record { x = x; y = y; low = low; high = high }

pub is_bounded : (n : ℕ) (terms : List (ℕ × ℤ)) (most : ℤ) → TermsName n terms → neg_ℤ (pos (2 ^ 70)) <ℤ most → most <ℤ pos (2 ^ 70) → IsBounded n terms most
is_bounded n terms most names low high = record { names = names; low = low; high = high }

pub ruleset naming = (is_fact, is_bounded)

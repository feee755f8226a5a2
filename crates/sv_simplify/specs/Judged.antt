-- What the facts say of one test, and what is left with one atom more.
use Rattle.std.specs.Prelude.{◌≡◌, ℕ, suc, [], ◌∷◌, ◌++◌, length, Option}
use Rattle.sv_bounds.specs.declared.systems.Diff.{Diff}
use Rattle.sv_bounds.specs.declared.systems.System.{System}
use Rattle.sv_linear.specs.Left.{Left, Shows, HasCycle}
use Rattle.sv_linear.specs.Named.{IsTestOf}
use Rattle.sv_linear.specs.Tests.{Test, Atom}
use Rattle.sv_simplify.specs.declared.judged.Judged.{Judged}
use Rattle.sv_simplify.specs.declared.judged.Judged.TheVariants.{Kept, Dropped}

-- a test over the variables of a system other than variable 0
pub record IsOver (s : System) (test : Test) : Type 0 where
  pub symbols : ℕ
  pub vars : s.vars ≡ suc symbols
  pub names : IsTestOf symbols test

abbrev pub IsJudged : System → Option Diff → Judged → Type 0
IsJudged s row (Kept shown) = Shows s row shown
IsJudged s row (Dropped cycle) = HasCycle s row cycle

abbrev pub with_judged : Left → Atom → Judged → Left
with_judged left a (Kept shown) = record { kept = left.kept ++ record { atom = a; shown = shown } ∷ []; dropped = left.dropped; never = left.never }
with_judged left a (Dropped cycle) = record { kept = left.kept; dropped = left.dropped ++ record { atom = a; after = length left.kept; cycle = cycle } ∷ []; never = left.never }

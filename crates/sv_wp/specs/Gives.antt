-- A change in forms stands for a concrete change on a tape: both are of one table and do the same, and each form has the value that is written.
use Rattle.std.specs.Prelude.{◌≡◌, ℕ, ◌≤ℤ◌, true, List, map}
use Rattle.std.specs.List.{All, flat_map}
use Rattle.sv_value.specs.declared.values.Val.{Val}
use Rattle.sv_app.specs.Schema.{Declaration}
use Rattle.sv_effect.specs.declared.ops.Write.{Write}
use Rattle.sv_effect.specs.declared.ops.Write.TheVariants as writes
use Rattle.sv_effect.specs.RunChanges.{Effect}
use Rattle.sv_linear.specs.Atoms.{Asked, asked_tests}
use Rattle.sv_linear.specs.Effects.{SymWrite, Delta, Set, SymEffect, value_of, text_in}
use Rattle.sv_linear.specs.Forms.{symbol_at, value}
use Rattle.sv_linear.specs.Tests.{Test, AtMost, InList, Never, is_listed}

abbrev pub write_on : List Val → SymWrite → Write
write_on tape (Delta f) = writes.Delta (value f tape)
write_on tape (Set v) = writes.Set (value_of v tape)

abbrev pub writes_on : List Val → List (ℕ × SymWrite) → List (ℕ × Write)
writes_on tape ws = map (λ w. (w.0, write_on tape w.1)) ws

pub record StandsFor (tape : List Val) (e : SymEffect) (change : Effect) : Type 0 where
  pub table : e.table ≡ change.place.table
  pub act : e.act ≡ change.act
  pub writes : writes_on tape e.writes ≡ change.writes

-- a test is met by the exact value of its form
abbrev pub IsMetOn : List Declaration → List Val → Test → Type 0
IsMetOn schema tape (AtMost f most) = value f tape ≤ℤ most
IsMetOn schema tape (InList symbol number) = is_listed schema number (text_in (symbol_at tape symbol)) ≡ true
IsMetOn schema tape Never = ⊥

-- the tests of all that is asked are met
abbrev pub AreMet : List Declaration → List Val → List Asked → Type 0
AreMet schema tape asked = All (IsMetOn schema tape) (flat_map asked_tests asked)

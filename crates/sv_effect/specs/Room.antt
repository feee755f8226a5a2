-- Room in a row's numbers: so many further writes keep each within 2^126. A write has an integer of 64 bits.
use Rattle.std.specs.Prelude.{ℕ, ◌*◌, ◌^◌, pos, neg_ℤ, ◌+ℤ◌, ◌-ℤ◌, ◌≤ℤ◌, List, [], ◌∷◌}
use Rattle.sv_app.specs.declared.gots.Got.{Got}
use Rattle.sv_app.specs.declared.gots.Got.TheVariants.{Num, Text}
use Rattle.sv_effect.specs.declared.ops.Write.{Write}
use Rattle.sv_effect.specs.declared.ops.Write.TheVariants.{Delta, Set}
use Rattle.sv_effect.specs.RowsFit.{IsWord}
use Rattle.sv_effect.specs.RunValues.{column}
use Rattle.sv_effect.specs.Words.{IsWordVal}

abbrev pub HasRoom : ℕ → Got → Type 0
HasRoom writes (Num n) = (neg_ℤ (pos (2 ^ 126)) ≤ℤ (n -ℤ pos (writes * 2 ^ 63))) × ((n +ℤ pos (writes * 2 ^ 63)) ≤ℤ pos (2 ^ 126))
HasRoom writes (Text text) = Unit {0}

-- each column does
pub record HaveRoom (writes : ℕ) (values : List Got) : Type 0 where
  pub each : (number : ℕ) → HasRoom writes (column values number)

abbrev pub IsWordWrite : Write → Type 0
IsWordWrite (Delta d) = IsWord d
IsWordWrite (Set v) = IsWordVal v

abbrev pub AreWordWrites : List (ℕ × Write) → Type 0
AreWordWrites [] = Unit {0}
AreWordWrites (w ∷ ws) = IsWordWrite w.1 × AreWordWrites ws

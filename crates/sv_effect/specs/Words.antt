-- Integers that are set in cells, and those of rows that nothing was added to, are of 64 bits.
use Rattle.std.specs.Prelude.{ℕ, List, [], ◌∷◌}
use Rattle.sv_value.specs.declared.values.Val.{Val}
use Rattle.sv_value.specs.declared.values.Val.TheVariants.{Int, Text}
use Rattle.sv_app.specs.declared.gots.Got.{Got}
use Rattle.sv_app.specs.declared.gots.Got.TheVariants as gots
use Rattle.sv_effect.specs.declared.cells.Cell.{Cell}
use Rattle.sv_effect.specs.declared.cells.Cell.TheVariants.{Count, Last, Plain}
use Rattle.sv_effect.specs.RowsFit.{IsWord}
use Rattle.sv_effect.specs.RunValues.{column}

abbrev pub IsWordVal : Val → Type 0
IsWordVal (Int n) = IsWord n
IsWordVal (Text text) = Unit {0}

abbrev pub HasWord : Cell → Type 0
HasWord (Count sum) = Unit {0}
HasWord (Last val stamp) = IsWordVal val
HasWord (Plain val) = IsWordVal val

abbrev pub HaveWords : List Cell → Type 0
HaveWords [] = Unit {0}
HaveWords (cell ∷ cells) = HasWord cell × HaveWords cells

abbrev pub IsWordGot : Got → Type 0
IsWordGot (gots.Num n) = IsWord n
IsWordGot (gots.Text text) = Unit {0}

pub record AreWordGots (values : List Got) : Type 0 where
  pub each : (number : ℕ) → IsWordGot (column values number)

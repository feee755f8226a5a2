-- The values of a row that isn't kept are of 64 bits.
use Rattle.std.proofs.Common.{ℕ, zero, suc, List, [], ◌∷◌, arith}
use Rattle.std.proofs.lemmas.Int.{ints}
use Rattle.sv_value.specs.declared.values.Val.{Val}
use Rattle.sv_value.specs.declared.values.Val.TheVariants as vals
use Rattle.sv_app.specs.declared.gots.Got.{Got}
use Rattle.sv_effect.specs.BareTables.{got_of}
use Rattle.sv_effect.specs.RunValues.{column}
use Rattle.sv_effect.specs.Words.{IsWordVal, IsWordGot, AreWordGots}

pub set_word : (v : Val) → IsWordVal v → IsWordGot (got_of v)
set_word (vals.Int n) h = h
set_word (vals.Text text) h = h

pub no_words : AreWordGots []
no_words = record { each = λ c. (omega (arith, ints), omega (arith, ints)) }

pub more_words : (got : Got) (row : List Got) → IsWordGot got → AreWordGots row → AreWordGots (got ∷ row)
more_words got row word words = record { each = at }
  where
    at : (c : ℕ) → IsWordGot (column (got ∷ row) c)
    at zero = word
    at (suc c) = words.each c

pub ruleset words = (no_words, more_words, set_word)

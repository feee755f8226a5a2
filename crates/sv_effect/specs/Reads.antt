-- Reads as contracts see them, with lists in place of what they are kept in: a row or the next key was asked for, and this was the answer.
use Rattle.std.specs.Prelude.{Bool, List, Option}
use Rattle.sv_value.specs.declared.values.Key.{Key}
use Rattle.sv_app.specs.declared.gots.Got.{Got}
use Rattle.sv_effect.specs.declared.reads.Ask.{Ask}
use Rattle.sv_effect.specs.declared.reads.Read.{Read}
use Rattle.sv_effect.specs.declared.reads.Seen.{Seen}
use Rattle.sv_effect.specs.declared.reads.Told.{Told}
use Rattle.sv_effect.specs.declared.reads.Told.TheVariants.{Row, Next}

-- a row that was asked for: whether it is kept, whether it is present, and its values
pub record SeenValue : Type 0 where
  pub kept : Bool
  pub present : Bool
  pub values : List Got

pub data Answer : Type 0 where
  IsRow : SeenValue → Answer
  IsKey : Option Key → Answer

pub record ReadValue : Type 0 where
  pub ask : Ask
  pub answer : Answer

abbrev pub seen_of : Seen → SeenValue
seen_of seen = record { kept = seen.kept; present = seen.present; values = seen.values.items }

abbrev pub answer_of : Told → Answer
answer_of (Row seen) = IsRow (seen_of seen)
answer_of (Next key) = IsKey key

abbrev pub read_of : Read → ReadValue
read_of read = record { ask = read.ask; answer = answer_of read.told }

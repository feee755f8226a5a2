-- What the definitions promise: words and bytes ask for one answer.
use Rattle.std.specs.Prelude.{◌≡◌, ℕ, List}
use Rattle.sv_tool.specs.Answer.{Answer}
use Rattle.sv_tool.specs.Commands.{IsAnswer}

abbrev pub OneAnswer : Type 0
OneAnswer = (words : List (List ℕ)) (bytes : List ℕ) (a b : Answer) → IsAnswer words bytes a → IsAnswer words bytes b → a ≡ b

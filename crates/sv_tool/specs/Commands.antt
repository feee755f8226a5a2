-- The one relation that says which answer, a status and a text, words and bytes ask for. A new command is a variant of `Command`, and a case of
-- `IsWordOf` and of `IsAnswerOf`.
use Rattle.std.specs.Prelude.{◌≡◌, ℕ, List, Option, IfSome, codes}
use Rattle.sv_tool.specs.declared.words.Command.{Command}
use Rattle.sv_tool.specs.declared.words.Command.TheVariants.{Replay, Check, Compile}
use Rattle.sv_tool.specs.declared.statuses.Status.TheVariants.{Usage}
use Rattle.sv_tool.specs.Answer.{Answer}
use Rattle.sv_tool.specs.CheckText.{IsCheck, IsCheckAnswer}
use Rattle.sv_tool.specs.CompileAnswer.{IsCompile, IsCompileAnswer}
use Rattle.sv_tool.specs.ReplayAnswer.{IsReplay, IsReplayAnswer}

-- the words of a command
abbrev pub IsWordOf : Command → List (List ℕ) → Type 0
IsWordOf Replay words = IsReplay words
IsWordOf Check words = IsCheck words
IsWordOf Compile words = IsCompile words

-- what a command answers to the bytes of a document
abbrev pub IsAnswerOf : Command → List ℕ → Answer → Type 0
IsAnswerOf Replay bytes answer = IsReplayAnswer bytes answer
IsAnswerOf Check bytes answer = IsCheckAnswer bytes answer
IsAnswerOf Compile bytes answer = IsCompileAnswer bytes answer

abbrev pub IsCommand : List (List ℕ) → Type 0
IsCommand words = (command : Command) × IsWordOf command words

-- what other words are answered
abbrev pub usage : Answer
usage = record { status = Usage; text = codes "usage\n" }

-- the answer that words and bytes ask for
pub data IsAnswer (words : List (List ℕ)) (bytes : List ℕ) (answer : Answer) : Type 0 where
  Of : (command : Command) → IsWordOf command words → IsAnswerOf command bytes answer → IsAnswer words bytes answer
  Other : (IsCommand words → ⊥) → answer ≡ usage → IsAnswer words bytes answer

-- an answer to the bytes that are left where these are told, and else to some bytes
pub record IsAnswerTo (answers : List ℕ → Answer → Type 0) (left : Option (List ℕ)) (answer : Answer) : Type 0 where
  pub bytes : List ℕ
  pub are : IfSome left (λ told. told ≡ bytes)
  pub is : answers bytes answer

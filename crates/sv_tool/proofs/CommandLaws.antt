-- The answers of commands to bytes, told or not.
use Rattle.std.proofs.Common.{◌≡◌, ◌∙◌, ℕ, zero, suc, ◌+◌, ◌≤◌, ◌<◌, List, [], ◌∷◌, length, Option, Some, None, Result, Ok, Err, IfOk, IfSome, refl, sym, ap, subst, arith}
use Rattle.sv_value.specs.declared.memory.NoMemory.{NoMemory as OutOfMemory}
use Rattle.sv_io.specs.Flows.{most_bytes, Passed}
use Rattle.sv_app.specs.declared.refusals.Code.TheVariants.{TooLong}
use Rattle.sv_app.specs.declared.refusals.Refusal.{Refusal}
use Rattle.sv_tool.specs.declared.answers.Answer.{Answer as CodeAnswer}
use Rattle.sv_tool.specs.declared.statuses.Status.TheVariants.{Done}
use Rattle.sv_tool.specs.declared.words.Command.{Command}
use Rattle.sv_tool.specs.declared.words.Command.TheVariants.{Replay, Check, Compile}
use Rattle.sv_tool.specs.Answer.{Answer, at_the_front, refused_with}
use Rattle.sv_tool.specs.CheckText.{IsCheckAnswer}
use Rattle.sv_tool.specs.CheckText as check
use Rattle.sv_tool.specs.CompileAnswer as compile
use Rattle.sv_tool.specs.Commands.{IsAnswerOf, IsAnswerTo}
use Rattle.sv_tool.specs.Documents.{IsRefusedAt, Long}
use Rattle.sv_tool.specs.ReadDocument.{said_by}
use Rattle.sv_tool.specs.ReplayAnswer.{IsLegalReplay, IsReplayAnswer}
use Rattle.sv_tool.specs.ReplayAnswer as replay
use Rattle.sv_tool.specs.Statuses.{status_number}
use Rattle.sv_tool.proofs.OneLaws.{answer_once}

refused : (command : Command) (bytes : List ℕ) (refusal : Refusal) → IsRefusedAt bytes refusal → IsAnswerOf command bytes (refused_with refusal)
refused Replay bytes refusal is = replay.Refuses refusal is
refused Check bytes refusal is = check.Refuses refusal is
refused Compile bytes refusal is = compile.Refuses refusal is

pub refused_answer : (command : Command) (bytes : List ℕ) (refusal : Refusal) (result : Result CodeAnswer OutOfMemory) → IsRefusedAt bytes refusal
    → IfOk result (λ answer. said_by answer ≡ refused_with refusal) → IfOk result (λ answer. IsAnswerOf command bytes (said_by answer))
refused_answer command bytes refusal (Ok answer) is said = subst (IsAnswerOf command bytes) (sym said) (refused command bytes refusal is)
refused_answer command bytes refusal (Err none) is said = tt

long_answer : (command : Command) (bytes : List ℕ) (answer : Answer) → most_bytes < length bytes → answer ≡ refused_with (at_the_front TooLong) → IsAnswerOf command bytes answer
long_answer command bytes answer long is = subst (IsAnswerOf command bytes) (sym is) (refused command bytes (at_the_front TooLong) (Long long))

zeros : ℕ → List ℕ
zeros zero = []
zeros (suc n) = 0 ∷ zeros n

length_zeros : (n : ℕ) → length (zeros n) ≡ n
unfolding zeros
length_zeros zero = refl
length_zeros (suc n) = let ih : length (zeros n) ≡ n = length_zeros n in omega (arith, ih)

-- what is answered to too many bytes, and to some where they aren't told
pub long_answers : (command : Command) (left now : Option (List ℕ)) (answer : Answer) → Passed left now (most_bytes + 1) → answer ≡ refused_with (at_the_front TooLong) → IsAnswerTo (IsAnswerOf command) left answer
long_answers command None now answer long is =
    let more : most_bytes + 1 ≡ length (zeros (most_bytes + 1)) = sym (length_zeros (most_bytes + 1)) in
    record { bytes = zeros (most_bytes + 1); are = tt; is = long_answer command (zeros (most_bytes + 1)) answer (omega (arith, more)) is }
long_answers command (Some bytes) now answer long is = let more : most_bytes + 1 ≤ length bytes = long.0 in record { bytes = bytes; are = refl; is = long_answer command bytes answer (omega (arith, more)) is }

-- too many bytes have no other answer
pub long_only : (command : Command) (left now : Option (List ℕ)) (answer : Answer) → Passed left now (most_bytes + 1) → answer ≡ refused_with (at_the_front TooLong)
    → IfSome left (λ bytes. (other : Answer) → IsAnswerOf command bytes other → other.status ≡ Done → answer ≡ other)
long_only command None now answer long is = tt
long_only command (Some bytes) now answer long is = λ other its done.
    let more : most_bytes + 1 ≤ length bytes = long.0 in answer_once command bytes answer other (long_answer command bytes answer (omega (arith, more)) is) its

-- a command has one answer to bytes
pub only_answer : (command : Command) (bytes : List ℕ) (result : Result CodeAnswer OutOfMemory) → IfOk result (λ answer. IsAnswerOf command bytes (said_by answer))
    → (other : Answer) → IsAnswerOf command bytes other → other.status ≡ Done → IfOk result (λ answer. said_by answer ≡ other)
only_answer command bytes (Ok answer) is other its done = answer_once command bytes (said_by answer) other is its
only_answer command bytes (Err none) is other its done = tt

-- bytes that were read whole
pub whole_answers : (command : Command) (left : Option (List ℕ)) (bytes : List ℕ) (answer : Answer) → IfSome left (λ told. bytes ≡ told) → IsAnswerOf command bytes answer → IsAnswerTo (IsAnswerOf command) left answer
whole_answers command None bytes answer told is = record { bytes = bytes; are = tt; is = is }
whole_answers command (Some left) bytes answer told is = record { bytes = bytes; are = sym told; is = is }

pub whole_only : (command : Command) (left : Option (List ℕ)) (bytes : List ℕ) (answer : Answer) → IfSome left (λ told. bytes ≡ told)
    → ((other : Answer) → IsAnswerOf command bytes other → other.status ≡ Done → answer ≡ other)
    → IfSome left (λ told. (other : Answer) → IsAnswerOf command told other → other.status ≡ Done → answer ≡ other)
whole_only command None bytes answer told only = tt
whole_only command (Some left) bytes answer told only = λ other is done. only other (subst (λ b. IsAnswerOf command b other) (sym told) is) done

pub whole_legal : (left : Option (List ℕ)) (bytes : List ℕ) → IfSome left (λ told. bytes ≡ told) → IsLegalReplay bytes → IfSome left IsLegalReplay
whole_legal None bytes told legal = tt
whole_legal (Some left) bytes told legal = subst IsLegalReplay told legal

-- the refusal of too many bytes isn't the end of a replay
pub long_legal : (left : Option (List ℕ)) (answer : Answer) → answer ≡ refused_with (at_the_front TooLong) → answer.status ≡ Done → IfSome left IsLegalReplay
long_legal left answer is done = let one : 1 ≡ 0 = ap (λ (a : Answer). status_number a.status) (sym is) ∙ ap status_number done in absurd (omega (arith, one))

pub ruleset answers = (long_answers, long_only, whole_answers, whole_only, whole_legal, long_legal)

-- What a call does with words, a source and a sink. It speaks of the relation of words and bytes to their answer alone, and of no command: that relation grows
-- with the commands, and these clauses stay.
use Rattle.std.specs.Prelude.{◌≡◌, ◌≤◌, ◌⊎◌, ℕ, List, Option, Some}
use Rattle.std.specs.Io.KnownBytes.{IsAtEnd}
use Rattle.sv_io.specs.Faults.{Rose}
use Rattle.sv_io.specs.Flows.{Grew, TookFront}
use Rattle.sv_tool.specs.declared.statuses.Status.TheVariants.{Done}
use Rattle.sv_tool.specs.Answer.{Answer}
use Rattle.sv_tool.specs.Commands.{IsCommand, IsAnswer, IsAnswerTo}
use Rattle.sv_tool.specs.Statuses.{status_number}

-- with this status the sink took the whole text
pub record Told (taken taken_now : Option (List ℕ)) (answer : Answer) (status : ℕ) : Type 0 where
  pub ended : status ≡ status_number answer.status
  pub grew : Grew taken taken_now answer.text

-- `left` and `taken` are the bytes of a source and a sink, and the others their counts of faults; `input` and `out` are as the call found them, `read` and `written` as
-- it left them
pub record Headline {S K : Type 0} (left : S → Option (List ℕ)) (source_faults : S → ℕ) (taken : K → Option (List ℕ)) (sink_faults : K → ℕ) (words : List (List ℕ))
    (input read : S) (out written : K) (status : ℕ) : Type 0 where
  -- 0, 1 and 2: the answer that is asked for was given
  pub answered : status ≤ 2 → (answer : Answer) × IsAnswerTo (IsAnswer words) (left input) answer × Told (taken out) (taken written) answer status
  -- 0: the source was read to its end
  pub end : status ≡ 0 → IsAtEnd (left read)
  -- 2 exactly where the words are no command, unless the sink failed; nothing is read then
  pub usage : status ≡ 2 → IsCommand words → ⊥
  pub other_words : (IsCommand words → ⊥) → (status ≡ 2) ⊎ (status ≡ 4)
  pub unread : (IsCommand words → ⊥) → read ≡ input
  -- 3 and 4: only where a count of faults rose; with 4 a front of the answer was taken
  pub source : status ≡ 3 → Rose (source_faults input) (source_faults read)
  pub sink : status ≡ 4 → Rose (sink_faults out) (sink_faults written)
  pub front : status ≡ 4 → (answer : Answer) × IsAnswerTo (IsAnswer words) (left input) answer × TookFront (taken out) (taken written) answer.text
  -- 3 and 5: nothing was written
  pub unwritten : (status ≡ 3) ⊎ (status ≡ 5) → written ≡ out
  pub range : status ≤ 5
  -- a document that isn't refused is answered, unless a count of faults rose or there was no memory
  pub complete : (bytes : List ℕ) (answer : Answer) → left input ≡ Some bytes → IsAnswer words bytes answer → answer.status ≡ Done
      → (Rose (source_faults input) (source_faults read) → ⊥) → (Rose (sink_faults out) (sink_faults written) → ⊥)
      → Told (taken out) (taken written) answer status ⊎ ((status ≡ 5) × (written ≡ out))

-- How the program ends, by number, and what is then written.
use Rattle.std.specs.Prelude.{◌≡◌, ℕ, List, Option}
use Rattle.sv_io.specs.Faults.{Rose}
use Rattle.sv_io.specs.Flows.{Grew, TookFront}
use Rattle.sv_tool.specs.declared.answers.Halt.{Halt}
use Rattle.sv_tool.specs.declared.answers.Halt.TheVariants as halts
use Rattle.sv_tool.specs.declared.statuses.Status.{Status}
use Rattle.sv_tool.specs.declared.statuses.Status.TheVariants.{Done, Refused, Usage, SourceFailed, SinkFailed, NoMemory}

abbrev pub status_number : Status → ℕ
status_number Done = 0
status_number Refused = 1
status_number Usage = 2
status_number SourceFailed = 3
status_number SinkFailed = 4
status_number NoMemory = 5

-- a text is written: all of it was taken, or a front of it, and the count of faults rose
pub data Writes (taken taken_now : Option (List ℕ)) (faults faults_now : ℕ) (status : Status) (text : List ℕ) (number : ℕ) : Type 0 where
  Whole : number ≡ status_number status → Grew taken taken_now text → Writes taken taken_now faults faults_now status text number
  Front : number ≡ 4 → TookFront taken taken_now text → Rose faults faults_now → Writes taken taken_now faults faults_now status text number

-- how the program ends without an answer
abbrev pub status_of : Halt → Status
status_of halts.SourceFailed = SourceFailed
status_of halts.NoMemory = NoMemory

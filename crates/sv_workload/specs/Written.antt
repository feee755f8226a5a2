-- What is written in the last part of a document: settings, steps and sessions, with the names and numbers that stand there.
use Rattle.std.specs.Prelude.{ℕ, List}
use Rattle.sv_app.specs.declared.apps.Ident.{Ident}
use Rattle.sv_workload.specs.declared.written.Call.{Call}
use Rattle.sv_workload.specs.declared.written.Setting.{Setting}

pub data Sent : Type 0 where
  Blue : ℕ → ℕ → Sent
  Red : ℕ → Sent

pub data Line : Type 0 where
  Ask : ℕ → Call → Line
  Order : ℕ → Line
  Deliver : ℕ → Sent → Line
  Settle : ℕ → Line
  Catch : ℕ → Line
  Show : ℕ → Ident → Line
  Cut : ℕ → Line
  Move : ℕ → ℕ → Line

pub record Session : Type 0 where
  pub number : ℕ
  pub calls : List Call

-- the last part: none, a replay, or the sessions of a run
pub data Last : Type 0 where
  Absent : Last
  Replay : List (Setting × ℕ) → List Line → Last
  Run : List (Setting × ℕ) → List Session → Last

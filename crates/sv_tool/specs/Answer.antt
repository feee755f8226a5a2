-- What a command answers to the bytes of a document: a status and a text.
use Rattle.std.specs.Prelude.{ℕ, List}
use Rattle.sv_app.specs.declared.refusals.Code.{Code}
use Rattle.sv_app.specs.declared.refusals.Refusal.{Refusal}
use Rattle.sv_report.specs.Lines.{refusal_line}
use Rattle.sv_tool.specs.declared.statuses.Status.{Status}
use Rattle.sv_tool.specs.declared.statuses.Status.TheVariants.{Refused}

pub record Answer : Type 0 where
  pub status : Status
  pub text : List ℕ

-- a refusal of the whole document, placed at its front
abbrev pub at_the_front : Code → Refusal
at_the_front code = record { spot = record { line = 1; col = 1 }; code = code }

abbrev pub refused_with : Refusal → Answer
refused_with refusal = record { status = Refused; text = refusal_line refusal }

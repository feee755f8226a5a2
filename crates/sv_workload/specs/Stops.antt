-- What became of the initial rows and of the last part: they were read, or a refusal of them is known.
use Rattle.std.specs.Prelude.{◌≡◌, ℕ, List, [], length, max, Some, unwrap_or, slice_get, Ok, Err}
use Rattle.sv_value.specs.declared.spots.Spot.{Spot}
use Rattle.sv_lex.specs.declared.tokens.Token.{Token}
use Rattle.sv_app.specs.declared.refusals.Code.TheVariants.{BadInit}
use Rattle.sv_app.specs.declared.refusals.Refusal.{Refusal}
use Rattle.sv_app.specs.declared.requests.InitRow.{InitRow}
use Rattle.sv_app.specs.Schema.{Declaration}
use Rattle.sv_app.specs.Trees.{Transaction}
use Rattle.sv_app.specs.Valid.{Valid}
use Rattle.sv_check.specs.Initial.{IsFirst, initial_tables}
use Rattle.sv_reader.specs.declared.faults.ReadFault.{ReadFault}
use Rattle.sv_reader.specs.Reading.{Read, ◌>>=◌, IsLeft}
use Rattle.sv_reader.specs.Places.{refusal_of}
use Rattle.sv_workload.specs.declared.parts.Parts.{Parts}
use Rattle.sv_workload.specs.declared.parts.Work.{Work}
use Rattle.sv_workload.specs.declared.parts.Work.TheVariants as works
use Rattle.sv_workload.specs.declared.written.Given.{Given}
use Rattle.sv_workload.specs.declared.written.PartHead.{PartHead}
use Rattle.sv_workload.specs.declared.written.PartHead.TheVariants.{Replay as ReplayHead, Run as RunHead}
use Rattle.sv_workload.specs.LineReading.{lines_from, no_steps}
use Rattle.sv_workload.specs.Reading.{init_from, front_from}
use Rattle.sv_workload.specs.SessionReading.{sessions_from}

-- the row of this number breaks an invariant
pub record IsBad (schema : List Declaration) (rows : List InitRow) (refusal : Refusal) : Type 0 where
  pub row : ℕ
  pub number : ℕ
  pub of : InitRow
  pub first : IsFirst schema rows row number
  pub at : slice_get rows row ≡ Some of
  pub place : refusal ≡ record { spot = of.spot; code = BadInit number row }
  pub wrong : Valid schema (initial_tables rows) → ⊥

pub data InitStops (schema : List Declaration) (tokens : List Token) (end : Spot) (refusal : Refusal) : Type 0 where
  ByFault : (fault : ReadFault) → init_from schema tokens ≡ Err fault → refusal ≡ refusal_of tokens end fault → InitStops schema tokens end refusal
  ByRow : (rows : List InitRow) (rest : List Token) → init_from schema tokens ≡ Ok (rows, rest) → IsBad schema rows refusal → InitStops schema tokens end refusal

-- valid rows, and how many tokens are left behind them
pub record InitKept (schema : List Declaration) (tokens : List Token) (rows : List InitRow) (left : ℕ) : Type 0 where
  pub read : IsLeft (init_from schema tokens) rows left
  pub valid : Valid schema (initial_tables rows)

-- the number of sites that is set
abbrev pub sites_in : Given → ℕ
sites_in g = unwrap_or g.sites 1

-- what is to be done, by the head, for so many sites
abbrev pub work_from : List Declaration → List Transaction → PartHead → ℕ → List Token → Read Work
work_from schema txns ReplayHead sites tokens = lines_from schema txns sites no_steps tokens >>= λ all r. Ok (works.Replay all.steps, r)
work_from schema txns RunHead sites tokens = sessions_from txns [] tokens >>= λ sessions r. Ok (works.Sessions sessions, r)

-- the last part behind so many initial rows
unfoldable pub last_from : List Declaration → List Transaction → ℕ → List Token → Read (Given × Work)
last_from schema txns count tokens = front_from count tokens >>= λ front r1. work_from schema txns front.0 (sites_in front.1) r1 >>= λ work r2. Ok ((front.1, work), r2)

-- the parts with these initial rows, settings and work
abbrev pub set_parts : List InitRow → Given → Work → Parts
set_parts rows g work = record {
  init = rows;
  sites = sites_in g;
  rows = unwrap_or g.rows (max 1024 (length rows));
  changes = unwrap_or g.changes 8192;
  work = work;
}

pub record LastKept (schema : List Declaration) (txns : List Transaction) (rows : List InitRow) (tokens : List Token) (parts : Parts) : Type 0 where
  pub given : Given
  pub work : Work
  pub rest : List Token
  pub read : last_from schema txns (length rows) tokens ≡ Ok ((given, work), rest)
  pub made : parts ≡ set_parts rows given work

pub record LastStops (schema : List Declaration) (txns : List Transaction) (count : ℕ) (tokens : List Token) (end : Spot) (refusal : Refusal) : Type 0 where
  pub fault : ReadFault
  pub read : last_from schema txns count tokens ≡ Err fault
  pub place : refusal ≡ refusal_of tokens end fault

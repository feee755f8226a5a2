-- The parts of a document: what is read of them, and which refusal the others get. Initial rows come before their invariants, and these before the last part.
use Rattle.std.specs.Prelude.{◌≡◌, ℕ, List, [], length, map, max, Some, unwrap_or, slice_get, Result, Ok, Err}
use Rattle.sv_value.specs.declared.packets.Packet.{Packet}
use Rattle.sv_value.specs.declared.packets.Packet.TheVariants as packets
use Rattle.sv_value.specs.declared.spots.Spot.{Spot}
use Rattle.sv_lex.specs.declared.tokens.Token.{Token}
use Rattle.sv_app.specs.declared.refusals.Code.{Code}
use Rattle.sv_app.specs.declared.refusals.Code.TheVariants.{BadInit}
use Rattle.sv_app.specs.declared.refusals.Refusal.{Refusal}
use Rattle.sv_app.specs.declared.refusals.Stop.{Stop}
use Rattle.sv_app.specs.declared.refusals.Stop.TheVariants.{Refused, NoMemory}
use Rattle.sv_app.specs.declared.requests.InitRow.{InitRow}
use Rattle.sv_app.specs.declared.requests.Request.{Request}
use Rattle.sv_app.specs.Lookups.{place_of}
use Rattle.sv_app.specs.Schema.{Declaration}
use Rattle.sv_app.specs.Trees.{Transaction}
use Rattle.sv_app.specs.Valid.{Valid}
use Rattle.sv_app.specs.TxnNumbers.{txn_names}
use Rattle.sv_check.specs.Initial.{initial_tables}
use Rattle.sv_check.specs.Initial as checked
use Rattle.sv_reader.specs.Places.{spot_of}
use Rattle.sv_workload.specs.declared.parts.Parts.{Parts}
use Rattle.sv_workload.specs.declared.parts.Step.{Step}
use Rattle.sv_workload.specs.declared.parts.Step.TheVariants as steps
use Rattle.sv_workload.specs.declared.parts.Work.{Work}
use Rattle.sv_workload.specs.declared.parts.Work.TheVariants as works
use Rattle.sv_workload.specs.Elements.{IsFirst, AreNone}
use Rattle.sv_workload.specs.Grammar.{last_part}
use Rattle.sv_workload.specs.InitRefused.{InitRefused, AreInit}
use Rattle.sv_workload.specs.LastRefused.{LastRefused, given}
use Rattle.sv_workload.specs.Rows.{table_number, init_row}
use Rattle.sv_workload.specs.declared.written.Row.{Row}
use Rattle.sv_workload.specs.declared.written.Call.{Call}
use Rattle.sv_workload.specs.declared.written.Setting.{Setting}
use Rattle.sv_workload.specs.declared.written.Setting.TheVariants.{Sites, Rows, Changes}
use Rattle.sv_workload.specs.Written.{Sent, Blue, Red, Line, Ask, Order, Deliver, Settle, Catch, Show, Cut, Move, Session, Last, Absent, Replay, Run}

-- what a written call, packet and step stand for
abbrev pub request_of : List Transaction → Call → Request
request_of txns c = record { txn = unwrap_or (place_of c.txn (txn_names txns)) 0; args = c.args }

abbrev pub packet_of : Sent → Packet
packet_of (Blue site seq) = packets.Blue site seq
packet_of (Red slot) = packets.Red slot

abbrev pub step_of : List Declaration → List Transaction → Line → Step
step_of schema txns (Ask session c) = steps.Ask session (request_of txns c)
step_of schema txns (Order session) = steps.Order session
step_of schema txns (Deliver site sent) = steps.Deliver site (packet_of sent)
step_of schema txns (Settle site) = steps.Settle site
step_of schema txns (Catch site) = steps.Catch site
step_of schema txns (Show site table) = steps.Show site (table_number schema table)
step_of schema txns (Cut site) = steps.ShowCut site
step_of schema txns (Move session site) = steps.Move session site

abbrev pub settings_of : Last → List (Setting × ℕ)
settings_of Absent = []
settings_of (Replay settings lines) = settings
settings_of (Run settings sessions) = settings

abbrev pub work_of : List Declaration → List Transaction → Last → Work
work_of schema txns Absent = works.Nothing
work_of schema txns (Replay settings lines) = works.Replay (map (step_of schema txns) lines)
work_of schema txns (Run settings sessions) = works.Sessions (map (λ (s : Session). map (request_of txns) s.calls) sessions)

-- one site, 1,024 rows or as many as there are initial rows, and 8,192 changes, where nothing else is set
abbrev pub parts_of : List Declaration → List Transaction → List Row → Last → Parts
parts_of schema txns rows last = record {
  init = map (init_row schema) rows;
  sites = unwrap_or (given Sites (settings_of last)) 1;
  rows = unwrap_or (given Rows (settings_of last)) (max 1024 (length rows));
  changes = unwrap_or (given Changes (settings_of last)) 8192;
  work = work_of schema txns last;
}

-- initial rows of which none is refused, and the tokens behind them
pub record AreRows (schema : List Declaration) (tokens : List Token) (rows : List Row) (rest : List Token) : Type 0 where
  pub are : AreInit tokens rows rest
  pub right : AreNone (InitRefused schema tokens)

-- the same, and their tables are valid
pub record AreGood (schema : List Declaration) (tokens : List Token) (rows : List Row) (rest : List Token) : Type 0 where
  pub read : AreRows schema tokens rows rest
  pub valid : Valid schema (initial_tables (map (init_row schema) rows))

-- the tokens are these parts, of which nothing is refused
pub record AreParts (schema : List Declaration) (txns : List Transaction) (tokens : List Token) (parts : Parts) : Type 0 where
  pub rows : List Row
  pub last : Last
  pub rest : List Token
  pub init : AreGood schema tokens rows rest
  pub is : last_part last rest
  pub right : AreNone (LastRefused schema txns (length rows) rest)
  pub made : parts ≡ parts_of schema txns rows last

pub data IsRefused (schema : List Declaration) (txns : List Transaction) (tokens : List Token) (end : Spot) (refusal : Refusal) : Type 0 where
  InInit : (code : Code) (here : List Token) → IsFirst (InitRefused schema tokens) code here → refusal ≡ record { spot = spot_of end here; code = code }
      → IsRefused schema txns tokens end refusal
  ByInvariant : (rows : List Row) (rest : List Token) (row number : ℕ) (of : InitRow) → AreRows schema tokens rows rest → checked.IsFirst schema (map (init_row schema) rows) row number
      → slice_get (map (init_row schema) rows) row ≡ Some of → refusal ≡ record { spot = of.spot; code = BadInit number row } → IsRefused schema txns tokens end refusal
  InLast : (rows : List Row) (rest : List Token) (code : Code) (here : List Token) → AreGood schema tokens rows rest → IsFirst (LastRefused schema txns (length rows) rest) code here
      → refusal ≡ record { spot = spot_of end here; code = code } → IsRefused schema txns tokens end refusal

-- these parts, or there was no memory
abbrev pub IsAnswer : Result Parts Stop → Parts → Type 0
IsAnswer (Ok read) parts = read ≡ parts
IsAnswer (Err (Refused refusal)) parts = ⊥
IsAnswer (Err NoMemory) parts = Unit {0}

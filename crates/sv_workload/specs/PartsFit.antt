-- What is known of parts that were read: rows, requests and steps fit the application, initial rows are valid, and nothing passes its limit.
use Rattle.std.specs.Prelude.{◌≡◌, ◌≤◌, ◌<◌, ℕ, List, length, Some, slice_get}
use Rattle.std.specs.List.{All}
use Rattle.sv_value.specs.declared.packets.Packet.{Packet}
use Rattle.sv_value.specs.declared.packets.Packet.TheVariants as packets
use Rattle.sv_app.specs.declared.requests.Request.{Request}
use Rattle.sv_app.specs.Fitting.{ArgsFit}
use Rattle.sv_app.specs.Limits.{most_init_rows, most_steps, most_requests, most_shows, most_sessions}
use Rattle.sv_app.specs.Schema.{Declaration}
use Rattle.sv_app.specs.Trees.{Transaction}
use Rattle.sv_app.specs.Valid.{Valid}
use Rattle.sv_effect.specs.BareTables.{bare}
use Rattle.sv_effect.specs.Cut.{empty}
use Rattle.sv_effect.specs.Initial.{InitFits, AreDistinct}
use Rattle.sv_effect.specs.TablesOfCut.{tables_held}
use Rattle.sv_workload.specs.declared.parts.Parts.{Parts}
use Rattle.sv_workload.specs.declared.parts.Step.{Step}
use Rattle.sv_workload.specs.declared.parts.Step.TheVariants as steps
use Rattle.sv_workload.specs.declared.parts.Work.{Work}
use Rattle.sv_workload.specs.declared.parts.Work.TheVariants as works
use Rattle.sv_workload.specs.LastRefused.{total}
use Rattle.sv_workload.specs.LineReading.{step_asks, step_shows}

-- a request is for one of the transactions, and its arguments fit
pub record IsRequestOf (txns : List Transaction) (request : Request) : Type 0 where
  pub txn : Transaction
  pub among : slice_get txns request.txn ≡ Some txn
  pub fits : ArgsFit txn.params request.args

abbrev pub step_moves : Step → ℕ
step_moves (steps.Ask session request) = 0
step_moves (steps.Order session) = 0
step_moves (steps.Deliver site packet) = 0
step_moves (steps.Settle site) = 0
step_moves (steps.Catch site) = 0
step_moves (steps.Show site table) = 0
step_moves (steps.ShowCut site) = 0
step_moves (steps.Move session site) = 1

-- how many requests the work has, and how often a step of it moves a session
abbrev pub asks_of : Work → ℕ
asks_of works.Nothing = 0
asks_of (works.Replay all) = total step_asks all
asks_of (works.Sessions sessions) = total length sessions

abbrev pub moves_of : Work → ℕ
moves_of works.Nothing = 0
moves_of (works.Replay all) = total step_moves all
moves_of (works.Sessions sessions) = 0

-- the number of a session, and that of one of so many sites
abbrev pub IsSession : ℕ → Type 0
IsSession number = (1 ≤ number) × (number ≤ most_sessions)

abbrev pub IsSiteOf : ℕ → ℕ → Type 0
IsSiteOf sites number = (1 ≤ number) × (number ≤ sites)

-- the site of a blue packet is one of so many
abbrev pub PacketFits : ℕ → Packet → Type 0
PacketFits sites (packets.Blue site seq) = IsSiteOf sites site
PacketFits sites (packets.Red slot) = Unit {0}

-- the sessions, the sites and the table of a step are there, and its request fits
abbrev pub StepFits : List Declaration → List Transaction → ℕ → Step → Type 0
StepFits schema txns sites (steps.Ask session request) = IsSession session × IsRequestOf txns request
StepFits schema txns sites (steps.Order session) = IsSession session
StepFits schema txns sites (steps.Deliver site packet) = IsSiteOf sites site × PacketFits sites packet
StepFits schema txns sites (steps.Settle site) = IsSiteOf sites site
StepFits schema txns sites (steps.Catch site) = IsSiteOf sites site
StepFits schema txns sites (steps.Show site table) = IsSiteOf sites site × (table < length schema)
StepFits schema txns sites (steps.ShowCut site) = IsSiteOf sites site
StepFits schema txns sites (steps.Move session site) = IsSession session × IsSiteOf sites site

-- each step fits, for so many sites, and so does each request of each session
abbrev pub EachFits : List Declaration → List Transaction → ℕ → Work → Type 0
EachFits schema txns sites works.Nothing = Unit {0}
EachFits schema txns sites (works.Replay all) = All (StepFits schema txns sites) all
EachFits schema txns sites (works.Sessions sessions) = All (All (IsRequestOf txns)) sessions

-- steps, those that show rows, and sessions keep their limits
abbrev pub IsShort : Work → Type 0
IsShort works.Nothing = Unit {0}
IsShort (works.Replay all) = (length all ≤ most_steps) × (total step_shows all ≤ most_shows)
IsShort (works.Sessions sessions) = length sessions ≤ most_sessions

pub record WorkFits (schema : List Declaration) (txns : List Transaction) (sites : ℕ) (work : Work) : Type 0 where
  pub each : EachFits schema txns sites work
  pub asks : asks_of work ≤ most_requests
  pub moves : moves_of work ≤ most_steps
  pub short : IsShort work

-- 1 to 8 sites; rows for all initial rows and at most 4,096, and 1 to 65,536 changes
pub record SizesFit (parts : Parts) : Type 0 where
  pub some : 1 ≤ parts.sites
  pub sites : parts.sites ≤ 8
  pub room : length parts.init ≤ parts.rows
  pub rows : parts.rows ≤ most_init_rows
  pub change : 1 ≤ parts.changes
  pub changes : parts.changes ≤ 65536

pub record PartsFit (schema : List Declaration) (txns : List Transaction) (parts : Parts) : Type 0 where
  pub rows : All (InitFits schema) parts.init
  pub distinct : AreDistinct parts.init
  pub valid : Valid schema (bare (tables_held schema parts.init empty))
  pub few : length parts.init ≤ most_init_rows
  pub sizes : SizesFit parts
  pub work : WorkFits schema txns parts.sites parts.work

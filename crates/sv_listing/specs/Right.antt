-- A right dictionary: it covers the application, and of every run it decides the first threat of the changes, or that there is none.
use Rattle.std.specs.Prelude.{◌≡◌, ℕ, ℤ, List, [], Some, slice_get}
use Rattle.std.specs.List.{All}
use Rattle.sv_app.specs.declared.requests.Request.{Request}
use Rattle.sv_app.specs.Fitting.{ArgsFit}
use Rattle.sv_app.specs.Schema.{Declaration}
use Rattle.sv_app.specs.Tables.{Tables}
use Rattle.sv_app.specs.Trees.{Transaction}
use Rattle.sv_effect.specs.Room.{AreWordWrites}
use Rattle.sv_effect.specs.Run.{RunResult, run}
use Rattle.sv_effect.specs.RunChanges.{Effect}
use Rattle.sv_effect.specs.Threatened.{Unthreatened}
use Rattle.sv_threat.specs.declared.label.Label.{Label}
use Rattle.sv_threat.specs.declared.label.Label.TheVariants.{Nothing, Blue, Red}
use Rattle.sv_threat.specs.Labels as threats
use Rattle.sv_trace.specs.Laws.{RowsAreOf}
use Rattle.sv_label.specs.Covers.{Covers, AreShaped}
use Rattle.sv_label.specs.Decided.{IsDecided}
use Rattle.sv_label.specs.Groups.{Group}

-- the integers that changes write are of 64 bits
abbrev pub AreWords : List Effect → Type 0
AreWords es = All (λ (e : Effect). AreWordWrites e.writes) es

-- red with the first threat where a change is threatened, else blue
abbrev pub IsFirstThreat : List Declaration → List Effect → Label → Type 0
IsFirstThreat schema es Nothing = ⊥
IsFirstThreat schema es Blue = Unthreatened schema es
IsFirstThreat schema es (Red instance place reason) = threats.IsRed schema es instance place reason

-- the entries of the run's trace are shaped, and what is decided for them is the first threat of its changes
pub record DecidesFor (schema : List Declaration) (txns : List Transaction) (groups : List Group) (txn : ℕ) (ran : RunResult) : Type 0 where
  pub shaped : AreShaped schema txns txn ran.trace
  pub label : (label : Label) → IsDecided schema groups txn ran.trace label → IsFirstThreat schema ran.effects label

-- of requests that fit, on all rows of the tables, where the integers that are written are of 64 bits
pub record Right (schema : List Declaration) (txns : List Transaction) (groups : List Group) : Type 0 where
  pub covers : Covers schema txns groups
  pub decides : (request : Request) (txn : Transaction) (first : ℤ) (t : Tables) → slice_get txns request.txn ≡ Some txn → ArgsFit txn.params request.args → RowsAreOf schema t
      → AreWords (run schema txns request first t).effects → DecidesFor schema txns groups request.txn (run schema txns request first t)

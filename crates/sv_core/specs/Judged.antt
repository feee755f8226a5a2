-- What a request is answered on tables, and its label: how its run ends, unless its changes leave tables that aren't valid; and whether one of its changes
-- is threatened.
use Rattle.std.specs.Prelude.{◌≡◌, List, [], Bool, true, false}
use Rattle.sv_value.specs.declared.values.Key.{Key}
use Rattle.sv_app.specs.Schema.{Declaration}
use Rattle.sv_app.specs.Tables.{Tables}
use Rattle.sv_app.specs.Valid.{IsFirstBroken}
use Rattle.sv_effect.specs.declared.outcomes.Outcome.{Outcome}
use Rattle.sv_effect.specs.declared.outcomes.Outcome.TheVariants.{Done, Abort, NoRow, Exists, Range, TooLarge}
use Rattle.sv_effect.specs.Effects.{with_effects, Fits}
use Rattle.sv_effect.specs.Run.{RunResult}
use Rattle.sv_effect.specs.RunChanges.{Effect}
use Rattle.sv_threat.specs.declared.label.Label.{Label}
use Rattle.sv_threat.specs.Labels.{IsLabel}
use Rattle.sv_core.specs.declared.entries.Reply.{Reply}
use Rattle.sv_core.specs.declared.entries.Reply.TheVariants.{Ran, Refused, Full}

abbrev pub is_done : Outcome → Bool
is_done (Done values) = true
is_done (Abort n) = false
is_done NoRow = false
is_done Exists = false
is_done Range = false
is_done TooLarge = false

-- the outcome of the run; where it is done and its changes don't fit, the first invariant that they break refuses it
abbrev pub IsReply : List Declaration → Tables → RunResult → Reply → Type 0
IsReply schema t ran (Ran outcome) = (outcome ≡ ran.outcome) × (is_done outcome ≡ true → Fits schema ran.effects t)
IsReply schema t ran (Refused inv) = (is_done ran.outcome ≡ true) × ((key : Key) × IsFirstBroken schema (with_effects schema ran.effects t) inv key)
IsReply schema t ran (Full which used) = ⊥

-- the changes that a reply stands for: a run that isn't done has none, and one that is refused makes none
abbrev pub made_by : Reply → List Effect → List Effect
made_by (Ran outcome) es = es
made_by (Refused inv) es = []
made_by (Full which used) es = []

pub record IsJudged (schema : List Declaration) (t : Tables) (ran : RunResult) (reply : Reply) (label : Label) : Type 0 where
  pub replied : IsReply schema t ran reply
  pub labelled : IsLabel schema (made_by reply ran.effects) label

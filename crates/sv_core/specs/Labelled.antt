-- The label that a dictionary decides for a run: none where nothing is changed, else the one that it decides for the trace.
use Rattle.std.specs.Prelude.{◌≡◌, ℕ, List, [], ◌∷◌}
use Rattle.sv_app.specs.declared.instances.Instance.{Instance}
use Rattle.sv_app.specs.Schema.{Declaration}
use Rattle.sv_effect.specs.RunChanges.{Effect}
use Rattle.sv_threat.specs.declared.label.Label.{Label}
use Rattle.sv_threat.specs.declared.label.Label.TheVariants.{Nothing}
use Rattle.sv_label.specs.Decided.{IsDecided}
use Rattle.sv_label.specs.Groups.{Group}

abbrev pub IsLabelBy : List Declaration → List Group → ℕ → List Instance → List Effect → Label → Type 0
IsLabelBy schema groups txn trace [] label = label ≡ Nothing
IsLabelBy schema groups txn trace (e ∷ es) label = IsDecided schema groups txn trace label

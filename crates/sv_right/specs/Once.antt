-- There is one label: a dictionary decides one for a trace, and of changes there is one first threat.
use Rattle.std.specs.Prelude.{◌≡◌, ℕ, List}
use Rattle.sv_app.specs.declared.instances.Instance.{Instance}
use Rattle.sv_app.specs.Schema.{Declaration}
use Rattle.sv_effect.specs.RunChanges.{Effect}
use Rattle.sv_threat.specs.declared.label.Label.{Label}
use Rattle.sv_label.specs.Decided.{IsDecided}
use Rattle.sv_label.specs.Groups.{Group}
use Rattle.sv_listing.specs.Right.{IsFirstThreat}

abbrev pub DecidedOnce : Type 0
DecidedOnce = (schema : List Declaration) (groups : List Group) (txn : ℕ) (trace : List Instance) (label other : Label)
    → IsDecided schema groups txn trace label → IsDecided schema groups txn trace other → label ≡ other

abbrev pub FirstThreatOnce : Type 0
FirstThreatOnce = (schema : List Declaration) (es : List Effect) (label other : Label) → IsFirstThreat schema es label → IsFirstThreat schema es other → label ≡ other

-- An instance is shaped if its choices are a path of its unit that doesn't abort, and its tape has one value of the right type for each symbol of that path.
use Rattle.std.specs.Prelude.{◌≡◌, List, [], ◌∷◌, Some, slice_get}
use Rattle.sv_value.specs.declared.values.Val.{Val}
use Rattle.sv_app.specs.declared.instances.Instance.{Instance}
use Rattle.sv_app.specs.declared.schemas.Ty.{Ty}
use Rattle.sv_app.specs.Fitting.{HasType}
use Rattle.sv_app.specs.Paths.{Way, Leads, unit_path}
use Rattle.sv_app.specs.Schema.{Declaration}
use Rattle.sv_app.specs.Trees.{Block, Transaction}
use Rattle.sv_app.specs.Units.{units}

abbrev pub AreOfTypes : List Ty → List Val → Type 0
AreOfTypes [] [] = Unit {0}
AreOfTypes (ty ∷ tys) (v ∷ vs) = HasType ty v × AreOfTypes tys vs
AreOfTypes _ _ = ⊥

pub record Shaped (schema : List Declaration) (txn : Transaction) (instance : Instance) : Type 0 where
  pub body : Block
  pub unit : slice_get (units txn.body) instance.unit ≡ Some body
  pub end : Way
  pub path : unit_path schema txn body instance.choices ≡ Leads end
  pub whole : end.left ≡ []
  pub tape : AreOfTypes end.symbols instance.tape

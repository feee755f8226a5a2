-- An instance is drawn if its choices are a route of its unit, the facts of the route hold on its tape, and the effects of the route have on the tape the
-- values of the instance's changes.
use Rattle.std.specs.Prelude.{◌≡◌, ℕ, ◌==◌, if◌then◌else◌, List, [], ◌∷◌, length, map, Some, slice_get}
use Rattle.sv_value.specs.declared.values.Val.{Val}
use Rattle.sv_app.specs.declared.acts.Act.{Act}
use Rattle.sv_app.specs.declared.instances.Instance.{Instance}
use Rattle.sv_app.specs.Schema.{Declaration}
use Rattle.sv_app.specs.Trees.{Block, Transaction}
use Rattle.sv_app.specs.Units.{units}
use Rattle.sv_effect.specs.declared.ops.Write.{Write}
use Rattle.sv_effect.specs.declared.ops.Write.TheVariants as writes
use Rattle.sv_effect.specs.RunChanges.{Effect}
use Rattle.sv_linear.specs.Effects.{SymWrite, Delta, Set, SymEffect, value_of}
use Rattle.sv_linear.specs.Facts.{facts_hold}
use Rattle.sv_linear.specs.Forms.{value}
use Rattle.sv_symbolic.specs.Routes.{Leads, draw_unit}
use Rattle.sv_symbolic.specs.Sketches.{Sketch}

-- a change without its key and its instance
pub record Change : Type 0 where
  pub table : ℕ
  pub act : Act
  pub writes : List (ℕ × Write)

-- the values that forms have on a tape
abbrev pub write_on : List Val → SymWrite → Write
write_on tape (Delta f) = writes.Delta (value f tape)
write_on tape (Set f) = writes.Set (value_of f tape)

abbrev pub writes_on : List Val → List (ℕ × SymWrite) → List (ℕ × Write)
writes_on tape ws = map (λ w. (w.0, write_on tape w.1)) ws

abbrev pub change_on : List Val → SymEffect → Change
change_on tape e = record { table = e.table; act = e.act; writes = writes_on tape e.writes }

abbrev pub change_of : Effect → Change
change_of e = record { table = e.place.table; act = e.act; writes = e.writes }

-- the changes of one instance, in order
abbrev pub changes_in : ℕ → List Effect → List Change
changes_in n [] = []
changes_in n (e ∷ es) = if e.instance == n then change_of e ∷ changes_in n es else changes_in n es

pub record IsDrawn (schema : List Declaration) (txn : Transaction) (changes : List Change) (instance : Instance) : Type 0 where
  pub body : Block
  pub unit : slice_get (units txn.body) instance.unit ≡ Some body
  pub end : Sketch
  pub route : draw_unit schema txn body instance.choices ≡ Leads end
  pub whole : end.way.left ≡ []
  pub symbols : length end.way.symbols ≡ length instance.tape
  pub facts : facts_hold instance.tape end.drawing.facts
  pub effects : map (change_on instance.tape) end.drawing.effects ≡ changes

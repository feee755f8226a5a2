-- What is kept between a run and its sketch from statement to statement.
use Rattle.std.proofs.Common.{◌≡◌, ℕ, suc, ◌<◌, ◌≤◌, ◌==◌, Bool, true, false, List, [], ◌∷◌, ◌++◌, length, map, Some, slice_get}
use Rattle.std.specs.List.{list_any}
use Rattle.sv_value.specs.declared.values.Val.{Val}
use Rattle.sv_app.specs.declared.instances.Instance.{Instance}
use Rattle.sv_app.specs.Slots.{item}
use Rattle.sv_effect.specs.Run.{Stand}
use Rattle.sv_effect.specs.RunChanges.{Effect}
use Rattle.sv_effect.specs.RunValues.{nothing, Scope as Values}
use Rattle.sv_trace.specs.Standing.{Frame}
use Rattle.sv_symbolic.specs.Drawn.{IsDrawn, changes_in, change_on}
use Rattle.sv_symbolic.specs.Routes.{Route, Leads}
use Rattle.sv_symbolic.specs.Sketches.{Drawing, Sketch}
use Rattle.sv_symbolic.proofs.Relation.{Agrees, sketch_at, Later}

abbrev pub AllUpTo : ℕ → List Effect → Type 0
AllUpTo n [] = Unit {0}
AllUpTo n (e ∷ es) = (e.instance ≤ n) × AllUpTo n es

-- the number of the instance that the run is in, and the greatest of any change
abbrev pub own_number : Bool → List Instance → ℕ
own_number true is = 0
own_number false is = suc (length is)

abbrev pub last_number : Bool → List Instance → ℕ
last_number true is = length is
last_number false is = suc (length is)

-- the sketch has the values of the run, outside loops or in the body of one, and the instances that are complete are drawn
pub record Fits (f : Frame) (outer : Bool) (st : Stand) (d : Drawing) : Type 0 where
  pub agrees : Agrees ⊥ st.scope d
  pub changes : (rest : List Val) → map (change_on (st.scope.progress.tape ++ rest)) d.effects ≡ changes_in st.scope.progress.number st.effects
  pub number : st.scope.progress.number ≡ own_number outer st.instances
  pub few : AllUpTo (last_number outer st.instances) st.effects
  pub told : (n : ℕ) (i : Instance) → slice_get st.instances n ≡ Some i → IsDrawn f.schema f.txn (changes_in (suc n) st.effects) i

-- earlier names have their values, unless they were assigned
pub record Kept (k : ℕ) (assigned : List ℕ) (s z : Values) : Type 0 where
  pub values : (y : ℕ) → y < k → list_any (λ x. y == x) assigned ≡ false → item nothing z.values y ≡ item nothing s.values y
  pub rows : (r : ℕ) → r < k → item [] z.rows r ≡ item [] s.rows r

-- statements were run, along the route
pub record Follows (f : Frame) (outer : Bool) (k : ℕ) (assigned : List ℕ) (route : Sketch → Route) (st : Stand) (d : Drawing) (end : Stand) : Type 0 where
  pub grown : List Bool
  pub after : Drawing
  pub leads : (left : List Bool) → route (sketch_at (grown ++ left) st.scope.progress d) ≡ Leads (sketch_at left end.scope.progress after)
  pub fits : Fits f outer end after
  pub later : Later st.scope.progress end.scope.progress grown
  pub kept : Kept k assigned st.scope end.scope
  pub zero : outer ≡ false → changes_in 0 end.effects ≡ changes_in 0 st.effects

-- turns of a loop were run: the instance outside stands where it stood
pub record Turning (f : Frame) (k : ℕ) (assigned : List ℕ) (st end : Stand) : Type 0 where
  pub progress : end.scope.progress ≡ st.scope.progress
  pub kept : Kept k assigned st.scope end.scope
  pub zero : changes_in 0 end.effects ≡ changes_in 0 st.effects
  pub few : AllUpTo (length end.instances) end.effects
  pub told : (n : ℕ) (i : Instance) → slice_get end.instances n ≡ Some i → IsDrawn f.schema f.txn (changes_in (suc n) end.effects) i

-- Whichever tells the greatest differences of a schema right, the same is asked of a change.
use Rattle.std.specs.Prelude.{◌≡◌, ℕ, List}
use Rattle.sv_app.specs.Schema.{Declaration}
use Rattle.sv_linear.specs.Atoms.{Gain, atoms, is_wide_change}
use Rattle.sv_linear.specs.Effects.{SymEffect}
use Rattle.sv_wp.specs.Told.{TellsGreatest}

pub record AskAlike (schema : List Declaration) (told other : Gain) (e : SymEffect) (place : ℕ) : Type 0 where
  pub atoms : atoms told schema e place ≡ atoms other schema e place
  pub wide : is_wide_change told schema e ≡ is_wide_change other schema e

abbrev pub AtomsOnce : Type 0
AtomsOnce = (schema : List Declaration) (told other : Gain) (e : SymEffect) (place : ℕ) → TellsGreatest schema told → TellsGreatest schema other → AskAlike schema told other e place

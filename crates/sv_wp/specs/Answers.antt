-- What the calls answer that list the atoms of a change: just these, or why not.
use Rattle.std.specs.Prelude.{◌≡◌, ℕ, true, false, List, map, Result, Ok, Err}
use Rattle.sv_app.specs.Schema.{Declaration}
use Rattle.sv_linear.specs.declared.stops.FormStop.{FormStop}
use Rattle.sv_linear.specs.declared.stops.FormStop.TheVariants.{Wide, NoMemory}
use Rattle.sv_linear.specs.declared.tests.Atom.{Atom as Coded}
use Rattle.sv_linear.specs.Atoms.{Gain, atoms, is_wide_change}
use Rattle.sv_linear.specs.Codes.{atom_of}
use Rattle.sv_linear.specs.Effects.{SymEffect}
use Rattle.sv_wp.specs.Listing.{AreShortAtoms}
use Rattle.sv_wp.specs.Told.{TellsGreatest}

pub record AreAtoms (told : Gain) (schema : List Declaration) (e : SymEffect) (place : ℕ) (list : List Coded) : Type 0 where
  pub atoms_are : map atom_of list ≡ atoms told schema e place
  pub narrow : is_wide_change told schema e ≡ false
  pub short : AreShortAtoms (map atom_of list)

-- wide exactly where a wide form is asked for before anything that nothing meets
abbrev pub IsAnswer : Gain → List Declaration → SymEffect → ℕ → Result (List Coded) FormStop → Type 0
IsAnswer told schema e place (Ok list) = AreAtoms told schema e place list
IsAnswer told schema e place (Err Wide) = is_wide_change told schema e ≡ true
IsAnswer told schema e place (Err NoMemory) = Unit {0}

-- by greatest differences that were found
pub record IsFoundAnswer (schema : List Declaration) (e : SymEffect) (place : ℕ) (result : Result (List Coded) FormStop) : Type 0 where
  pub told : Gain
  pub right : TellsGreatest schema told
  pub answer : IsAnswer told schema e place result

abbrev pub IsAnswerBySome : List Declaration → SymEffect → ℕ → Result (List Coded) FormStop → Type 0
IsAnswerBySome schema e place (Ok list) = IsFoundAnswer schema e place (Ok list)
IsAnswerBySome schema e place (Err Wide) = IsFoundAnswer schema e place (Err Wide)
IsAnswerBySome schema e place (Err NoMemory) = Unit {0}

-- The atoms of a path: those of its changes, in order, up to and with the first that nothing meets.
use Rattle.std.specs.Prelude.{◌≡◌, ◌&&◌, ◌||◌, not, ℕ, suc, Bool, true, false, List, [], ◌∷◌, ◌++◌}
use Rattle.std.specs.List.{list_any}
use Rattle.sv_app.specs.Schema.{Declaration}
use Rattle.sv_app.specs.Trees.{Transaction}
use Rattle.sv_bounds.specs.declared.systems.Diff.{Diff}
use Rattle.sv_linear.specs.Atoms.{Gain, atoms, is_never, is_wide_change, to_never}
use Rattle.sv_linear.specs.Effects.{SymEffect}
use Rattle.sv_linear.specs.Tests.{Atom}
use Rattle.sv_paths.specs.Numbered.{Part}
use Rattle.sv_symbolic.specs.Executes.{IsExecuted}
use Rattle.sv_symbolic.specs.Routes.{Shape}
use Rattle.sv_wp.specs.Told.{TellsGreatest}

-- those of changes that stand at this place and behind it
abbrev pub atoms_from : Gain → List Declaration → ℕ → List SymEffect → List Atom
atoms_from told schema place [] = []
atoms_from told schema place (e ∷ es) = atoms told schema e place ++ atoms_from told schema (suc place) es

abbrev pub path_atoms : Gain → List Declaration → List SymEffect → List Atom
path_atoms told schema es = to_never (atoms_from told schema 1 es)

-- nothing meets one of its atoms
abbrev pub has_never : Gain → List Declaration → SymEffect → Bool
has_never told schema e = list_any (λ a. is_never a.test) (atoms told schema e 1)

-- a form is wide that is asked for before anything that nothing meets
abbrev pub is_wide_path : Gain → List Declaration → List SymEffect → Bool
is_wide_path told schema [] = false
is_wide_path told schema (e ∷ es) = is_wide_change told schema e || (not (has_never told schema e) && is_wide_path told schema es)

-- the path with these choices has these facts, so many symbols, and these atoms
pub record IsListed (schema : List Declaration) (txns : List Transaction) (part : Part) (choices : List Bool) (facts : List Diff) (symbols : ℕ) (list : List Atom) : Type 0 where
  pub effects : List SymEffect
  pub executed : IsExecuted schema txns part.txn part.body choices (Shape facts effects symbols)
  pub told : Gain
  pub right : TellsGreatest schema told
  pub narrow : is_wide_path told schema effects ≡ false
  pub atoms_are : list ≡ path_atoms told schema effects

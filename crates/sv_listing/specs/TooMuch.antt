-- Where an application asks for too much: of a transaction's units one has too many paths, a path has too many symbols or a wide form, or the limit of templates or of atoms is passed there.
use Rattle.std.specs.Prelude.{◌≡◌, ◌<◌, ◌≤◌, ◌+◌, ℕ, suc, Bool, true, List, [], ◌∷◌, length, take, Option, Some, None, slice_get}
use Rattle.std.specs.List.{Contains}
use Rattle.sv_app.specs.declared.refusals.Code.TheVariants.{Many as TooMany}
use Rattle.sv_app.specs.declared.refusals.Refusal.{Refusal}
use Rattle.sv_app.specs.Schema.{Declaration}
use Rattle.sv_app.specs.Trees.{Block, Transaction}
use Rattle.sv_app.specs.Units.{units}
use Rattle.sv_bounds.specs.declared.systems.Diff.{Diff}
use Rattle.sv_linear.specs.Atoms.{Gain}
use Rattle.sv_linear.specs.Codes.{left_of}
use Rattle.sv_linear.specs.Effects.{SymEffect}
use Rattle.sv_linear.specs.Left.{Left}
use Rattle.sv_linear.specs.Tests.{Atom}
use Rattle.sv_paths.specs.Paths.{HasTooMany}
use Rattle.sv_symbolic.specs.Executes.{IsExecuted}
use Rattle.sv_symbolic.specs.Routes.{Executed, Many, Wide, Shape}
use Rattle.sv_wp.specs.Told.{TellsGreatest}
use Rattle.sv_label.specs.declared.templates.Template.{Template}
use Rattle.sv_label.specs.Groups.{Group, entries}
use Rattle.sv_listing.specs.Frugal.{AreGroups, parts_from}
use Rattle.sv_listing.specs.Listed.{is_wide_path}

-- templates of a dictionary, and atoms that are listed in it, whether they are left to the run or dropped
abbrev pub most_templates : ℕ
most_templates = 8192

abbrev pub most_atoms : ℕ
most_atoms = 65536

abbrev pub count_of : Option Atom → ℕ
count_of None = 0
count_of (Some a) = 1

abbrev pub atoms_left : Left → ℕ
atoms_left left = length left.kept + length left.dropped + count_of left.never

abbrev pub atoms_of : List (List Bool × Template) → ℕ
atoms_of [] = 0
atoms_of (e ∷ es) = atoms_left (left_of e.1.left) + atoms_of es

abbrev pub atoms_in : List Group → ℕ
atoms_in [] = 0
atoms_in (g ∷ groups) = atoms_of g.templates + atoms_in groups

pub record AreFew (groups : List Group) : Type 0 where
  pub templates : entries groups ≤ most_templates
  pub atoms : atoms_in groups ≤ most_atoms

-- a path of a unit that doesn't abort comes to this
pub record SomePath (schema : List Declaration) (txns : List Transaction) (number : ℕ) (txn : Transaction) (answer : Executed) : Type 0 where
  pub body : Block
  pub unit : Contains (units txn.body) body
  pub choices : List Bool
  pub comes : IsExecuted schema txns number body choices answer

-- a path whose changes ask for a wide form
pub record WidePath (schema : List Declaration) (txns : List Transaction) (number : ℕ) (txn : Transaction) : Type 0 where
  pub facts : List Diff
  pub effects : List SymEffect
  pub symbols : ℕ
  pub path : SomePath schema txns number txn (Shape facts effects symbols)
  pub told : Gain
  pub right : TellsGreatest schema told
  pub wide : is_wide_path told schema effects ≡ true

pub data AsksTooMuch (schema : List Declaration) (txns : List Transaction) (number : ℕ) (txn : Transaction) : Type 0 where
  ManyPaths : (body : Block) → Contains (units txn.body) body → HasTooMany body → AsksTooMuch schema txns number txn
  ManySymbols : SomePath schema txns number txn Many → AsksTooMuch schema txns number txn
  WideForm : SomePath schema txns number txn Wide → AsksTooMuch schema txns number txn
  WideAtom : WidePath schema txns number txn → AsksTooMuch schema txns number txn
  -- with this transaction and those before it no dictionary has few templates and atoms
  PassesLimit : ((groups : List Group) → AreGroups schema txns (parts_from 0 (take (suc number) txns)) groups → AreFew groups → ⊥) → AsksTooMuch schema txns number txn

pub record TooMuch (schema : List Declaration) (txns : List Transaction) (number : ℕ) : Type 0 where
  pub txn : Transaction
  pub declared : slice_get txns number ≡ Some txn
  pub asks : AsksTooMuch schema txns number txn

abbrev pub KeepsLimits : List Declaration → List Transaction → Type 0
KeepsLimits schema txns = (number : ℕ) → TooMuch schema txns number → ⊥

-- at the name of the first transaction that asks for too much
pub record IsRefusedFor (schema : List Declaration) (txns : List Transaction) (refusal : Refusal) : Type 0 where
  pub number : ℕ
  pub too_much : TooMuch schema txns number
  pub first : (earlier : ℕ) → earlier < number → TooMuch schema txns earlier → ⊥
  pub spot_is : refusal.spot ≡ too_much.txn.name.spot
  pub code_is : refusal.code ≡ TooMany

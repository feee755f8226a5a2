-- How far a dictionary is made: it has what some units need, and of the next one the templates of some paths.
use Rattle.std.specs.Prelude.{◌≡◌, ◌≤◌, ◌<◌, ◌+◌, ℕ, true, false, Bool, List, [], ◌∷◌, ◌++◌, length, take, Option, None, Some, slice_get}
use Rattle.std.specs.List.{All}
use Rattle.sv_app.specs.Accepted.{AcceptedApp}
use Rattle.sv_app.specs.Schema.{Declaration, schema_of}
use Rattle.sv_app.specs.Trees.{Transaction, transactions_of}
use Rattle.sv_linear.specs.declared.stops.FormStop.{FormStop}
use Rattle.sv_linear.specs.declared.stops.FormStop.TheVariants.{Wide, NoMemory}
use Rattle.sv_linear.specs.Atoms.{Gain, to_never}
use Rattle.sv_linear.specs.Effects.{SymEffect}
use Rattle.sv_linear.specs.Left.{Left}
use Rattle.sv_linear.specs.Tests.{Atom}
use Rattle.sv_paths.specs.declared.answers.Path.{Path}
use Rattle.sv_paths.specs.Numbered.{Part, bodies_of, numbered_from}
use Rattle.sv_paths.specs.Paths.{IsPath, AreAllPaths, FitsLimit, IsShort}
use Rattle.sv_wp.specs.Listing.{AreShortAtoms}
use Rattle.sv_wp.specs.Told.{TellsGreatest, told_by}
use Rattle.sv_label.specs.declared.templates.Template.{Template}
use Rattle.sv_label.specs.Groups.{Group, entries}
use Rattle.sv_listing.specs.Frugal.{IsTemplate, HaveTemplates, choices_on, AreGroups, parts_from}
use Rattle.sv_listing.specs.Listed.{atoms_from, is_wide_path}
use Rattle.sv_dict.specs.declared.listing.Counted.{Counted}
use Rattle.sv_dict.specs.declared.settings.Setting.{Setting}
use Rattle.sv_listing.specs.TooMuch.{most_templates, most_atoms, atoms_left, AreFew, atoms_in}

-- ---- the atoms of changes

-- those of changes from this place on stand behind what stood
pub record Lists (told : Gain) (schema : List Declaration) (place : ℕ) (es : List SymEffect) (before after : List Atom) : Type 0 where
  pub listed : after ≡ before ++ to_never (atoms_from told schema place es)
  pub narrow : is_wide_path told schema es ≡ false
  pub short : AreShortAtoms (to_never (atoms_from told schema place es))

abbrev pub IsStop : Gain → List Declaration → List SymEffect → FormStop → Type 0
IsStop told schema es Wide = is_wide_path told schema es ≡ true
IsStop told schema es NoMemory = Unit {0}

-- ---- the units in order

-- those of the transaction with this number
abbrev pub parts_at : List Transaction → ℕ → List Part
parts_at txns number = numbered_from 0 number (bodies_of (slice_get txns number))

-- those of all transactions before it, and so many of its own
abbrev pub parts_before : List Transaction → ℕ → ℕ → List Part
parts_before txns number unit = parts_from 0 (take number txns) ++ take unit (parts_at txns number)

abbrev pub IsUnit : List Transaction → Part → Type 0
IsUnit txns part = slice_get (parts_at txns part.txn) part.number ≡ Some part

-- a path of the unit that doesn't abort
pub record IsPathOf (txns : List Transaction) (part : Part) (path : Path) : Type 0 where
  pub unit : IsUnit txns part
  pub path_is : IsPath part.body path.aborts path.choices
  pub short : IsShort path
  pub goes_on : path.aborts ≡ false

-- the paths of the unit
pub record ArePathsOf (txns : List Transaction) (part : Part) (paths : List Path) : Type 0 where
  pub unit : IsUnit txns part
  pub all : AreAllPaths part.body paths
  pub short : All IsShort paths

-- the template of the path with this number
pub record IsTemplateAt (schema : List Declaration) (txns : List Transaction) (part : Part) (paths : List Path) (at : ℕ) (t : Template) : Type 0 where
  pub its : ArePathsOf txns part paths
  pub path : Path
  pub here : slice_get paths at ≡ Some path
  pub goes_on : path.aborts ≡ false
  pub template : IsTemplate schema txns part path.choices t

-- ---- the dictionary

-- it has what these units need, its atoms are so many, and no limit is passed
pub record Holds (schema : List Declaration) (txns : List Transaction) (parts : List Part) (groups : List Group) (atoms : ℕ) : Type 0 where
  pub are : AreGroups schema txns parts groups
  pub fit : All (λ p. FitsLimit p.body) parts
  pub counted : atoms ≡ atoms_in groups
  pub few : AreFew groups

-- behind these groups stands that of a unit with the templates of some paths, if there are any
pub data IsOpen (schema : List Declaration) (txns : List Transaction) (part : Part) (before : List Group) : List (List Bool) → List Group → Type 0 where
  Unopened : IsOpen schema txns part before [] before
  Opened : (choices : List (List Bool)) (g : Group) → g.txn ≡ part.txn → g.unit ≡ part.number → 1 ≤ length g.templates → HaveTemplates schema txns part choices g.templates → IsOpen schema txns part before choices (before ++ g ∷ [])

-- it has what these units need, and of the next one the templates of the paths with these choices
pub record HoldsIn (schema : List Declaration) (txns : List Transaction) (done : List Part) (part : Part) (choices : List (List Bool)) (groups : List Group) (atoms : ℕ) : Type 0 where
  pub before : List Group
  pub are : AreGroups schema txns done before
  pub fit : All (λ p. FitsLimit p.body) done
  pub opened : IsOpen schema txns part before choices groups
  pub counted : atoms ≡ atoms_in groups
  pub few : AreFew groups

-- one template with so many atoms passes no limit
pub record HasRoom (groups : List Group) (held listed : ℕ) : Type 0 where
  pub templates : entries groups < most_templates
  pub atoms : held + listed ≤ most_atoms

-- what is left of a path has so many atoms; none where they are more than any dictionary has
abbrev pub IsCount : Left → Option ℕ → Type 0
IsCount left None = most_atoms < atoms_left left
IsCount left (Some listed) = listed ≡ atoms_left left

-- and one template with them passes no limit
pub record RoomFor (groups : List Group) (held : ℕ) (left : Left) (listed : ℕ) : Type 0 where
  pub counted : listed ≡ atoms_left left
  pub room : HasRoom groups held (atoms_left left)

abbrev pub IsRoomFor : List Group → ℕ → Left → Option ℕ → Type 0
IsRoomFor groups held left None = HasRoom groups held (atoms_left left) → ⊥
IsRoomFor groups held left (Some listed) = RoomFor groups held left listed

-- ---- of what is worked on

abbrev pub schema_in : Setting → List Declaration
schema_in g = schema_of g.app.now.tables.items

abbrev pub txns_in : Setting → List Transaction
txns_in g = transactions_of g.app.now.txns.items

abbrev pub told_in : Setting → Gain
told_in g = told_by g.gains.now

-- the application is accepted, and its greatest differences are told right
pub record IsReady (g : Setting) : Type 0 where
  pub accepted : AcceptedApp (schema_in g) (txns_in g)
  pub right : TellsGreatest (schema_in g) (told_in g)

abbrev pub HasUnits : Setting → List Part → Counted → Type 0
HasUnits g parts c = Holds (schema_in g) (txns_in g) parts c.dict c.atoms

-- all units before this one, and of it the paths among these that don't abort
abbrev pub HasPaths : Setting → Part → List Path → Counted → Type 0
HasPaths g part paths c = HoldsIn (schema_in g) (txns_in g) (parts_before (txns_in g) part.txn part.number) part (choices_on paths) c.dict c.atoms

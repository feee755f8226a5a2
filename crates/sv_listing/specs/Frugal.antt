-- A frugal dictionary: a template for just each path that doesn't abort, in the order of transactions, units and paths, and in it what the path's facts leave of its atoms.
use Rattle.std.specs.Prelude.{◌≡◌, ◌≤◌, ℕ, suc, not, Bool, List, [], ◌∷◌, ◌++◌, map, length}
use Rattle.std.specs.List.{All, filter}
use Rattle.sv_app.specs.Schema.{Declaration}
use Rattle.sv_app.specs.Trees.{Transaction}
use Rattle.sv_app.specs.Units.{units}
use Rattle.sv_linear.specs.Codes.{left_of}
use Rattle.sv_linear.specs.Left.{IsLeft}
use Rattle.sv_linear.specs.Tests.{Atom}
use Rattle.sv_paths.specs.declared.answers.Path.{Path}
use Rattle.sv_paths.specs.Numbered.{Part, numbered_from}
use Rattle.sv_paths.specs.Paths.{AreAllPaths}
use Rattle.sv_label.specs.declared.templates.Template.{Template}
use Rattle.sv_label.specs.Groups.{Group}
use Rattle.sv_listing.specs.Listed.{IsListed}

pub record IsTemplate (schema : List Declaration) (txns : List Transaction) (part : Part) (choices : List Bool) (t : Template) : Type 0 where
  pub atoms : List Atom
  pub listed : IsListed schema txns part choices t.facts t.symbols atoms
  pub left : IsLeft t.facts t.symbols atoms (left_of t.left)

abbrev pub leads_on : Path → Bool
leads_on path = not path.aborts

-- those of the paths that don't abort
abbrev pub choices_on : List Path → List (List Bool)
choices_on paths = map (λ (path : Path). path.choices) (filter leads_on paths)

-- one for each of these choices, in their order
pub record HaveTemplates (schema : List Declaration) (txns : List Transaction) (part : Part) (choices : List (List Bool)) (templates : List (List Bool × Template)) : Type 0 where
  pub choices_are : map (λ e. e.0) templates ≡ choices
  pub each : All (λ e. IsTemplate schema txns part e.0 e.1) templates

pub record IsGroup (schema : List Declaration) (txns : List Transaction) (part : Part) (paths : List Path) (g : Group) : Type 0 where
  pub txn_is : g.txn ≡ part.txn
  pub unit_is : g.unit ≡ part.number
  pub some : 1 ≤ length g.templates
  pub templates : HaveTemplates schema txns part (choices_on paths) g.templates

-- a group for each unit, in order; a unit all of whose paths abort has none
pub data AreGroups (schema : List Declaration) (txns : List Transaction) : List Part → List Group → Type 0 where
  NoUnits : AreGroups schema txns [] []
  WithGroup : (part : Part) (parts : List Part) (paths : List Path) (g : Group) (groups : List Group) → AreAllPaths part.body paths → IsGroup schema txns part paths g → AreGroups schema txns parts groups
      → AreGroups schema txns (part ∷ parts) (g ∷ groups)
  WithNone : (part : Part) (parts : List Part) (paths : List Path) (groups : List Group) → AreAllPaths part.body paths → choices_on paths ≡ [] → AreGroups schema txns parts groups → AreGroups schema txns (part ∷ parts) groups

-- the units of all transactions, of which the first has this number
abbrev pub parts_from : ℕ → List Transaction → List Part
parts_from number [] = []
parts_from number (txn ∷ txns) = numbered_from 0 number (units txn.body) ++ parts_from (suc number) txns

abbrev pub Frugal : List Declaration → List Transaction → List Group → Type 0
Frugal schema txns groups = AreGroups schema txns (parts_from 0 txns) groups

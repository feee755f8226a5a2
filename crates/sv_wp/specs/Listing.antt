-- How the calls that list atoms leave their list: with the atoms of what they asked, up to the first that nothing meets, or why not.
use Rattle.std.specs.Prelude.{◌≡◌, ℕ, ℤ, pos, neg_ℤ, ◌^◌, ◌<ℤ◌, ◌++◌, Bool, true, false, List, [], ◌∷◌, Option, Some, None, map, drop}
use Rattle.std.specs.List.{All, list_any, flat_map}
use Rattle.sv_app.specs.declared.reasons.Reason.{Reason}
use Rattle.sv_app.specs.declared.reasons.Reason.TheVariants as reasons
use Rattle.sv_app.specs.Schema.{Invariant, Declaration}
use Rattle.sv_linear.specs.declared.stops.FormStop.{FormStop}
use Rattle.sv_linear.specs.declared.stops.FormStop.TheVariants.{Wide, NoMemory}
use Rattle.sv_linear.specs.declared.tests.Atom.{Atom as Coded}
use Rattle.sv_linear.specs.Atoms.{Gain, Asked, asked_tests, Group, group_atoms, each_once, is_never, to_never, meets_wide, by_unique, by_child, by_parent, by_check, by_list, for_each}
use Rattle.sv_linear.specs.Codes.{test_of}
use Rattle.sv_linear.specs.Effects.{SymEffect}
use Rattle.sv_linear.specs.Forms.{Form}
use Rattle.sv_linear.specs.Tests.{Test, AtMost, InList, Never, Atom}
use Rattle.sv_wp.specs.declared.questions.Question.{Question}
use Rattle.sv_wp.specs.declared.questions.Question.TheVariants.{Unique, Child, Parent, Check as Checked, List as Listed}

-- ---- what is asked

abbrev pub reason_by : Question → ℕ → Reason
reason_by Unique number = reasons.Unique number
reason_by Child number = reasons.Child number
reason_by Parent number = reasons.Parent number
reason_by Checked number = reasons.Check number
reason_by Listed number = reasons.List number

-- of the invariant of the table with this number
abbrev pub asked_by : Question → Gain → List Declaration → SymEffect → ℕ → Invariant → List Asked
asked_by Unique told schema e table inv = by_unique e table inv.rule
asked_by Child told schema e table inv = by_child schema e table inv.rule
asked_by Parent told schema e table inv = by_parent e inv.rule
asked_by Checked told schema e table inv = by_check told e table inv.rule
asked_by Listed told schema e table inv = by_list e inv.number table inv.rule

abbrev pub group_by : Question → Gain → List Declaration → SymEffect → ℕ → Invariant → Group
group_by question told schema e table inv = record { reason = reason_by question inv.number; asked = asked_by question told schema e table inv }

abbrev pub groups_by : List Question → Gain → List Declaration → SymEffect → List Group
groups_by questions told schema e = flat_map (λ question. for_each (group_by question told schema e) 0 schema) questions

abbrev pub in_order : List Question
in_order = Unique ∷ Child ∷ Parent ∷ Checked ∷ Listed ∷ []

abbrev pub is_check : Question → Bool
is_check Unique = false
is_check Child = false
is_check Parent = false
is_check Checked = true
is_check Listed = false

-- ---- what is listed

-- the constant stands in the bound, which lies strictly between -2^70 and 2^70
pub record IsShortBound (left : Form) (most : ℤ) : Type 0 where
  pub moved : left.plus ≡ pos 0
  pub low : neg_ℤ (pos (2 ^ 70)) <ℤ most
  pub high : most <ℤ pos (2 ^ 70)

abbrev pub IsShortTest : Test → Type 0
IsShortTest (AtMost left most) = IsShortBound left most
IsShortTest (InList symbol number) = Unit {0}
IsShortTest Never = Unit {0}

abbrev pub AreShortAtoms : List Atom → Type 0
AreShortAtoms atoms = All (λ a. IsShortTest a.test) atoms

abbrev pub atom_by : ℕ → Reason → Test → Atom
atom_by place reason test = record { place = place; reason = reason; test = test }

abbrev pub tests_in : Option Test → List Test
tests_in None = []
tests_in (Some test) = test ∷ []

-- those that stand behind so many
abbrev pub tests_from : ℕ → List Coded → List Test
tests_from start atoms = map (λ a. test_of a.test) (drop start atoms)

-- something that nothing meets is asked
abbrev pub ends : List Asked → Bool
ends asked = list_any is_never (flat_map asked_tests asked)

abbrev pub asked_of : List Group → List Asked
asked_of groups = flat_map (λ g. g.asked) groups

-- a call stops: wide exactly where a wide form is asked for before anything that nothing meets
abbrev pub IsStopIn : List Asked → FormStop → Type 0
IsStopIn asked Wide = meets_wide asked ≡ true
IsStopIn asked NoMemory = Unit {0}

-- of these atoms those up to the first that nothing meets stand behind what stood before; they were asked for
pub record IsListed (atoms : List Atom) (asked : List Asked) (before after : List Atom) (ended : Bool) : Type 0 where
  pub listed : after ≡ before ++ to_never atoms
  pub never : ended ≡ ends asked
  pub narrow : meets_wide asked ≡ false
  pub short : AreShortAtoms (to_never atoms)

-- those of these groups
abbrev pub Lists : ℕ → List Group → List Atom → List Atom → Bool → Type 0
Lists place groups = IsListed (flat_map (group_atoms place) groups) (asked_of groups)

-- those of a part of what is asked for one reason, behind tests that were listed for it
abbrev pub ListsAsked : ℕ → Reason → List Test → List Asked → List Atom → List Atom → Bool → Type 0
ListsAsked place reason held asked = IsListed (map (atom_by place reason) (each_once held (flat_map asked_tests asked))) asked

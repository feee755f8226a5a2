-- What the definitions of paths promise: they are what leads through a unit to its end, or to an `abort`, with no choice left; a list of all of them is the only one. An accepted transaction has few units.
use Rattle.std.specs.Prelude.{◌≡◌, ◌≤◌, ◌↔◌, ℕ, Bool, true, false, List, [], length, slice_get}
use Rattle.sv_app.specs.Accepted.{AcceptedApp}
use Rattle.sv_app.specs.Paths.{Path, Aborts, TooFew, Leads, unit_path}
use Rattle.sv_app.specs.Schema.{Declaration}
use Rattle.sv_app.specs.Trees.{Block, Transaction}
use Rattle.sv_paths.specs.declared.answers.Path.{Path as PathValue}
use Rattle.sv_paths.specs.Numbered.{bodies_of}
use Rattle.sv_paths.specs.Paths.{IsPath, AreAllPaths}

-- it aborts, or leads on, and no choice is left there
abbrev pub IsThrough : Bool → Path → Type 0
IsThrough aborts (Aborts end) = (aborts ≡ true) × (end.left ≡ [])
IsThrough aborts TooFew = ⊥
IsThrough aborts (Leads end) = (aborts ≡ false) × (end.left ≡ [])

abbrev pub PathsAreUnitPaths : Type 0
PathsAreUnitPaths = (schema : List Declaration) (txn : Transaction) (body : Block) (aborts : Bool) (choices : List Bool)
    → IsPath body aborts choices ↔ IsThrough aborts (unit_path schema txn body choices)

abbrev pub AllPathsAreOneList : Type 0
AllPathsAreOneList = (body : Block) (paths others : List PathValue) → AreAllPaths body paths → AreAllPaths body others → paths ≡ others

abbrev pub UnitsAreFew : Type 0
UnitsAreFew = (schema : List Declaration) (txns : List Transaction) (txn : ℕ) → AcceptedApp schema txns → length (bodies_of (slice_get txns txn)) ≤ 16

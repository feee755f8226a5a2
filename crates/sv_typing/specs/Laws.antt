-- What the definitions promise: in an accepted application a number is the place of what it names, what is accepted isn't refused, and there is one refusal.
use Rattle.std.specs.Prelude.{◌≡◌, ℕ, List, Some}
use Rattle.std.specs.List.{slice_get}
use Rattle.sv_app.specs.declared.apps.Ident.{Ident}
use Rattle.sv_app.specs.declared.refusals.Refusal.{Refusal}
use Rattle.sv_app.specs.declared.schemas.Column.{Column}
use Rattle.sv_app.specs.Acceptance.{IsAccepted, IsRefused}
use Rattle.sv_app.specs.Codes.{number_of}
use Rattle.sv_app.specs.Numbers.{numbered}
use Rattle.sv_app.specs.Schema.{Declaration}
use Rattle.sv_app.specs.Trees.{Transaction}
use Rattle.sv_app.specs.TxnNames.{names_of}
use Rattle.sv_app.specs.TxnNumbers.{numbered_txns}

abbrev pub TablesByPlace : Type 0
TablesByPlace = (schema : List Declaration) (txns : List Transaction) (place : ℕ) (t : Declaration) → IsAccepted schema txns → slice_get (numbered schema) place ≡ Some t → t.name.num ≡ place

abbrev pub ColumnsByPlace : Type 0
ColumnsByPlace = (schema : List Declaration) (txns : List Transaction) (table place : ℕ) (t : Declaration) (c : Column) → IsAccepted schema txns
    → slice_get (numbered schema) table ≡ Some t → slice_get t.columns place ≡ Some c → c.name.num ≡ place

abbrev pub TxnsByPlace : Type 0
TxnsByPlace = (schema : List Declaration) (txns : List Transaction) (place : ℕ) (t : Transaction) → IsAccepted schema txns → slice_get (numbered_txns schema txns) place ≡ Some t → t.name.num ≡ place

-- the names that a transaction declares, its parameters first
abbrev pub NamesByPlace : Type 0
NamesByPlace = (schema : List Declaration) (txns : List Transaction) (txn place : ℕ) (t : Transaction) (name : Ident) → IsAccepted schema txns
    → slice_get (numbered_txns schema txns) txn ≡ Some t → slice_get (names_of t) place ≡ Some name → name.num ≡ place

abbrev pub NeverBoth : Type 0
NeverBoth = (schema : List Declaration) (txns : List Transaction) (refusal : Refusal) → IsAccepted schema txns → IsRefused schema txns refusal → ⊥

-- an application gets one refusal: the same place and the same code
abbrev pub RefusedOnce : Type 0
RefusedOnce = (schema : List Declaration) (txns : List Transaction) (a b : Refusal) → IsRefused schema txns a → IsRefused schema txns b
    → (a.spot.line ≡ b.spot.line) × (a.spot.col ≡ b.spot.col) × (number_of a.code ≡ number_of b.code)

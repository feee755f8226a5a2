-- What `check` answers to the bytes of a document: `ok` with the numbers of its tables, transactions and invariants, or its refusal.
use Rattle.std.specs.Prelude.{◌≡◌, ℕ, List, [], ◌∷◌, ◌++◌, length, codes}
use Rattle.std.specs.List.{flat_map}
use Rattle.std.specs.Fmt.{decimal}
use Rattle.sv_app.specs.declared.apps.App.{App}
use Rattle.sv_app.specs.declared.refusals.Refusal.{Refusal}
use Rattle.sv_app.specs.Schema.{Declaration, schema_of}
use Rattle.sv_app.specs.Trees.{Transaction, transactions_of}
use Rattle.sv_workload.specs.declared.parts.Parts.{Parts}
use Rattle.sv_tool.specs.declared.statuses.Status.TheVariants.{Done}
use Rattle.sv_tool.specs.Answer.{Answer, refused_with}
use Rattle.sv_tool.specs.Documents.{IsDocument, IsRefusedAt}

abbrev pub IsCheck : List (List ℕ) → Type 0
IsCheck words = words ≡ codes "check" ∷ []

-- how many tables, transactions and invariants there are
pub record Sizes : Type 0 where
  pub tables : ℕ
  pub txns : ℕ
  pub invariants : ℕ

abbrev pub sizes_of : List Declaration → List Transaction → Sizes
sizes_of schema transactions = record { tables = length schema; txns = length transactions; invariants = length (flat_map (λ t. t.invs) schema) }

abbrev pub sizes_in : App → Sizes
sizes_in app = sizes_of (schema_of app.tables.items) (transactions_of app.txns.items)

-- `ok TABLES TXNS INVARIANTS`
abbrev pub ok_line : Sizes → List ℕ
ok_line sizes = codes "ok " ++ decimal sizes.tables ++ codes " " ++ decimal sizes.txns ++ codes " " ++ decimal sizes.invariants ++ codes "\n"

abbrev pub accepted_with : Sizes → Answer
accepted_with sizes = record { status = Done; text = ok_line sizes }

-- the answer to the bytes
pub data IsCheckAnswer (bytes : List ℕ) : Answer → Type 0 where
  Accepts : (schema : List Declaration) (transactions : List Transaction) (parts : Parts) → IsDocument bytes schema transactions parts
      → IsCheckAnswer bytes (accepted_with (sizes_of schema transactions))
  Refuses : (refusal : Refusal) → IsRefusedAt bytes refusal → IsCheckAnswer bytes (refused_with refusal)

-- What `compile` answers to the bytes of a document: the text of the dictionary that its application is to have, or its refusal.
use Rattle.std.specs.Prelude.{◌≡◌, ℕ, List, [], ◌∷◌, codes}
use Rattle.sv_app.specs.declared.refusals.Refusal.{Refusal}
use Rattle.sv_app.specs.Numbers.{numbered}
use Rattle.sv_app.specs.Schema.{Declaration}
use Rattle.sv_app.specs.Trees.{Transaction}
use Rattle.sv_app.specs.TxnNumbers.{numbered_txns}
use Rattle.sv_label.specs.Groups.{Group}
use Rattle.sv_listing.specs.Frugal.{Frugal}
use Rattle.sv_report.specs.CompileText.{compile_text}
use Rattle.sv_workload.specs.declared.parts.Parts.{Parts}
use Rattle.sv_tool.specs.declared.statuses.Status.TheVariants.{Done}
use Rattle.sv_tool.specs.Answer.{Answer, refused_with}
use Rattle.sv_tool.specs.Documents.{IsDocument, IsRefusedAt}

abbrev pub IsCompile : List (List ℕ) → Type 0
IsCompile words = words ≡ codes "compile" ∷ []

abbrev pub compiled_with : List Transaction → List Group → Answer
compiled_with txns groups = record { status = Done; text = compile_text txns groups }

-- the answer to the bytes
pub data IsCompileAnswer (bytes : List ℕ) : Answer → Type 0 where
  Compiles : (schema : List Declaration) (transactions : List Transaction) (parts : Parts) (groups : List Group) → IsDocument bytes schema transactions parts
      → Frugal (numbered schema) (numbered_txns schema transactions) groups → IsCompileAnswer bytes (compiled_with (numbered_txns schema transactions) groups)
  Refuses : (refusal : Refusal) → IsRefusedAt bytes refusal → IsCompileAnswer bytes (refused_with refusal)

-- The answer of `compile`: the text of the dictionary of a document that is accepted.
use Rattle.std.proofs.Common.{◌≡◌, ◌∙◌, ℕ, List, Result, Ok, Err, IfOk, sym, ap, subst}
use Rattle.sv_value.specs.declared.memory.NoMemory.{NoMemory as OutOfMemory}
use Rattle.sv_app.specs.Numbers.{numbered}
use Rattle.sv_app.specs.Schema.{Declaration}
use Rattle.sv_app.specs.Trees.{Transaction, transactions_of}
use Rattle.sv_app.specs.TxnNumbers.{numbered_txns}
use Rattle.sv_listing.specs.Frugal.{Frugal}
use Rattle.sv_tool.specs.declared.answers.Answer.{Answer as CodeAnswer}
use Rattle.sv_tool.specs.declared.documents.Checked.{Checked}
use Rattle.sv_tool.specs.CompileAnswer.{IsCompileAnswer, Compiles, compiled_with}
use Rattle.sv_tool.specs.ReadDocument.{IsFit, IsOfBytes, said_by}

pub answers_compiled : (bytes : List ℕ) (result : Result CodeAnswer OutOfMemory) (checked : Checked) → IsOfBytes bytes checked → IsFit checked
    → IfOk result (λ answer. said_by answer ≡ compiled_with (transactions_of checked.app.txns.items) checked.dict) → IfOk result (λ answer. IsCompileAnswer bytes (said_by answer))
answers_compiled bytes (Ok answer) checked of fit said =
    let frugal : Frugal (numbered of.schema) (numbered_txns of.schema of.txns) checked.dict =
    subst (λ (p : List Declaration × List Transaction). Frugal p.0 p.1 checked.dict) (λ i. (of.of.tables i, of.of.transactions i)) fit.frugal in
    subst (IsCompileAnswer bytes) (sym (said ∙ ap (λ txns. compiled_with txns checked.dict) of.of.transactions)) (Compiles of.schema of.txns checked.parts checked.dict of.is frugal)
answers_compiled bytes (Err none) checked of fit said = tt

-- The answer of `check`: the sizes of a document that is accepted.
use Rattle.std.proofs.Common.{◌≡◌, ◌∙◌, ℕ, ◌+◌, ◌≤◌, List, [], ◌∷◌, ◌++◌, length, map, ◌*◌, Result, Ok, Err, IfOk, refl, sym, ap, subst, arith}
use Rattle.std.specs.List.{All, flat_map}
use Rattle.std.proofs.lemmas.List.Elements.{All-head, All-tail}
use Rattle.std.proofs.lemmas.List.{length-map, length-append}
use Rattle.sv_value.specs.declared.memory.NoMemory.{NoMemory as OutOfMemory}
use Rattle.sv_app.specs.declared.apps.App.{App}
use Rattle.sv_app.specs.Numbers.{numbered, numbered_table, numbered_invariant}
use Rattle.sv_app.specs.Trees.{Transaction}
use Rattle.sv_app.specs.TxnNumbers.{numbered_txns, numbered_txn}
use Rattle.sv_app.specs.Conditions as conditions
use Rattle.sv_app.specs.Conditions.{KeepsLimits}
use Rattle.sv_app.specs.Schema.{Declaration}
use Rattle.sv_schema_reader.proofs.LimitLaws.{limits_of}
use Rattle.sv_tool.specs.declared.answers.Answer.{Answer as CodeAnswer}
use Rattle.sv_tool.specs.declared.documents.Checked.{Checked}
use Rattle.sv_tool.specs.CheckText.{sizes_of, sizes_in, accepted_with, IsCheckAnswer, Accepts}
use Rattle.sv_tool.specs.ReadDocument.{IsAppOf, IsOfBytes, said_by}

-- numbers leave the invariants where they are
numbered_count : (declarations tables : List Declaration) → length (flat_map (λ t. t.invs) (map (numbered_table declarations) tables)) ≡ length (flat_map (λ t. t.invs) tables)
numbered_count declarations [] = refl
numbered_count declarations (t ∷ tables) =
    length-append (numbered_table declarations t).invs (flat_map (λ u. u.invs) (map (numbered_table declarations) tables))
    ∙ ap (λ n. n + length (flat_map (λ u. u.invs) (map (numbered_table declarations) tables))) (length-map t.invs (numbered_invariant declarations t))
    ∙ ap (λ n. length t.invs + n) (numbered_count declarations tables) ∙ sym (length-append t.invs (flat_map (λ u. u.invs) tables))

-- what is accepted has the sizes of what was read
numbered_sizes : (declarations : List Declaration) (txns : List Transaction) → sizes_of (numbered declarations) (numbered_txns declarations txns) ≡ sizes_of declarations txns
numbered_sizes declarations txns = λ i. record {
  tables = length-map declarations (numbered_table declarations) i;
  txns = length-map txns (numbered_txn declarations txns) i;
  invariants = numbered_count declarations declarations i;
}

sizes_by : (app : App) (declarations : List Declaration) (txns : List Transaction) → IsAppOf declarations txns app → sizes_in app ≡ sizes_of declarations txns
sizes_by app declarations txns of = (λ i. sizes_of (of.tables i) (of.transactions i)) ∙ numbered_sizes declarations txns

pub answers_accepted : (bytes : List ℕ) (result : Result CodeAnswer OutOfMemory) (checked : Checked) → IsOfBytes bytes checked
    → IfOk result (λ answer. said_by answer ≡ accepted_with (sizes_in checked.app)) → IfOk result (λ answer. IsCheckAnswer bytes (said_by answer))
answers_accepted bytes (Ok answer) checked of said =
    subst (IsCheckAnswer bytes) (sym (said ∙ ap accepted_with (sizes_by checked.app of.schema of.txns of.of))) (Accepts of.schema of.txns checked.parts of.is)
answers_accepted bytes (Err none) checked of said = tt

-- an accepted document has at most 256 invariants
few_in : (tables : List Declaration) → All conditions.IsSmallTable tables → length (flat_map (λ t. t.invs) tables) ≤ 16 * length tables
few_in [] each = omega arith
few_in (t ∷ tables) each =
    let first : length t.invs ≤ 16 = (All-head conditions.IsSmallTable t tables each).invariants in
    let rest : length (flat_map (λ u. u.invs) tables) ≤ 16 * length tables = few_in tables (All-tail conditions.IsSmallTable t tables each) in
    let both : length (t.invs ++ flat_map (λ u. u.invs) tables) ≡ length t.invs + length (flat_map (λ u. u.invs) tables) = length-append t.invs (flat_map (λ u. u.invs) tables) in
    omega (arith, first, rest, both)

pub few_invariants : (bytes : List ℕ) (checked : Checked) → IsOfBytes bytes checked → (sizes_in checked.app).invariants ≤ 256
few_invariants bytes checked of =
    let limits : KeepsLimits of.schema = limits_of of.is.accepted.front of.is.accepted.rest of.schema of.is.accepted.tables in
    let few : length (flat_map (λ t. t.invs) of.schema) ≤ 16 * length of.schema = few_in of.schema limits.each in
    let same : (sizes_in checked.app).invariants ≡ length (flat_map (λ t. t.invs) of.schema) = ap (λ s. s.invariants) (sizes_by checked.app of.schema of.txns of.of) in
    omega (arith, few, same, limits.count)

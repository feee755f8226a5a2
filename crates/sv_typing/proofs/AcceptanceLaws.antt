-- The phases put together, and what the limits say of each table.
use Rattle.std.proofs.Common.{◌≡◌, ℕ, suc, zero, ◌<◌, ◌≤◌, Bool, true, false, List, [], ◌∷◌, length, get_or, arith, sym, ◌∙◌, Some, subst}
use Rattle.std.specs.List.{All, find}
use Rattle.std.specs.Prelude.{if◌then◌else◌}
use Rattle.sv_app.specs.declared.schemas.Table.{Table}
use Rattle.sv_app.specs.Accepted.{AcceptedApp}
use Rattle.sv_app.specs.Acceptance.{IsAccepted}
use Rattle.sv_app.specs.Conditions.{IsSmallTable, KeepsGrammar, KeepsLimits, AreNumbered}
use Rattle.sv_app.specs.Numbers.{numbered}
use Rattle.sv_app.specs.Schema.{Declaration, declaration_of, schema_of}
use Rattle.sv_app.specs.Trees.{Transaction}
use Rattle.sv_app.specs.TxnConditions.{KeepsTxnGrammar, KeepsTxnLimits}
use Rattle.sv_app.specs.TxnNumbers.{numbered_txns}
use Rattle.sv_gains.specs.Systems.{AreNarrow}
use Rattle.sv_gains.proofs.RowLaws.{are_narrow}
use Rattle.sv_typing.proofs.NumberedSchema.{grammar_numbered, limits_numbered, invariants_numbered, faults_numbered, acyclic_numbered, numbered_twice}
use Rattle.sv_typing.proofs.NumberedTxns.{txn_grammar_numbered, txn_limits_numbered, txns_faults_numbered, txns_numbered_twice}
use Rattle.sv_typing.proofs.PlaceLaws.{schema_right, txns_right}

rest_small : (t : Declaration) (ts : List Declaration) → All IsSmallTable (t ∷ ts) → All IsSmallTable ts
rest_small t ts each k d h = each (suc k) d (omega (arith, h))

pub found_small : (P : Declaration → Bool) (schema : List Declaration) (t : Declaration) → find P schema ≡ Some t → All IsSmallTable schema → IsSmallTable t
found_small P [] t e each = absurd cc
found_small P (x ∷ xs) t e each = either (P x) (λ more. found_small P xs t more (rest_small x xs each)) e where
  either : (b : Bool) → (find P xs ≡ Some t → IsSmallTable t) → (if b then Some x else find P xs) ≡ Some t → IsSmallTable t
  either true ih e = let same : x ≡ t = cc in subst IsSmallTable same (each 0 x (omega arith))
  either false ih e = ih e

pub table_small : (tables : List Table) (k : ℕ) (t : Table) → k < length tables → t ≡ get_or tables k t → All IsSmallTable (schema_of tables) → length t.columns.items ≤ 16
table_small [] k t h e each = absurd (omega (arith, h))
table_small (x ∷ xs) zero t h e each = rw e (each 0 (declaration_of x) (omega arith)).columns
table_small (x ∷ xs) (suc k) t h e each = table_small xs k t (omega (arith, h)) e (rest_small (declaration_of x) (schema_of xs) each)

-- numbered tables of few columns have small numbers
pub narrow_tables : (schema tables : List Declaration) → KeepsLimits schema → tables ≡ numbered schema → AreNarrow tables
narrow_tables schema tables limits e = subst AreNarrow (sym e) (are_narrow schema limits)

-- with its numbers, what is accepted is an accepted application
pub accepted_app : (schema : List Declaration) (txns : List Transaction) → KeepsGrammar schema → KeepsLimits schema → AreNumbered schema → KeepsTxnGrammar txns → KeepsTxnLimits txns
    → IsAccepted schema txns → AcceptedApp (numbered schema) (numbered_txns schema txns)
accepted_app schema txns grammar limits invariants txn_grammar txn_limits accepted = record {
  tables = record {
    grammar = grammar_numbered schema grammar;
    limits = limits_numbered schema limits;
    invariants = invariants_numbered schema invariants;
    typed = faults_numbered schema ∙ schema_right schema txns accepted.typed;
    acyclic = acyclic_numbered schema accepted.acyclic;
    satisfiable = accepted.satisfiable;
    names = numbered_twice schema;
  };
  grammar = txn_grammar_numbered schema txns txn_grammar;
  limits = txn_limits_numbered schema txns txn_limits;
  typed = txns_faults_numbered schema txns ∙ txns_right schema txns accepted.typed;
  names = txns_numbered_twice schema txns;
}

-- Accepted tables and applications: they keep the grammar and the limits, nothing is wrong with their names and types, no references form a cycle, some row can meet the checks of each table, and each name has its number.
use Rattle.std.specs.Prelude.{◌≡◌, ℕ, List, []}
use Rattle.sv_app.specs.Conditions.{KeepsGrammar, KeepsLimits, AreNumbered}
use Rattle.sv_app.specs.Numbers.{numbered}
use Rattle.sv_app.specs.References.{IsOnCycle}
use Rattle.sv_app.specs.Satisfiable.{AreSatisfiable}
use Rattle.sv_app.specs.Schema.{Declaration}
use Rattle.sv_app.specs.Trees.{Transaction}
use Rattle.sv_app.specs.TxnConditions.{KeepsTxnGrammar, KeepsTxnLimits}
use Rattle.sv_app.specs.TxnNumbers.{numbered_txns}
use Rattle.sv_app.specs.TxnTyping.{txns_faults}
use Rattle.sv_app.specs.Typing.{faults}

pub record AcceptedSchema (schema : List Declaration) : Type 0 where
  pub grammar : KeepsGrammar schema
  pub limits : KeepsLimits schema
  pub invariants : AreNumbered schema
  pub typed : faults schema ≡ []
  pub acyclic : (table : ℕ) → IsOnCycle schema table → ⊥
  pub satisfiable : AreSatisfiable schema
  pub names : numbered schema ≡ schema

pub record AcceptedApp (schema : List Declaration) (txns : List Transaction) : Type 0 where
  pub tables : AcceptedSchema schema
  pub grammar : KeepsTxnGrammar txns
  pub limits : KeepsTxnLimits txns
  pub typed : txns_faults schema txns ≡ []
  pub names : numbered_txns schema txns ≡ txns

-- Which applications are accepted, and which refusal the others get: names and types come before cycles, and these before checks that no row can meet.
use Rattle.std.specs.Prelude.{◌≡◌, ℕ, List, []}
use Rattle.sv_app.specs.declared.refusals.Refusal.{Refusal}
use Rattle.sv_app.specs.Firsts.{IsFirst}
use Rattle.sv_app.specs.Numbers.{numbered}
use Rattle.sv_app.specs.References.{IsOnCycle, IsCyclic}
use Rattle.sv_app.specs.Satisfiable.{AreSatisfiable, IsUnmet}
use Rattle.sv_app.specs.Schema.{Declaration}
use Rattle.sv_app.specs.Trees.{Transaction}
use Rattle.sv_app.specs.TxnTyping.{all_faults}

pub record IsAccepted (schema : List Declaration) (txns : List Transaction) : Type 0 where
  pub typed : all_faults schema txns ≡ []
  pub acyclic : (table : ℕ) → IsOnCycle schema table → ⊥
  pub satisfiable : AreSatisfiable (numbered schema)

pub data IsRefused (schema : List Declaration) (txns : List Transaction) (refusal : Refusal) : Type 0 where
  ByTyping : IsFirst (all_faults schema txns) refusal → IsRefused schema txns refusal
  ByCycle : all_faults schema txns ≡ [] → IsCyclic schema refusal → IsRefused schema txns refusal
  ByChecks : all_faults schema txns ≡ [] → ((table : ℕ) → IsOnCycle schema table → ⊥) → IsUnmet (numbered schema) refusal → IsRefused schema txns refusal

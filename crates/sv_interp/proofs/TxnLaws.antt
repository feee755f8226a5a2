-- How a whole run ends.
use Rattle.std.proofs.Common.{◌≡◌, ℕ, List, Option, Some, None, sym, ap, ◌∙◌}
use Rattle.std.specs.Prelude.{ℤ}
use Rattle.sv_app.specs.declared.requests.Arg.{Arg}
use Rattle.sv_app.specs.Schema.{Declaration}
use Rattle.sv_app.specs.Tables.{Tables}
use Rattle.sv_app.specs.Trees.{Block}
use Rattle.sv_app.specs.Units.{loop_variables}
use Rattle.sv_effect.specs.declared.outcomes.Outcome.{Outcome}
use Rattle.sv_effect.specs.Faces.{Face}
use Rattle.sv_effect.specs.Follows.{Follows}
use Rattle.sv_effect.specs.Reads.{ReadValue}
use Rattle.sv_effect.specs.Run.{Goes, Ends, run_block, started, result_of, run_body, RunResult}
use Rattle.sv_effect.proofs.FollowLaws as follow
use Rattle.sv_interp.specs.declared.states.State.{State}
use Rattle.sv_interp.specs.Machine.{stand, flow_of, Runs}

-- what the flow of a run makes of it
made : (schema : List Declaration) (loops ls : List ℕ) (body : Block) (args : List Arg) (first : ℤ) (o n : Face) (a b : Option (List ReadValue)) (s : State) (end : Option Outcome) (s' : State) (ran : RunResult)
    → ls ≡ loop_variables body → ((t : Tables) → stand t s ≡ started args t) → Runs (run_block (record { schema = schema; arguments = args; first = first; loops = ls }) body) o n a b s end s'
    → ((t : Tables) → result_of schema (flow_of end (stand t s')) ≡ ran) → Follows o n a b (λ t. run_body schema body args first t ≡ ran)
made schema loops ls body args first o n a b s end s' ran e begins g h =
    follow.so o n a b _ _ g.ran (λ t x. ap (λ l. result_of schema (run_block (record { schema = schema; arguments = args; first = first; loops = l }) body (started args t))) (sym e)
    ∙ ap (λ st. result_of schema (run_block (record { schema = schema; arguments = args; first = first; loops = ls }) body st)) (sym (begins t)) ∙ ap (result_of schema) x ∙ h t)

pub made_whole : (schema : List Declaration) (ls : List ℕ) (body : Block) (args : List Arg) (first : ℤ) (o n : Face) (a b : Option (List ReadValue)) (s : State) (end : Option Outcome) (s' : State) (ran : RunResult)
    → ls ≡ loop_variables body → ((t : Tables) → stand t s ≡ started args t) → Runs (run_block (record { schema = schema; arguments = args; first = first; loops = ls }) body) o n a b s end s'
    → end ≡ None → ((t : Tables) → result_of schema (Goes (stand t s')) ≡ ran) → Follows o n a b (λ t. run_body schema body args first t ≡ ran)
made_whole schema ls body args first o n a b s end s' ran e begins g z h = made schema ls ls body args first o n a b s end s' ran e begins g (λ t. ap (λ d. result_of schema (flow_of d (stand t s'))) z ∙ h t)

pub made_ended : (schema : List Declaration) (ls : List ℕ) (body : Block) (args : List Arg) (first : ℤ) (o n : Face) (a b : Option (List ReadValue)) (s : State) (end : Option Outcome) (s' : State) (outcome : Outcome) (ran : RunResult)
    → ls ≡ loop_variables body → ((t : Tables) → stand t s ≡ started args t) → Runs (run_block (record { schema = schema; arguments = args; first = first; loops = ls }) body) o n a b s end s'
    → end ≡ Some outcome → ((schema : List Declaration) → result_of schema (Ends outcome) ≡ ran) → Follows o n a b (λ t. run_body schema body args first t ≡ ran)
made_ended schema ls body args first o n a b s end s' outcome ran e begins g z h = made schema ls ls body args first o n a b s end s' ran e begins g (λ t. ap (λ d. result_of schema (flow_of d (stand t s'))) z ∙ h schema)

pub ruleset endings = (made_whole, made_ended)

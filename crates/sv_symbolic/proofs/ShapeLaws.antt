-- What shapes tell: their symbols are few, their effects suit the schema, and they tell of each entry of a run that goes along their path.
use Rattle.std.proofs.Common.{◌≡◌, ◌∙◌, ◌<◌, ◌≤◌, ◌*◌, ℕ, Bool, false, List, length, map, get_or, Some, slice_get, Result, Ok, Err, IfOk, IfErr, Contains, sym, ap, subst, arith}
use Rattle.std.specs.List.{All}
use Rattle.sv_app.specs.Accepted.{AcceptedApp}
use Rattle.sv_app.specs.Schema.{Declaration}
use Rattle.sv_app.specs.declared.txns.Txn.{Txn}
use Rattle.sv_app.specs.Paths.{Names, names_of}
use Rattle.sv_app.specs.Trees.{Block, Transaction, transaction_of, transactions_of}
use Rattle.sv_paths.specs.Numbered.{Part}
use Rattle.sv_paths.specs.Paths.{IsPath}
use Rattle.sv_app.specs.Units.{units}
use Rattle.sv_bounds.specs.declared.systems.Diff.{Diff}
use Rattle.sv_linear.specs.declared.effects.Shape.{Shape as ShapeValue}
use Rattle.sv_linear.specs.Facts.{facts_hold}
use Rattle.sv_symbolic.specs.declared.shapes.ShapeStop.{ShapeStop}
use Rattle.sv_symbolic.specs.declared.shapes.ShapeStop.TheVariants as stops
use Rattle.sv_symbolic.specs.declared.states.State.{State}
use Rattle.sv_symbolic.specs.Drawn.{change_on}
use Rattle.sv_symbolic.specs.Executes.{parts_in, effects_of, shape_as, IsExecuted, IsCause, IsClosedShape, SuitsAlways, ShapesTell}
use Rattle.sv_symbolic.specs.Named.{AreFacts, EffectsName}
use Rattle.sv_symbolic.specs.Routes.{Leads, draw_unit, Executed, Many, Wide}
use Rattle.sv_symbolic.specs.Sketches.{Sketch}
use Rattle.sv_symbolic.specs.States.{Walked, ComesTo}
use Rattle.sv_symbolic.specs.Suited.{IsSuited}
use Rattle.sv_symbolic.proofs.ExecuteLaws.{has_shape, FoundUnit, got_at, unit_found, executed_by}
use Rattle.sv_symbolic.proofs.NamingLaws.{routes_are_closed}
use Rattle.sv_symbolic.proofs.RunLaws.{forms_hold}
use Rattle.sv_symbolic.proofs.SuitLaws.{effects_suit}

pub shape_closed : (schema : List Declaration) (txns : List Transaction) (number : ℕ) (body : Block) (choices : List Bool) (shape : ShapeValue) → IsExecuted schema txns number body choices (shape_as shape) → IsClosedShape choices shape
shape_closed schema txns number body choices shape is =
    let has = has_shape is.end shape.facts (effects_of shape) shape.symbols is.comes in
    let closed = routes_are_closed schema is.txn body choices is.end is.route in
    record {
      symbols = has.few;
      facts = subst (λ n. AreFacts n shape.facts) has.symbols_are (subst (AreFacts (length is.end.way.symbols)) has.facts_are closed.facts);
      few = subst (λ (l : List Diff). length l ≤ 2 * length choices) has.facts_are (omega (arith, closed.few));
      effects = subst (λ n. EffectsName n (effects_of shape)) has.symbols_are (subst (EffectsName (length is.end.way.symbols)) has.effects_are closed.effects);
    }

pub shape_suits : (schema : List Declaration) (txns : List Transaction) (number unit : ℕ) (txn : Transaction) (body : Block) (choices : List Bool) (shape : ShapeValue) → AcceptedApp schema txns → slice_get txns number ≡ Some txn → slice_get (units txn.body) unit ≡ Some body
    → IsExecuted schema txns number body choices (shape_as shape) → SuitsAlways schema (effects_of shape)
shape_suits schema txns number unit txn body choices shape accepted declared at is =
    let has = has_shape is.end shape.facts (effects_of shape) shape.symbols is.comes in
    let same : is.txn ≡ txn = (let e : Some is.txn ≡ Some txn = sym is.declared ∙ declared in cc) in
    record { each = λ tape. subst (All (IsSuited schema tape)) has.effects_are (effects_suit schema txns number unit is.txn body choices is.end tape accepted is.declared (ap (λ (t : Transaction). slice_get (units t.body) unit) same ∙ at) is.route) }

pub shapes_tell : ShapesTell
shapes_tell schema txns request txn first t n instance body facts effects symbols accepted declared fits rows entry unit is =
    let drawn = forms_hold schema txns request txn first t accepted declared fits rows n instance entry in
    let has = has_shape is.end facts effects symbols is.comes in
    let txn_same : txn ≡ is.txn = (let e : Some txn ≡ Some is.txn = sym declared ∙ is.declared in cc) in
    let body_same : drawn.body ≡ body = (let e : Some drawn.body ≡ Some body = sym drawn.unit ∙ unit in cc) in
    let routes : draw_unit schema txn drawn.body instance.choices ≡ draw_unit schema is.txn body instance.choices
    = ap (λ t. draw_unit schema t drawn.body instance.choices) txn_same ∙ ap (λ b. draw_unit schema is.txn b instance.choices) body_same in
    let same : drawn.end ≡ is.end = (let e : Leads drawn.end ≡ Leads is.end = sym drawn.route ∙ routes ∙ is.route in cc) in
    record {
      symbols_are = sym drawn.symbols ∙ ap (λ (k : Sketch). length k.way.symbols) same ∙ has.symbols_are;
      facts_are = subst (facts_hold instance.tape) (ap (λ (k : Sketch). k.drawing.facts) same ∙ has.facts_are) drawn.facts;
      effects_are = ap (map (change_on instance.tape)) (sym (ap (λ (k : Sketch). k.drawing.effects) same ∙ has.effects_are)) ∙ drawn.effects;
    }

-- all that is answered of a path
pub record Answered (schema : List Declaration) (txns : List Transaction) (number : ℕ) (body : Block) (choices : List Bool) (result : Result ShapeValue ShapeStop) : Type 0 where
  pub shape : IfOk result (λ shape. IsExecuted schema txns number body choices (shape_as shape))
  pub stops : IfErr result (IsCause (IsExecuted schema txns number body choices))
  pub closed : IfOk result (IsClosedShape choices)
  pub suits : IfOk result (λ shape. SuitsAlways schema (effects_of shape))

pub answered : (schema : List Declaration) (txns : List Txn) (number : ℕ) (p : Part) (t d : Txn) (names : Names) (choices : List Bool) (aborts : Bool) (state : State) (result : Result ShapeValue ShapeStop)
    → AcceptedApp schema (transactions_of txns) → Contains (parts_in txns number) p → number < length txns → t ≡ get_or txns number d → names ≡ names_of schema (transaction_of t) → IsPath p.body aborts choices → aborts ≡ false
    → Walked schema names p.body choices state → IfOk result (λ shape. ComesTo state (shape_as shape)) → IfErr result (IsCause (ComesTo state)) → Answered schema (transactions_of txns) number p.body choices result
answered schema txns number p t d names choices aborts state result accepted inside less is named path goes_on walk ok err = by_result result ok err
  where
    declared : slice_get (transactions_of txns) number ≡ Some (transaction_of t)
    declared = got_at txns number t d less is

    unit : FoundUnit txns number p.body (transaction_of t)
    unit = unit_found txns number p (transaction_of t) inside declared

    executes : (answer : Executed) → ComesTo state answer → IsExecuted schema (transactions_of txns) number p.body choices answer
    executes answer comes = executed_by schema names p.body choices (transactions_of txns) number (transaction_of t) state answer declared named (subst (λ a. IsPath p.body a choices) goes_on path) walk comes

    by_result : (r : Result ShapeValue ShapeStop) → IfOk r (λ shape. ComesTo state (shape_as shape)) → IfErr r (IsCause (ComesTo state)) → Answered schema (transactions_of txns) number p.body choices r
    by_result (Ok shape) comes none =
        let is : IsExecuted schema (transactions_of txns) number p.body choices (shape_as shape) = executes (shape_as shape) comes in
        record {
          shape = is;
          stops = tt;
          closed = shape_closed schema (transactions_of txns) number p.body choices shape is;
          suits = shape_suits schema (transactions_of txns) number unit.unit (transaction_of t) p.body choices shape accepted declared unit.at is;
        }
    by_result (Err stop) none cause = record { shape = tt; stops = by_stop stop cause; closed = tt; suits = tt }
      where
        by_stop : (s : ShapeStop) → IsCause (ComesTo state) s → IsCause (IsExecuted schema (transactions_of txns) number p.body choices) s
        by_stop stops.Many comes = executes Many comes
        by_stop stops.Wide comes = executes Wide comes
        by_stop stops.NoMemory comes = tt

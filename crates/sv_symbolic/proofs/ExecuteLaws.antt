-- What a walk along the path of a unit comes to is what the path's route comes to.
use Rattle.std.proofs.Common.{◌≡◌, ◌∙◌, ◌<◌, ◌≤◌, ℕ, zero, suc, nat_lt, if◌then◌else◌, Bool, true, false, List, [], ◌∷◌, length, get_or, Option, Some, None, slice_get, refl, sym, ap, subst, arith, Contains}
use Rattle.std.proofs.lemmas.Bool.Decides.{nat_tests}
use Rattle.sv_app.specs.declared.txns.Txn.{Txn}
use Rattle.sv_app.specs.Paths.{Names, names_of, Way, Path, block_path}
use Rattle.sv_app.specs.Paths as paths
use Rattle.sv_app.specs.Schema.{Declaration}
use Rattle.sv_app.specs.Trees.{Block, Transaction, transaction_of, transactions_of}
use Rattle.sv_app.specs.Units.{units}
use Rattle.sv_bounds.specs.declared.systems.Diff.{Diff}
use Rattle.sv_linear.specs.Effects.{SymEffect}
use Rattle.sv_paths.specs.Laws.{IsThrough}
use Rattle.sv_paths.specs.Numbered.{Part, bodies_of, bodies_in, numbered_from}
use Rattle.sv_paths.specs.Paths.{IsPath}
use Rattle.sv_paths.proofs.WayLaws.{unit_paths}
use Rattle.sv_symbolic.specs.declared.states.Flow.{Flow}
use Rattle.sv_symbolic.specs.declared.states.Flow.TheVariants as flows
use Rattle.sv_symbolic.specs.declared.states.State.{State}
use Rattle.sv_symbolic.specs.Executes.{parts_in, IsExecuted}
use Rattle.sv_symbolic.specs.Laws.{path_in}
use Rattle.sv_symbolic.specs.Routes.{Route, Aborts, TooFew, Leads, draw_block, first_sketch, Executed, Many, Wide, Shape, executed}
use Rattle.sv_symbolic.specs.Sketches.{Sketch}
use Rattle.sv_symbolic.specs.States.{way_of, sketch_of, path_as, route_as, LostRoute, IsLost, Walked, ComesTo}
use Rattle.sv_symbolic.proofs.WayLaws.{path_of_block}

module _ (schema : List Declaration) (names : Names) (body : Block) (choices : List Bool) where
  abbrev drawn : Route
  drawn = draw_block schema names body (first_sketch choices)

  -- a walk along a route that leads on has its way, and is exact or lost as its sketch is
  record Ended (state : State) (end : Sketch) : Type 0 where
    way : end.way ≡ way_of state
    exact : state.exact ≡ true → end ≡ sketch_of state
    lost : state.exact ≡ false → IsLost end

  ended : (state : State) (end : Sketch) (flow : Flow) → drawn ≡ Leads end → path_as flow (way_of state) ≡ block_path schema names body (first_sketch choices).way
      → (state.exact ≡ true → drawn ≡ route_as flow (sketch_of state)) → (state.exact ≡ false → LostRoute drawn) → Ended state end
  ended state end flows.On is path exact lost = record {
    way = let same : paths.Leads end.way ≡ paths.Leads (way_of state) = ap path_in (sym is) ∙ path_of_block schema names body (first_sketch choices) ∙ sym path in cc;
    exact = λ e. let same : Leads end ≡ Leads (sketch_of state) = sym is ∙ exact e in cc;
    lost = λ e. subst LostRoute is (lost e);
  }
  ended state end flows.Aborted is path exact lost = absurd (let no : paths.Leads end.way ≡ paths.Aborts (way_of state) = ap path_in (sym is) ∙ path_of_block schema names body (first_sketch choices) ∙ sym path in cc)
  ended state end flows.Short is path exact lost = absurd (let no : paths.Leads end.way ≡ paths.TooFew = ap path_in (sym is) ∙ path_of_block schema names body (first_sketch choices) ∙ sym path in cc)

  walked : (txns : List Transaction) (number : ℕ) (txn : Transaction) (state : State) (answer : Executed) (r : Route) → slice_get txns number ≡ Some txn → names ≡ names_of schema txn
      → drawn ≡ r → IsThrough false (path_in r) → Walked schema names body choices state → ComesTo state answer → IsExecuted schema txns number body choices answer
  walked txns number txn state answer (Aborts k) declared named is through walk comes = absurd (let no : false ≡ true = through.0 in cc)
  walked txns number txn state answer TooFew declared named is through walk comes = absurd through
  walked txns number txn state answer (Leads end) declared named is through walk comes =
      let e = ended state end walk.flow is walk.path walk.exact walk.lost in
      record {
        txn = txn;
        declared = declared;
        end = end;
        route = subst (λ n. draw_block schema n body (first_sketch choices) ≡ Leads end) named is;
        whole = through.1;
        comes = comes.each end e.way e.exact e.lost;
      }

  pub executed_by : (txns : List Transaction) (number : ℕ) (txn : Transaction) (state : State) (answer : Executed) → slice_get txns number ≡ Some txn → names ≡ names_of schema txn
      → IsPath body false choices → Walked schema names body choices state → ComesTo state answer → IsExecuted schema txns number body choices answer
  executed_by txns number txn state answer declared named path walk comes =
      let at : block_path schema (names_of schema txn) body (first_sketch choices).way ≡ path_in drawn = ap (λ n. block_path schema n body (first_sketch choices).way) (sym named) ∙ sym (path_of_block schema names body (first_sketch choices)) in
      walked txns number txn state answer drawn declared named refl (subst (IsThrough false) at ((unit_paths schema txn body false choices).0 path)) walk comes

-- what a sketch that comes to a shape has
pub record HasShape (end : Sketch) (facts : List Diff) (effects : List SymEffect) (symbols : ℕ) : Type 0 where
  pub few : symbols ≤ 64
  pub symbols_are : length end.way.symbols ≡ symbols
  pub facts_are : end.drawing.facts ≡ facts
  pub effects_are : end.drawing.effects ≡ effects

pub has_shape : (end : Sketch) (facts : List Diff) (effects : List SymEffect) (symbols : ℕ) → executed end ≡ Shape facts effects symbols → HasShape end facts effects symbols
has_shape end facts effects symbols is = by_tests (nat_lt 64 (length end.way.symbols)) end.drawing.narrow refl is
  where
    by_tests : (more narrow : Bool) → nat_lt 64 (length end.way.symbols) ≡ more → (if more then Many else (if narrow then Shape end.drawing.facts end.drawing.effects (length end.way.symbols) else Wide)) ≡ Shape facts effects symbols
        → HasShape end facts effects symbols
    by_tests true narrow more e = absurd cc
    by_tests false false more e = absurd cc
    by_tests false true more e =
        let same : length end.way.symbols ≡ symbols = cc in
        record { few = grind (arith, nat_tests); symbols_are = same; facts_are = cc; effects_are = cc }

-- the unit of a part of a transaction
pub record FoundUnit (txns : List Txn) (number : ℕ) (body : Block) (txn : Transaction) : Type 0 where
  pub unit : ℕ
  pub at : slice_get (units txn.body) unit ≡ Some body

pub got_at : (txns : List Txn) (n : ℕ) (t d : Txn) → n < length txns → t ≡ get_or txns n d → slice_get (transactions_of txns) n ≡ Some (transaction_of t)
got_at [] n t d less is = absurd (omega (arith, less))
got_at (x ∷ txns) zero t d less is = ap (λ y. Some (transaction_of y)) (sym is)
got_at (x ∷ txns) (suc n) t d less is = got_at txns n t d (omega (arith, less)) is

part_at : (n txn : ℕ) (bodies : List Block) (p : Part) (k : ℕ) → k < length (numbered_from n txn bodies) → get_or (numbered_from n txn bodies) k p ≡ p → slice_get bodies k ≡ Some p.body
part_at n txn [] p k less is = absurd (omega (arith, less))
part_at n txn (b ∷ bodies) p zero less is = ap (λ (q : Part). Some q.body) is
part_at n txn (b ∷ bodies) p (suc k) less is = part_at (suc n) txn bodies p k (omega (arith, less)) is

pub unit_found : (txns : List Txn) (number : ℕ) (p : Part) (txn : Transaction) → Contains (parts_in txns number) p → slice_get (transactions_of txns) number ≡ Some txn → FoundUnit txns number p.body txn
unit_found txns number p txn inside at =
    let same : bodies_in txns number ≡ units txn.body = ap bodies_of at in
    record { unit = inside.0; at = ap (λ l. slice_get l inside.0) (sym same) ∙ part_at 0 number (bodies_in txns number) p inside.0 inside.1 inside.2 }

there : (txns : List Txn) (n : ℕ) (t : Transaction) → slice_get (transactions_of txns) n ≡ Some t → n < length txns
there [] n t is = absurd cc
there (x ∷ txns) zero t is = omega arith
there (x ∷ txns) (suc n) t is = omega (arith, there txns n t is)

-- a transaction with a part is there
pub part_is_there : (txns : List Txn) (number : ℕ) (p : Part) → Contains (parts_in txns number) p → number < length txns
part_is_there txns number p inside = by_found (slice_get (transactions_of txns) number) refl
  where
    by_found : (found : Option Transaction) → slice_get (transactions_of txns) number ≡ found → number < length txns
    by_found None is = absurd (let none : inside.0 < 0 = subst (λ o. inside.0 < length (numbered_from 0 number (bodies_of o))) is inside.1 in omega (arith, none))
    by_found (Some t) is = there txns number t is

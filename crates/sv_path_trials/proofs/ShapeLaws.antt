-- A place of the list of all units has one of them, and a place of the list of all paths of a unit has a path of it.
use Rattle.std.proofs.Common.{◌≡◌, ◌∙◌, ◌≤◌, ◌<◌, ℕ, zero, suc, List, [], ◌∷◌, map, length, get_or, Some, slice_get, refl, sym, ap, subst, arith}
use Rattle.std.specs.List.{Contains}
use Rattle.sv_app.specs.declared.apps.App.{App}
use Rattle.sv_app.specs.declared.txns.Txn.{Txn}
use Rattle.sv_app.specs.Accepted.{AcceptedApp}
use Rattle.sv_app.specs.Schema.{schema_of}
use Rattle.sv_app.specs.Trees.{Block, transactions_of}
use Rattle.sv_app.proofs.ListLaws.{get_at, contains_at}
use Rattle.sv_paths.specs.declared.answers.Path.{Path}
use Rattle.sv_paths.specs.declared.bodies.Unit.{Unit}
use Rattle.sv_paths.specs.Numbered.{Part, part_of, bodies_in, numbered_from}
use Rattle.sv_paths.specs.Paths.{IsPath, AreAllPaths}
use Rattle.sv_paths.proofs.FewLaws.{units_are_few}
use Rattle.sv_symbolic.specs.Executes.{parts_in}
use Rattle.sv_path_trials.specs.Shaped.{IsUnitIn}

pub few_units : (app : App) (txn : ℕ) → AcceptedApp (schema_of app.tables.items) (transactions_of app.txns.items) → length (bodies_in app.txns.items txn) ≤ 65536
few_units app txn accepted =
    let few : length (bodies_in app.txns.items txn) ≤ 16 = units_are_few (schema_of app.tables.items) (transactions_of app.txns.items) txn accepted in
    omega (arith, few)

mapped_at : {A B : Type 0} (f : A → B) (xs : List A) (k : ℕ) (x : A) → slice_get xs k ≡ Some x → slice_get (map f xs) k ≡ Some (f x)
mapped_at f [] k x at = absurd cc
mapped_at f (y ∷ xs) zero x at = let same : y ≡ x = cc in ap (λ z. Some (f z)) same
mapped_at f (y ∷ xs) (suc k) x at = mapped_at f xs k x at

numbered_in : (start txn : ℕ) (bodies : List Block) (k : ℕ) (part : Part) → slice_get (numbered_from start txn bodies) k ≡ Some part → part.txn ≡ txn
numbered_in start txn [] k part at = absurd cc
numbered_in start txn (body ∷ bodies) zero part at =
    let same : record { txn = txn; number = start; body = body } ≡ part = cc in
    ap (λ (p : Part). p.txn) (sym same)
numbered_in start txn (body ∷ bodies) (suc k) part at = numbered_in (suc start) txn bodies k part at

pub unit_here : (txns : List Txn) (txn : ℕ) (units : List Unit) (at : ℕ) (unit : Unit) → map part_of units ≡ parts_in txns txn → at < length units → unit ≡ get_or units at unit → IsUnitIn txns unit
unit_here txns txn units at unit all within is =
    let here : slice_get units at ≡ Some unit = get_at units at unit within ∙ ap (λ u. Some u) (sym is) in
    let there : slice_get (parts_in txns txn) at ≡ Some (part_of unit) = ap (λ ps. slice_get ps at) (sym all) ∙ mapped_at part_of units at unit here in
    let same : unit.txn ≡ txn = numbered_in 0 txn (bodies_in txns txn) at (part_of unit) there in
    record { among = subst (λ n. Contains (parts_in txns n) (part_of unit)) (sym same) (contains_at (parts_in txns txn) at (part_of unit) there) }

pub unit_among : (txns : List Txn) (unit : Unit) → IsUnitIn txns unit → Contains (parts_in txns unit.txn) (part_of unit)
unit_among txns unit is = is.among

pub path_here : (body : Block) (paths : List Path) (at : ℕ) (path : Path) → AreAllPaths body paths → at < length paths → path ≡ get_or paths at path → IsPath body path.aborts path.choices
path_here body paths at path all within is =
    let here : slice_get paths at ≡ Some path = get_at paths at path within ∙ ap (λ p. Some p) (sym is) in
    (all.each path).0 (contains_at paths at path here)

pub ruleset shaping = (few_units, unit_here, unit_among, path_here)

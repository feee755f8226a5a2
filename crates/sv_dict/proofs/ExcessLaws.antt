-- Why a transaction asks for too much, by what stopped on the way.
use Rattle.std.proofs.Common.{◌≡◌, ◌∙◌, ◌≤◌, ◌<◌, ◌*◌, ℕ, zero, suc, Bool, true, false, List, [], ◌∷◌, ◌++◌, map, length, take, drop, Option, Some, None, slice_get, refl, sym, ap, subst, arith}
use Rattle.std.specs.List.{Contains}
use Rattle.sv_app.specs.declared.txns.Txn.{Txn}
use Rattle.sv_app.specs.Schema.{Declaration}
use Rattle.sv_app.specs.Trees.{Block, Transaction, transactions_of}
use Rattle.sv_app.specs.Units.{units}
use Rattle.sv_app.proofs.ListLaws.{contains_at}
use Rattle.sv_bounds.specs.declared.systems.Diff.{Diff}
use Rattle.sv_linear.specs.declared.effects.Shape.{Shape as ShapeValue}
use Rattle.sv_linear.specs.declared.stops.FormStop.{FormStop}
use Rattle.sv_linear.specs.declared.stops.FormStop.TheVariants as forms
use Rattle.sv_linear.specs.Atoms.{Gain, to_never}
use Rattle.sv_linear.specs.Codes.{left_of}
use Rattle.sv_linear.specs.Effects.{SymEffect}
use Rattle.sv_linear.specs.Left.{IsLeft}
use Rattle.sv_linear.specs.Named.{AreAtoms}
use Rattle.sv_linear.specs.Tests.{Atom}
use Rattle.sv_paths.specs.declared.answers.Path.{Path}
use Rattle.sv_paths.specs.declared.answers.PathStop.{PathStop}
use Rattle.sv_paths.specs.declared.answers.PathStop.TheVariants as paths
use Rattle.sv_paths.specs.Numbered.{Part, bodies_of, numbered_from}
use Rattle.sv_paths.specs.Paths.{AreAllPaths}
use Rattle.sv_paths.specs.Paths as listed
use Rattle.sv_symbolic.specs.declared.shapes.ShapeStop.{ShapeStop}
use Rattle.sv_symbolic.specs.declared.shapes.ShapeStop.TheVariants as shapes
use Rattle.sv_symbolic.specs.Executes.{parts_in, IsExecuted, IsCause, IsClosedShape, effects_of, shape_as}
use Rattle.sv_symbolic.specs.Routes.{Executed, Shape}
use Rattle.sv_wp.specs.Told.{TellsGreatest}
use Rattle.sv_label.specs.declared.templates.Template.{Template}
use Rattle.sv_label.specs.Groups.{Group}
use Rattle.sv_listing.specs.Frugal.{IsTemplate, choices_on, AreGroups}
use Rattle.sv_listing.specs.Listed.{IsListed}
use Rattle.sv_listing.specs.TooMuch.{AreFew, atoms_left, SomePath, ManyPaths, ManySymbols, WideForm, WideAtom, PassesLimit, TooMuch}
use Rattle.sv_dict.specs.Refused.{IsExcess, by_paths, by_shape, by_form}
use Rattle.sv_dict.specs.Standing.{Lists, IsStop, parts_at, parts_before, IsUnit, IsPathOf, ArePathsOf, HoldsIn, HasRoom}
use Rattle.sv_dict.proofs.NameLaws.{atoms_over}
use Rattle.sv_dict.proofs.OpenLaws.{room_left}
use Rattle.sv_dict.proofs.PartLaws.{behind_it, on_split}

-- the transaction of a unit
pub record UnitIn (txns : List Transaction) (part : Part) : Type 0 where
  pub txn : Transaction
  pub declared : slice_get txns part.txn ≡ Some txn
  pub unit : Contains (units txn.body) part.body

body_at : (start number : ℕ) (bodies : List Block) (k : ℕ) (part : Part) → slice_get (numbered_from start number bodies) k ≡ Some part → slice_get bodies k ≡ Some part.body
body_at start number [] k part at = absurd cc
body_at start number (body ∷ bodies) zero part at =
    let same : record { txn = number; number = start; body = body } ≡ part = cc in ap (λ (p : Part). Some p.body) same
body_at start number (body ∷ bodies) (suc k) part at = body_at (suc start) number bodies k part at

pub unit_in : (txns : List Transaction) (part : Part) → IsUnit txns part → UnitIn txns part
unit_in txns part is = by (slice_get txns part.txn) refl is
  where
    by : (o : Option Transaction) → slice_get txns part.txn ≡ o → slice_get (numbered_from 0 part.txn (bodies_of o)) part.number ≡ Some part → UnitIn txns part
    by None e at = absurd cc
    by (Some txn) e at = record { txn = txn; declared = e; unit = contains_at (units txn.body) part.number part.body (body_at 0 part.txn (units txn.body) part.number part at) }

module _ (schema : List Declaration) (txns : List Transaction) (part : Part) (is : IsUnit txns part) where
  stands : UnitIn txns part
  stands = unit_in txns part is

  path_to : (choices : List Bool) (answer : Executed) → IsExecuted schema txns part.txn part.body choices answer → SomePath schema txns part.txn stands.txn answer
  path_to choices answer comes = record { body = part.body; unit = stands.unit; choices = choices; comes = comes }

  pub paths_excess : (stop : PathStop) → listed.IsCause part.body stop → IsExcess schema txns part.txn (by_paths stop)
  paths_excess (paths.Many count) cause = record { txn = stands.txn; declared = stands.declared; asks = ManyPaths part.body stands.unit cause.1 }
  paths_excess paths.NoMemory cause = tt

  pub shape_excess : (choices : List Bool) (stop : ShapeStop) → IsCause (IsExecuted schema txns part.txn part.body choices) stop → IsExcess schema txns part.txn (by_shape stop)
  shape_excess choices shapes.Many cause = record { txn = stands.txn; declared = stands.declared; asks = ManySymbols (path_to choices _ cause) }
  shape_excess choices shapes.Wide cause = record { txn = stands.txn; declared = stands.declared; asks = WideForm (path_to choices _ cause) }
  shape_excess choices shapes.NoMemory cause = tt

  pub form_excess : (choices : List Bool) (facts : List Diff) (effects : List SymEffect) (symbols : ℕ) (told : Gain) (stop : FormStop)
      → IsExecuted schema txns part.txn part.body choices (Shape facts effects symbols) → TellsGreatest schema told → IsStop told schema effects stop → IsExcess schema txns part.txn (by_form stop)
  form_excess choices facts effects symbols told forms.Wide comes right wide = record {
    txn = stands.txn;
    declared = stands.declared;
    asks = WideAtom (record { facts = facts; effects = effects; symbols = symbols; path = path_to choices _ comes; told = told; right = right; wide = wide });
  }
  form_excess choices facts effects symbols told forms.NoMemory comes right wide = tt

  -- there is no room for the template of a path
  pub room_excess : (ps : List Path) (at : ℕ) (path : Path) (groups : List Group) (atoms : ℕ) (t : Template) → HoldsIn schema txns (parts_before txns part.txn part.number) part (choices_on (take at ps)) groups atoms
      → ArePathsOf txns part ps → slice_get ps at ≡ Some path → path.aborts ≡ false → IsTemplate schema txns part path.choices t → (HasRoom groups atoms (atoms_left (left_of t.left)) → ⊥)
      → TooMuch schema txns part.txn
  room_excess ps at path groups atoms t holds its here goes one full = record {
    txn = stands.txn;
    declared = stands.declared;
    asks = PassesLimit (λ others are few. full (room_left schema txns (parts_before txns part.txn part.number) (drop (suc part.number) (parts_at txns part.txn)) part ps groups others (choices_on (take at ps)) path.choices
        (choices_on (drop (suc at) ps)) t atoms holds one its.all (on_split ps at path here goes) (subst (λ parts. AreGroups schema txns parts others) (behind_it txns part stands.txn is stands.declared) are) few));
  }

-- ---- the template of a path

pub facts_few : (choices : List Bool) (shape : ShapeValue) → IsClosedShape choices shape → length choices ≤ 1023 → length shape.facts ≤ 4095
facts_few choices shape closed short = let few : length shape.facts ≤ 2 * length choices = closed.few in omega (arith, few, short)

pub atoms_named : (told : Gain) (schema : List Declaration) (choices : List Bool) (shape : ShapeValue) (list : List Atom) → IsClosedShape choices shape → Lists told schema 1 (effects_of shape) [] list
    → AreAtoms shape.symbols list
atoms_named told schema choices shape list closed lists =
    subst (AreAtoms shape.symbols) (sym lists.listed) (atoms_over shape.symbols told schema 1 (effects_of shape) closed.effects lists.short)

pub is_template : (schema : List Declaration) (txns : List Transaction) (part : Part) (choices : List Bool) (told : Gain) (shape : ShapeValue) (list : List Atom) (t : Template)
    → IsExecuted schema txns part.txn part.body choices (shape_as shape) → TellsGreatest schema told → Lists told schema 1 (effects_of shape) [] list → IsLeft shape.facts shape.symbols list (left_of t.left)
    → t.facts ≡ shape.facts → t.symbols ≡ shape.symbols → IsTemplate schema txns part choices t
is_template schema txns part choices told shape list t comes right lists left facts symbols = record {
  atoms = list;
  listed = record {
    effects = effects_of shape;
    executed = subst (λ fs. IsExecuted schema txns part.txn part.body choices (Shape fs (effects_of shape) t.symbols)) (sym facts)
        (subst (λ n. IsExecuted schema txns part.txn part.body choices (Shape shape.facts (effects_of shape) n)) (sym symbols) comes);
    told = told;
    right = right;
    narrow = lists.narrow;
    atoms_are = lists.listed;
  };
  left = subst (λ fs. IsLeft fs t.symbols list (left_of t.left)) (sym facts) (subst (λ n. IsLeft shape.facts n list (left_of t.left)) (sym symbols) left);
}

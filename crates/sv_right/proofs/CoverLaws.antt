-- A frugal dictionary covers its application.
use Rattle.std.proofs.Common.{◌≡◌, ◌∙◌, ℕ, suc, Bool, true, false, if◌then◌else◌, List, [], ◌∷◌, ◌++◌, map, length, Option, Some, None, slice_get, refl, sym, ap, subst, All}
use Rattle.std.specs.Prelude.{nat_lt, IfSome}
use Rattle.std.specs.Option.{option_map}
use Rattle.std.proofs.lemmas.List.Elements.{All-nil, All-cons, All-head, All-tail, All-append}
use Rattle.sv_app.specs.declared.schemas.Ty.{Ty}
use Rattle.sv_app.specs.Accepted.{AcceptedApp}
use Rattle.sv_app.specs.Paths.{Way, unit_path}
use Rattle.sv_app.specs.Paths as paths
use Rattle.sv_app.specs.Schema.{Declaration}
use Rattle.sv_app.specs.Trees.{Block, Transaction}
use Rattle.sv_app.specs.Units.{units}
use Rattle.sv_app.proofs.ListLaws.{same_some}
use Rattle.sv_bounds.specs.declared.systems.System.{System}
use Rattle.sv_bounds.specs.declared.systems.Diff.{Diff}
use Rattle.sv_label.specs.declared.templates.Template.{Template}
use Rattle.sv_label.specs.Covers.{IsTestOver, last_of, IsTemplateOver, HasTemplate, Covers}
use Rattle.sv_label.specs.Groups.{Group}
use Rattle.sv_linear.specs.declared.tests.Atom.{Atom as Coded}
use Rattle.sv_linear.specs.Atoms.{Gain, atoms}
use Rattle.sv_linear.specs.Codes.{test_of, atom_of, kept_of, dropped_of, left_of}
use Rattle.sv_linear.specs.Effects.{SymEffect}
use Rattle.sv_linear.specs.Left.{KeptAtom, Dropped, Left, AreLeft, End, Stop, Keep, Drop}
use Rattle.sv_linear.specs.Tests.{Atom}
use Rattle.sv_listing.specs.Frugal.{Frugal, IsTemplate}
use Rattle.sv_listing.specs.Listed.{atoms_from, path_atoms}
use Rattle.sv_paths.specs.Laws.{IsThrough}
use Rattle.sv_paths.specs.Paths.{IsPath}
use Rattle.sv_paths.proofs.WayLaws.{unit_paths}
use Rattle.sv_symbolic.specs.Executes.{IsExecuted}
use Rattle.sv_symbolic.specs.Laws.{path_in, RoutesArePaths}
use Rattle.sv_symbolic.specs.Routes.{Leads, Many, Wide, Shape, executed, draw_unit}
use Rattle.sv_symbolic.specs.Sketches.{Sketch}
use Rattle.sv_symbolic.specs.Typed.{WritesAreOver, EffectsAreOver, SymbolsAreTyped}
use Rattle.sv_right.specs.Covering.{FrugalCovers}
use Rattle.sv_right.proofs.FoundLaws.{HasFound, part_for, found_template}
use Rattle.sv_right.proofs.OverLaws.{atoms_over}
use Rattle.sv_right.proofs.PathLaws.{all_cut}

-- ---- what is left of atoms

-- of each that is kept or dropped, and of the one that nothing meets
record Hold (P : Atom → Type 0) (left : Left) : Type 0 where
  kept : All (λ (k : KeptAtom). P k.atom) left.kept
  dropped : All (λ (d : Dropped). P d.atom) left.dropped
  never : IfSome left.never P

all_left : (P : Atom → Type 0) (s : System) (before : ℕ) (list : List Atom) (left : Left) → AreLeft s before list left → All P list → Hold P left
all_left P s before list left (End _) all = record { kept = All-nil (λ (k : KeptAtom). P k.atom); dropped = All-nil (λ (d : Dropped). P d.atom); never = tt }
all_left P s before list left (Stop _ a more e) all = record { kept = All-nil (λ (k : KeptAtom). P k.atom); dropped = All-nil (λ (d : Dropped). P d.atom); never = All-head P a more all }
all_left P s before list left (Keep _ a more k rest is later) all =
    let behind : Hold P rest = all_left P s (suc before) more rest later (All-tail P a more all) in
    record { kept = All-cons (λ (k : KeptAtom). P k.atom) k rest.kept (subst P (sym is.same) (All-head P a more all)) behind.kept; dropped = behind.dropped; never = behind.never }
all_left P s before list left (Drop _ a more d rest is later) all =
    let behind : Hold P rest = all_left P s before more rest later (All-tail P a more all) in
    record { kept = behind.kept; dropped = All-cons (λ (d : Dropped). P d.atom) d rest.dropped (subst P (sym is.same) (All-head P a more all)) behind.dropped; never = behind.never }

unmapped : {A B : Type 0} (f : A → B) (P : B → Type 0) (xs : List A) → All P (map f xs) → All (λ x. P (f x)) xs
unmapped f P [] all = All-nil (λ x. P (f x))
unmapped f P (x ∷ xs) all = All-cons (λ x. P (f x)) x xs (All-head P (f x) (map f xs) all) (unmapped f P xs (All-tail P (f x) (map f xs) all))

module _ (schema : List Declaration) (tys : List Ty) where
  abbrev Over : Atom → Type 0
  Over a = IsTestOver schema tys a.test

  last_over : (never : Option Coded) → IfSome (option_map atom_of never) Over → All (λ (a : Coded). IsTestOver schema tys (test_of a.test)) (last_of never)
  last_over None is = All-nil (λ (a : Coded). IsTestOver schema tys (test_of a.test))
  last_over (Some a) is = All-cons (λ (a : Coded). IsTestOver schema tys (test_of a.test)) a [] is (All-nil (λ (a : Coded). IsTestOver schema tys (test_of a.test)))

  template_over : (t : Template) → t.symbols ≡ length tys → Hold Over (left_of t.left) → IsTemplateOver schema tys t
  template_over t long holds = record {
    symbols = long;
    kept = unmapped kept_of (λ (k : KeptAtom). Over k.atom) t.left.kept holds.kept;
    dropped = unmapped dropped_of (λ (d : Dropped). Over d.atom) t.left.dropped holds.dropped;
    never = last_over t.left.never holds.never;
  }

  from_over : (told : Gain) (place : ℕ) (es : List SymEffect) → EffectsAreOver tys es → All Over (atoms_from told schema place es)
  from_over told place [] all = All-nil Over
  from_over told place (e ∷ es) all =
      All-append Over (atoms told schema e place) (atoms_from told schema (suc place) es)
      (atoms_over told schema tys e place (All-head (λ (e : SymEffect). WritesAreOver tys e.writes) e es all))
      (from_over told (suc place) es (All-tail (λ (e : SymEffect). WritesAreOver tys e.writes) e es all))

  path_over : (told : Gain) (es : List SymEffect) → EffectsAreOver tys es → All Over (path_atoms told schema es)
  path_over told es all = all_cut Over (atoms_from told schema 1 es) (from_over told 1 es all)

-- ---- what a path comes to

record Comes (end : Sketch) (effects : List SymEffect) (symbols : ℕ) : Type 0 where
  effects_are : end.drawing.effects ≡ effects
  symbols_are : length end.way.symbols ≡ symbols

comes_to : (end : Sketch) (facts : List Diff) (effects : List SymEffect) (symbols : ℕ) → executed end ≡ Shape facts effects symbols → Comes end effects symbols
comes_to end facts effects symbols is = by (nat_lt 64 (length end.way.symbols)) end.drawing.narrow is
  where
    by : (a b : Bool) → (if a then Many else if b then Shape end.drawing.facts end.drawing.effects (length end.way.symbols) else Wide) ≡ Shape facts effects symbols → Comes end effects symbols
    by true b e = absurd cc
    by false true e = record { effects_are = cc; symbols_are = cc }
    by false false e = absurd cc

-- ---- the template of a path

module _ (routes : RoutesArePaths) (typed : SymbolsAreTyped) (schema : List Declaration) (txns : List Transaction) (accepted : AcceptedApp schema txns) where
  module _ (number unit : ℕ) (txn : Transaction) (body : Block) (choices : List Bool) (end : Way) (declared : slice_get txns number ≡ Some txn) (at : slice_get (units txn.body) unit ≡ Some body)
      (leads : unit_path schema txn body choices ≡ paths.Leads end) where
    template_is : (t : Template) → IsTemplate schema txns (part_for number unit body) choices t → IsTemplateOver schema end.symbols t
    template_is t is = template_over schema end.symbols t (sym comes.symbols_are ∙ ap (λ (w : Way). length w.symbols) ways)
        (all_left (Over schema end.symbols) _ 0 is.atoms (left_of t.left) is.left (subst (All (Over schema end.symbols)) (sym is.listed.atoms_are) (path_over schema end.symbols is.listed.told is.listed.effects effects_over)))
      where
        ran : IsExecuted schema txns number body choices (Shape t.facts is.listed.effects t.symbols)
        ran = is.listed.executed

        route : draw_unit schema txn body choices ≡ Leads ran.end
        route = subst (λ (x : Transaction). draw_unit schema x body choices ≡ Leads ran.end) (same_some (slice_get txns number) ran.txn txn ran.declared declared) ran.route

        ways : ran.end.way ≡ end
        ways = let same : paths.Leads ran.end.way ≡ paths.Leads end = sym (ap path_in route) ∙ routes schema txn body choices ∙ leads in cc

        comes : Comes ran.end is.listed.effects t.symbols
        comes = comes_to ran.end t.facts is.listed.effects t.symbols ran.comes

        effects_over : EffectsAreOver end.symbols is.listed.effects
        effects_over = subst (λ (w : Way). EffectsAreOver w.symbols is.listed.effects) ways
            (subst (EffectsAreOver ran.end.way.symbols) comes.effects_are (typed schema txns number unit txn body choices ran.end accepted declared at route))

pub frugal_covers : RoutesArePaths → SymbolsAreTyped → FrugalCovers
frugal_covers routes typed schema txns groups accepted frugal = record { each = has }
  where
    has : (number unit : ℕ) (txn : Transaction) (body : Block) (choices : List Bool) (end : Way) → slice_get txns number ≡ Some txn → slice_get (units txn.body) unit ≡ Some body
        → unit_path schema txn body choices ≡ paths.Leads end → end.left ≡ [] → HasTemplate schema groups number unit choices end.symbols
    has number unit txn body choices end declared at leads whole =
        let path : IsPath body false choices = (unit_paths schema txn body false choices).1 (subst (IsThrough false) (sym leads) (refl, whole)) in
        let found : HasFound schema txns (part_for number unit body) choices groups = found_template schema txns groups frugal number unit txn body choices declared at path in
        record { template = found.template; stands = found.stands; over = template_is routes typed schema txns accepted number unit txn body choices end declared at leads found.template found.is }

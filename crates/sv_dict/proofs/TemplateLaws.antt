-- Of a path there is one template, but for certificates.
use Rattle.std.proofs.Common.{◌≡◌, ◌∙◌, ℕ, suc, ◌+◌, Bool, true, false, List, [], ◌∷◌, ◌++◌, map, length, Option, Some, None, refl, sym, ap, subst, arith, All}
use Rattle.std.specs.Prelude.{◌&&◌, ◌||◌, not, slice_get}
use Rattle.std.specs.List.{list_any}
use Rattle.std.proofs.lemmas.List.{length-map}
use Rattle.std.proofs.lemmas.List.Elements.{All-head, All-tail}
use Rattle.sv_app.specs.Schema.{Declaration}
use Rattle.sv_app.specs.Trees.{Block, Transaction}
use Rattle.sv_app.proofs.ListLaws.{same_some}
use Rattle.sv_bounds.specs.declared.systems.Diff.{Diff}
use Rattle.sv_linear.specs.Atoms.{Gain, atoms, is_never, is_wide_change, to_never}
use Rattle.sv_linear.specs.Codes.{left_of}
use Rattle.sv_linear.specs.Effects.{SymEffect}
use Rattle.sv_linear.specs.Left.{Left, IsLeft}
use Rattle.sv_linear.specs.Tests.{Atom}
use Rattle.sv_paths.specs.Numbered.{Part}
use Rattle.sv_simplify.specs.Laws.{SameAtoms}
use Rattle.sv_simplify.proofs.OnceLaws.{left_once}
use Rattle.sv_symbolic.specs.Executes.{IsExecuted}
use Rattle.sv_symbolic.specs.Routes.{Executed, Many, Wide, Shape, Leads, draw_unit, executed}
use Rattle.sv_wp.specs.Told.{TellsGreatest}
use Rattle.sv_label.specs.declared.templates.Template.{Template}
use Rattle.sv_listing.specs.Frugal.{IsTemplate, HaveTemplates}
use Rattle.sv_listing.specs.Laws.{SameTemplate, SameTemplates}
use Rattle.sv_listing.specs.Listed.{atoms_from, path_atoms, has_never, is_wide_path, IsListed}
use Rattle.sv_listing.specs.TooMuch.{count_of, atoms_left, atoms_of}
use Rattle.sv_dict.proofs.TellLaws.{atoms_once}

-- a path comes to one answer
pub executed_once : (schema : List Declaration) (txns : List Transaction) (number : ℕ) (body : Block) (choices : List Bool) (x y : Executed) → IsExecuted schema txns number body choices x
    → IsExecuted schema txns number body choices y → x ≡ y
executed_once schema txns number body choices x y is has =
    let txn : is.txn ≡ has.txn = same_some (slice_get txns number) is.txn has.txn is.declared has.declared in
    let ends : Leads is.end ≡ Leads has.end = sym is.route ∙ ap (λ t. draw_unit schema t body choices) txn ∙ has.route in
    let end : is.end ≡ has.end = cc in
    sym is.comes ∙ ap executed end ∙ has.comes

module _ (schema : List Declaration) (told other : Gain) (is : TellsGreatest schema told) (has : TellsGreatest schema other) where
  atoms_from_once : (place : ℕ) (es : List SymEffect) → atoms_from told schema place es ≡ atoms_from other schema place es
  atoms_from_once place [] = refl
  atoms_from_once place (e ∷ es) =
      ap (λ l. l ++ atoms_from told schema (suc place) es) (atoms_once schema told other e place is has).atoms ∙ ap (λ l. atoms other schema e place ++ l) (atoms_from_once (suc place) es)

  pub path_once : (es : List SymEffect) → path_atoms told schema es ≡ path_atoms other schema es
  path_once es = ap to_never (atoms_from_once 1 es)

  never_once : (e : SymEffect) → has_never told schema e ≡ has_never other schema e
  never_once e = ap (λ l. list_any (λ a. is_never a.test) l) (atoms_once schema told other e 1 is has).atoms

  pub wide_once : (es : List SymEffect) → is_wide_path told schema es ≡ is_wide_path other schema es
  wide_once [] = refl
  wide_once (e ∷ es) = λ i. (atoms_once schema told other e 1 is has).wide i || (not (never_once e i) && wide_once es i)

left_by : (facts facts' : List Diff) (symbols symbols' : ℕ) (atoms atoms' : List Atom) (left : Left) → facts ≡ facts' → symbols ≡ symbols' → atoms ≡ atoms' → IsLeft facts symbols atoms left
    → IsLeft facts' symbols' atoms' left
left_by facts facts' symbols symbols' atoms atoms' left e f g is =
    subst (λ fs. IsLeft fs symbols' atoms' left) e (subst (λ n. IsLeft facts n atoms' left) f (subst (λ l. IsLeft facts symbols l left) g is))

facts_in : Executed → List Diff
facts_in Many = []
facts_in Wide = []
facts_in (Shape facts effects symbols) = facts

effects_in : Executed → List SymEffect
effects_in Many = []
effects_in Wide = []
effects_in (Shape facts effects symbols) = effects

symbols_in : Executed → ℕ
symbols_in Many = 0
symbols_in Wide = 0
symbols_in (Shape facts effects symbols) = symbols

pub effects_once : (facts facts' : List Diff) (effects effects' : List SymEffect) (symbols symbols' : ℕ) → Shape facts effects symbols ≡ Shape facts' effects' symbols' → effects ≡ effects'
unfolding effects_in
effects_once facts facts' effects effects' symbols symbols' same = ap effects_in same

pub template_once : (schema : List Declaration) (txns : List Transaction) (part : Part) (choices : List Bool) (t other : Template) → IsTemplate schema txns part choices t
    → IsTemplate schema txns part choices other → SameTemplate t other
unfolding facts_in effects_in symbols_in
template_once schema txns part choices t other is has =
    let one : Shape t.facts is.listed.effects t.symbols ≡ Shape other.facts has.listed.effects other.symbols =
    executed_once schema txns part.txn part.body choices _ _ is.listed.executed has.listed.executed in
    let facts : t.facts ≡ other.facts = ap facts_in one in
    let symbols : t.symbols ≡ other.symbols = ap symbols_in one in
    let effects : is.listed.effects ≡ has.listed.effects = ap effects_in one in
    let same : is.atoms ≡ has.atoms =
    is.listed.atoms_are ∙ path_once schema is.listed.told has.listed.told is.listed.right has.listed.right is.listed.effects ∙ ap (path_atoms has.listed.told schema) effects ∙ sym has.listed.atoms_are in
    record {
      facts = facts;
      symbols = symbols;
      left = left_once other.facts other.symbols has.atoms (left_of t.left) (left_of other.left) (left_by t.facts other.facts t.symbols other.symbols is.atoms has.atoms (left_of t.left) facts symbols same is.left) has.left;
    }

-- ---- counts

length_by : {A B : Type 0} (f : A → B) (xs ys : List A) → map f xs ≡ map f ys → length xs ≡ length ys
length_by f xs ys e = sym (length-map xs f) ∙ ap length e ∙ length-map ys f

pub atoms_same : (left other : Left) → SameAtoms left other → atoms_left left ≡ atoms_left other
atoms_same left other same = λ i. length_by (λ k. k.atom) left.kept other.kept same.kept i + length_by (λ d. d.atom) left.dropped other.dropped same.dropped i + count_of (same.never i)

pub templates_once : (schema : List Declaration) (txns : List Transaction) (part : Part) (es os : List (List Bool × Template)) → map (λ e. e.0) es ≡ map (λ e. e.0) os
    → All (λ e. IsTemplate schema txns part e.0 e.1) es → All (λ e. IsTemplate schema txns part e.0 e.1) os → SameTemplates es os
templates_once schema txns part [] [] same is has = tt
templates_once schema txns part [] (o ∷ os) same is has = absurd cc
templates_once schema txns part (e ∷ es) [] same is has = absurd cc
templates_once schema txns part (e ∷ es) (o ∷ os) same is has =
    let first : e.0 ≡ o.0 = cc in
    let later : map (λ e. e.0) es ≡ map (λ e. e.0) os = cc in
    let here : IsTemplate schema txns part e.0 o.1 = subst (λ c. IsTemplate schema txns part c o.1) (sym first) (All-head (λ e. IsTemplate schema txns part e.0 e.1) o os has) in (
      first,
      template_once schema txns part e.0 e.1 o.1 (All-head (λ e. IsTemplate schema txns part e.0 e.1) e es is) here,
      templates_once schema txns part es os later (All-tail (λ e. IsTemplate schema txns part e.0 e.1) e es is) (All-tail (λ e. IsTemplate schema txns part e.0 e.1) o os has),
    )

pub record SameCounts (es os : List (List Bool × Template)) : Type 0 where
  pub many : length es ≡ length os
  pub atoms : atoms_of es ≡ atoms_of os

pub counts_same : (es os : List (List Bool × Template)) → SameTemplates es os → SameCounts es os
counts_same [] [] same = record { many = refl; atoms = refl }
counts_same [] (o ∷ os) same = absurd same
counts_same (e ∷ es) [] same = absurd same
counts_same (e ∷ es) (o ∷ os) same =
    let later = counts_same es os same.2 in
    record {
      many = ap suc later.many;
      atoms = λ i. atoms_same (left_of e.1.left) (left_of o.1.left) same.1.left i + later.atoms i;
    }

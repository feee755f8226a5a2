-- Of units there are one list of groups, but for certificates; and what is listed of the first of them counts in all.
use Rattle.std.proofs.Common.{◌≡◌, ◌∙◌, ◌≤◌, ℕ, suc, ◌+◌, Bool, true, false, List, [], ◌∷◌, ◌++◌, map, length, Option, Some, None, refl, sym, ap, subst, arith, All}
use Rattle.std.proofs.lemmas.List.{length-map, length-append, append_assoc, map-append}
use Rattle.std.proofs.lemmas.List.Elements.{All-head, All-tail, All-cons, All-nil}
use Rattle.sv_app.specs.Schema.{Declaration}
use Rattle.sv_app.specs.Trees.{Block, Transaction}
use Rattle.sv_linear.specs.Codes.{left_of}
use Rattle.sv_paths.specs.declared.answers.Path.{Path}
use Rattle.sv_paths.specs.Numbered.{Part}
use Rattle.sv_paths.specs.Paths.{AreAllPaths}
use Rattle.sv_paths.proofs.OrderLaws.{all_paths_are_one}
use Rattle.sv_label.specs.declared.templates.Template.{Template}
use Rattle.sv_label.specs.Groups.{Group, entries}
use Rattle.sv_listing.specs.Frugal.{IsTemplate, HaveTemplates, choices_on, IsGroup, AreGroups, NoUnits, WithGroup, WithNone, parts_from}
use Rattle.sv_listing.specs.Laws.{SameTemplates, SameGroup, SameGroups, FrugalOnce}
use Rattle.sv_listing.specs.TooMuch.{atoms_left, atoms_of, atoms_in, AreFew}
use Rattle.sv_dict.proofs.TemplateLaws.{templates_once, SameCounts, counts_same}

-- ---- counts

pub entries_append : (gs hs : List Group) → entries (gs ++ hs) ≡ entries gs + entries hs
entries_append [] hs = omega arith
entries_append (g ∷ gs) hs = let later : entries (gs ++ hs) ≡ entries gs + entries hs = entries_append gs hs in omega (arith, later)

pub atoms_in_append : (gs hs : List Group) → atoms_in (gs ++ hs) ≡ atoms_in gs + atoms_in hs
atoms_in_append [] hs = omega arith
atoms_in_append (g ∷ gs) hs = let later : atoms_in (gs ++ hs) ≡ atoms_in gs + atoms_in hs = atoms_in_append gs hs in omega (arith, later)

pub atoms_of_append : (es os : List (List Bool × Template)) → atoms_of (es ++ os) ≡ atoms_of es + atoms_of os
atoms_of_append [] os = omega arith
atoms_of_append (e ∷ es) os = let later : atoms_of (es ++ os) ≡ atoms_of es + atoms_of os = atoms_of_append es os in omega (arith, later)

pub record Alike (gs os : List Group) : Type 0 where
  pub many : entries gs ≡ entries os
  pub atoms : atoms_in gs ≡ atoms_in os

pub alike : (gs os : List Group) → SameGroups gs os → Alike gs os
alike [] [] same = record { many = refl; atoms = refl }
alike [] (o ∷ os) same = absurd same
alike (g ∷ gs) [] same = absurd same
alike (g ∷ gs) (o ∷ os) same =
    let here = counts_same g.templates o.templates same.0.templates in
    let later = alike gs os same.1 in
    record { many = λ i. here.many i + later.many i; atoms = λ i. here.atoms i + later.atoms i }

-- ---- one list

none_for : (schema : List Declaration) (txns : List Transaction) (part : Part) (paths : List Path) (g : Group) → IsGroup schema txns part paths g → choices_on paths ≡ [] → ⊥
none_for schema txns part paths g is none =
    let some : 1 ≤ length g.templates = is.some in
    let long : length g.templates ≡ length (choices_on paths) = sym (length-map g.templates (λ e. e.0)) ∙ ap length is.templates.choices_are in
    let nothing : length (choices_on paths) ≡ 0 = ap length none in
    omega (arith, some, long, nothing)

group_once : (schema : List Declaration) (txns : List Transaction) (part : Part) (paths others : List Path) (g o : Group) → AreAllPaths part.body paths → AreAllPaths part.body others
    → IsGroup schema txns part paths g → IsGroup schema txns part others o → SameGroup g o
group_once schema txns part paths others g o all every is has =
    let same : paths ≡ others = all_paths_are_one part.body paths others all every in
    record {
      txn = is.txn_is ∙ sym has.txn_is;
      unit = is.unit_is ∙ sym has.unit_is;
      templates = templates_once schema txns part g.templates o.templates (is.templates.choices_are ∙ ap choices_on same ∙ sym has.templates.choices_are) is.templates.each has.templates.each;
    }

pub groups_once : (schema : List Declaration) (txns : List Transaction) (parts : List Part) (gs os : List Group) → AreGroups schema txns parts gs → AreGroups schema txns parts os → SameGroups gs os
groups_once schema txns parts gs os NoUnits NoUnits = tt
groups_once schema txns parts gs os (WithGroup part rest paths g groups all is later) (WithGroup _ _ others o more every has behind) =
    (group_once schema txns part paths others g o all every is has, groups_once schema txns rest groups more later behind)
groups_once schema txns parts gs os (WithGroup part rest paths g groups all is later) (WithNone _ _ others more every none behind) =
    absurd (none_for schema txns part paths g is (ap choices_on (all_paths_are_one part.body paths others all every) ∙ none))
groups_once schema txns parts gs os (WithNone part rest paths groups all none later) (WithGroup _ _ others o more every has behind) =
    absurd (none_for schema txns part others o has (ap choices_on (all_paths_are_one part.body others paths every all) ∙ none))
groups_once schema txns parts gs os (WithNone part rest paths groups all none later) (WithNone _ _ others more every nothing behind) = groups_once schema txns rest groups more later behind

-- ---- two parts, one behind the other

pub joins : (schema : List Declaration) (txns : List Transaction) (parts more : List Part) (gs os : List Group) → AreGroups schema txns parts gs → AreGroups schema txns more os
    → AreGroups schema txns (parts ++ more) (gs ++ os)
joins schema txns parts more gs os NoUnits behind = behind
joins schema txns parts more gs os (WithGroup part rest paths g groups all is later) behind =
    WithGroup part (rest ++ more) paths g (groups ++ os) all is (joins schema txns rest more groups os later behind)
joins schema txns parts more gs os (WithNone part rest paths groups all none later) behind =
    WithNone part (rest ++ more) paths (groups ++ os) all none (joins schema txns rest more groups os later behind)

pub record Parted (schema : List Declaration) (txns : List Transaction) (parts more : List Part) (gs : List Group) : Type 0 where
  pub front : List Group
  pub back : List Group
  pub whole : gs ≡ front ++ back
  pub first : AreGroups schema txns parts front
  pub behind : AreGroups schema txns more back

with_first : (schema : List Declaration) (txns : List Transaction) (part : Part) (rest more : List Part) (paths : List Path) (g : Group) (groups : List Group) → AreAllPaths part.body paths
    → IsGroup schema txns part paths g → Parted schema txns rest more groups → Parted schema txns (part ∷ rest) more (g ∷ groups)
with_first schema txns part rest more paths g groups all is p = record {
  front = g ∷ p.front;
  back = p.back;
  whole = ap (λ gs. g ∷ gs) p.whole;
  first = WithGroup part rest paths g p.front all is p.first;
  behind = p.behind;
}

without_first : (schema : List Declaration) (txns : List Transaction) (part : Part) (rest more : List Part) (paths : List Path) (groups : List Group) → AreAllPaths part.body paths → choices_on paths ≡ []
    → Parted schema txns rest more groups → Parted schema txns (part ∷ rest) more groups
without_first schema txns part rest more paths groups all none p = record {
  front = p.front;
  back = p.back;
  whole = p.whole;
  first = WithNone part rest paths p.front all none p.first;
  behind = p.behind;
}

pub parted : (schema : List Declaration) (txns : List Transaction) (parts more : List Part) (gs : List Group) → AreGroups schema txns (parts ++ more) gs → Parted schema txns parts more gs
parted schema txns [] more gs are = record { front = []; back = gs; whole = refl; first = NoUnits; behind = are }
parted schema txns (part ∷ parts) more gs (WithGroup _ _ paths g groups all is later) = with_first schema txns part parts more paths g groups all is (parted schema txns parts more groups later)
parted schema txns (part ∷ parts) more gs (WithNone _ _ paths groups all none later) = without_first schema txns part parts more paths gs all none (parted schema txns parts more gs later)

-- a beginning is few where all are
pub few_front : (front back : List Group) → AreFew (front ++ back) → AreFew front
few_front front back few =
    let many : entries (front ++ back) ≤ 8192 = few.templates in
    let atoms : atoms_in (front ++ back) ≤ 65536 = few.atoms in
    let e : entries (front ++ back) ≡ entries front + entries back = entries_append front back in
    let a : atoms_in (front ++ back) ≡ atoms_in front + atoms_in back = atoms_in_append front back in
    record { templates = omega (arith, many, e); atoms = omega (arith, atoms, a) }

pub frugal_once : FrugalOnce
frugal_once schema txns groups others is has = groups_once schema txns (parts_from 0 txns) groups others is has

-- Of dictionaries that are the same but for certificates the same text is printed.
use Rattle.std.proofs.Common.{◌≡◌, ◌∙◌, ap, sym, refl, codes, ℕ, suc, ◌+◌, ◌==◌, Bool, true, false, cond, List, [], ◌∷◌, ◌++◌, length, map, Option, slice_get, decimal}
use Rattle.std.specs.List.{flat_map}
use Rattle.std.proofs.lemmas.List.{length-map}
use Rattle.sv_app.specs.Trees.{Transaction}
use Rattle.sv_linear.specs.Codes.{left_of}
use Rattle.sv_linear.specs.Left.{Dropped, KeptAtom, Left}
use Rattle.sv_linear.specs.Tests.{Atom}
use Rattle.sv_simplify.specs.Laws.{SameAtoms}
use Rattle.sv_label.specs.declared.templates.Template.{Template}
use Rattle.sv_label.specs.Groups.{Group, entries}
use Rattle.sv_listing.specs.Laws.{SameTemplates, SameGroup, SameGroups}
use Rattle.sv_listing.specs.TooMuch.{count_of}
use Rattle.sv_report.specs.CompileText.{atom_line, choices_text, class_of, dropped_in, dropped_line, end_line, group_lines, here, kept_in, later, left_lines, lines_from, never_lines, nevers_in, path_lines, total_in, total_of, txn_name}
use Rattle.sv_report.specs.Laws.{SameCompiled}

-- ---- what is left of the atoms of a path

record IsAlike (d e : Dropped) : Type 0 where
  pub atom : d.atom ≡ e.atom
  pub after : d.after ≡ e.after

abbrev AreAlike : List Dropped → List Dropped → Type 0
AreAlike [] [] = Unit {0}
AreAlike [] (e ∷ es) = ⊥
AreAlike (d ∷ ds) [] = ⊥
AreAlike (d ∷ ds) (e ∷ es) = IsAlike d e × AreAlike ds es

are_alike : (ds es : List Dropped) → map (λ (d : Dropped). d.atom) ds ≡ map (λ (d : Dropped). d.atom) es → map (λ (d : Dropped). d.after) ds ≡ map (λ (d : Dropped). d.after) es → AreAlike ds es
are_alike [] [] atoms afters = tt
are_alike [] (e ∷ es) atoms afters = absurd cc
are_alike (d ∷ ds) [] atoms afters = absurd cc
are_alike (d ∷ ds) (e ∷ es) atoms afters =
    let atom : d.atom ≡ e.atom = cc in
    let after : d.after ≡ e.after = cc in
    let more : map (λ (d : Dropped). d.atom) ds ≡ map (λ (d : Dropped). d.atom) es = cc in
    let last : map (λ (d : Dropped). d.after) ds ≡ map (λ (d : Dropped). d.after) es = cc in
    (record { atom = atom; after = after }, are_alike ds es more last)

drops_same : (ds es : List Dropped) → AreAlike ds es → flat_map dropped_line ds ≡ flat_map dropped_line es
drops_same [] [] same = refl
drops_same [] (e ∷ es) same = absurd same
drops_same (d ∷ ds) [] same = absurd same
drops_same (d ∷ ds) (e ∷ es) same = λ i. atom_line (codes "drop") (same.0.atom i) ++ drops_same ds es same.1 i

here_by : (p q : Bool) (d e : Dropped) (ds es : List Dropped) → p ≡ q → IsAlike d e → AreAlike ds es → AreAlike (cond p (d ∷ ds) []) (cond q (e ∷ es) [])
here_by true true d e ds es h one same = (one, same)
here_by true false d e ds es h one same = absurd cc
here_by false true d e ds es h one same = absurd cc
here_by false false d e ds es h one same = tt

here_same : (n : ℕ) (ds es : List Dropped) → AreAlike ds es → AreAlike (here n ds) (here n es)
here_same n [] [] same = tt
here_same n [] (e ∷ es) same = absurd same
here_same n (d ∷ ds) [] same = absurd same
here_same n (d ∷ ds) (e ∷ es) same = here_by (d.after == n) (e.after == n) d e (here n ds) (here n es) (ap (λ after. after == n) same.0.after) same.0 (here_same n ds es same.1)

later_by : (p q : Bool) (ds es fs gs : List Dropped) → p ≡ q → AreAlike ds es → AreAlike fs gs → AreAlike (cond p ds fs) (cond q es gs)
later_by true true ds es fs gs h same others = same
later_by true false ds es fs gs h same others = absurd cc
later_by false true ds es fs gs h same others = absurd cc
later_by false false ds es fs gs h same others = others

later_same : (n : ℕ) (ds es : List Dropped) → AreAlike ds es → AreAlike (later n ds) (later n es)
later_same n [] [] same = tt
later_same n [] (e ∷ es) same = absurd same
later_same n (d ∷ ds) [] same = absurd same
later_same n (d ∷ ds) (e ∷ es) same =
    later_by (d.after == n) (e.after == n) (later n ds) (later n es) (d ∷ ds) (e ∷ es) (ap (λ after. after == n) same.0.after) (later_same n ds es same.1) same

lines_same : (n : ℕ) (ks ls : List KeptAtom) (ds es : List Dropped) → map (λ (k : KeptAtom). k.atom) ks ≡ map (λ (k : KeptAtom). k.atom) ls → AreAlike ds es → lines_from n ks ds ≡ lines_from n ls es
lines_same n [] [] ds es atoms same = drops_same ds es same
lines_same n [] (l ∷ ls) ds es atoms same = absurd cc
lines_same n (k ∷ ks) [] ds es atoms same = absurd cc
lines_same n (k ∷ ks) (l ∷ ls) ds es atoms same =
    let atom : k.atom ≡ l.atom = cc in
    let more : map (λ (k : KeptAtom). k.atom) ks ≡ map (λ (k : KeptAtom). k.atom) ls = cc in
    λ i. drops_same (here n ds) (here n es) (here_same n ds es same) i ++ atom_line (codes "keep") (atom i) ++ lines_same (suc n) ks ls (later n ds) (later n es) more (later_same n ds es same) i

class_same : (ks ls : List KeptAtom) (never : Option Atom) → map (λ (k : KeptAtom). k.atom) ks ≡ map (λ (k : KeptAtom). k.atom) ls → class_of ks never ≡ class_of ls never
class_same [] [] never atoms = refl
class_same [] (l ∷ ls) never atoms = absurd cc
class_same (k ∷ ks) [] never atoms = absurd cc
class_same (k ∷ ks) (l ∷ ls) never atoms = refl

left_same : (left other : Left) → SameAtoms left other → left_lines left ≡ left_lines other
left_same left other same =
    λ i. lines_same 0 left.kept other.kept left.dropped other.dropped same.kept (are_alike left.dropped other.dropped same.dropped same.after) i ++ never_lines (same.never i)

-- ---- paths

path_same : (name : List ℕ) (unit : ℕ) (choices given : List Bool) (left other : Left) → choices ≡ given → SameAtoms left other → path_lines name unit choices left ≡ path_lines name unit given other
path_same name unit choices given left other are same =
    λ i. codes "path " ++ name ++ codes " " ++ decimal unit ++ codes " " ++ choices_text (are i) ++ codes " " ++ (class_same left.kept other.kept left.never same.kept ∙ ap (class_of other.kept) same.never) i
    ++ codes "\n" ++ left_same left other same i

templates_same : (name : List ℕ) (unit : ℕ) (es os : List (List Bool × Template)) → SameTemplates es os
    → flat_map (λ (e : List Bool × Template). path_lines name unit e.0 (left_of e.1.left)) es ≡ flat_map (λ (e : List Bool × Template). path_lines name unit e.0 (left_of e.1.left)) os
templates_same name unit [] [] same = refl
templates_same name unit [] (o ∷ os) same = absurd same
templates_same name unit (e ∷ es) [] same = absurd same
templates_same name unit (e ∷ es) (o ∷ os) (choices, template, more) =
    λ i. path_same name unit e.0 o.0 (left_of e.1.left) (left_of o.1.left) choices template.left i ++ templates_same name unit es os more i

group_same : (txns : List Transaction) (g o : Group) → SameGroup g o → group_lines txns g ≡ group_lines txns o
group_same txns g o same =
    (λ i. flat_map (λ (e : List Bool × Template). path_lines (txn_name (slice_get txns (same.txn i))) (same.unit i) e.0 (left_of e.1.left)) g.templates)
    ∙ templates_same (txn_name (slice_get txns o.txn)) o.unit g.templates o.templates same.templates

groups_same : (txns : List Transaction) (groups others : List Group) → SameGroups groups others → flat_map (group_lines txns) groups ≡ flat_map (group_lines txns) others
groups_same txns [] [] same = refl
groups_same txns [] (o ∷ os) same = absurd same
groups_same txns (g ∷ gs) [] same = absurd same
groups_same txns (g ∷ gs) (o ∷ os) same = λ i. group_same txns g o same.0 i ++ groups_same txns gs os same.1 i

-- ---- numbers

-- a number that certificates don't change
abbrev IsBlind : (Left → ℕ) → Type 0
IsBlind count = (left other : Left) → SameAtoms left other → count left ≡ count other

total_same : (count : Left → ℕ) (es os : List (List Bool × Template)) → IsBlind count → SameTemplates es os → total_of count es ≡ total_of count os
total_same count [] [] blind same = refl
total_same count [] (o ∷ os) blind same = absurd same
total_same count (e ∷ es) [] blind same = absurd same
total_same count (e ∷ es) (o ∷ os) blind (choices, template, more) = λ i. blind (left_of e.1.left) (left_of o.1.left) template.left i + total_same count es os blind more i

totals_same : (count : Left → ℕ) (groups others : List Group) → IsBlind count → SameGroups groups others → total_in count groups ≡ total_in count others
totals_same count [] [] blind same = refl
totals_same count [] (o ∷ os) blind same = absurd same
totals_same count (g ∷ gs) [] blind same = absurd same
totals_same count (g ∷ gs) (o ∷ os) blind same = λ i. total_same count g.templates o.templates blind same.0.templates i + totals_same count gs os blind same.1 i

kept_blind : IsBlind kept_in
kept_blind left other same = sym (length-map left.kept (λ (k : KeptAtom). k.atom)) ∙ ap length same.kept ∙ length-map other.kept (λ (k : KeptAtom). k.atom)

dropped_blind : IsBlind dropped_in
dropped_blind left other same = sym (length-map left.dropped (λ (d : Dropped). d.atom)) ∙ ap length same.dropped ∙ length-map other.dropped (λ (d : Dropped). d.atom)

nevers_blind : IsBlind nevers_in
nevers_blind left other same = ap count_of same.never

length_same : (es os : List (List Bool × Template)) → SameTemplates es os → length es ≡ length os
length_same [] [] same = refl
length_same [] (o ∷ os) same = absurd same
length_same (e ∷ es) [] same = absurd same
length_same (e ∷ es) (o ∷ os) (choices, template, more) = ap suc (length_same es os more)

entries_same : (groups others : List Group) → SameGroups groups others → entries groups ≡ entries others
entries_same [] [] same = refl
entries_same [] (o ∷ os) same = absurd same
entries_same (g ∷ gs) [] same = absurd same
entries_same (g ∷ gs) (o ∷ os) same = λ i. length_same g.templates o.templates same.0.templates i + entries_same gs os same.1 i

end_same : (groups others : List Group) → SameGroups groups others → end_line groups ≡ end_line others
end_same groups others same =
    λ i. codes "end " ++ decimal (entries_same groups others same i) ++ codes " " ++ decimal (totals_same kept_in groups others kept_blind same i) ++ codes " "
    ++ decimal (totals_same dropped_in groups others dropped_blind same i) ++ codes " " ++ decimal (totals_same nevers_in groups others nevers_blind same i) ++ codes "\n"

pub same_compiled : SameCompiled
same_compiled txns groups others same = λ i. groups_same txns groups others same i ++ end_same groups others same i

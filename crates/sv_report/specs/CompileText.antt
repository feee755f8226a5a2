-- What `compile` prints of a dictionary: a line for each path with its class, behind it one for each of its atoms in order, and at the end the numbers of paths and atoms.
use Rattle.std.specs.Prelude.{ℕ, suc, ℤ, pos, neg_ℤ, ◌+◌, ◌==◌, if◌then◌else◌, Bool, true, false, List, [], ◌∷◌, ◌++◌, length, Option, Some, None, slice_get, codes, not, int_le}
use Rattle.std.specs.List.{flat_map}
use Rattle.std.specs.Fmt.{decimal, signed_decimal}
use Rattle.std.specs.Ordering.{int_eq}
use Rattle.sv_app.specs.Trees.{Transaction}
use Rattle.sv_linear.specs.Codes.{left_of}
use Rattle.sv_linear.specs.Left.{KeptAtom, Dropped, Left}
use Rattle.sv_linear.specs.Tests.{Test, AtMost, InList, Never, Atom}
use Rattle.sv_label.specs.declared.templates.Template.{Template}
use Rattle.sv_label.specs.Groups.{Group, entries}
use Rattle.sv_listing.specs.TooMuch.{count_of}
use Rattle.sv_report.specs.Lines.{reason_text}

-- ---- atoms

-- `sN` or `K*sN`, of a coefficient without its sign
abbrev pub times_text : ℤ → ℕ → List ℕ
times_text size symbol = (if int_eq size (pos 1) then [] else signed_decimal size ++ codes "*") ++ codes "s" ++ decimal symbol

abbrev pub is_negative : ℤ → Bool
is_negative c = not (int_le (pos 0) c)

abbrev pub size_of : ℤ → ℤ
size_of c = if is_negative c then neg_ℤ c else c

abbrev pub first_term : ℕ × ℤ → List ℕ
first_term t = (if is_negative t.1 then codes "-" else []) ++ times_text (size_of t.1) t.0

abbrev pub next_term : ℕ × ℤ → List ℕ
next_term t = (if is_negative t.1 then codes " - " else codes " + ") ++ times_text (size_of t.1) t.0

-- the terms of a form; that of an atom has some, and no constant
abbrev pub terms_text : List (ℕ × ℤ) → List ℕ
terms_text [] = []
terms_text (t ∷ ts) = first_term t ++ flat_map next_term ts

-- ` FORM <= N` or ` sN in I`
abbrev pub test_text : Test → List ℕ
test_text (AtMost f most) = codes " " ++ terms_text f.terms ++ codes " <= " ++ signed_decimal most
test_text (InList symbol inv) = codes " s" ++ decimal symbol ++ codes " in " ++ decimal inv
test_text Never = []

-- ` WORD PLACE REASON`, and the test
abbrev pub atom_line : List ℕ → Atom → List ℕ
atom_line word a = codes " " ++ word ++ codes " " ++ decimal a.place ++ codes " " ++ reason_text a.reason ++ test_text a.test ++ codes "\n"

abbrev pub kept_line : KeptAtom → List ℕ
kept_line k = atom_line (codes "keep") k.atom

abbrev pub dropped_line : Dropped → List ℕ
dropped_line d = atom_line (codes "drop") d.atom

abbrev pub never_lines : Option Atom → List ℕ
never_lines None = []
never_lines (Some a) = atom_line (codes "never") a

-- ---- paths

-- the dropped ones in front that stand behind so many kept ones, and those behind them
abbrev pub here : ℕ → List Dropped → List Dropped
here n [] = []
here n (d ∷ ds) = if d.after == n then d ∷ here n ds else []

abbrev pub later : ℕ → List Dropped → List Dropped
later n [] = []
later n (d ∷ ds) = if d.after == n then later n ds else d ∷ ds

-- kept and dropped ones in the order in which they were listed, behind so many kept ones
abbrev pub lines_from : ℕ → List KeptAtom → List Dropped → List ℕ
lines_from n [] ds = flat_map dropped_line ds
lines_from n (k ∷ ks) ds = flat_map dropped_line (here n ds) ++ kept_line k ++ lines_from (suc n) ks (later n ds)

abbrev pub left_lines : Left → List ℕ
left_lines left = lines_from 0 left.kept left.dropped ++ never_lines left.never

abbrev pub choice_text : Bool → List ℕ
choice_text true = codes "1"
choice_text false = codes "0"

abbrev pub choices_text : List Bool → List ℕ
choices_text [] = codes "-"
choices_text (choice ∷ choices) = flat_map choice_text (choice ∷ choices)

-- whether a change of the path wants the one order: always, never, or by a test
abbrev pub class_of : List KeptAtom → Option Atom → List ℕ
class_of [] (Some a) = codes "red"
class_of [] None = codes "blue"
class_of (k ∷ ks) never = codes "test"

abbrev pub txn_name : Option Transaction → List ℕ
txn_name None = []
txn_name (Some txn) = txn.name.name

-- `path TXN UNIT CHOICES CLASS`, and the lines of its atoms
abbrev pub path_lines : List ℕ → ℕ → List Bool → Left → List ℕ
path_lines name unit choices left =
    codes "path " ++ name ++ codes " " ++ decimal unit ++ codes " " ++ choices_text choices ++ codes " " ++ class_of left.kept left.never ++ codes "\n" ++ left_lines left

abbrev pub group_lines : List Transaction → Group → List ℕ
group_lines txns g = flat_map (λ e. path_lines (txn_name (slice_get txns g.txn)) g.unit e.0 (left_of e.1.left)) g.templates

-- ---- numbers

abbrev pub total_of : (Left → ℕ) → List (List Bool × Template) → ℕ
total_of count [] = 0
total_of count (e ∷ es) = count (left_of e.1.left) + total_of count es

abbrev pub total_in : (Left → ℕ) → List Group → ℕ
total_in count [] = 0
total_in count (g ∷ groups) = total_of count g.templates + total_in count groups

abbrev pub kept_in : Left → ℕ
kept_in left = length left.kept

abbrev pub dropped_in : Left → ℕ
dropped_in left = length left.dropped

abbrev pub nevers_in : Left → ℕ
nevers_in left = count_of left.never

-- `end PATHS KEPT DROPPED NEVER`
abbrev pub end_line : List Group → List ℕ
end_line groups = codes "end " ++ decimal (entries groups) ++ codes " " ++ decimal (total_in kept_in groups) ++ codes " " ++ decimal (total_in dropped_in groups) ++ codes " " ++ decimal (total_in nevers_in groups) ++ codes "\n"

abbrev pub compile_text : List Transaction → List Group → List ℕ
compile_text txns groups = flat_map (group_lines txns) groups ++ end_line groups

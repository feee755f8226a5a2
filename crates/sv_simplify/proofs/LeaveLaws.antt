-- What is left of the atoms so far leads to what is left of all.
use Rattle.std.proofs.Common.{◌≡◌, ◌∙◌, ap, sym, subst, refl, ℕ, suc, ◌+◌, true, false, List, [], ◌∷◌, ◌++◌, length, map, Option, Some, None, arith}
use Rattle.std.proofs.lemmas.List.Elements.{All-head, All-tail}
use Rattle.std.proofs.lemmas.List.{append-nil, append_assoc, length_push}
use Rattle.sv_bounds.specs.declared.systems.Diff.{Diff}
use Rattle.sv_bounds.specs.declared.systems.System.{System}
use Rattle.sv_linear.specs.declared.left.Left as code
use Rattle.sv_linear.specs.declared.tests.Atom as source
use Rattle.sv_linear.specs.Codes.{atom_of, left_of, test_of}
use Rattle.sv_linear.specs.Named.{AreAtoms, IsTestOf}
use Rattle.sv_linear.specs.Atoms.{is_never}
use Rattle.sv_linear.specs.Left.{KeptAtom, Dropped, Left, IsKept, IsDropped, nothing_left, keeping, dropping, AreLeft, End, Stop, Keep, Drop, false_row, system_of, IsLeft}
use Rattle.sv_linear.specs.Tests.{Atom}
use Rattle.sv_simplify.specs.declared.judged.Judged.{Judged}
use Rattle.sv_simplify.specs.declared.judged.Judged.TheVariants as found
use Rattle.sv_simplify.specs.Judged.{IsOver, IsJudged, with_judged}

-- what is left of the first atoms, with what is left behind it
abbrev pub joined : Left → Left → Left
joined left behind = record { kept = left.kept ++ behind.kept; dropped = left.dropped ++ behind.dropped; never = behind.never }

-- whatever is left of the rest, with it behind this all is left
pub record Leads (s : System) (all : List Atom) (left : Left) (rest : List Atom) : Type 0 where
  pub never : left.never ≡ None
  pub on : (behind : Left) → AreLeft s (length left.kept) rest behind → AreLeft s 0 all (joined left behind)

pub begins : (s : System) (all : List Atom) (left : Left) → left ≡ nothing_left None → Leads s all left all
begins s all left e = subst (λ l. Leads s all l all) (sym e) (record { never = refl; on = λ behind is. is })

same_joined : (left : Left) (never : Option Atom) → joined left (nothing_left never) ≡ record { kept = left.kept; dropped = left.dropped; never = never }
same_joined left never = ap (λ ks. record { kept = ks; dropped = left.dropped ++ []; never = never }) (append-nil left.kept) ∙ ap (λ ds. record { kept = left.kept; dropped = ds; never = never }) (append-nil left.dropped)

pub ends : (s : System) (all : List Atom) (left : Left) → Leads s all left [] → AreLeft s 0 all left
ends s all left l =
    subst (AreLeft s 0 all) (same_joined left None ∙ ap (λ n. record { kept = left.kept; dropped = left.dropped; never = n }) (sym l.never)) (l.on (nothing_left None) (End (length left.kept)))

pub stops : (s : System) (all : List Atom) (left : Left) (a : Atom) (rest : List Atom) (after : Left) → Leads s all left (a ∷ rest) → is_never a.test ≡ true
    → after ≡ record { kept = left.kept; dropped = left.dropped; never = Some a }
    → AreLeft s 0 all after
stops s all left a rest after l e is =
    subst (AreLeft s 0 all) (same_joined left (Some a) ∙ sym is) (l.on (nothing_left (Some a)) (Stop (length left.kept) a rest e))

keeps : (s : System) (all : List Atom) (left : Left) (a : Atom) (rest : List Atom) (k : KeptAtom) → Leads s all left (a ∷ rest) → IsKept s a k
    → Leads s all (record { kept = left.kept ++ k ∷ []; dropped = left.dropped; never = left.never }) rest
keeps s all left a rest k l is = record {
  never = l.never;
  on = λ behind later.
      let more : length (left.kept ++ k ∷ []) ≡ length left.kept + 1 = length_push left.kept k in
      let long : length (left.kept ++ k ∷ []) ≡ suc (length left.kept) = omega (arith, more) in
      let next : AreLeft s (suc (length left.kept)) rest behind = subst (λ n. AreLeft s n rest behind) long later in
      subst (λ ks. AreLeft s 0 all (record { kept = ks; dropped = left.dropped ++ behind.dropped; never = behind.never })) (sym (append_assoc left.kept (k ∷ []) behind.kept))
      (l.on (keeping k behind) (Keep (length left.kept) a rest k behind is next));
}

drops : (s : System) (all : List Atom) (left : Left) (a : Atom) (rest : List Atom) (d : Dropped) → Leads s all left (a ∷ rest) → IsDropped s (length left.kept) a d
    → Leads s all (record { kept = left.kept; dropped = left.dropped ++ d ∷ []; never = left.never }) rest
drops s all left a rest d l is = record {
  never = l.never;
  on = λ behind later.
      subst (λ ds. AreLeft s 0 all (record { kept = left.kept ++ behind.kept; dropped = ds; never = behind.never })) (sym (append_assoc left.dropped (d ∷ []) behind.dropped))
      (l.on (dropping d behind) (Drop (length left.kept) a rest d behind is later));
}

pub goes_on : (s : System) (all : List Atom) (left : Left) (a : Atom) (rest : List Atom) (j : Judged) (after : Left) → Leads s all left (a ∷ rest) → is_never a.test ≡ false
    → IsJudged s (false_row a.test) j
    → after ≡ with_judged left a j → Leads s all after rest
goes_on s all left a rest (found.Kept shown) after l e is same =
    subst (λ left. Leads s all left rest) (sym same) (keeps s all left a rest (record { atom = a; shown = shown }) l (record { same = refl; possible = e; shows = is }))
goes_on s all left a rest (found.Dropped cycle) after l e is same =
    subst (λ left. Leads s all left rest) (sym same) (drops s all left a rest (record { atom = a; after = length left.kept; cycle = cycle }) l (record { same = refl; after = refl; cycle = is }))

-- the loop: the atoms so far are left, and the others are over the symbols
pub record Stands (facts : List Diff) (symbols : ℕ) (begun : List source.Atom) (left : code.Left) (items : List source.Atom) : Type 0 where
  pub over : AreAtoms symbols (map atom_of items)
  pub leads : Leads (system_of facts symbols) (map atom_of begun) (left_of left) (map atom_of items)

pub stands_first : (facts : List Diff) (symbols : ℕ) (begun given : List source.Atom) (left : code.Left) → begun ≡ given → AreAtoms symbols (map atom_of given)
    → left_of left ≡ nothing_left None → Stands facts symbols begun left begun
stands_first facts symbols begun given left e over none = record { over = subst (λ l. AreAtoms symbols (map atom_of l)) (sym e) over; leads = begins _ _ (left_of left) none }

later : (facts : List Diff) (symbols : ℕ) (begun items rest : List source.Atom) (left : code.Left) (a : source.Atom) → items ≡ a ∷ rest → Stands facts symbols begun left items
    → Stands facts symbols begun left (a ∷ rest)
later facts symbols begun items rest left a e st = subst (λ l. Stands facts symbols begun left l) e st

pub stands_over : (facts : List Diff) (symbols : ℕ) (begun items rest : List source.Atom) (left : code.Left) (a : source.Atom) (s : System) → items ≡ a ∷ rest
    → s ≡ system_of facts symbols → Stands facts symbols begun left items → IsOver s (test_of a.test)
stands_over facts symbols begun items rest left a s e is st = record {
  symbols = symbols;
  vars = ap (λ s. s.vars) is;
  names = All-head (λ a. IsTestOf symbols a.test) (atom_of a) (map atom_of rest) (later facts symbols begun items rest left a e st).over;
}

pub stands_next : (facts : List Diff) (symbols : ℕ) (begun items rest : List source.Atom) (left after : code.Left) (a : source.Atom) (s : System) (j : Judged) → items ≡ a ∷ rest
    → s ≡ system_of facts symbols
    → is_never (test_of a.test) ≡ false → IsJudged s (false_row (test_of a.test)) j → left_of after ≡ with_judged (left_of left) (atom_of a) j → Stands facts symbols begun left items
    → Stands facts symbols begun after rest
stands_next facts symbols begun items rest left after a s j e is other found same st =
    let now : Stands facts symbols begun left (a ∷ rest) = later facts symbols begun items rest left a e st in
    record {
      over = All-tail (λ a. IsTestOf symbols a.test) (atom_of a) (map atom_of rest) now.over;
      leads = goes_on _ _ (left_of left) (atom_of a) (map atom_of rest) j (left_of after) now.leads other (subst (λ s. IsJudged s (false_row (test_of a.test)) j) is found) same;
    }

pub stands_stop : (facts : List Diff) (symbols : ℕ) (begun given items rest : List source.Atom) (left after : code.Left) (a : source.Atom) → begun ≡ given → items ≡ a ∷ rest
    → is_never (test_of a.test) ≡ true
    → left_of after ≡ record { kept = (left_of left).kept; dropped = (left_of left).dropped; never = Some (atom_of a) } → Stands facts symbols begun left items
    → IsLeft facts symbols (map atom_of given) (left_of after)
stands_stop facts symbols begun given items rest left after a f e never same st =
    subst (λ l. IsLeft facts symbols (map atom_of l) (left_of after)) f (stops _ _ (left_of left) (atom_of a) (map atom_of rest) (left_of after) (later facts symbols begun items rest left a e st).leads never same)

pub stands_last : (facts : List Diff) (symbols : ℕ) (begun given items : List source.Atom) (left : code.Left) → begun ≡ given → items ≡ [] → Stands facts symbols begun left items
    → IsLeft facts symbols (map atom_of given) (left_of left)
stands_last facts symbols begun given items left f e st =
    subst (λ l. IsLeft facts symbols (map atom_of l) (left_of left)) f (ends _ _ (left_of left) (subst (λ l. Leads (system_of facts symbols) (map atom_of begun) (left_of left) (map atom_of l)) e st.leads))

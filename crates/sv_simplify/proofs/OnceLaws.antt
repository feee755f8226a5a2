-- Of the same facts and atoms the same atoms are kept and dropped.
use Rattle.std.proofs.Common.{◌≡◌, ◌∙◌, ap, sym, refl, ℕ, suc, ℤ, Bool, true, false, List, [], ◌∷◌, ◌++◌, map, Option, Some, None}
use Rattle.sv_bounds.specs.declared.systems.Diff.{Diff}
use Rattle.sv_bounds.specs.declared.systems.System.{System}
use Rattle.sv_bounds.specs.Answers.{assigned}
use Rattle.sv_bounds.proofs.ChainLaws.{no_cycle}
use Rattle.sv_linear.specs.Atoms.{is_never}
use Rattle.sv_linear.specs.Left.{KeptAtom, Dropped, Left, Shows, HasCycle, false_row, nothing_left, keeping, dropping, AreLeft, End, Stop, Keep, Drop}
use Rattle.sv_linear.specs.Tests.{Test, AtMost, InList, Never, Atom}
use Rattle.sv_simplify.specs.Laws.{SameAtoms, LeftOnce}

-- a row has a solution or a cycle, not both
apart : (s : System) (o : Option Diff) (shown : Option (List ℤ)) (cycle : List ℕ) {Q : Type 0} → Shows s o shown → HasCycle s o cycle → Q
apart s None shown cycle shows has = absurd has
apart s (Some row) None cycle shows has = absurd shows
apart s (Some row) (Some values) cycle shows has = no_cycle (s.rows ++ row ∷ []) (assigned values) cycle shows.meets has

-- what nothing meets is no difference
never_drops : (s : System) (t : Test) (cycle : List ℕ) {Q : Type 0} → is_never t ≡ true → HasCycle s (false_row t) cycle → Q
never_drops s (AtMost f most) cycle e has = absurd cc
never_drops s (InList symbol number) cycle e has = absurd cc
never_drops s Never cycle e has = absurd has

not_both : (b : Bool) {Q : Type 0} → b ≡ true → b ≡ false → Q
not_both true e h = absurd cc
not_both false e h = absurd cc

same_last : (never : Option Atom) → SameAtoms (nothing_left never) (nothing_left never)
same_last never = record { kept = refl; dropped = refl; after = refl; never = refl }

keep_both : (k j : KeptAtom) (left other : Left) → k.atom ≡ j.atom → SameAtoms left other → SameAtoms (keeping k left) (keeping j other)
keep_both k j left other e same = record {
  kept = ap (λ x. x ∷ map (λ k. k.atom) left.kept) e ∙ ap (λ xs. j.atom ∷ xs) same.kept;
  dropped = same.dropped;
  after = same.after;
  never = same.never;
}

drop_both : (d f : Dropped) (left other : Left) → d.atom ≡ f.atom → d.after ≡ f.after → SameAtoms left other → SameAtoms (dropping d left) (dropping f other)
drop_both d f left other e h same = record {
  kept = same.kept;
  dropped = ap (λ x. x ∷ map (λ d. d.atom) left.dropped) e ∙ ap (λ xs. f.atom ∷ xs) same.dropped;
  after = ap (λ x. x ∷ map (λ d. d.after) left.dropped) h ∙ ap (λ xs. f.after ∷ xs) same.after;
  never = same.never;
}

once : (s : System) (before : ℕ) (atoms : List Atom) (left other : Left) → AreLeft s before atoms left → AreLeft s before atoms other → SameAtoms left other
once s before atoms left other (End _) (End _) = same_last None
once s before atoms left other (Stop _ a _ e) (Stop _ _ _ _) = same_last (Some a)
once s before atoms left other (Stop _ a _ e) (Keep _ _ _ k _ is _) = not_both (is_never a.test) e is.possible
once s before atoms left other (Stop _ a _ e) (Drop _ _ _ d _ is _) = never_drops s a.test d.cycle e is.cycle
once s before atoms left other (Keep _ a _ k _ is _) (Stop _ _ _ e) = not_both (is_never a.test) e is.possible
once s before atoms left other (Keep _ a tail k l is later) (Keep _ _ _ j o has more) = keep_both k j l o (is.same ∙ sym has.same) (once s (suc before) tail l o later more)
once s before atoms left other (Keep _ a tail k l is later) (Drop _ _ _ d o has more) = apart s (false_row a.test) k.shown d.cycle is.shows has.cycle
once s before atoms left other (Drop _ a tail d l is later) (Stop _ _ _ e) = never_drops s a.test d.cycle e is.cycle
once s before atoms left other (Drop _ a tail d l is later) (Keep _ _ _ k o has more) = apart s (false_row a.test) k.shown d.cycle has.shows is.cycle
once s before atoms left other (Drop _ a tail d l is later) (Drop _ _ _ e o has more) =
    drop_both d e l o (is.same ∙ sym has.same) (is.after ∙ sym has.after) (once s before tail l o later more)

pub left_once : LeftOnce
left_once facts symbols atoms left other is has = once _ 0 atoms left other is has

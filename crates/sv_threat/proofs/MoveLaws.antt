-- What a change makes of the numbers of a row, by its moves; and which of its sets may lose.
use Rattle.std.proofs.Common.{◌≡◌, ◌≢◌, ◌∙◌, ℕ, zero, suc, Bool, true, false, List, [], ◌∷◌, Option, Some, None, slice_get, ℤ, pos, ◌+ℤ◌, refl, sym, ap, subst, arith}
use Rattle.std.specs.Prelude.{◌==◌, ◌||◌, not, if◌then◌else◌}
use Rattle.std.proofs.lemmas.Int.{ints}
use Rattle.sv_value.specs.declared.values.Val.{Val}
use Rattle.sv_app.specs.declared.schemas.Column.{Column}
use Rattle.sv_app.specs.declared.schemas.Merge.{Merge}
use Rattle.sv_app.specs.declared.schemas.Merge.TheVariants.{Plain, Lww, NumDelta, Fresh}
use Rattle.sv_app.specs.Fitting.{number_in}
use Rattle.sv_app.specs.Kinds.{is_unmerged}
use Rattle.sv_app.specs.Satisfiable.{value_of}
use Rattle.sv_app.specs.Schema.{Declaration}
use Rattle.sv_app.proofs.TestLaws.{test_same, or_left, or_right}
use Rattle.sv_effect.specs.declared.ops.Write.{Write}
use Rattle.sv_effect.specs.declared.ops.Write.TheVariants.{Delta, Set}
use Rattle.sv_effect.specs.Fits.{IsWrite, AreWrites, WriteFits}
use Rattle.sv_effect.specs.RunChanges.{Effect, merge_in, merge_of}
use Rattle.sv_effect.specs.Threatened.{is_plain_column, writes_plain, write_to, number_after, numbers_after}
use Rattle.sv_threat.specs.declared.moves.Move.{Move}
use Rattle.sv_threat.specs.declared.moves.Move.TheVariants.{Leaves, Adds, Sets}
use Rattle.sv_threat.specs.Cases.{is_set, added, made, move_at, move_of, moves_of}

-- a number after a move that wins or loses
abbrev pub moved : Bool → Move → ℤ → ℤ
moved wins Leaves n = n
moved wins (Adds d) n = n +ℤ d
moved true (Sets v) n = v
moved false (Sets v) n = n

write_moved : (wins : Bool) (w : Option Write) (n : ℤ) → number_after wins w n ≡ moved wins (move_of w) n
write_moved wins None n = refl
write_moved wins (Some (Delta d)) n = refl
write_moved true (Some (Set v)) n = refl
write_moved false (Some (Set v)) n = refl

-- whether a side's write wins
abbrev pub wins_at : (ℕ → Bool) → Option ℕ → Bool
wins_at wins None = false
wins_at wins (Some c) = wins c

pub side_moved : (wins : ℕ → Bool) (e : Effect) (numbers : ℕ → ℤ) (side : Option ℕ)
    → value_of (numbers_after wins e numbers) side ≡ moved (wins_at wins side) (move_at (moves_of e) side) (value_of numbers side)
side_moved wins e numbers None = refl
side_moved wins e numbers (Some c) = write_moved (wins c) (write_to c e.writes) (numbers c)

pub move_lost : (wins : Bool) (move : Move) (n : ℤ) → (is_set move ≡ true → wins ≡ false) → moved wins move n ≡ (n +ℤ added move)
move_lost wins Leaves n lost = omega (arith, ints)
move_lost wins (Adds d) n lost = refl
move_lost true (Sets v) n lost = let same : true ≡ false = lost refl in absurd cc
move_lost false (Sets v) n lost = omega (arith, ints)

pub move_won : (wins : Bool) (move : Move) (n : ℤ) → wins ≡ true → is_set move ≡ true → moved wins move n ≡ made move
move_won wins Leaves n won set = absurd cc
move_won wins (Adds d) n won set = absurd cc
move_won true (Sets v) n won set = refl
move_won false (Sets v) n won set = absurd cc

-- from zeros each write wins
pub move_made : (move : Move) → moved true move (pos 0) ≡ made move
move_made Leaves = refl
move_made (Adds d) = omega (arith, ints)
move_made (Sets v) = refl

pub set_there : (w : Option Write) → is_set (move_of w) ≡ true → (v : Val) × (w ≡ Some (Set v))
set_there None e = absurd cc
set_there (Some (Delta d)) e = absurd cc
set_there (Some (Set v)) e = (v, refl)

-- a column that is neither plain nor a counter keeps the last write
last_writer : (merge : Merge) → is_unmerged merge ≡ false → merge ≢ NumDelta → merge ≡ Lww
last_writer Plain plain other = absurd cc
last_writer Lww plain other = refl
last_writer NumDelta plain other = absurd (other refl)
last_writer Fresh plain other = absurd cc

plain_at : (columns : List Column) (c : ℕ) (column : Column) → slice_get columns c ≡ Some column → is_plain_column columns c ≡ is_unmerged column.merge
plain_at [] c column at = absurd cc
plain_at (x ∷ columns) zero column at = let same : x ≡ column = cc in ap (λ (k : Column). is_unmerged k.merge) same
plain_at (x ∷ columns) (suc c) column at = plain_at columns c column at

written_last : (table : Declaration) (c : ℕ) (v : Val) → IsWrite table c (Set v) → is_plain_column table.columns c ≡ false → merge_of table.columns c ≡ Lww
written_last table c v is plain =
    ap merge_in is.declared ∙ last_writer is.column.merge (sym (plain_at table.columns c is.column is.declared) ∙ plain) is.fits.0

-- the sets of a change that writes no plain column are of such columns
pub sets_last : (table : Declaration) (c : ℕ) (ws : List (ℕ × Write)) → AreWrites table ws → writes_plain table.columns ws ≡ false → is_set (move_of (write_to c ws)) ≡ true
    → merge_of table.columns c ≡ Lww
sets_last table c [] are plain set = absurd cc
sets_last table c (w ∷ ws) are plain set = by (w.0 == c) refl set (sets_last table c ws are.1 (or_right (is_plain_column table.columns w.0) (writes_plain table.columns ws) plain))
  where
    by : (b : Bool) → (w.0 == c) ≡ b → is_set (move_of (if b then Some w.1 else write_to c ws)) ≡ true → (is_set (move_of (write_to c ws)) ≡ true → merge_of table.columns c ≡ Lww)
        → merge_of table.columns c ≡ Lww
    by true is set ih =
        let there : (v : Val) × (Some w.1 ≡ Some (Set v)) = set_there (Some w.1) set in
        let one : w.1 ≡ Set there.0 = write_same w.1 (Set there.0) there.1 in
        subst (λ n. merge_of table.columns n ≡ Lww) (test_same w.0 c is)
        (written_last table w.0 there.0 (subst (IsWrite table w.0) one are.0) (or_left (is_plain_column table.columns w.0) (writes_plain table.columns ws) plain))
      where
        write_same : (a b : Write) → Some a ≡ Some b → a ≡ b
        write_same a b e = cc
    by false is set ih = ih set

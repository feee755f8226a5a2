-- Codes of stamped tables, so that a store may have them as what contracts see.
use Rattle.std.specs.Prelude.{◌≡◌, ℕ, ℤ, Bool, List, ◌⊎◌, refl}
use Rattle.std.proofs.Common.{inl, inr}
use Rattle.std.specs.Coded.{Coded, code_by, coded×, coded⊎, coded_ℕ, coded_ℤ, coded_bool, coded_list}
use Rattle.std.specs.FinMap.{code}
use Rattle.sv_value.specs.declared.stamps.Stamp.{Stamp}
use Rattle.sv_value.specs.declared.values.Val.{Val}
use Rattle.sv_app.specs.CodedTables.{coded_val, coded_place}
use Rattle.sv_effect.specs.declared.cells.Cell.{Cell}
use Rattle.sv_effect.specs.declared.cells.Cell.TheVariants.{Count, Last, Plain}
use Rattle.sv_effect.specs.StampedTables.{StampedRow, StampedTables}

abbrev pub coded_stamp : Coded Stamp
coded_stamp = code_by (ℕ × (ℕ × ℕ)) (coded× coded_ℕ (coded× coded_ℕ coded_ℕ)) (λ s. (s.time, (s.site, s.place))) (λ p. record { time = p.0; site = p.1.0; place = p.1.1 }) (λ _. refl)

abbrev pub cell_sum : Cell → ℤ ⊎ ((Val × Stamp) ⊎ Val)
cell_sum (Count n) = inl n
cell_sum (Last v s) = inr (inl (v, s))
cell_sum (Plain v) = inr (inr v)

abbrev pub sum_cell : ℤ ⊎ ((Val × Stamp) ⊎ Val) → Cell
sum_cell (inl n) = Count n
sum_cell (inr (inl p)) = Last p.0 p.1
sum_cell (inr (inr v)) = Plain v

abbrev pub from_to : (c : Cell) → sum_cell (cell_sum c) ≡ c
from_to (Count n) = refl
from_to (Last v s) = refl
from_to (Plain v) = refl

abbrev pub coded_cell : Coded Cell
coded_cell = code_by (ℤ ⊎ ((Val × Stamp) ⊎ Val)) (coded⊎ coded_ℤ (coded⊎ (coded× coded_val coded_stamp) coded_val)) cell_sum sum_cell from_to

abbrev pub coded_row : Coded StampedRow
coded_row = code_by (List Cell × (Bool × Stamp)) (coded× (coded_list coded_cell) (coded× coded_bool coded_stamp)) (λ row. (row.cells, (row.mark.value, row.mark.stamp)))
    (λ p. record { cells = p.0; mark = record { value = p.1.0; stamp = p.1.1 } }) (λ _. refl)

abbrev pub coded_stamped : Coded StampedTables
coded_stamped = code coded_place coded_row

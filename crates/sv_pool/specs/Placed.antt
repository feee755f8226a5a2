-- What contracts see of a region: its values, in the order in which they were placed, and how many further ones fit.
use Rattle.std.specs.Prelude.{ℕ, ◌<◌, List, length, slice_set, refl}
use Rattle.std.specs.Coded.{Coded, code_by, coded×, coded_ℕ, coded_list}
use Rattle.sv_pool.specs.declared.regions.Slot.{Slot}

pub record Placed (T : Type 0) : Type 0 where
  pub values : List T
  pub spare : ℕ

abbrev pub coded_placed : {T : Type 0} → Coded T → Coded (Placed T)
coded_placed {T} code = code_by (List T × ℕ) (coded× (coded_list code) coded_ℕ) (λ r. (r.values, r.spare)) (λ p. record { values = p.0; spare = p.1 }) (λ _. refl)

-- a value was placed there
abbrev pub IsGiven : {T : Type 0} → Slot → List T → Type 0
IsGiven slot values = slot.number < length values

-- another value in place of the one that was placed there
abbrev pub with_value : {T : Type 0} → Placed T → Slot → T → Placed T
with_value r slot value = record { values = slice_set r.values slot.number value; spare = r.spare }

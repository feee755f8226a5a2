-- Codes of values, keys and places, so that a type may have tables as what contracts see.
use Rattle.std.specs.Prelude.{◌≡◌, ℕ, ℤ, List, Option, ◌⊎◌, refl}
use Rattle.std.proofs.Common.{inl, inr}
use Rattle.std.specs.Coded.{Coded, code_by, coded×, coded⊎, coded_ℕ, coded_ℤ, coded_list, coded_option}
use Rattle.sv_value.specs.declared.values.Val.{Val}
use Rattle.sv_value.specs.declared.values.Val.TheVariants.{Int, Text as IsText}
use Rattle.sv_value.specs.declared.values.Key.{Key}
use Rattle.sv_app.specs.declared.places.Place.{Place}

abbrev pub to_sum : Val → ℤ ⊎ List ℕ
to_sum (Int n) = inl n
to_sum (IsText text) = inr text

abbrev pub from_sum : ℤ ⊎ List ℕ → Val
from_sum (inl n) = Int n
from_sum (inr text) = IsText text

abbrev pub from_to : (v : Val) → from_sum (to_sum v) ≡ v
from_to (Int n) = refl
from_to (IsText text) = refl

abbrev pub coded_val : Coded Val
coded_val = code_by (ℤ ⊎ List ℕ) (coded⊎ coded_ℤ (coded_list coded_ℕ)) to_sum from_sum from_to

abbrev pub coded_key : Coded Key
coded_key = code_by (Val × Option Val) (coded× coded_val (coded_option coded_val)) (λ k. (k.first, k.second)) (λ p. record { first = p.0; second = p.1 }) (λ _. refl)

abbrev pub coded_place : Coded Place
coded_place = code_by (ℕ × Key) (coded× coded_ℕ coded_key) (λ p. (p.table, p.key)) (λ p. record { table = p.0; key = p.1 }) (λ _. refl)

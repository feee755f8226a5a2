-- Settings of which nothing is refused keep their bounds.
use Rattle.std.proofs.Common.{◌≡◌, ℕ, ◌≤◌, max, List, [], ◌∷◌, ◌++◌, Option, Some, None, refl, arith}
use Rattle.std.specs.Option.{unwrap_or}
use Rattle.sv_app.specs.declared.refusals.Code.TheVariants.{Many}
use Rattle.sv_reader.proofs.PartLaws.{both_assoc}
use Rattle.sv_workload.specs.declared.written.Setting.{Setting}
use Rattle.sv_workload.specs.declared.written.Setting.TheVariants.{Sites, Rows, Changes}
use Rattle.sv_workload.specs.Grammar.{setting}
use Rattle.sv_workload.specs.LastRefused.{given, least_of, most_of, SettingRefused, Outside, sites_set}
use Rattle.sv_workload.proofs.RightLaws.{RightAt, AllRight, inside, two_then}

-- what is set, or what stands where nothing is set, with so many initial rows
pub record Sized (count : ℕ) (settings : List (Setting × ℕ)) : Type 0 where
  pub sites : (1 ≤ sites_set settings) × (sites_set settings ≤ 8)
  pub rows : (count ≤ unwrap_or (given Rows settings) (max 1024 count)) × (unwrap_or (given Rows settings) (max 1024 count) ≤ 4096)
  pub changes : (1 ≤ unwrap_or (given Changes settings) 8192) × (unwrap_or (given Changes settings) 8192 ≤ 65536)

module _ (count : ℕ) where
  abbrev IsKept : Setting → ℕ → Type 0
  IsKept which n = (least_of count which ≤ n) × (n ≤ most_of which)

  abbrev AllKept : List (Setting × ℕ) → Type 0
  AllKept [] = Unit {0}
  AllKept (s ∷ settings) = IsKept s.0 s.1 × AllKept settings

  setting_kept : (before : List (Setting × ℕ)) (s : Setting × ℕ) → RightAt setting (SettingRefused count) before s → IsKept s.0 s.1
  setting_kept before s r =
      let b = both_assoc r.is in
      inside (least_of count s.0) (most_of s.0) s.1 b.back r.rest b.then
      (λ out. r.right Many (b.back ++ r.rest) (Outside s.0 b.front (b.back ++ r.rest) (two_then b r.rest) b.first out))

  all_kept : (before settings : List (Setting × ℕ)) → AllRight setting (SettingRefused count) before settings → AllKept settings
  all_kept before [] right = tt
  all_kept before (s ∷ settings) right = (setting_kept before s right.0, all_kept (before ++ s ∷ []) settings right.1)

  given_kept : (which : Setting) (settings : List (Setting × ℕ)) (n : ℕ) → AllKept settings → given which settings ≡ Some n → IsKept which n
  given_kept which [] n all e = absurd cc
  given_kept Sites ((Sites, m) ∷ settings) n all e = let same : m ≡ n = cc in (omega (arith, same, all.0.0), omega (arith, same, all.0.1))
  given_kept Sites ((Rows, m) ∷ settings) n all e = given_kept Sites settings n all.1 e
  given_kept Sites ((Changes, m) ∷ settings) n all e = given_kept Sites settings n all.1 e
  given_kept Rows ((Rows, m) ∷ settings) n all e = let same : m ≡ n = cc in (omega (arith, same, all.0.0), omega (arith, same, all.0.1))
  given_kept Rows ((Sites, m) ∷ settings) n all e = given_kept Rows settings n all.1 e
  given_kept Rows ((Changes, m) ∷ settings) n all e = given_kept Rows settings n all.1 e
  given_kept Changes ((Changes, m) ∷ settings) n all e = let same : m ≡ n = cc in (omega (arith, same, all.0.0), omega (arith, same, all.0.1))
  given_kept Changes ((Sites, m) ∷ settings) n all e = given_kept Changes settings n all.1 e
  given_kept Changes ((Rows, m) ∷ settings) n all e = given_kept Changes settings n all.1 e

  or_kept : (P : ℕ → Type 0) (found : Option ℕ) (other : ℕ) → ((n : ℕ) → found ≡ Some n → P n) → P other → P (unwrap_or found other)
  or_kept P None other some none = none
  or_kept P (Some n) other some none = some n refl

  sized : (settings : List (Setting × ℕ)) → AllKept settings → count ≤ 4096 → Sized count settings
  sized settings all few = record {
    sites = or_kept (λ n. (1 ≤ n) × (n ≤ 8)) (given Sites settings) 1 (λ n e. given_kept Sites settings n all e) (omega arith, omega arith);
    rows = or_kept (λ n. (count ≤ n) × (n ≤ 4096)) (given Rows settings) (max 1024 count)
        (λ n e. let kept = given_kept Rows settings n all e in (omega (arith, kept.0), kept.1)) (omega arith, omega (arith, few));
    changes = or_kept (λ n. (1 ≤ n) × (n ≤ 65536)) (given Changes settings) 8192 (λ n e. given_kept Changes settings n all e) (omega arith, omega arith);
  }

  pub none_sized : count ≤ 4096 → Sized count []
  none_sized few = sized [] tt few

  pub settings_sized : (settings : List (Setting × ℕ)) → AllRight setting (SettingRefused count) [] settings → count ≤ 4096 → Sized count settings
  settings_sized settings right few = sized settings (all_kept [] settings right) few

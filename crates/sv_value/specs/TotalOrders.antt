-- The orders of values, keys and stamps are total, and a test that answers as the fields' do holds just where they tie.
use Rattle.std.proofs.Common.{◌≡◌, ◌==◌, ◌&&◌, ℕ, ℤ, Bool, false, List, Option, Some, None, refl, ◌∙◌}
use Rattle.std.specs.declared.cmp.Ordering.{Ordering}
use Rattle.std.specs.declared.cmp.Ordering.TheVariants.{Less, Equal}
use Rattle.std.specs.Ordering.{nat_cmp, int_eq, eq_by_cmp, ordering_reverse}
use Rattle.std.specs.Option.{option_eq, option_cmp}
use Rattle.std.specs.Cmp.{IsTotalOrder, on_total, then_total, nat_cmp_total, int_cmp_total, both_tied, unsigned_ties}
use Rattle.std.specs.Cmp.Lexicographic.{pointwise, options_total, nat_list_cmp_total, texts_ties}
use Rattle.std.specs.Prelude.{nat_eq}
use Rattle.sv_value.specs.declared.values.Val.{Val}
use Rattle.sv_value.specs.declared.values.Val.TheVariants.{Int, Text}
use Rattle.sv_value.specs.declared.values.Key.{Key}
use Rattle.sv_value.specs.declared.stamps.Stamp.{Stamp}
use Rattle.sv_value.specs.Orders.{text_cmp, val_cmp, key_cmp, stamp_cmp}

pub text_total : IsTotalOrder text_cmp
text_total = nat_list_cmp_total

val_antisymm : (x y : Val) → val_cmp x y ≡ ordering_reverse (val_cmp y x)
val_antisymm (Int x) (Int y) = int_cmp_total.antisymm x y
val_antisymm (Int x) (Text b) = refl
val_antisymm (Text a) (Int y) = refl
val_antisymm (Text a) (Text b) = text_total.antisymm a b

val_trans : (x y z : Val) → val_cmp x y ≡ Less → val_cmp y z ≡ Less → val_cmp x z ≡ Less
val_trans (Int x) (Int y) (Int z) p q = int_cmp_total.trans x y z p q
val_trans (Int x) (Int y) (Text c) p q = refl
val_trans (Int x) (Text b) (Int z) p q = cc
val_trans (Int x) (Text b) (Text c) p q = refl
val_trans (Text a) (Int y) z p q = cc
val_trans (Text a) (Text b) (Int z) p q = cc
val_trans (Text a) (Text b) (Text c) p q = text_total.trans a b c p q

val_congr : (x y z : Val) → val_cmp x y ≡ Equal → val_cmp x z ≡ val_cmp y z
val_congr (Int x) (Int y) (Int z) p = int_cmp_total.congr x y z p
val_congr (Int x) (Int y) (Text c) p = refl
val_congr (Int x) (Text b) z p = cc
val_congr (Text a) (Int y) z p = cc
val_congr (Text a) (Text b) (Int z) p = refl
val_congr (Text a) (Text b) (Text c) p = text_total.congr a b c p

pub val_total : IsTotalOrder val_cmp
val_total = record { antisymm = val_antisymm; trans = val_trans; congr = val_congr }

pub key_total : IsTotalOrder key_cmp
key_total = then_total (on_total (λ k. k.first) val_total) (on_total (λ k. k.second) (options_total val_total))

pub stamp_total : IsTotalOrder stamp_cmp
stamp_total = then_total (on_total (λ s. s.time) nat_cmp_total) (then_total (on_total (λ s. s.site) nat_cmp_total) (on_total (λ s. s.place) nat_cmp_total))

-- a test of two values that answers as the tests of numbers and of bytes do
pub record IsValTest (E : Val → Val → Bool) : Type 0 where
  pub numbers : (x y : ℤ) → E (Int x) (Int y) ≡ int_eq x y
  pub first : (x : ℤ) (b : List ℕ) → E (Int x) (Text b) ≡ false
  pub second : (a : List ℕ) (y : ℤ) → E (Text a) (Int y) ≡ false
  pub bytes : (a b : List ℕ) → E (Text a) (Text b) ≡ pointwise nat_eq a b

pub val_ties : {E : Val → Val → Bool} → IsValTest E → (x y : Val) → E x y ≡ eq_by_cmp val_cmp x y
val_ties t (Int x) (Int y) = t.numbers x y
val_ties t (Int x) (Text b) = t.first x b
val_ties t (Text a) (Int y) = t.second a y
val_ties t (Text a) (Text b) = t.bytes a b ∙ texts_ties a b

option_ties : {A : Type 0} {E : A → A → Bool} (R : A → A → Ordering) → ((x y : A) → E x y ≡ eq_by_cmp R x y)
    → (p q : Option A) → option_eq E p q ≡ eq_by_cmp (option_cmp R) p q
option_ties R ties None None = refl
option_ties R ties None (Some y) = refl
option_ties R ties (Some x) None = refl
option_ties R ties (Some x) (Some y) = ties x y

pub key_ties : {E : Val → Val → Bool} → IsValTest E
    → (a b : Key) → (E a.first b.first && option_eq E a.second b.second) ≡ eq_by_cmp key_cmp a b
key_ties {E} t a b =
    both_tied (E a.first b.first) (option_eq E a.second b.second) (val_cmp a.first b.first) (option_cmp val_cmp a.second b.second)
    (val_ties t a.first b.first) (option_ties val_cmp (val_ties t) a.second b.second)

pub stamp_ties : (a b : Stamp) → (a.time == b.time && (a.site == b.site && a.place == b.place)) ≡ eq_by_cmp stamp_cmp a b
stamp_ties a b =
    both_tied (a.time == b.time) (a.site == b.site && a.place == b.place) (nat_cmp a.time b.time) _
    (unsigned_ties a.time b.time)
    (both_tied (a.site == b.site) (a.place == b.place) (nat_cmp a.site b.site) (nat_cmp a.place b.place)
    (unsigned_ties a.site b.site) (unsigned_ties a.place b.place))

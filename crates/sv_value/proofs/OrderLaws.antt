-- The orders are total, and only equal values tie.
use Rattle.std.proofs.Common.{◌≡◌, ◌↔◌, IsTrue, ℕ, Option, Some, None, refl, ap}
use Rattle.std.specs.declared.cmp.Ordering.{Ordering}
use Rattle.std.specs.Ordering.{nat_cmp, ordering_then, is_eq}
use Rattle.std.specs.Option.{option_cmp}
use Rattle.std.specs.Cmp.{IsTotalOrder, Equal-is, tied_itself}
use Rattle.std.proofs.lemmas.Map.Lookups.{CmpEqualImpliesEq, exact_pairs, exact_unsigned, exact_signed, exact_bytes}
use Rattle.sv_value.specs.declared.values.Val.{Val}
use Rattle.sv_value.specs.declared.values.Val.TheVariants.{Int, Text}
use Rattle.sv_value.specs.declared.values.Key.{Key}
use Rattle.sv_value.specs.declared.stamps.Stamp.{Stamp}
use Rattle.sv_value.specs.Orders.{text_cmp, val_cmp, key_cmp, stamp_cmp}
pub use Rattle.sv_value.specs.TotalOrders.{text_total, val_total, key_total, stamp_total}

pub exact_texts : CmpEqualImpliesEq text_cmp
exact_texts = exact_bytes

pub exact_vals : CmpEqualImpliesEq val_cmp
exact_vals (Int x) (Int y) h = ap (λ n. Int n) (exact_signed x y h)
exact_vals (Int x) (Text b) h = cc
exact_vals (Text a) (Int y) h = cc
exact_vals (Text a) (Text b) h = ap (λ t. Text t) (exact_texts a b h)

exact_options : {A : Type 0} {R : A → A → Ordering} → CmpEqualImpliesEq R → CmpEqualImpliesEq (option_cmp R)
exact_options e None None h = refl
exact_options e None (Some y) h = cc
exact_options e (Some x) None h = cc
exact_options e (Some x) (Some y) h = ap (λ a. Some a) (e x y h)

pub exact_keys : CmpEqualImpliesEq key_cmp
exact_keys a b h = ap (λ (p : Val × Option Val). let k : Key = record { first = p.0; second = p.1 } in k)
    (exact_pairs val_cmp (option_cmp val_cmp) exact_vals (exact_options exact_vals) (a.first, a.second) (b.first, b.second) h)

pub exact_stamps : CmpEqualImpliesEq stamp_cmp
exact_stamps a b h = ap (λ (p : ℕ × (ℕ × ℕ)). let s : Stamp = record { time = p.0; site = p.1.0; place = p.1.1 } in s)
    (exact_pairs nat_cmp (λ (x y : ℕ × ℕ). ordering_then (nat_cmp x.0 y.0) (nat_cmp x.1 y.1)) exact_unsigned (exact_pairs nat_cmp nat_cmp exact_unsigned exact_unsigned)
    (a.time, (a.site, a.place)) (b.time, (b.site, b.place)) h)

tied : {A : Type 0} {R : A → A → Ordering} → IsTotalOrder R → CmpEqualImpliesEq R → (x y : A) → IsTrue (is_eq (R x y)) ↔ (x ≡ y)
tied {A} {R} total exact x y = (
  λ h. exact x y ((Equal-is (R x y)).0 h),
  λ e. (Equal-is (R x y)).1 (rw e (tied_itself total y)),
)

pub tied_texts : (a b : _) → IsTrue (is_eq (text_cmp a b)) ↔ (a ≡ b)
tied_texts = tied text_total exact_texts

pub tied_vals : (x y : Val) → IsTrue (is_eq (val_cmp x y)) ↔ (x ≡ y)
tied_vals = tied val_total exact_vals

pub tied_keys : (a b : Key) → IsTrue (is_eq (key_cmp a b)) ↔ (a ≡ b)
tied_keys = tied key_total exact_keys

pub tied_stamps : (a b : Stamp) → IsTrue (is_eq (stamp_cmp a b)) ↔ (a ≡ b)
tied_stamps = tied stamp_total exact_stamps

-- for `using`, where a comparison is asked whether it is Equal
pub ruleset ties = (tied_texts, tied_vals, tied_keys, tied_stamps)

-- The values of initial rows.
use Rattle.std.specs.Ordering.{nat_cmp}
use Rattle.std.specs.Cmp.{IsTotalOrder}
use Rattle.std.proofs.lemmas.Cmp.{on_total, then_total, nat_cmp_total}
use Rattle.std.proofs.lemmas.Map.Lookups.{CmpEqualImpliesEq, exact_pairs, exact_unsigned}
use Rattle.sv_value.specs.Orders.{val_cmp}
use Rattle.sv_value.proofs.OrderLaws.{val_total, exact_vals}
use Rattle.sv_check.specs.declared.initial.Held.{Held}
use Rattle.std.proofs.Common.{◌≡◌, ℕ, zero, suc, List, [], ◌∷◌, slice_get, refl, ap}
use Rattle.std.specs.Prelude.{pos, map, unwrap_or}
use Rattle.sv_value.specs.declared.values.Val.{Val}
use Rattle.sv_app.specs.declared.gots.Got.TheVariants.{Num}
use Rattle.sv_effect.specs.BareTables.{got_of}
use Rattle.sv_check.specs.Tests.{val_in, held_cmp}

pub value-in : (values : List Val) (column : ℕ) → unwrap_or (slice_get (map got_of values) column) (Num (pos 0)) ≡ got_of (val_in values column)
value-in [] column = refl
value-in (v ∷ values) zero = refl
value-in (v ∷ values) (suc column) = value-in values column

pub held_total : IsTotalOrder held_cmp
held_total = then_total (on_total (λ h. h.table) nat_cmp_total) (then_total (on_total (λ h. h.column) nat_cmp_total) (on_total (λ h. h.val) val_total))

pub exact_held : CmpEqualImpliesEq held_cmp
exact_held a b h = ap (λ (p : ℕ × (ℕ × Val)). let k : Held = record { table = p.0; column = p.1.0; val = p.1.1 } in k)
    (exact_pairs nat_cmp _ exact_unsigned (exact_pairs nat_cmp val_cmp exact_unsigned exact_vals) (a.table, (a.column, a.val)) (b.table, (b.column, b.val)) h)

pub ruleset values = (value-in)

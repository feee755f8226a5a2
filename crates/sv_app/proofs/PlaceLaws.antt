-- Places are in a total order, in which only equal ones tie.
use Rattle.std.proofs.Common.{ℕ, ap}
use Rattle.std.specs.Ordering.{nat_cmp}
use Rattle.std.specs.Cmp.{IsTotalOrder}
use Rattle.std.proofs.lemmas.Cmp.{on_total, then_total, nat_cmp_total}
use Rattle.std.proofs.lemmas.Map.Lookups.{CmpEqualImpliesEq, exact_pairs, exact_unsigned}
use Rattle.sv_value.specs.declared.values.Key.{Key}
use Rattle.sv_value.specs.Orders.{key_cmp}
use Rattle.sv_value.proofs.OrderLaws.{key_total, exact_keys}
use Rattle.sv_app.specs.declared.places.Place.{Place}
use Rattle.sv_app.specs.Tables.{place_cmp}

pub place_total : IsTotalOrder place_cmp
place_total = then_total (on_total (λ p. p.table) nat_cmp_total) (on_total (λ p. p.key) key_total)

pub exact_places : CmpEqualImpliesEq place_cmp
exact_places a b h = ap (λ (p : ℕ × Key). let k : Place = record { table = p.0; key = p.1 } in k) (exact_pairs nat_cmp key_cmp exact_unsigned exact_keys (a.table, a.key) (b.table, b.key) h)

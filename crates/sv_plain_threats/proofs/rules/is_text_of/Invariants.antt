use Rattle.std.proofs.Common.{◌≡◌, drop}
use Rattle.std.specs.List.{list_any}
use Rattle.std.specs.Ordering.{eq_by_cmp}
use Rattle.sv_value.specs.Orders.{text_cmp}
use Rattle.sv_plain_threats.proofs.rules.is_text_of.Given as goal

abbrev pub invariant-loop-listed : goal.invariant-loop-listed
invariant-loop-listed l = list_any (eq_by_cmp text_cmp l.text) (drop l.listed-index l.texts) ≡ list_any (eq_by_cmp text_cmp l.text) l.texts

-- Sets of names, by their bytes.
use Rattle.std.specs.Prelude.{Bool, nat_eq}
use Rattle.std.specs.BTreeSet.{BTreeSet, contains}
use Rattle.std.specs.Cmp.Lexicographic.{pointwise}
use Rattle.std.specs.declared.cmp.Ordering.{Ordering}
use Rattle.sv_value.specs.Orders.{text_cmp}
use Rattle.sv_app.specs.declared.apps.Ident.{Ident}
use Rattle.sv_typing.specs.declared.seconds.Spelled.{Spelled}

abbrev pub spelled_cmp : Spelled → Spelled → Ordering
spelled_cmp a b = text_cmp a.name b.name

abbrev pub is_spelled : Spelled → Spelled → Bool
is_spelled a b = pointwise nat_eq a.name b.name

abbrev pub spelled : Ident → Spelled
spelled name = record { name = name.name }

abbrev pub is_among : BTreeSet Spelled → Ident → Bool
is_among seen name = contains spelled_cmp seen (spelled name)

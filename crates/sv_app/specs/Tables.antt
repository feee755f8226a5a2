-- Tables: a finite map from places, which are a table and a key, to rows. A row in the map is kept; it has a value for each column, and is present or not.
use Rattle.std.specs.Prelude.{Bool, List}
use Rattle.std.specs.declared.cmp.Ordering.{Ordering}
use Rattle.std.specs.Ordering.{nat_cmp, ordering_then}
use Rattle.std.specs.FinMap.{FinMap}
use Rattle.sv_value.specs.Orders.{key_cmp}
use Rattle.sv_app.specs.declared.places.Place.{Place}
use Rattle.sv_app.specs.declared.gots.Got.{Got}

-- by table, and then by key
abbrev pub place_cmp : Place → Place → Ordering
place_cmp a b = ordering_then (nat_cmp a.table b.table) (key_cmp a.key b.key)

pub record Row : Type 0 where
  pub values : List Got
  pub present : Bool

abbrev pub Tables : Type 0
Tables = FinMap place_cmp Row

-- What checks and lists ask of values, as tests.
use Rattle.std.specs.Prelude.{ℕ, ◌-ℤ◌, int_le, Bool, false, List}
use Rattle.std.specs.List.{list_any}
use Rattle.std.specs.Ordering.{eq_by_cmp}
use Rattle.sv_value.specs.Orders.{text_cmp}
use Rattle.sv_app.specs.declared.gots.Got.{Got}
use Rattle.sv_app.specs.declared.gots.Got.TheVariants.{Num, Text}
use Rattle.sv_app.specs.declared.schemas.Check.{Check}
use Rattle.sv_app.specs.Tables.{Row}
use Rattle.sv_app.specs.Valid.{side_of}

abbrev pub is_met : Row → Check → Bool
is_met row check = int_le (side_of row check.hi -ℤ side_of row check.lo) check.most

abbrev pub is_listed : Got → List (List ℕ) → Bool
is_listed (Num n) texts = false
is_listed (Text text) texts = list_any (eq_by_cmp text_cmp text) texts

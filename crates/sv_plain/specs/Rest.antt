-- The rows of a table behind a key, or all of them, and how many there are.
use Rattle.std.specs.Prelude.{ℕ, ◌==◌, ◌&&◌, Bool, length, filter, Option}
use Rattle.std.specs.FinMap.{entries}
use Rattle.sv_value.specs.declared.values.Key.{Key}
use Rattle.sv_app.specs.declared.places.Place.{Place}
use Rattle.sv_effect.specs.StampedTables.{StampedTables}
use Rattle.sv_effect.specs.Agrees.{is_after}

abbrev pub is_in_rest : ℕ → Option Key → Place → Bool
is_in_rest table after place = place.table == table && is_after after place.key

abbrev pub rest_of : StampedTables → ℕ → Option Key → ℕ
rest_of t table after = length (filter (λ entry. is_in_rest table after entry.0) (entries t))

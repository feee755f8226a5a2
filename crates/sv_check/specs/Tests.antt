-- By what an initial row is judged: the places of all rows, and the values that earlier rows have in unique columns.
use Rattle.std.specs.Prelude.{ℕ, pos, nat_lt, ◌&&◌, not, Bool, List, [], ◌∷◌, length, Option, Some, None, map, slice_get, unwrap_or}
use Rattle.std.specs.List.{list_any, flat_map, find}
use Rattle.std.specs.Option.{option_map}
use Rattle.std.specs.declared.cmp.Ordering.{Ordering}
use Rattle.std.specs.Ordering.{nat_cmp, ordering_then, eq_by_cmp}
use Rattle.sv_value.specs.declared.values.Val.{Val}
use Rattle.sv_value.specs.declared.values.Val.TheVariants.{Int}
use Rattle.sv_value.specs.Orders.{val_cmp}
use Rattle.sv_app.specs.declared.places.Place.{Place}
use Rattle.sv_app.specs.declared.requests.InitRow.{InitRow}
use Rattle.sv_app.specs.Schema.{Rule, Bound, OneOf, Different, Refers, Invariant, Declaration}
use Rattle.sv_app.specs.Tables.{place_cmp}
use Rattle.sv_app.specs.Valid.{value_of}
use Rattle.sv_effect.specs.TablesOfCut.{init_place}
use Rattle.sv_check.specs.declared.initial.Held.{Held}
use Rattle.sv_check.specs.Initial.{initial_row}
use Rattle.sv_check.specs.Rules.{is_met, is_listed}

abbrev pub val_in : List Val → ℕ → Val
val_in values column = unwrap_or (slice_get values column) (Int (pos 0))

abbrev pub held_cmp : Held → Held → Ordering
held_cmp a b = ordering_then (nat_cmp a.table b.table) (ordering_then (nat_cmp a.column b.column) (val_cmp a.val b.val))

-- the values of a row that its table's unique columns hold
abbrev pub held_of : InitRow → Rule → List Held
held_of row (Different column) = record { table = row.table; column = column.num; val = val_in row.values column.num } ∷ []
held_of row (Bound check) = []
held_of row (OneOf column texts) = []
held_of row (Refers column parent target) = []

abbrev pub rules_of : Option Declaration → List Invariant
rules_of None = []
rules_of (Some table) = table.invs

abbrev pub held_by : List Declaration → InitRow → List Held
held_by schema row = flat_map (λ inv. held_of row inv.rule) (rules_of (slice_get schema row.table))

abbrev pub is_held : Held → List Held → Bool
is_held held all = list_any (eq_by_cmp held_cmp held) all

abbrev pub is_there : Place → List InitRow → Bool
is_there place init = list_any (eq_by_cmp place_cmp place) (map init_place init)

abbrev pub referred : InitRow → ℕ → ℕ → Place
referred row column parent = record { table = parent; key = record { first = val_in row.values column; second = None } }

-- whether the row breaks the rule, where the places and the values are told by tests
abbrev pub fails : List Declaration → (Place → Bool) → (Held → Bool) → InitRow → Rule → Bool
fails schema there held row (Bound check) = not (is_met (initial_row row) check)
fails schema there held row (OneOf column texts) = not (is_listed (value_of (initial_row row) column) texts)
fails schema there held row (Different column) = held (record { table = row.table; column = column.num; val = val_in row.values column.num })
fails schema there held row (Refers column parent target) = nat_lt parent.num (length schema) && not (there (referred row column.num parent.num))

-- the lowest of these invariants that the row breaks
abbrev pub first_failed : List Declaration → (Place → Bool) → (Held → Bool) → InitRow → List Invariant → Option ℕ
first_failed schema there held row invs = option_map (λ inv. inv.number) (find (λ inv. fails schema there held row inv.rule) invs)

-- What a run needs besides its changes: kept rows for updates and removes, and present rows for references to grow-only tables.
use Rattle.std.specs.Prelude.{ℕ, ◌==◌, ◌&&◌, not, if◌then◌else◌, Bool, false, List, [], ◌∷◌, ◌++◌, Option, Some, None, slice_get}
use Rattle.std.specs.List.{list_any, flat_map}
use Rattle.sv_value.specs.declared.values.Val.{Val}
use Rattle.sv_app.specs.declared.apps.Ident.{Ident}
use Rattle.sv_app.specs.declared.places.Place.{Place}
use Rattle.sv_app.specs.Schema.{Rule, Bound, OneOf, Different, Refers, Declaration}
use Rattle.sv_app.specs.Kinds.{is_grow_only}
use Rattle.sv_effect.specs.declared.ops.Need.{Need}
use Rattle.sv_effect.specs.declared.ops.Need.TheVariants as needs
use Rattle.sv_effect.specs.declared.ops.Write.{Write}
use Rattle.sv_effect.specs.declared.ops.Write.TheVariants.{Delta, Set}
use Rattle.sv_effect.specs.Acts.{is_insert}
use Rattle.sv_effect.specs.RowChange.{key_values}
use Rattle.sv_effect.specs.RunChanges.{Effect}
use Rattle.sv_effect.specs.TablesOfCut.{is_place}

-- whether one of the changes inserts the row
abbrev pub is_inserted : Place → List Effect → Bool
is_inserted p es = list_any (λ e. is_insert e.act && is_place p e.place) es

abbrev pub need_of : Bool → Need → List Need
need_of holds need = if holds then need ∷ [] else []

-- an update or a remove needs its row kept, unless an earlier change inserts it
abbrev pub kept_need : List Effect → Effect → List Need
kept_need earlier e = need_of (not (is_insert e.act) && not (is_inserted e.place earlier)) (needs.Kept e.place.table e.place.key)

-- the value that a change gives a column: that of the key, or the one that it sets
abbrev pub key_value : List Ident → List Val → ℕ → List Val
key_value (name ∷ names) (v ∷ vs) c = if name.num == c then v ∷ [] else key_value names vs c
key_value _ _ c = []

abbrev pub set_value : Write → List Val
set_value (Delta d) = []
set_value (Set v) = v ∷ []

abbrev pub given : Declaration → Effect → ℕ → List Val
given table e c = (if is_insert e.act then key_value table.key (key_values e.place.key) c else []) ++ flat_map (λ w. if w.0 == c then set_value w.1 else []) e.writes

abbrev pub grows : Option Declaration → Bool
grows None = false
grows (Some table) = is_grow_only table.kind

-- a reference to a grow-only table needs the row present, unless a change inserts it
abbrev pub present_need : List Effect → ℕ → Val → List Need
present_need all table v = let p : Place = record { table = table; key = record { first = v; second = None } } in need_of (not (is_inserted p all)) (needs.Present table p.key)

abbrev pub rule_needs : List Declaration → List Effect → Declaration → Effect → Rule → List Need
rule_needs schema all table e (Refers col referred target) = if grows (slice_get schema referred.num) then flat_map (present_need all referred.num) (given table e col.num) else []
rule_needs schema all table e (Bound check) = []
rule_needs schema all table e (OneOf col texts) = []
rule_needs schema all table e (Different col) = []

abbrev pub present_needs : List Declaration → List Effect → Option Declaration → Effect → List Need
present_needs schema all None e = []
present_needs schema all (Some table) e = flat_map (λ inv. rule_needs schema all table e inv.rule) table.invs

-- of each change, the kept row before the references
abbrev pub needs_from : List Declaration → List Effect → List Effect → List Effect → List Need
needs_from schema all earlier [] = []
needs_from schema all earlier (e ∷ es) = kept_need earlier e ++ present_needs schema all (slice_get schema e.place.table) e ++ needs_from schema all (earlier ++ e ∷ []) es

abbrev pub is_same_need : Need → Need → Bool
is_same_need (needs.Kept t k) (needs.Kept u l) = is_place (record { table = t; key = k }) (record { table = u; key = l })
is_same_need (needs.Present t k) (needs.Present u l) = is_place (record { table = t; key = k }) (record { table = u; key = l })
is_same_need _ _ = false

-- each once, where it comes first
abbrev pub once : List Need → List Need → List Need
once held [] = held
once held (n ∷ ns) = once (if list_any (is_same_need n) held then held else held ++ n ∷ []) ns

abbrev pub needs_of : List Declaration → List Effect → List Need
needs_of schema es = once [] (needs_from schema es [] es)

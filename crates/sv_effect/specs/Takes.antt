-- What a store asks of an operation: rows that are updated or removed are there, those whose keys are drawn aren't, counts stay in their bounds, and there is room for the inserts.
use Rattle.std.specs.Prelude.{ℕ, ◌+◌, List, [], ◌∷◌, unwrap_or}
use Rattle.std.specs.FinMap.{get}
use Rattle.sv_app.specs.declared.acts.Act.{Act}
use Rattle.sv_app.specs.declared.acts.Act.TheVariants.{Insert, Fresh, Update, Remove}
use Rattle.sv_app.specs.Schema.{Declaration}
use Rattle.sv_effect.specs.declared.ops.RowEffect.{RowEffect}
use Rattle.sv_effect.specs.StampedTables.{StampedRow, StampedTables}
use Rattle.sv_effect.specs.Applied.{Change, place_of, zero_row_in, changed_at, with_change_at}
use Rattle.sv_effect.specs.Acts.{IsFound}
use Rattle.sv_effect.specs.Fits.{CountsFit}

-- the row that a change leaves
abbrev pub row_left : List Declaration → Change → StampedTables → StampedRow
row_left schema c t = changed_at schema (place_of c.value) c (unwrap_or (get t (place_of c.value)) (zero_row_in schema (place_of c.value)))

-- each count that one of the changes leaves lies in its bounds
abbrev pub KeepsBounds : List Declaration → List Change → StampedTables → Type 0
KeepsBounds schema [] t = Unit {0}
KeepsBounds schema (c ∷ cs) t = CountsFit (row_left schema c t).cells × KeepsBounds schema cs (with_change_at schema (place_of c.value) c t)

-- each of the changes finds its row, where earlier ones may have inserted it
abbrev pub FindsRows : List Declaration → List Change → StampedTables → Type 0
FindsRows schema [] t = Unit {0}
FindsRows schema (c ∷ cs) t = IsFound c.value.act (get t (place_of c.value)) × FindsRows schema cs (with_change_at schema (place_of c.value) c t)

-- how many of the changes insert
abbrev pub as_insert : Act → ℕ
as_insert Insert = 1
as_insert Fresh = 1
as_insert Update = 0
as_insert Remove = 0

abbrev pub inserts : List RowEffect → ℕ
inserts [] = 0
inserts (e ∷ es) = as_insert e.act + inserts es
